-- The writing rules of the whole `reason` text, from the parts that it tells of. Document 02, order 3: "the whole `reason` text that document 001 gives
-- for a net". The words are those of the Rust: `read_arc_reason`, `inhibitor_arc_reason`, `gating_reasons`, and the opening where it puts `reason` together.
use Rattle.std.specs.Prelude.{ℕ, zero, suc, Bool, true, false, List, [], ◌∷◌, ◌++◌}
use Rattle.text.specs.Text.{Bytes, bytes}
use Rattle.text.specs.Numbers.{decimal_text}

-- what a text is made of: how many read arcs, inhibitor arcs and inputs that are not kinetic there are, the labels of the bounded places in
-- place order, and whether a transition is delayed
pub record Reasons : Type 0 where
  pub reads : ℕ
  pub inhibitors : ℕ
  pub non_kinetic : ℕ
  pub bounded : List Bytes
  pub delayed : Bool

-- ---- the words

-- in front of the first sentence
unfoldable pub opening : Bytes
opening =
    bytes "this model constrains firing in ways continuous diffusion cannot express, so the SDE would silently model an unconstrained system. Use the discrete engine (Simulate). Specifically: "

-- behind the count of read arcs
unfoldable pub read_words : Bytes
read_words = bytes " read arc(s) gate a firing without consuming; a continuous solver cannot test them"

-- behind the count of inhibitor arcs
unfoldable pub inhibitor_words : Bytes
inhibitor_words = bytes " inhibitor arc(s) block a firing above a threshold; a continuous solver cannot test them"

-- behind the count of inputs that are not kinetic
unfoldable pub non_kinetic_words : Bytes
non_kinetic_words = bytes " non-kinetic input arc(s) gate and consume without scaling the rate; a mass-action solver has no way to omit them from the rate law"

-- in front of the bounded labels, and behind them
unfoldable pub capacity_words : Bytes
capacity_words = bytes "capacity is declared on ["

unfoldable pub bound_words : Bytes
bound_words = bytes "] but is a post-firing bound, which has no continuous analogue"

-- a dash is the three bytes of U+2014
unfoldable pub dash : Bytes
dash = 0xe2 ∷ 0x80 ∷ 0x94 ∷ []

-- the sentence on delays
unfoldable pub delay_words : Bytes
delay_words =
    bytes "a delay is a deterministic timer " ++ dash ++ bytes " inputs consumed at start, outputs a fixed time later " ++ dash
    ++ bytes " which mass action cannot express"

-- ---- the sentences, each of them absent where it does not apply

-- a count above 0 and its words
abbrev pub counted : ℕ → Bytes → List Bytes
counted zero words = []
counted (suc n) words = (decimal_text (suc n) ++ words) ∷ []

-- each text behind a separator
abbrev pub behind : Bytes → List Bytes → Bytes
behind sep [] = []
behind sep (t ∷ ts) = sep ++ (t ++ behind sep ts)

-- texts with a separator between them
abbrev pub joined : Bytes → List Bytes → Bytes
joined sep [] = []
joined sep (t ∷ ts) = t ++ behind sep ts

-- the labels of the bounded places between brackets, a space between them
abbrev pub bracketed : List Bytes → List Bytes
bracketed [] = []
bracketed (l ∷ ls) = (capacity_words ++ (joined (bytes " ") (l ∷ ls) ++ bound_words)) ∷ []

abbrev pub timed : Bool → List Bytes
timed true = delay_words ∷ []
timed false = []

-- the sentences in order: reads, inhibitors, inputs that are not kinetic, bounded places, delays
abbrev pub sentences : Reasons → List Bytes
sentences r =
    counted r.reads read_words
    ++ (counted r.inhibitors inhibitor_words
    ++ (counted r.non_kinetic non_kinetic_words
    ++ (bracketed r.bounded
    ++ timed r.delayed)))

-- ---- the text

-- the sentences behind the opening, `; ` between them; no sentence, no byte
abbrev pub told : List Bytes → Bytes
told [] = []
told (s ∷ ss) = opening ++ joined (bytes "; ") (s ∷ ss)

unfoldable pub reason_text : Reasons → Bytes
reason_text r = told (sentences r)
