-- Reading a net text: the net, the labels of its places and the run line, or a refusal's number and its line. Document 01, "Each operation's
-- turn-downs: Net text" and "Net text (added, house format)", and document 02, order 1. Labels stand beside the net.
use Rattle.std.specs.Prelude.{ℕ, suc, ◌^◌, Bool, ◌||◌, not, List, [], ◌∷◌, ◌++◌, eqb, leb, ltb, length}
use Rattle.std.proofs.Math.Option.{Option, none, some}
use Rattle.std.specs.Float.{binary64}
use Rattle.std.specs.Float.Ieee.{of_bits}
use Rattle.refusals.specs as Refusal
use Rattle.net.specs.Net.{Place, Arc, Take, Transition, Net, pick}
use Rattle.text.specs.Text.{Bytes, bytes, same}
use Rattle.net_text.specs.Lines.{lines, too_long}
use Rattle.net_text.specs.Forms.{Decimal, RawArc, raw_take, raw_put, raw_read, raw_block, RawLine, raw_place, raw_move, raw_run, line_of}
use Rattle.net.specs.Tests.{Test, first_of, any, empty, place_tests, move_tests}
use Rattle.net.specs.Labels.{label_tests}

-- the run line: numbers below 2 ^ 64, the horizon by its bits. "tested by the ensemble, not the reader"
pub record RunLine : Type 0 where
  pub samples : ℕ
  pub realizations : ℕ
  pub seed : ℕ
  pub horizon : ℕ

-- "A refusal gives number and line (from 1), no net". A net is given with the labels of its places, in their order.
pub data Answer : Type 0 where
  refused : ℕ → ℕ → Answer
  given : Net → List Bytes → RunLine → Answer

-- ---- what a line says

-- "Decimals have no leading zero and fit 64 bits, else 4"
abbrev pub badly : Decimal → Bool
badly d = d.zero_led || leb (2 ^ 64) d.value

-- "kinetic 1 or 0 (another decimal is 4)"
abbrev pub bad_arc : RawArc → Bool
bad_arc (raw_take p w k) = badly p || badly w || badly k || ltb 1 k.value
bad_arc (raw_put p w) = badly p || badly w
bad_arc (raw_read p w) = badly p || badly w
bad_arc (raw_block p w) = badly p || badly w

abbrev pub arc : Decimal → Decimal → Arc
arc p w = record { place = p.value; weight = w.value }

abbrev pub taking : Decimal → Decimal → Decimal → Take
taking p w k = record { place = p.value; weight = w.value; kinetic = eqb k.value 1 }

-- a transition with one more arc, in front of those that it has
abbrev pub with_arc : RawArc → Transition → Transition
with_arc (raw_take p w k) t =
    record { rate = t.rate; delay = t.delay; takes = taking p w k ∷ t.takes; puts = t.puts; reads = t.reads; blocks = t.blocks }
with_arc (raw_put p w) t =
    record { rate = t.rate; delay = t.delay; takes = t.takes; puts = arc p w ∷ t.puts; reads = t.reads; blocks = t.blocks }
with_arc (raw_read p w) t =
    record { rate = t.rate; delay = t.delay; takes = t.takes; puts = t.puts; reads = arc p w ∷ t.reads; blocks = t.blocks }
with_arc (raw_block p w) t =
    record { rate = t.rate; delay = t.delay; takes = t.takes; puts = t.puts; reads = t.reads; blocks = arc p w ∷ t.blocks }

-- the transition of a move line, its arcs in line order
abbrev pub transition : ℕ → ℕ → List RawArc → Transition
transition rate delay [] =
    record { rate = of_bits binary64 rate; delay = of_bits binary64 delay; takes = []; puts = []; reads = []; blocks = [] }
transition rate delay (a ∷ rest) = with_arc a (transition rate delay rest)

-- ---- the order of the lines

-- What is due next: `(net`; a place, a move or the run line, behind the net and the labels so far; `)`; nothing more. Another line, well formed
-- or not, is 1. That places come before moves is seen from the net so far.
pub data Due : Type 0 where
  opening : Due
  inside : Net → List Bytes → Due
  closing : Net → List Bytes → RunLine → Due
  nothing : Net → List Bytes → RunLine → Due

-- what a line does: it is refused by a number, or the reading goes on
pub data Outcome : Type 0 where
  fault : ℕ → Outcome
  go_on : Due → Outcome

abbrev pub unless : Option ℕ → Due → Outcome
unless none d = go_on d
unless (some c) d = fault c

abbrev pub after_place : Net → List Bytes → Place → Bytes → Due
after_place n ls q l = inside (record { places = n.places ++ (q ∷ []); transitions = n.transitions }) (ls ++ (l ∷ []))

abbrev pub after_move : Net → List Bytes → Transition → Due
after_move n ls t = inside (record { places = n.places; transitions = n.transitions ++ (t ∷ []) }) ls

-- a line between `(net` and `)`: "each line by the whole list", 1 first
abbrev pub inside_line : Net → List Bytes → Option RawLine → Outcome
inside_line n ls none = fault Refusal.wrong_form
inside_line n ls (some (raw_place i c l)) =
    let q : Place = record { initial = i.value; capacity = c.value } in
    -- a place after a move is 1
    let late : Test = (Refusal.wrong_form, not (empty n.transitions)) in
    -- "17 label absent or malformed …, 18 label already used; both follow 4 on the place's line"
    let tests : List Test = late ∷ (place_tests (length n.places) (badly i || badly c) q ++ label_tests ls l) in
    unless (first_of tests) (after_place n ls q l)
inside_line n ls (some (raw_move rate delay arcs)) =
    let t = transition rate delay arcs in
    unless (first_of (move_tests (length n.places) (length n.transitions) (any bad_arc arcs) t)) (after_move n ls t)
inside_line n ls (some (raw_run s r seed horizon)) =
    let asked : RunLine = record { samples = s.value; realizations = r.value; seed = seed.value; horizon = horizon } in
    -- "no place before the first move or run line"
    let tests : List Test = (Refusal.bad_size, empty n.places) ∷ (Refusal.outside_domain, badly s || badly r || badly seed) ∷ [] in
    unless (first_of tests) (closing n ls asked)

abbrev pub no_net : Net
no_net = record { places = []; transitions = [] }

abbrev pub line_read : Due → Bytes → Outcome
line_read opening l = pick (same l (bytes "(net")) (go_on (inside no_net [])) (fault Refusal.wrong_form)
line_read (inside n ls) l = inside_line n ls (line_of l)
line_read (closing n ls r) l = pick (same l (bytes ")")) (go_on (nothing n ls r)) (fault Refusal.wrong_form)
line_read (nothing n ls r) l = fault Refusal.wrong_form

-- ---- the text

-- the ended lines are used up: "A missing line is 1 at the line after the last". So is a line that no newline ends, whatever it holds.
abbrev pub at_end : ℕ → Due → Bytes → Answer
at_end number opening rest = refused Refusal.wrong_form number
at_end number (inside n ls) rest = refused Refusal.wrong_form number
at_end number (closing n ls r) rest = refused Refusal.wrong_form number
at_end number (nothing n ls r) rest = pick (empty rest) (given n ls r) (refused Refusal.wrong_form number)

-- the first faulty line decides; else the lines behind it do
abbrev pub onward : ℕ → Outcome → (Due → Answer) → Answer
onward number (fault c) later = refused c number
onward number (go_on d) later = later d

-- the lines from this number on, and the bytes behind the last newline
abbrev pub read_from : ℕ → Due → List Bytes → Bytes → Answer
read_from number d [] rest = at_end number d rest
read_from number d (l ∷ ls) rest = onward number (line_read d l) (λ next. read_from (suc number) next ls rest)

-- "Over 8,192 bytes: 2, line 0. Then line by line"
abbrev pub read : Bytes → Answer
read t =
    let cut = lines t in
    pick (too_long t) (refused Refusal.bad_size 0) (read_from 1 opening cut.ended cut.rest)
