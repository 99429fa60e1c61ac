-- What the scanner's own answers stand for. The rules of a text are in Forms and Reading; nothing here adds to them.
-- The scanner holds 64 bits, and a decimal may have any length: it keeps the value where it fits and else the largest number of 64 bits,
-- with a mark that the decimal is badly written (Reading, badly).
use Rattle.std.specs.Prelude.{ℕ, ◌+◌, ◌-◌, ◌^◌, ◌<◌, ◌≤◌, min, ◌≡◌, Bool, ◌||◌, List, map, eqb, leb, ltb, length, get_or, set, Option, Some, None}
use Rattle.std.specs.Borrow.{Bor}
use Rattle.net.specs.Net.{pick}
use Rattle.net.specs.Tests.{any}
use Rattle.net.specs.Record.{labelled}
use Rattle.net.specs.Readable.{Slot, slots}
use Rattle.net.specs.declared.Net.{Net as NetRecord}
use Rattle.text.specs.Text.{Bytes}
use Rattle.net_text.specs.Forms.{Met, wrong, met, Form, say, ◌>>=◌, ◌>>◌, quoted, Decimal, RawArc, decimal, next_arc, many}
use Rattle.net_text.specs.Reading.{badly, bad_arc}
use Rattle.net_text.specs.Filled.{arc_slot, kind_slots, place_slots, weight_slots}
use Rattle.net_text.specs.declared.scan.Number.{Number}
use Rattle.net_text.specs.declared.scan.Pair.{Pair}
use Rattle.net_text.specs.declared.scan.ArcSeen.{ArcSeen}
use Rattle.net_text.specs.declared.scan.ArcsSeen.{ArcsSeen}

-- what is met, seen through a function
abbrev pub through : {A B : Type 0} → (A → B) → Met A → Met B
through f wrong = wrong
through f (met a rest) = met (f a) rest

-- a part of a line: met with what it says, and what is left behind it; or not met
abbrev pub found : {A : Type 0} → Option (A × Bor Bytes) → Met A
found None = wrong
found (Some r) = met r.0 r.1.now

-- a word, which says nothing
abbrev pub passed : Option (Bor Bytes) → Met (Unit {0})
passed None = wrong
passed (Some left) = met tt left.now

abbrev pub held : ℕ → ℕ
held v = min v (2 ^ 64 - 1)

-- the value v, of any size, is kept as this number of 64 bits with this mark
pub record Kept (v value : ℕ) (over : Bool) : Type 0 where
  pub number : value ≡ held v
  pub mark : over ≡ leb (2 ^ 64) v

-- a decimal as 64 bits hold it
abbrev pub seen : Decimal → Number
seen d = record { value = held d.value; strange = badly d }

abbrev pub number : Form Number
number t = through seen (decimal t)

-- a hexadecimal digit by its value, in front of these bytes; 16 where there is none
abbrev pub hex_is : ℕ → Bytes → Met ℕ
hex_is d t = pick (ltb d 16) (met d t) wrong

-- an arc as a slot holds it, and whether it is badly written
pub record SeenArc : Type 0 where
  pub slot : Slot
  pub strange : Bool

-- its place and weight as 64 bits hold them
abbrev pub slot_of : RawArc → Slot
slot_of a =
    let l = arc_slot a in
    record { kind = l.kind; place = held l.place; weight = held l.weight }

abbrev pub seen_arc : RawArc → SeenArc
seen_arc a = record { slot = slot_of a; strange = bad_arc a }

abbrev pub shown : ArcSeen → SeenArc
shown a = record { slot = record { kind = a.kind; place = a.place; weight = a.weight }; strange = a.strange }

abbrev pub found_arc : Option (ArcSeen × Bor Bytes) → Met SeenArc
found_arc r = through shown (found r)

-- What stands behind the word of an arc, by the numbers that are seen: place and weight, which all arcs have, and then the rest of each.
abbrev pub pair_of : Number → Number → Pair
pair_of p w = record { place = p.value; weight = w.value; strange = p.strange || w.strange }

abbrev pub pair_form : Form Pair
pair_form = do
  p ← number
  quoted " "
  w ← number
  say (pair_of p w)

abbrev pub slot_with : ℕ → Pair → Slot
slot_with kind a = record { kind = kind; place = a.place; weight = a.weight }

abbrev pub plain_arc : ℕ → Form SeenArc
plain_arc kind = do
  a ← pair_form
  quoted ")"
  say (record { slot = slot_with kind a; strange = a.strange })

abbrev pub take_kind : ℕ → ℕ
take_kind flag = pick (eqb flag 1) 0 1

abbrev pub take_arc : Form SeenArc
take_arc = do
  a ← pair_form
  quoted " "
  k ← number
  quoted ")"
  say (record { slot = slot_with (take_kind k.value) a; strange = a.strange || k.strange || ltb 1 k.value })

-- a table of slots, with v at arc number count of the transition whose slots begin at base; a transition has 16
abbrev pub stored : ℕ → ℕ → ℕ → List ℕ → List ℕ
stored base count v xs = pick (ltb count 16) (set xs (base + count) v) xs

-- the net with other slots
abbrev pub with_slots : NetRecord → List ℕ → List ℕ → List ℕ → NetRecord
with_slots n kind place weight =
    labelled n.places n.transitions n.initial n.capacity n.label n.lengths n.rate n.delay n.arcs kind place weight

-- the net with this arc in its slot
abbrev pub with_arc : NetRecord → ℕ → ℕ → ArcSeen → NetRecord
with_arc n base count a = with_slots n (stored base count a.kind n.kind) (stored base count a.place n.place) (stored base count a.weight n.weight)

-- there are slots for 64 transitions
pub record Sized (n : NetRecord) : Type 0 where
  pub kinds : length n.kind ≡ 1024
  pub places : length n.place ≡ 1024
  pub weights : length n.weight ≡ 1024

-- of the net nothing changed but slots, and none before base
pub record SlotsKept (base : ℕ) (n₀ n : NetRecord) : Type 0 where
  pub others : n ≡ with_slots n₀ n.kind n.place n.weight
  pub kind_before : (a : ℕ) → a < base → get_or n.kind a 0 ≡ get_or n₀.kind a 0
  pub place_before : (a : ℕ) → a < base → get_or n.place a 0 ≡ get_or n₀.place a 0
  pub weight_before : (a : ℕ) → a < base → get_or n.weight a 0 ≡ get_or n₀.weight a 0
  pub sized : Sized n

-- these arcs, where they are at most 16, stand in the slots from base on, and every other slot is as it was
pub record Filled (base : ℕ) (arcs : List RawArc) (n₀ n : NetRecord) : Type 0 where
  pub stored : length arcs ≤ 16 → slots n.kind n.place n.weight base (length arcs) ≡ map slot_of arcs
  pub kind_filled : length arcs ≤ 16 → n.kind ≡ kind_slots base (map slot_of arcs) n₀.kind
  pub place_filled : length arcs ≤ 16 → n.place ≡ place_slots base (map slot_of arcs) n₀.place
  pub weight_filled : length arcs ≤ 16 → n.weight ≡ weight_slots base (map slot_of arcs) n₀.weight

-- All arcs that stand in front of a line: how many, whether one is badly written, and how they fill the slots from base on.
pub record ArcsRead (line : Bytes) (base : ℕ) (n₀ n : NetRecord) (r : ArcsSeen) (left : Bytes) : Type 0 where
  pub arcs : List RawArc
  pub are : many next_arc line ≡ met arcs left
  pub count : r.count ≡ length arcs
  pub strange : r.strange ≡ any bad_arc arcs
  pub filled : Filled base arcs n₀ n
  pub kept : SlotsKept base n₀ n
