-- The net record that a text fills, slot by slot: the places and the transitions in the order of their lines, the label of place p from byte
-- 16 × p on, the arcs of a transition in the order of their line, whatever their kinds, and 0 or +0 in every slot behind them. Reading says which
-- net the text gives; this says where the record holds it.
use Rattle.std.specs.Prelude.{ℕ, suc, ◌+◌, ◌*◌, List, [], ◌∷◌, map, eqb, length, set}
use Rattle.std.proofs.Math.Option.{Option, none, some}
use Rattle.std.specs.Float.{binary64}
use Rattle.std.specs.Float.Ieee.{of_bits}
use Rattle.net.specs.Net.{pick}
use Rattle.net.specs.Readable.{Slot}
use Rattle.net.specs.Record.{labelled, blank}
use Rattle.net.specs.declared.Net.{Net as NetRecord}
use Rattle.text.specs.Text.{Bytes}
use Rattle.text.specs.Buffer.{placed}
use Rattle.net_text.specs.Forms.{RawArc, raw_take, raw_put, raw_read, raw_block, RawLine, raw_place, raw_move, raw_run, line_of}
use Rattle.net_text.specs.Lines.{lines}

-- an arc as its slot holds it (net's Readable has the kinds)
abbrev pub arc_slot : RawArc → Slot
arc_slot (raw_take p w k) = record { kind = pick (eqb k.value 1) 0 1; place = p.value; weight = w.value }
arc_slot (raw_put p w) = record { kind = 2; place = p.value; weight = w.value }
arc_slot (raw_read p w) = record { kind = 3; place = p.value; weight = w.value }
arc_slot (raw_block p w) = record { kind = 4; place = p.value; weight = w.value }

-- a table with one number of each of these slots, from slot a on
abbrev pub filled : (Slot → ℕ) → ℕ → List Slot → List ℕ → List ℕ
filled f a [] xs = xs
filled f a (l ∷ ls) xs = filled f (suc a) ls (set xs a (f l))

abbrev pub kind_slots : ℕ → List Slot → List ℕ → List ℕ
kind_slots = filled (λ (l : Slot). l.kind)

abbrev pub place_slots : ℕ → List Slot → List ℕ → List ℕ
place_slots = filled (λ (l : Slot). l.place)

abbrev pub weight_slots : ℕ → List Slot → List ℕ → List ℕ
weight_slots = filled (λ (l : Slot). l.weight)

-- the record with one more place, its label in the 16 bytes that are its own
abbrev pub with_place : NetRecord → ℕ → ℕ → Bytes → NetRecord
with_place n i c l =
    let p = n.places in
    labelled (p + 1) n.transitions (set n.initial p i) (set n.capacity p c) (placed n.label (16 * p) l) (set n.lengths p (length l))
    n.rate n.delay n.arcs n.kind n.place n.weight

-- the record with one more transition, its rate and delay by their bits, its arcs in the 16 slots that are its own
abbrev pub with_move : NetRecord → ℕ → ℕ → List Slot → NetRecord
with_move n rate delay ls =
    let j = n.transitions in
    labelled n.places (j + 1) n.initial n.capacity n.label n.lengths (set n.rate j (of_bits binary64 rate))
    (set n.delay j (of_bits binary64 delay)) (set n.arcs j (length ls)) (kind_slots (16 * j) ls n.kind) (place_slots (16 * j) ls n.place)
    (weight_slots (16 * j) ls n.weight)

-- `(net`, the run line and `)` put nothing into the record
abbrev pub with_line : NetRecord → Option RawLine → NetRecord
with_line n none = n
with_line n (some (raw_place i c l)) = with_place n i.value c.value l
with_line n (some (raw_move rate delay arcs)) = with_move n rate delay (map arc_slot arcs)
with_line n (some (raw_run s r seed horizon)) = n

abbrev pub with_lines : NetRecord → List Bytes → NetRecord
with_lines n [] = n
with_lines n (l ∷ ls) = with_lines (with_line n (line_of l)) ls

-- the record of a text that gives a net
abbrev pub record_of : Bytes → NetRecord
record_of t = with_lines blank (lines t).ended
