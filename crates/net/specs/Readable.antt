-- The program's net record: the readable net that it stands for, the labels beside it, and its test. A record has room for 32 places, 64
-- transitions and 16 arcs a transition. Arc i of transition j stands in slot 16 × j + i. Slots past the counts are not looked at.
use Rattle.std.specs.Prelude.{ℕ, zero, suc, ◌+◌, ◌-◌, ◌*◌, ◌≡◌, Bool, false, ◌||◌, List, [], ◌∷◌, eqb, leb, ltb, get_or, Float, Result, Ok, Err}
use Rattle.std.proofs.Math.Option.{Option, none, some}
use Rattle.std.specs.Float.{nan}
use Rattle.refusals.specs as Refusal
use Rattle.refusals.specs.Number.{number_of}
use Rattle.refusals.specs.declared.Refusal.{Refusal as RefusalEnum}
use Rattle.net.specs.declared.Net.{Net as NetRecord}
use Rattle.net.specs.declared.lent.Arcs.{Arcs}
use Rattle.text.specs.Text.{Bytes}
use Rattle.net.specs.Net.{Place, Arc, Take, Transition, Net, pick, numbered}
use Rattle.net.specs.Tests.{first_of, any, empty, place_tests, move_tests, or_else, fault_from}
use Rattle.net.specs.Labels.{labels_from, label_fault}
use Rattle.net.specs.Record.{labelled}

-- ---- arcs

-- An arc as a slot holds it. Kind 0 is a kinetic take, 1 a take that is not kinetic, 2 a put, 3 a read, 4 a block.
-- A larger number is no kind: such an arc reads as a block, and is refused.
pub record Slot : Type 0 where
  pub kind : ℕ
  pub place : ℕ
  pub weight : ℕ

abbrev pub slot_at : List ℕ → List ℕ → List ℕ → ℕ → Slot
slot_at kind place weight a = record { kind = get_or kind a 0; place = get_or place a 0; weight = get_or weight a 0 }

-- n slots from slot a on
abbrev pub slots : List ℕ → List ℕ → List ℕ → ℕ → ℕ → List Slot
slots kind place weight a zero = []
slots kind place weight a (suc n) = slot_at kind place weight a ∷ slots kind place weight (a + 1) n

-- the slots of the arcs that are lent, from slot a on, and all of them
abbrev pub lent_from : Arcs → ℕ → List Slot
lent_from l a = slots l.net.now.kind.now l.net.now.place.now l.net.now.weight.now a (l.end - a)

abbrev pub lent_slots : Arcs → List Slot
lent_slots l = lent_from l l.from

abbrev pub takes_of : List Slot → List Take
takes_of [] = []
takes_of (l ∷ ls) = pick (leb l.kind 1) (record { place = l.place; weight = l.weight; kinetic = eqb l.kind 0 } ∷ takes_of ls) (takes_of ls)

-- the arcs whose kind passes a test
abbrev pub arcs_of : (ℕ → Bool) → List Slot → List Arc
arcs_of f [] = []
arcs_of f (l ∷ ls) = pick (f l.kind) (record { place = l.place; weight = l.weight } ∷ arcs_of f ls) (arcs_of f ls)

abbrev pub is_put : ℕ → Bool
is_put kind = eqb kind 2

abbrev pub is_read : ℕ → Bool
is_read kind = eqb kind 3

abbrev pub is_block : ℕ → Bool
is_block kind = leb 4 kind

abbrev pub transition_of : Float → Float → List Slot → Transition
transition_of rate delay ls =
    record { rate = rate; delay = delay; takes = takes_of ls; puts = arcs_of is_put ls; reads = arcs_of is_read ls; blocks = arcs_of is_block ls }

-- an arc of no known kind
abbrev pub strange : List Slot → Bool
strange ls = any (λ (l : Slot). ltb 4 l.kind) ls

-- ---- the record

abbrev pub slots_of : NetRecord → ℕ → List Slot
slots_of n j = slots n.kind n.place n.weight (16 * j) (get_or n.arcs j 0)

abbrev pub transition : NetRecord → ℕ → Transition
transition n j = transition_of (get_or n.rate j nan) (get_or n.delay j nan) (slots_of n j)

-- k transitions from number j on
abbrev pub transitions_from : NetRecord → ℕ → ℕ → List Transition
transitions_from n j k = numbered (transition n) j k

-- k places from number p on
abbrev pub places_from : List ℕ → List ℕ → ℕ → ℕ → List Place
places_from initial capacity p zero = []
places_from initial capacity p (suc k) = record { initial = get_or initial p 0; capacity = get_or capacity p 0 } ∷ places_from initial capacity (suc p) k

abbrev pub readable : NetRecord → Net
readable n =
    record {
      places = places_from n.initial n.capacity 0 n.places;
      transitions = transitions_from n 0 n.transitions;
    }

-- the labels of its places, in their order
abbrev pub labels : NetRecord → List Bytes
labels n = labels_from n.label n.lengths 0 n.places

-- ---- its test, place by place, then 2 where there is no place, then transition by transition

-- place p, by 2 and 4, and its label by 17 and 18: "both follow 4 on the place's line, and in a net given to any operation"
abbrev pub place_fault : List ℕ → List ℕ → List ℕ → List ℕ → ℕ → Option ℕ
place_fault initial capacity label lengths p =
    or_else (first_of (place_tests p false (record { initial = get_or initial p 0; capacity = get_or capacity p 0 })))
    (label_fault label lengths p)

-- k places from number p on
abbrev pub places_fault : List ℕ → List ℕ → List ℕ → List ℕ → ℕ → ℕ → Option ℕ
places_fault initial capacity label lengths p k = fault_from (place_fault initial capacity label lengths) p k

-- a transition over so many places, with so many transitions before it, whose arcs stand in these slots. odd: its text holds a value that no
-- transition can have.
abbrev pub slots_fault : ℕ → ℕ → Bool → Float → Float → List Slot → Option ℕ
slots_fault places before odd rate delay ls = first_of (move_tests places before (odd || strange ls) (transition_of rate delay ls))

abbrev pub move_fault : NetRecord → ℕ → Option ℕ
move_fault n j = slots_fault n.places j false (get_or n.rate j nan) (get_or n.delay j nan) (slots_of n j)

-- k transitions from number j on
abbrev pub moves_fault : NetRecord → ℕ → ℕ → Option ℕ
moves_fault n j k = fault_from (move_fault n) j k

-- the first number that applies; none where the net is accepted
unfoldable pub fault : NetRecord → Option ℕ
fault n =
    or_else (places_fault n.initial n.capacity n.label n.lengths 0 n.places)
    (or_else (first_of ((Refusal.bad_size, empty (readable n).places) ∷ []))
    (moves_fault n 0 n.transitions))

-- what an answer says: accepted, or refused by a number
abbrev pub meaning : Result Unit RefusalEnum → Option ℕ
meaning (Ok _) = none
meaning (Err r) = some (number_of r)

-- ---- labels decide 17 and 18, and nothing else: "The figures match those of the text without labels"

-- the net with other labels
abbrev pub relabelled : NetRecord → List ℕ → List ℕ → NetRecord
relabelled n label lengths =
    labelled n.places n.transitions n.initial n.capacity label lengths n.rate n.delay n.arcs n.kind n.place n.weight

-- a refusal that comes from a label
abbrev pub by_label : Option ℕ → Bool
by_label none = false
by_label (some c) = eqb c Refusal.bad_label || eqb c Refusal.used_label

-- What proofs/Apart.antt shows of every net and of any other labels for it: the rules see the same net, and where no label is at fault on
-- either side, both are accepted or both refused by one number.
pub record LabelsApart (n : NetRecord) (label lengths : List ℕ) : Type 0 where
  pub same_net : readable (relabelled n label lengths) ≡ readable n
  pub same_fault : by_label (fault n) ≡ false → by_label (fault (relabelled n label lengths)) ≡ false
      → fault (relabelled n label lengths) ≡ fault n
