-- What a continuous run cannot express. Document 01, "001": "A net with reads, inhibitors, non-kinetic inputs, capacity bounds or delays answers
-- gated …: the three counts, the bounded places, whether any delay". A bounded place has a capacity above 0 and a net change above 0 in some transition
-- (docs/DECISIONS).
use Rattle.std.specs.Prelude.{ℕ, zero, suc, ◌+◌, ◌/◌, ◌%◌, Bool, ◌&&◌, ◌||◌, not, List, [], ◌∷◌, eqb, ltb, length}
use Rattle.net.specs.Net.{Place, Take, Transition, Net, pick, timed, moved, taken_by}
use Rattle.net.specs.Tests.{any, empty}
use Rattle.gates.specs.declared.Gates.{Gates as GatesStruct}

-- ---- the three counts

-- summed over the transitions
abbrev pub over : (Transition → ℕ) → List Transition → ℕ
over f [] = 0
over f (t ∷ ts) = f t + over f ts

abbrev pub reads_of : Transition → ℕ
reads_of t = length t.reads

abbrev pub inhibitors_of : Transition → ℕ
inhibitors_of t = length t.blocks

abbrev pub non_kinetic : List Take → ℕ
non_kinetic [] = 0
non_kinetic (k ∷ ks) = pick k.kinetic 0 1 + non_kinetic ks

abbrev pub non_kinetic_of : Transition → ℕ
non_kinetic_of t = non_kinetic t.takes

-- ---- the bounded places

-- a net change above 0: more is put into place p than taken from it
abbrev pub raises : ℕ → Transition → Bool
raises p t = ltb (taken_by t.takes p) (moved t.puts p)

-- capacity above 0 and a net change above 0 in some transition, of place p
abbrev pub bounded : List Transition → ℕ → Place → Bool
bounded ts p q = ltb 0 q.capacity && any (raises p) ts

-- the numbers of the bounded places, of the places from number p on
abbrev pub bounded_from : List Transition → ℕ → List Place → List ℕ
bounded_from ts p [] = []
bounded_from ts p (q ∷ qs) =
    let further = bounded_from ts (suc p) qs in
    pick (bounded ts p q) (p ∷ further) further

-- ---- all of it

pub record Gates : Type 0 where
  pub reads : ℕ
  pub inhibitors : ℕ
  pub non_kinetic : ℕ
  pub bounded : List ℕ
  pub delayed : Bool

unfoldable pub gates : Net → Gates
gates n =
    record {
      reads = over reads_of n.transitions;
      inhibitors = over inhibitors_of n.transitions;
      non_kinetic = over non_kinetic_of n.transitions;
      bounded = bounded_from n.transitions 0 n.places;
      delayed = any timed n.transitions;
    }

abbrev pub gated : Gates → Bool
gated g = ltb 0 g.reads || ltb 0 g.inhibitors || ltb 0 g.non_kinetic || not (empty g.bounded) || g.delayed

-- ---- what the program's record says

-- the numbers of the bits that are set, of k bits of x, whose lowest has number p
unfoldable pub bits_from : ℕ → ℕ → ℕ → List ℕ
bits_from p zero x = []
bits_from p (suc k) x =
    let further = bits_from (suc p) k (x / 2) in
    pick (eqb (x % 2) 1) (p ∷ further) further

-- the bounded places are the bits set in the mask, of all its 64
abbrev pub gates_of : GatesStruct → Gates
gates_of g =
    record { reads = g.reads; inhibitors = g.inhibitors; non_kinetic = g.nonkinetic; bounded = bits_from 0 64 g.bounded; delayed = g.delayed }
