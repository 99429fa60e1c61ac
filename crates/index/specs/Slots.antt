-- What the functions of the index find, slot by slot. That it is what the rules list (Index of the crate rules) is shown in proofs/ByPlace; nothing
-- here adds to them.
use Rattle.std.specs.Prelude.{ℕ, ◌-◌, ◌≡◌, Bool, ◌&&◌, ◌||◌, not, List, eqb, ltb, length, get_or}
use Rattle.net.specs.Net.{moved, taken_by}
use Rattle.net.specs.Tests.{any}
use Rattle.net.specs.Readable.{Slot, slots, takes_of, arcs_of, is_put}
use Rattle.words.specs.Bits.{bit}

-- the slots from `from` to before `end`
abbrev pub span : List ℕ → List ℕ → List ℕ → ℕ → ℕ → List Slot
span kind place weight from end = slots kind place weight from (end - from)

-- what the slots of a transition put into place p, and take from it
abbrev pub put_in : List Slot → ℕ → ℕ
put_in all p = moved (arcs_of is_put all) p

abbrev pub taken_in : List Slot → ℕ → ℕ
taken_in all p = taken_by (takes_of all) p

-- A slot of that kind, on place p, lists the transition for it: "an input, read or inhibitor" does, and a put does where there is "a net change above 0 on it
-- where its capacity is above 0".
abbrev pub lists : List ℕ → List Slot → ℕ → ℕ → Bool
lists capacity all kind p = not (is_put kind) || (ltb 0 (get_or capacity p 0) && ltb (taken_in all p) (put_in all p))

-- slot l is on place p, and lists the transition for it
abbrev pub lists_for : List ℕ → List Slot → ℕ → Slot → Bool
lists_for capacity all p l = eqb l.place p && lists capacity all l.kind l.place

-- transition j, of these slots, is added to the word of every place for which they list it, and nothing else is
pub record Added (capacity : List ℕ) (all : List Slot) (j : ℕ) (before after : List ℕ) : Type 0 where
  pub long : length after ≡ 32
  pub says : (p i : ℕ) → bit (get_or after p 0) i ≡ (bit (get_or before p 0) i || (any (lists_for capacity all p) all && eqb i j))
