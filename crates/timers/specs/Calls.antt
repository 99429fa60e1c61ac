-- Any calls of insert and remove_first, one after another, each handed what the last left. Document 02, order 9: "Show that removing the first timer moves no
-- other entry, that what it holds, read from its start, is the old list after every insertion and removal, equal times included, and that the 257th is still
-- refused." Proved in proofs/Promises.
use Rattle.std.specs.Prelude.{ℕ, suc, ◌<◌, ◌≤◌, ◌≡◌, Bool, false, List, [], ◌∷◌, length, Float}
use Rattle.net.specs.Net.{pick}
use Rattle.rules.specs.Timers.{Timer, insert, others}
use Rattle.timers.specs.declared.Ring.{Ring}
use Rattle.timers.specs.Turning.{held, running, slot_of, timers_of, Sound, has_room, InsertedIn, RemovedFrom}

pub data Call : Type 0 where
  put : ℕ → Timer → Call
  remove : Call

-- the list that the rules give after such calls: "the old list"
abbrev pub old : List Call → List Timer → List Timer
old [] xs = xs
old (put room x ∷ cs) xs = old cs (pick (has_room room xs) (insert x xs) xs)
old (remove ∷ cs) xs = old cs (others xs)

-- the calls, by what each promises
pub data Calls : List Call → List Float → List ℕ → Ring → List Float → List ℕ → Ring → Type 0 where
  none : {a : List Float} {o : List ℕ} {r : Ring} → Calls [] a o r a o r
  inserts : {cs : List Call} {room : ℕ} {x : Timer} {taken : Bool} {a a' b : List Float} {o o' p : List ℕ} {r r' s : Ring}
      → InsertedIn room x a o r a' o' r' taken → Calls cs a' o' r' b p s → Calls (put room x ∷ cs) a o r b p s
  removes : {cs : List Call} {a b : List Float} {o p : List ℕ} {r r' s : Ring} → RemovedFrom r r' → Calls cs a o r' b p s → Calls (remove ∷ cs) a o r b p s

pub record Turns : Type 0 where
  -- "removing the first timer moves no other entry": it is not lent the slots, and each timer that stays is in the slot where it was
  pub stands : (r r' : Ring) → RemovedFrom r r' → 0 < running r → (a : List Float) (o : List ℕ) (i : ℕ) → held a o (slot_of r' i) ≡ held a o (slot_of r (suc i))
  -- "what it holds, read from its start, is the old list after every insertion and removal, equal times included"
  pub is_old : {cs : List Call} {a b : List Float} {o p : List ℕ} {r s : Ring} → Calls cs a o r b p s → Sound a o r
      → (timers_of b p s ≡ old cs (timers_of a o r)) × Sound b p s
  -- "the 257th is still refused", whatever the room, and leaves the slots and the ring
  pub few : (a : List Float) (o : List ℕ) (r : Ring) → length (timers_of a o r) ≤ 256
  pub refuses : {room : ℕ} {x : Timer} {a a' : List Float} {o o' : List ℕ} {r r' : Ring} {taken : Bool} → InsertedIn room x a o r a' o' r' taken
      → length (timers_of a o r) ≡ 256 → (taken ≡ false) × (a' ≡ a) × (o' ≡ o) × (r' ≡ r)
