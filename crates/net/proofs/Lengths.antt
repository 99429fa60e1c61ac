-- How many places and transitions a record is read as. Assumes nothing.
use Prim.Native.Nat.{ℕ, zero, suc}
use mathlib.Core.Path.{◌≡◌, refl, ap}
use mathlib.Core.List.{List}
use lib.ListN.{length}
use Rattle.net.specs.declared.Net.{Net as NetRecord}
use Rattle.net.specs.Net.{numbered}
use Rattle.net.specs.Readable.{places_from, transition, transitions_from, readable}

pub numbered_length : {A : Type 0} (f : ℕ → A) (j k : ℕ) → length (numbered f j k) ≡ k
numbered_length f j zero = refl
numbered_length f j (suc k) = ap suc (numbered_length f (suc j) k)

pub places_from_lem : (initial capacity : List ℕ) (p k : ℕ) → length (places_from initial capacity p k) ≡ k
places_from_lem initial capacity p zero = refl
places_from_lem initial capacity p (suc k) = ap suc (places_from_lem initial capacity (suc p) k)

pub transitions_from_lem : (n : NetRecord) (j k : ℕ) → length (transitions_from n j k) ≡ k
transitions_from_lem n j k = numbered_length (transition n) j k

pub places_length : (n : NetRecord) → length (readable n).places ≡ n.places
places_length n = places_from_lem n.initial n.capacity 0 n.places

pub transitions_length : (n : NetRecord) → length (readable n).transitions ≡ n.transitions
transitions_length n = transitions_from_lem n 0 n.transitions
