-- What the private functions work out of the slots of a net record. The rules are in Gated; nothing here adds to them.
use Rattle.std.specs.Prelude.{ℕ, zero, suc, ◌+◌, ◌*◌, Bool, List, [], ◌∷◌, eqb, get_or}
use Rattle.net.specs.declared.Net.{Net as NetRecord}
use Rattle.net.specs.Net.{Place, pick}
use Rattle.net.specs.Readable.{Slot, slots_of, transitions_from, is_read, is_block}
use Rattle.gates.specs.Gated.{bounded}
use Rattle.gates.specs.declared.Gate.{Gate}
use Rattle.gates.specs.declared.Gate.TheVariants.{Read, Inhibitor, NonKinetic}

-- ---- arcs counted by their kind

abbrev pub one_if : Bool → ℕ
one_if b = pick b 1 0

abbrev pub sort_of : Gate → ℕ → Bool
sort_of Read kind = is_read kind
sort_of Inhibitor kind = is_block kind
sort_of NonKinetic kind = eqb kind 1

abbrev pub count_if : (ℕ → Bool) → List Slot → ℕ
count_if f [] = 0
count_if f (l ∷ ls) = one_if (f l.kind) + count_if f ls

-- in k transitions from number j on
abbrev pub count_from : (ℕ → Bool) → NetRecord → ℕ → ℕ → ℕ
count_from f n j zero = 0
count_from f n j (suc k) = count_if f (slots_of n j) + count_from f n (suc j) k

-- ---- the bounded places

abbrev pub place_at : NetRecord → ℕ → Place
place_at n p = record { initial = get_or n.initial p 0; capacity = get_or n.capacity p 0 }

abbrev pub bounded_at : NetRecord → ℕ → Bool
bounded_at n p = bounded (transitions_from n 0 n.transitions) p (place_at n p)

-- the mask of k places from number p on, whose lowest bit is place p's
abbrev pub mask_from : NetRecord → ℕ → ℕ → ℕ
mask_from n p zero = 0
mask_from n p (suc k) = one_if (bounded_at n p) + 2 * mask_from n (suc p) k
