-- The program's net record, made of its fields.
use Rattle.std.specs.Prelude.{ℕ, List, replicate, Float}
use Rattle.net.specs.declared.Net.{Net as NetRecord}
use Rattle.net.specs.declared.lent.LentNet.{LentNet}
use Rattle.net.specs.Net.{zero64}

-- the record with these fields, in their order
abbrev pub labelled : ℕ → ℕ → List ℕ → List ℕ → List ℕ → List ℕ → List Float → List Float → List ℕ → List ℕ → List ℕ → List ℕ → NetRecord
labelled places transitions initial capacity label lengths rate delay arcs kind place weight =
    record {
      places = places;
      transitions = transitions;
      initial = initial;
      capacity = capacity;
      label = label;
      lengths = lengths;
      rate = rate;
      delay = delay;
      arcs = arcs;
      kind = kind;
      place = place;
      weight = weight;
    }

-- the record whose fields are lent
abbrev pub net_of : LentNet → NetRecord
net_of n =
    labelled n.places n.transitions n.initial.now n.capacity.now n.label.now n.lengths.now n.rate.now n.delay.now n.arcs.now n.kind.now n.place.now
    n.weight.now

-- no place, no transition, and 0 or +0 in every slot
abbrev pub blank : NetRecord
blank =
    labelled 0 0 (replicate 32 0) (replicate 32 0) (replicate 512 0) (replicate 32 0) (replicate 64 zero64) (replicate 64 zero64) (replicate 64 0)
    (replicate 1024 0) (replicate 1024 0) (replicate 1024 0)
