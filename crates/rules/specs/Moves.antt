-- What happens in a run, entry by entry, and what each entry does to the counts. Document 01, "The run of demand 3": a start takes
-- the weight of every input, a completion puts that of every output, a firing does both; "Reads and inhibitors move nothing".
use Rattle.std.specs.Prelude.{ℕ, ◌+◌, ◌-◌, List, [], ◌∷◌, map, get_or, set, Float}
use Rattle.net.specs.Net.{Place, Arc, Take, Transition, Net, Marking, zero64, amount, held, moved, taken_by}

-- a clock reading, or what transition j did
pub data Entry : Type 0 where
  reading : Float → Entry
  started completed fired : ℕ → Entry

abbrev pub without_arcs : Transition
without_arcs = record { rate = zero64; delay = zero64; takes = []; puts = []; reads = []; blocks = [] }

-- transition j (a number that none has stands for one without arcs)
abbrev pub transition : Net → ℕ → Transition
transition n j = get_or n.transitions j without_arcs

abbrev pub taking : Marking → List Take → Marking
taking m [] = m
taking m (k ∷ ks) = taking (set m k.place (held m k.place - amount k.weight)) ks

abbrev pub putting : Marking → List Arc → Marking
putting m [] = m
putting m (a ∷ rest) = putting (set m a.place (held m a.place + amount a.weight)) rest

-- the weight that takes take, and that arcs put, at whatever places
abbrev pub weight_taken : List Take → ℕ
weight_taken [] = 0
weight_taken (k ∷ ks) = amount k.weight + weight_taken ks

abbrev pub weight_put : List Arc → ℕ
weight_put [] = 0
weight_put (a ∷ rest) = amount a.weight + weight_put rest

-- the counts m after an entry, and after several
abbrev pub move : Net → Marking → Entry → Marking
move n m (reading t) = m
move n m (started j) = taking m (transition n j).takes
move n m (completed j) = putting m (transition n j).puts
move n m (fired j) = putting (taking m (transition n j).takes) (transition n j).puts

abbrev pub after : Net → Marking → List Entry → Marking
after n m [] = m
after n m (e ∷ es) = after n (move n m e) es

abbrev pub initial_counts : Net → Marking
initial_counts n = map (λ (q : Place). q.initial) n.places

-- all that entries take at place p, and all that they put there
abbrev pub taken_at : Net → ℕ → List Entry → ℕ
taken_at n p [] = 0
taken_at n p (reading t ∷ es) = taken_at n p es
taken_at n p (started j ∷ es) = taken_by (transition n j).takes p + taken_at n p es
taken_at n p (completed j ∷ es) = taken_at n p es
taken_at n p (fired j ∷ es) = taken_by (transition n j).takes p + taken_at n p es

abbrev pub put_at : Net → ℕ → List Entry → ℕ
put_at n p [] = 0
put_at n p (reading t ∷ es) = put_at n p es
put_at n p (started j ∷ es) = put_at n p es
put_at n p (completed j ∷ es) = moved (transition n j).puts p + put_at n p es
put_at n p (fired j ∷ es) = moved (transition n j).puts p + put_at n p es
