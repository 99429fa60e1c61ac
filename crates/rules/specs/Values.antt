-- `combinations` refuses nothing in a run. Propensity.antt reads the float of its answer and Exact.antt whether it is exact, and there are both: for every
-- kinetic take of every transition of an accepted net, at all counts of at most 2^53, and so at the counts at which a step works its propensities.
-- proofs/Values.antt proves it.
use Rattle.std.specs.Prelude.{ℕ, ◌≡◌, true, List, [], ◌∷◌, pos}
use Rattle.std.proofs.Math.Option.{none}
use Rattle.net.specs.declared.Net.{Net as NetRecord}
use Rattle.net.specs.Net.{Take, Transition, Marking, amount, held}
use Rattle.net.specs.Readable.{readable, fault}
use Rattle.rng.specs.State.{State as Generator}
use Rattle.combinations.specs.Combinations.{value, combinations}
use Rattle.rules.specs.Propensity.{ways}
use Rattle.rules.specs.Exact.{exact_ways}
use Rattle.rules.specs.Step.{State, given, Starts, counts_fit, starts}
use Rattle.rules.specs.Gillespie.{Reached}

-- to choose w of c gives a value, not a refusal
abbrev pub Read : ℕ → ℕ → Type 0
Read c w = combinations (pos c) (pos w) ≡ value (ways c w) (exact_ways c w)

-- at the counts m the answer for each of these takes that is kinetic is what `ways` and `exact_ways` read
abbrev pub Valued : Marking → List Take → Type 0
Valued m [] = Unit
Valued m (k ∷ ks) =
    (k.kinetic ≡ true → Read (held m k.place) (amount k.weight))
    × Valued m ks

abbrev pub AllValued : Marking → List Transition → Type 0
AllValued m [] = Unit
AllValued m (t ∷ ts) = Valued m t.takes × AllValued m ts

-- 7 keeps a kinetic weight at 16 or less
abbrev pub NothingRefused : Type 0
NothingRefused = (n : NetRecord) → fault n ≡ none → (m : Marking) → counts_fit m ≡ true → AllValued m (readable n).transitions

-- 4 keeps an initial count at 2^53 or less, and 14 every later one: b has the counts after a step's starts
abbrev pub NothingRefusedInRuns : Type 0
NothingRefusedInRuns = (n : NetRecord) → fault n ≡ none → (room : ℕ) (g : Generator) (s : State) → Reached room (readable n) g s → (b : Starts) → starts room (readable n) s ≡ given b
    → AllValued b.counts (readable n).transitions
