-- What an entry does to the tokens of a moment, of an accepted net, so that a pencil keeps one number along a path and its maximum: a start leaves them, a
-- completion adds what its transition puts less what its timer took, a firing what it puts less what it takes. proofs/Changes proves it.
use Rattle.std.specs.Prelude.{ℕ, ◌+◌, ◌≡◌, List, ◌∷◌, length}
use Rattle.std.proofs.Math.Option.{none}
use Rattle.net.specs.declared.Net.{Net as NetRecord}
use Rattle.net.specs.Net.{Net}
use Rattle.net.specs.Readable.{readable, fault}
use Rattle.rules.specs.Timers.{Timer}
use Rattle.rules.specs.Moves.{started, completed, fired, transition, weight_taken, weight_put}
use Rattle.rules.specs.Moments.{Moment, happen, tokens}
use Rattle.rules.specs.Demand3.{Ready}

pub record Changes (n : Net) (x : Moment) : Type 0 where
  pub start : (j : ℕ) → Ready n x.counts j → tokens (happen n x (started j)) ≡ tokens x
  pub completion : (j : ℕ) (z : Timer) (rest : List Timer) → x.timers ≡ z ∷ rest
      → tokens (happen n x (completed j)) + z.taken ≡ tokens x + weight_put (transition n j).puts
  pub firing : (j : ℕ) → Ready n x.counts j
      → tokens (happen n x (fired j)) + weight_taken (transition n j).takes ≡ tokens x + weight_put (transition n j).puts

-- at every moment with one count a place
abbrev pub EveryChange : Type 0
EveryChange = (n : NetRecord) → fault n ≡ none → (x : Moment) → length x.counts ≡ length (readable n).places → Changes (readable n) x
