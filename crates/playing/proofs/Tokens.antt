-- What a start, a completion and a firing do to the tokens: all place counts plus the weights taken by the running timers. What a start takes from the counts
-- is what the rules say that its timer took, and the tokens of a run never come near 2^64. And the transition of a number that none has.
use Prim.Native.Nat.{ℕ, zero, suc, ◌+◌, ◌*◌, ◌^◌, ◌≤◌, ◌<◌}
use mathlib.Core.Path.{◌≡◌, ap, subst, refl, ◌∙◌}
use mathlib.Core.Bool.{true}
use mathlib.Core.List.{List, [], ◌∷◌}
use native.Mathlib.Nat.{not-suc-le-zero, le_of_suc-le-suc}
use native.Mathlib.Omega.{arith}
use lib.ListN.{get_or, take}
use lib.Ieee.{Float}
use Rattle.net.specs.declared.Net.{Net as NetRecord}
use Rattle.net.specs.Net.{Transition, Marking}
use Rattle.net.specs.Readable as Record
use Rattle.net.specs.Readable.{readable, transitions_from, slots_of, takes_of}
use Rattle.net.proofs.Lengths.{transitions_length}
use Rattle.rules.specs.Enabled.{enabled}
use Rattle.rules.specs.Timers.{Timer, first, others}
use Rattle.rules.specs.Moves.{without_arcs, transition, taking, weight_taken}
use Rattle.rules.specs.Moments.{sum_of, taken_by_timers}
use Rattle.rules.specs.Demand3.{Ready as Allowed}
use Rattle.rules.proofs.Counts.{once_each}
use Rattle.rules.proofs.Peaks.{sum_taking}
use Rattle.engine.specs.Engine.{AtMost, Tidy}
use Rattle.engine.proofs.Sides.{transition_at}
use Rattle.timers.specs.declared.Ring.{Ring}
use Rattle.timers.specs.Turning.{timers_of}
use Rattle.timers.proofs.Rings.{length_timers}
use Rattle.playing.specs.Stepping.{Ready, state_of, tokens_of}
use Rattle.playing.proofs.Light.{light_taken}

-- ---- the transition of a number

module _ (n : NetRecord) where
  past : (k i j : ℕ) → k ≤ j → get_or (transitions_from n i k) j without_arcs ≡ without_arcs
  past zero i j h = refl
  past (suc k) i zero h = absurd (not-suc-le-zero h)
  past (suc k) i (suc j) h = past k (suc i) j (le_of_suc-le-suc h)

  pub transition_past : (j : ℕ) → n.transitions ≤ j → transition (readable n) j ≡ without_arcs
  transition_past j h = past n.transitions 0 j h

-- ---- tokens

pub taken_first : (q : List Timer) → taken_by_timers q ≡ (first q).taken + taken_by_timers (others q)
taken_first [] = refl
taken_first (z ∷ q) = refl

-- 32 counts of at most 2^53
pub sum_few : (k : ℕ) (counts : List ℕ) → AtMost (2 ^ 53) counts → sum_of (take k counts) ≤ 2 ^ 53 * k
sum_few zero counts h = omega arith
sum_few (suc k) [] h = omega arith
sum_few (suc k) (c ∷ cs) h = omega (arith, h 0, sum_few k cs (λ a. h (suc a)))

pub tokens_few : {n : NetRecord} {limit counts : List ℕ} {ats : List Float} {owners : List ℕ} {ring : Ring} (t : Float) (ws : List ℕ)
    → Ready n limit counts ats owners ring → tokens_of (state_of n counts ats owners ring t ws) ≤ 2 ^ 59
tokens_few {n} {limit} {counts} {ats} {owners} {ring} t ws r =
    let q : List Timer = timers_of ats owners ring in
    omega (arith, sum_few n.places counts r.small.small, r.tidy.places, light_taken q r.light, length_timers ats owners ring)

-- a start of transition j, which is enabled: what it takes from the counts m
pub start_takes : (n : NetRecord) → Tidy n → (j : ℕ) → j < n.transitions → (m m' : Marking) (less : ℕ) → enabled (readable n) m (Record.transition n j) ≡ true
    → m' ≡ taking m (takes_of (slots_of n j)) → sum_of m ≡ sum_of m' + less → less ≡ weight_taken (takes_of (slots_of n j))
start_takes n t j h m m' less on takes sum =
    let at : transition (readable n) j ≡ Record.transition n j = transition_at n j h in
    let may : Allowed (readable n) m j = (omega (arith, transitions_length n), ap (enabled (readable n) m) at ∙ on) in
    let rule : sum_of (taking m (takes_of (slots_of n j))) + weight_taken (takes_of (slots_of n j)) ≡ sum_of m =
    subst (λ (y : Transition). sum_of (taking m y.takes) + weight_taken y.takes ≡ sum_of m) at (sum_taking (readable n) m j (once_each (readable n) t.once j) may) in
    omega (arith, rule, ap sum_of takes)
