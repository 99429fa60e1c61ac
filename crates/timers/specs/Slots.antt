-- What the parts of an insertion find in the slots and do to them. Places are counted without wrapping, place k being slot k modulo 256.
use Rattle.std.specs.Prelude.{ℕ, suc, ◌+◌, ◌%◌, ◌≤◌, ◌<◌, ◌≡◌, Bool, true, false, List, get_or, Float}
use Rattle.std.specs.Float.{nan}
use Rattle.std.specs.Float.Ieee.{lt}
use Rattle.rules.specs.Timers.{Timer}

-- slot k was written
pub record Stored (k : ℕ) (x : Timer) (before after : ℕ → Timer) : Type 0 where
  pub here : after k ≡ x
  pub rest : (j : ℕ) → (j ≡ k → ⊥) → after j ≡ before j

-- the timers from place p to before place e stand one place further up; those from place s to before p, and those beyond e, where they did
pub record MovedUp (s p e : ℕ) (before after : ℕ → Timer) : Type 0 where
  pub below : (k : ℕ) → s ≤ k → k < p → after (k % 256) ≡ before (k % 256)
  pub above : (k : ℕ) → p ≤ k → k < e → after (suc k % 256) ≡ before (k % 256)
  pub beyond : (k : ℕ) → e < k → k < s + 256 → after (k % 256) ≡ before (k % 256)

-- whether it completes later than `at` is b, of every timer from place p to before place e
pub record EachLater (b : Bool) (at : Float) (p e : ℕ) (ats : List Float) : Type 0 where
  pub each : (k : ℕ) → p ≤ k → k < e → lt at (get_or ats (k % 256) nan) ≡ b

-- place p, of places s to e, is in front of the first timer that completes later
pub record FirstLater (at : Float) (s p e : ℕ) (ats : List Float) : Type 0 where
  pub within : p ≤ e
  pub earlier : EachLater false at s p ats
  pub later : p < e → lt at (get_or ats (p % 256) nan) ≡ true

-- place p, of places s to e, is behind the last timer that does not complete later
pub record LastEarlier (at : Float) (s p e : ℕ) (ats : List Float) : Type 0 where
  pub within : p ≤ e
  pub later : EachLater true at p e ats
  pub earlier : (k : ℕ) → s ≤ k → suc k ≡ p → lt at (get_or ats (k % 256) nan) ≡ false

-- place p was looked for from the end where the list is said to be in order, else from the front
pub record LookedFor (ordered : Bool) (at : Float) (s p e : ℕ) (ats : List Float) : Type 0 where
  pub within : p ≤ e
  pub back : ordered ≡ true → LastEarlier at s p e ats
  pub front : ordered ≡ false → FirstLater at s p e ats
