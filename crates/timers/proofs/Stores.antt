-- The slots as a table of timers. A timer is written by three stores, and read back whole.
use Prim.Native.Nat.{ℕ, ◌+◌, ◌*◌, ◌<◌}
use mathlib.Core.Path.{◌≡◌, ◌∙◌}
use mathlib.Core.List.{List}
use native.Mathlib.Omega.{arith}
use lib.ListN.{length, set, length-set}
use lib.Seq.{get_or-set_same, get_or-set_other}
use lib.Ieee.{Float, nan}
use Rattle.rules.specs.Timers.{Timer}
use Rattle.timers.specs.Turning.{held}
use Rattle.timers.specs.Slots.{Stored}

pub timer_is : (a b : Float) (v w m n : ℕ) → a ≡ b → v ≡ w → m ≡ n
    → ◌≡◌ {A = Timer} (record { at = a; who = v; taken = m }) (record { at = b; who = w; taken = n })
timer_is a b v w m n e f g = cc

module _ (ats : List Float) (owners : List ℕ) (k : ℕ) (x : Timer) (la : length ats ≡ 256) (lo : length owners ≡ 512) (h : k < 256) where
  pub stored : Stored k x (held ats owners) (held (set ats k x.at) (set (set owners (2 * k) x.who) (2 * k + 1) x.taken))
  stored = record { here = at_k; rest = elsewhere }
    where
      no_even : (j : ℕ) → 2 * j ≡ 2 * k + 1 → ⊥
      no_even j e = omega arith

      not_same : (j : ℕ) → (j ≡ k → ⊥) → 2 * j ≡ 2 * k → ⊥
      not_same j n e = n (omega arith)

      not_next : (j : ℕ) → (j ≡ k → ⊥) → 2 * j + 1 ≡ 2 * k + 1 → ⊥
      not_next j n e = n (omega arith)

      no_odd : (j : ℕ) → 2 * j + 1 ≡ 2 * k → ⊥
      no_odd j e = omega arith

      at_k : held (set ats k x.at) (set (set owners (2 * k) x.who) (2 * k + 1) x.taken) k ≡ x
      at_k =
          timer_is _ _ _ _ _ _ (get_or-set_same ats k x.at nan (omega arith))
          (get_or-set_other (set owners (2 * k) x.who) (2 * k + 1) (2 * k) x.taken 0 (no_even k) ∙ get_or-set_same owners (2 * k) x.who 0 (omega arith))
          (get_or-set_same (set owners (2 * k) x.who) (2 * k + 1) x.taken 0 (omega (arith, length-set owners (2 * k) x.who)))

      elsewhere : (j : ℕ) → (j ≡ k → ⊥) → held (set ats k x.at) (set (set owners (2 * k) x.who) (2 * k + 1) x.taken) j ≡ held ats owners j
      elsewhere j n =
          timer_is _ _ _ _ _ _ (get_or-set_other ats k j x.at nan n)
          (get_or-set_other (set owners (2 * k) x.who) (2 * k + 1) (2 * j) x.taken 0 (no_even j)
          ∙ get_or-set_other owners (2 * k) (2 * j) x.who 0 (not_same j n))
          (get_or-set_other (set owners (2 * k) x.who) (2 * k + 1) (2 * j + 1) x.taken 0 (not_next j n)
          ∙ get_or-set_other owners (2 * k) (2 * j + 1) x.who 0 (no_odd j))
