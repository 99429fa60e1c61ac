-- The timers of three arrays one by one: as many as are asked for, and blank ones behind them. Assumes nothing.
use Prim.Native.Nat.{ℕ, ◌≤◌, ◌<◌}
use mathlib.Core.Path.{◌≡◌, sym, ap, ◌∙◌}
use mathlib.Core.List.{List}
use native.Mathlib.Omega.{arith}
use lib.ListN.{length, get_or, get_or-eq_default}
use lib.Seq.{drop-cons}
use lib.Ieee.{Float}
use Rattle.rules.specs.Timers.{Timer}
use Rattle.timers.specs.Turning.{idle}
use Rattle.timers.specs.Queues.{blank}
use Rattle.timers.proofs.Places.{length_from, from_at}
use Rattle.carried.specs.Timers.{slot, timers_in}
use Rattle.c_face.specs.Layout.{timer_at}

module _ (ats : List Float) (whos takens : List ℕ) (n : ℕ) where
  pub timers_long : length (timers_in ats whos takens n) ≡ n
  timers_long = length_from (slot ats whos takens) 0 n

  pub timer_at_lem : (k : ℕ) → k < 256 → k < n → timer_at (timers_in ats whos takens n) k ≡ slot ats whos takens k
  timer_at_lem k few h =
      let q = timers_in ats whos takens n in
      let l : k < length q = omega (arith, timers_long) in
      ap (λ (r : List Timer). get_or r 0 blank) (sym (drop-cons q k blank l) ∙ drop-cons q k idle l)
      ∙ from_at (slot ats whos takens) 0 n k h
      ∙ ap (slot ats whos takens) (omega arith)

  pub timer_past : (k : ℕ) → n ≤ k → timer_at (timers_in ats whos takens n) k ≡ blank
  timer_past k h = get_or-eq_default (timers_in ats whos takens n) blank (omega (arith, timers_long))
