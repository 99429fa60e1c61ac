-- The tests of a carried state, for a room of 256. One that is met is enough for a refusal; where the others are not, the weights decide.
use Rattle.std.proofs.Common.{◌≡◌, ◌<◌, ◌≤◌, Bool, true, false, not, ◌&&◌, ltb, ◌⊎◌, length, refl, inl, inr, le-ltb, lt-ltb}
use mathlib.Core.Bool.{or-true, or-false}
use borrow.Author.Tests.{not-true, not-false}
use Rattle.net.specs.Tests.{any}
use Rattle.rules.specs.Timers.{Timer}
use Rattle.rules.specs.Step.{counts_fit}
use Rattle.rules.specs.Carried.{Carried}
use Rattle.rules.specs.Change.{time_fits, falls, state_strange}
use Rattle.rules.proofs.Order.{both}
use Rattle.carried.proofs.Waiting.{untimely, on_time}

one_of : (a b : Bool) → (not a && not b) ≡ false → (a ≡ true) ⊎ (b ≡ true)
one_of true b h = inl refl
one_of false b h = inr (not-false b h)

module _ (c : Carried) where
  pub by_room : 256 < length c.now.timers → false ≡ not (state_strange 256 c)
  by_room h = simp (lt-ltb 256 (length c.now.timers) h, or-true)

  pub by_counts : counts_fit c.now.counts ≡ false → false ≡ not (state_strange 256 c)
  by_counts h = simp h

  pub by_limit : c.limit < c.steps → false ≡ not (state_strange 256 c)
  by_limit h = simp (lt-ltb c.limit c.steps h, or-true)

  pub by_rounded : c.steps < c.rounded → false ≡ not (state_strange 256 c)
  by_rounded h = simp (lt-ltb c.steps c.rounded h, or-true)

  pub by_clock : time_fits c.now.clock ≡ false → false ≡ not (state_strange 256 c)
  by_clock h = simp (h, or-true)

  pub by_times : on_time c.now.clock c.now.timers ≡ false → false ≡ not (state_strange 256 c)
  by_times h = go (one_of (any untimely c.now.timers) (falls c.now.clock c.now.timers) h)
    where
      go : (any untimely c.now.timers ≡ true) ⊎ (falls c.now.clock c.now.timers ≡ true) → false ≡ not (state_strange 256 c)
      go (inl e) = simp (e, or-true)
      go (inr e) = simp (e, or-true)

  pub by_weights : length c.now.timers ≤ 256 → counts_fit c.now.counts ≡ true → c.steps ≤ c.limit → c.rounded ≤ c.steps
      → time_fits c.now.clock ≡ true → on_time c.now.clock c.now.timers ≡ true
      → not (any (λ (x : Timer). ltb 16_000_000 x.taken) c.now.timers) ≡ not (state_strange 256 c)
  by_weights h m l r t o =
      let a = any untimely c.now.timers in
      let b = falls c.now.clock c.now.timers in
      let on = both (not a) (not b) o in
      simp (
        m,
        le-ltb c.limit c.steps l,
        le-ltb c.steps c.rounded r,
        t,
        not-true a on.0,
        not-true b on.1,
        le-ltb 256 (length c.now.timers) h,
        or-false,
      )
