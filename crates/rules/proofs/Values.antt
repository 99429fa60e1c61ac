-- `combinations` refuses where a weight is above 16 or a count above 2^53. The kinetic weights of a transition come to 16 at most, so each is, and counts fit.
use Prim.Native.Nat.{ℕ, ◌+◌, ◌^◌, ◌≤◌}
use mathlib.Core.Path.{◌≡◌, refl}
use mathlib.Core.Bool.{Bool, true, false, cond}
use mathlib.Core.List.{List, [], ◌∷◌}
use native.Mathlib.Omega.{arith}
use lib.Dec.{leb, ltb}
use borrow.Author.Tests.{le-ltb}
use Rattle.net.specs.Net.{Take, Transition, Marking, pick, zero64, one64, amount, held}
use Rattle.net.specs.Tests.{kinetic_total}
use Rattle.net.specs.Readable.{readable}
use Rattle.combinations.specs.Combinations.{Answer, value, as_flag, counted}
use Rattle.rules.specs.Propensity.{as_float}
use Rattle.rules.specs.Exact.{exact_ways}
use Rattle.rules.specs.Gillespie.{Tested}
use Rattle.rules.specs.Values.{Read, Valued, AllValued, NothingRefused, NothingRefusedInRuns}
use Rattle.rules.proofs.Accepted.{accepted, fit_held, starts_fit, reached_fit}

valued : (c w : ℕ) → c ≤ 2 ^ 53 → w ≤ 16 → Read c w
unfolding exact_ways
valued c w h l = rw (le-ltb 16 w l, le-ltb (2 ^ 53) c h) (go (leb w 0) (ltb c w))
  where
    go : (a b : Bool) → (let all : Answer = cond a (value one64 true) (cond b (value zero64 true) (counted c w)) in all ≡ value (as_float all) (as_flag all))
    go true b = refl
    go false true = refl
    go false false = refl

module _ (m : Marking) (small : (p : ℕ) → held m p ≤ 2 ^ 53) where
  takes_valued : (ks : List Take) → kinetic_total ks ≤ 16 → Valued m ks
  takes_valued [] h = tt
  takes_valued (k ∷ ks) h =
      ((λ e. valued (held m k.place) (amount k.weight) (small k.place) (light k.kinetic h e)), takes_valued ks (fewer k.kinetic h))
    where
      light : (b : Bool) → pick b (amount k.weight) 0 + kinetic_total ks ≤ 16 → b ≡ true → amount k.weight ≤ 16
      light true h e = omega arith
      light false h e = absurd (let z : ◌≡◌ {A = ℕ} 0 1 = cc in omega arith)

      fewer : (b : Bool) → pick b (amount k.weight) 0 + kinetic_total ks ≤ 16 → kinetic_total ks ≤ 16
      fewer true h = omega arith
      fewer false h = omega arith

  all_valued : (ts : List Transition) → Tested ts → AllValued m ts
  all_valued [] h = tt
  all_valued (t ∷ ts) h = (takes_valued t.takes h.1, all_valued ts h.2)

pub nothing_refused : NothingRefused
nothing_refused n e m h = all_valued m (fit_held m h) (readable n).transitions (accepted n e).tested

pub nothing_refused_in_runs : NothingRefusedInRuns
nothing_refused_in_runs n e room g s r b p =
    nothing_refused n e b.counts (starts_fit room (readable n) s b p (reached_fit room (readable n) (accepted n e) g r))
