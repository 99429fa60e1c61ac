-- Running sums: each is the total of the propensities so far, and depends on no other. Assumes nothing.
use Prim.Native.Nat.{ℕ, zero, suc, ◌≤◌, ◌<◌}
use mathlib.Core.Path.{◌≡◌, refl, sym, ap, ◌∙◌}
use mathlib.Core.List.{List, [], ◌∷◌}
use native.Mathlib.Omega.{arith}
use lib.ListN.{length, get_or, take}
use lib.Seq.{ext_get_or, get_or-take, length-take-le}
use lib.Ieee.{Float, nan, binary64, add}
use Rattle.net.specs.Net.{zero64}
use Rattle.rules.specs.Propensity.{summed, total}
use Rattle.rules.specs.RunningSums.{sums_from, SumsAreTotals, SumsGoOn, SumsStay}

-- ---- the sums

at_from : (s : Float) (xs : List Float) (j : ℕ) → j < length xs → get_or (sums_from s xs) j nan ≡ summed s (take (suc j) xs)
at_from s [] j h = absurd (omega arith)
at_from s (x ∷ xs) zero h = refl
at_from s (x ∷ xs) (suc j) h = at_from (add binary64 s x) xs j (omega arith)

pub sums_are_totals : SumsAreTotals
sums_are_totals xs j h = at_from zero64 xs j h

on_from_lem : (s : Float) (xs : List Float) (j : ℕ) → j < length xs → get_or (sums_from s xs) j nan ≡ add binary64 (summed s (take j xs)) (get_or xs j nan)
on_from_lem s [] j h = absurd (omega arith)
on_from_lem s (x ∷ xs) zero h = refl
on_from_lem s (x ∷ xs) (suc j) h = on_from_lem (add binary64 s x) xs j (omega arith)

pub sums_go_on : SumsGoOn
sums_go_on xs j h = on_from_lem zero64 xs j h

pub sums_stay : SumsStay
sums_stay k xs ys kept a b h s i l =
    s i l
    ∙ sums_are_totals xs i (omega arith)
    ∙ ap total (ext_get_or nan (take (suc i) xs) (take (suc i) ys) (long xs a ∙ sym (long ys b)) at)
    ∙ sym (sums_are_totals ys i (omega arith))
  where
    long : (zs : List Float) → k ≤ length zs → length (take (suc i) zs) ≡ suc i
    long zs g = length-take-le (suc i) zs (omega arith)

    at : (j : ℕ) → j < length (take (suc i) xs) → get_or (take (suc i) xs) j nan ≡ get_or (take (suc i) ys) j nan
    at j g =
        let r : j < suc i = omega (arith, long xs a) in
        get_or-take (suc i) xs j nan r ∙ h j (omega arith) ∙ sym (get_or-take (suc i) ys j nan r)
