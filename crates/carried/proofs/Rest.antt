-- A test along a list, in the library's words and the rules'.
use Rattle.std.proofs.Common.{◌≡◌, ℕ, Bool, true, false, not, ◌&&◌, ◌||◌, leb, List, [], ◌∷◌, ◌^◌, refl, ap}
use Rattle.std.specs.List.{list_all, list_any}
use Rattle.net.specs.Tests.{any}
use Rattle.rules.specs.Step.{counts_fit}

module _ {A : Type 0} (f : A → Bool) where
  pub any_found : (xs : List A) → list_any f xs ≡ any f xs
  any_found [] = refl
  any_found (x ∷ xs) = ap (λ (b : Bool). f x || b) (any_found xs)

  pub none_amiss : (xs : List A) → list_all f xs ≡ not (any (λ (x : A). not (f x)) xs)
  none_amiss [] = refl
  none_amiss (x ∷ xs) = go (f x) _ _ (none_amiss xs)
    where
      go : (b r s : Bool) → r ≡ not s → (b && r) ≡ not (not b || s)
      go true r s e = e
      go false r s e = refl

pub few_counts : (xs : List ℕ) → list_all (λ (x : ℕ). leb x (2 ^ 53)) xs ≡ counts_fit xs
few_counts [] = refl
few_counts (x ∷ xs) = ap (λ (b : Bool). leb x (2 ^ 53) && b) (few_counts xs)
