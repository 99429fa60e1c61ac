-- What a search over kept sums found is the jump's choice: where one transition after the other is passed over, what is left to do gives what the whole gives.
-- Assumes nothing.
use Prim.Native.Nat.{ℕ, zero, suc, ◌+◌, ◌≤◌, ◌<◌}
use mathlib.Core.Path.{◌≡◌, refl, sym, ap, ◌∙◌}
use mathlib.Core.Bool.{Bool, true, false, ◌&&◌}
use mathlib.Core.List.{List, [], ◌∷◌}
use mathlib.Core.Option.{Option, none, some}
use native.Mathlib.Omega.{arith}
use lib.ListN.{length, get_or, take}
use lib.Seq.{get_or-take, length-take-le}
use lib.Ieee.{Float, nan, binary64, add, lt, le}
use Rattle.net.specs.Net.{pick, zero64}
use Rattle.rules.specs.Jump.{chosen_from, chosen}
use Rattle.rules.specs.RunningSums.{sums_from, sum_at, SumsKept, LastPositive}
use Rattle.std.specs.Prelude.{Option as Answered, Some, None}
use Rattle.jump.specs.Answers.{choice_of, NonePositive, FindsLast}

-- whether a transition is chosen that has propensity a and running sum s
abbrev pub reached : Float → Float → Float → Bool
reached r a s = lt zero64 a && le r s

pub not_reached : (r a s : Float) → le r s ≡ false → reached r a s ≡ false
not_reached r a s e = go (lt zero64 a)
  where
    go : (c : Bool) → (c && le r s) ≡ false
    go true = e
    go false = refl

-- ---- from a transition on, whose number is j

module _ (r : Float) where
  stops : (s : Float) (j : ℕ) (last : Option ℕ) (xs : List Float) (i : ℕ) → i < length xs → reached r (get_or xs i nan) (get_or (sums_from s xs) i nan) ≡ true
      → ((k : ℕ) → k < i → reached r (get_or xs k nan) (get_or (sums_from s xs) k nan) ≡ false) → chosen_from r s j last xs ≡ some (j + i)
  stops s j last [] i h q f = absurd (omega arith)
  stops s j last (x ∷ xs) zero h q f = let z : some j ≡ some (j + 0) = ap some (omega arith) in rw q z
  stops s j last (x ∷ xs) (suc i) h q f =
      let z : some (suc j + i) ≡ some (j + suc i) = ap some (omega arith) in
      rw (f 0 (omega arith)) (stops (add binary64 s x) (suc j) _ xs i (omega arith) q (λ k l. f (suc k) (omega arith)) ∙ z)

  none_left : (s : Float) (j : ℕ) (last : Option ℕ) (xs : List Float) → NonePositive xs → chosen_from r s j last xs ≡ last
  none_left s j last [] h = refl
  none_left s j last (x ∷ xs) h = rw (h 0 (omega arith)) (none_left (add binary64 s x) (suc j) last xs (λ i l. h (suc i) (omega arith)))

  fails : (s : Float) (j : ℕ) (last : Option ℕ) (xs : List Float)
      → ((k : ℕ) → k < length xs → reached r (get_or xs k nan) (get_or (sums_from s xs) k nan) ≡ false)
      → (i : ℕ) → LastPositive xs i → chosen_from r s j last xs ≡ some (j + i)
  fails s j last [] f i w = absurd (omega (arith, w.inside))
  fails s j last (x ∷ xs) f zero w =
      let z : some j ≡ some (j + 0) = ap some (omega arith) in
      rw (f 0 (omega arith))
      (none_left (add binary64 s x) (suc j) _ xs (λ i l. w.behind (suc i) (omega arith) (omega arith)) ∙ ap (λ (c : Bool). pick c (some j) last) w.positive ∙ z)
  fails s j last (x ∷ xs) f (suc i) w =
      let z : some (suc j + i) ≡ some (j + suc i) = ap some (omega arith) in
      rw (f 0 (omega arith))
      (fails (add binary64 s x) (suc j) _ xs (λ k l. f (suc k) (omega arith)) i (record {
        inside = omega (arith, w.inside);
        positive = w.positive;
        behind = λ k a b. w.behind (suc k) (omega arith) (omega arith);
      })
      ∙ z)

-- ---- over the first k of a table

module _ (k : ℕ) (props : List Float) (enough : k ≤ length props) where
  as_many : length (take k props) ≡ k
  as_many = length-take-le k props enough

  value : (i : ℕ) → i < k → get_or (take k props) i nan ≡ get_or props i nan
  value i h = get_or-take k props i nan h

  module _ (r : Float) (sums : List Float) (s : SumsKept k (take k props) sums) where
    same : (i : ℕ) → i < k → reached r (get_or (take k props) i nan) (sum_at (take k props) i) ≡ reached r (get_or props i nan) (get_or sums i nan)
    same i h = λ t. reached r (value i h t) (sym (s i h) t)

    pub stop_chosen : (j : ℕ) → j < k → lt zero64 (get_or props j nan) ≡ true → le r (get_or sums j nan) ≡ true
        → ((i : ℕ) → i < j → reached r (get_or props i nan) (get_or sums i nan) ≡ false) → some j ≡ chosen r (take k props)
    stop_chosen j h p q f =
        let z : some (0 + j) ≡ some j = ap some (omega arith) in
        sym (stops r zero64 0 none (take k props) j (omega (arith, as_many)) (same j h ∙ simp (p, q)) (λ i l. same i (omega arith) ∙ f i l) ∙ z)

    pub fail_chosen : ((i : ℕ) → i < k → reached r (get_or props i nan) (get_or sums i nan) ≡ false) → (c : Answered ℕ) → FindsLast (take k props) c
        → choice_of c ≡ chosen r (take k props)
    fail_chosen f None w = sym (none_left r zero64 0 none (take k props) w)
    fail_chosen f (Some j) w =
        let z : some (0 + j) ≡ some j = ap some (omega arith) in
        sym (fails r zero64 0 none (take k props) (λ i l. let b : i < k = omega (arith, as_many) in same i b ∙ f i b) j w ∙ z)

-- ---- one transition more, from below or from above
