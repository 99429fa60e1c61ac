-- A loop that goes through a list once and stores into each element what it works out of a state and that element, while the state takes a step
-- each turn. The list with its first i elements stored is defined by recursion, so one turn more, and all, are inductions. Assumes nothing.
use mathlib.Core.Path.{◌≡◌, refl, sym, ap, ◌∙◌}
use mathlib.Core.List.{List, [], ◌∷◌, map}
use Prim.Native.Nat.{ℕ, zero, suc, ◌+◌, ◌≤◌, ◌<◌}
use native.Mathlib.Nat.{le_of_suc-le-suc, not-suc-le-zero}
use native.Mathlib.Numerals.{add-one}
use native.Mathlib.Omega.{arith}
use lib.ListN.{length, get_or, set, length-set}
use Rattle.rng.specs.State.{State}
use Rattle.rng.specs.Xoshiro.{step}
use Rattle.c_face.specs.Drawn.{drawn, after}

module _ {A S : Type 0} (store : S → A → A) (next : S → S) where
  -- the list with its first i elements stored
  unfoldable pub swept : ℕ → S → List A → List A
  swept zero s xs = xs
  swept (suc i) s [] = []
  swept (suc i) s (x ∷ xs) = store s x ∷ swept i (next s) xs

  -- the state after i turns
  unfoldable pub moved : ℕ → S → S
  moved zero s = s
  moved (suc i) s = moved i (next s)

  moved_more : (i : ℕ) (s : S) → moved (suc i) s ≡ next (moved i s)
  unfolding moved
  moved_more zero s = refl
  moved_more (suc i) s = moved_more i (next s)

  swept_more : (d : A) (i : ℕ) (s : S) (xs : List A) → i < length xs →
      set (swept i s xs) i (store (moved i s) (get_or (swept i s xs) i d)) ≡ swept (suc i) s xs
  unfolding swept moved
  swept_more d i s [] h = absurd (not-suc-le-zero h)
  swept_more d zero s (x ∷ xs) h = refl
  swept_more d (suc i) s (x ∷ xs) h = ap (λ (l : List A). store s x ∷ l) (swept_more d i (next s) xs (le_of_suc-le-suc h))

  -- what holds after i turns, from the state s₀ and the list xs₀
  pub record Sweep (s₀ : S) (xs₀ : List A) (s : S) (xs : List A) (i : ℕ) : Type 0 where
    pub within : i ≤ length xs₀
    pub same : length xs ≡ length xs₀
    pub state : s ≡ moved i s₀
    pub cells : xs ≡ swept i s₀ xs₀

  pub sweep_none : (s : S) (xs : List A) → Sweep s xs s xs 0
  unfolding swept moved
  sweep_none s xs = record { within = omega arith; same = refl; state = refl; cells = refl }

  pub sweep_more : (d : A) {s₀ : S} {xs₀ : List A} {s : S} {xs : List A} {i : ℕ} {t : S} {v : A} → Sweep s₀ xs₀ s xs i →
      i < length xs → v ≡ store s (get_or xs i d) → t ≡ next s → Sweep s₀ xs₀ t (set xs i v) (i + 1)
  sweep_more d {s₀} {xs₀} {s} {xs} {i} {t} {v} m h e f =
      let l : i < length xs₀ = omega (arith, m.same) in
      record {
        within = omega arith;
        same = length-set xs i v ∙ m.same;
        state = rw add-one (f ∙ ap next m.state ∙ sym (moved_more i s₀));
        cells = rw add-one (rw (e, m.state, m.cells) (swept_more d i s₀ xs₀ l));
      }

-- all, where the state plays no part
pub swept_map : {A : Type 0} (f : A → A) (s : ℕ) (xs : List A) → swept (λ (t : ℕ) (x : A). f x) (λ (t : ℕ). t) (length xs) s xs ≡ map f xs
unfolding swept
swept_map f s [] = refl
swept_map f s (x ∷ xs) = ap (λ l. f x ∷ l) (swept_map f s xs)

-- all, where the elements play none
pub swept_drawn : {A : Type 0} (f : State → A) (s : State) (xs : List A) →
    swept (λ (t : State) (x : A). f t) step (length xs) s xs ≡ drawn f (length xs) s
unfolding swept
swept_drawn f s [] = refl
swept_drawn f s (x ∷ xs) = ap (λ l. f s ∷ l) (swept_drawn f (step s) xs)

pub moved_after : {A : Type 0} (f : State → A → A) (n : ℕ) (s : State) → moved f step n s ≡ after n s
unfolding moved
moved_after f zero s = refl
moved_after f (suc n) s = moved_after f n (step s)
