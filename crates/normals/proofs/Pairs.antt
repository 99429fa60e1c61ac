-- The search for an accepted pair, one pair at a time: the pairs that are left come to the whole. Assumes nothing.
use Prim.Native.Nat.{ℕ, suc, ◌+◌, ◌-◌, ◌≤◌, ◌<◌}
use mathlib.Core.Path.{◌≡◌, sym, ap, ◌∙◌}
use mathlib.Core.Bool.{Bool, true, false}
use mathlib.Core.Option.{Option, none, some}
use native.Mathlib.Omega.{arith}
use lib.Ieee.{Float, binary64, mul}
use Rattle.refusals.specs as Refusal
use Rattle.rng.specs.State.{State as Generator}
use Rattle.rng.specs.Xoshiro.{step}
use Rattle.rules.specs.Step.{refused, given}
use Rattle.normals.specs.Normal.{Pair, coordinate, pair_of, pair, accepted, scale, or_else, first_accepted, Sampler, Drawn, drawn_from, spare_or, normal}

module _ (k i : ℕ) (g : Generator) where
  search_step : i < k → first_accepted (k - i) g ≡ or_else (accepted (pair g).sq) (pair g) (first_accepted (k - (i + 1)))
  unfolding first_accepted
  search_step h =
      let d : k - i ≡ suc (k - (i + 1)) = omega arith in
      ap (λ (n : ℕ). first_accepted n g) d

  -- a pair that is accepted, one that is not, and no pair left; p is the pair that was drawn
  module _ (p : Pair) (e : p ≡ pair g) (b : Bool) (t : b ≡ accepted p.sq) where
    judged : b ≡ accepted (pair g).sq
    judged = t ∙ ap (λ (q : Pair). accepted q.sq) e

    pub search_stop : i < k → b ≡ true → some p ≡ first_accepted (k - i) g
    search_stop h y = sym (search_step h ∙ ap (λ (b : Bool). or_else b (pair g) (first_accepted (k - (i + 1)))) (sym judged ∙ y) ∙ ap some (sym e))

    pub search_go : i < k → b ≡ false → first_accepted (k - (i + 1)) p.generator ≡ first_accepted (k - i) g
    search_go h y =
        ap (λ (q : Pair). first_accepted (k - (i + 1)) q.generator) e
        ∙ sym (search_step h ∙ ap (λ (b : Bool). or_else b (pair g) (first_accepted (k - (i + 1)))) (sym judged ∙ y))

  pub search_end : k ≤ i → none ≡ first_accepted (k - i) g
  unfolding first_accepted
  search_end h =
      let d : k - i ≡ 0 = omega arith in
      sym (ap (λ (n : ℕ). first_accepted n g) d)

-- two draws one after the other
pub pair_drawn : {u1 u2 : Float} {g1 g2 : Generator} (g : Generator)
    → u1 ≡ coordinate g → g1 ≡ step g → u2 ≡ coordinate g1 → g2 ≡ step g1 → pair_of u1 u2 g2 ≡ pair g
pair_drawn g e d f h = λ i. pair_of (e i) ((f ∙ ap coordinate d) i) ((h ∙ ap step d) i)

-- ---- a draw

module _ (s : Sampler) where
  pub spare_given : s.waiting ≡ true
      → ◌≡◌ {A = Drawn} (record { answer = given s.spare; sampler = record { generator = s.generator; spare = s.spare; waiting = false } }) (normal s)
  unfolding normal
  spare_given y = sym (ap (λ (b : Bool). spare_or b s) y)

  new_pair : s.waiting ≡ false → normal s ≡ drawn_from s (first_accepted 128 s.generator)
  unfolding normal
  new_pair y = ap (λ (b : Bool). spare_or b s) y

  -- what the search found
  module _ (w : s.waiting ≡ false) where
    searched : (o : Option Pair) → o ≡ first_accepted 128 s.generator → normal s ≡ drawn_from s o
    searched o e = new_pair w ∙ ap (drawn_from s) (sym e)

    pub drawn_value : (p : Pair) → some p ≡ first_accepted 128 s.generator → (m : Float) → m ≡ scale p.sq
        → ◌≡◌ {A = Drawn} (record {
          answer = given (mul binary64 p.u1 m);
          sampler = record { generator = p.generator; spare = mul binary64 p.u2 m; waiting = true };
        }) (normal s)
    drawn_value p e m d = (λ i. record {
      answer = given (mul binary64 p.u1 (d i));
      sampler = record { generator = p.generator; spare = mul binary64 p.u2 (d i); waiting = true };
    }) ∙ sym (searched (some p) e)

    pub drawn_nothing : none ≡ first_accepted 128 s.generator → ◌≡◌ {A = Drawn} (record { answer = refused Refusal.no_normal; sampler = s }) (normal s)
    drawn_nothing e = sym (searched none e)
