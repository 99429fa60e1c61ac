-- The table of skips: it is filled cell by cell, and a loop may step over places whose change is 0, since noise and drift leave them as they are;
-- where it stops, the change is not 0. Assumes nothing.
use Prim.Native.Nat.{ℕ, ◌+◌, ◌*◌, ◌/◌, ◌%◌, ◌≤◌, ◌<◌, max}
use mathlib.Core.Path.{◌≡◌, refl, sym, ap, ◌∙◌, subst}
use mathlib.Core.Bool.{Bool, true, false, not}
use mathlib.Core.List.{List}
use native.Mathlib.Omega.{arith}
use native.Mathlib.Decide.{dec_lt}
use lib.Dec.{eqb, ltb}
use lib.ListN.{length, get_or, set}
use lib.Seq.{get_or-set_same, get_or-set_other}
use lib.Ieee.{Float, nan, binary64, add, mul, eq, ne}
use borrow.Author.Tests.{eqb-true, eqb-false, ltb-true, ltb-false}
use Rattle.net.specs.Net.{pick, zero64}
use Rattle.sde.specs.Diffusion.{noise_by, drift_by}
use Rattle.sde.specs.Slots.{Skip, Skips, SkipsOf}
use Rattle.engine.proofs.Arcs.{on_bool}
use Rattle.sde.proofs.Each.{MapTo}

-- ---- a test for 0

not_false : (b : Bool) → not b ≡ false → b ≡ true
not_false true h = refl
not_false false h = sym h

not_true : (b : Bool) → not b ≡ true → b ≡ false
not_true true h = sym h
not_true false h = refl

pub is_zero : (x : Float) → ne x zero64 ≡ false → eq x zero64 ≡ true
unfolding ne
is_zero x h = not_false (eq x zero64) h

pub no_zero : (x : Float) → ne x zero64 ≡ true → eq x zero64 ≡ false
unfolding ne
no_zero x h = not_true (eq x zero64) h

-- ---- the table

-- one cell more
pub skips_more : (P : ℕ → ℕ → Type 0) (xs : List ℕ) (c v : ℕ) → c < length xs → P c v → ((b : ℕ) → b < c → P b (get_or xs b 0))
    → (b : ℕ) → b < c + 1 → P b (get_or (set xs c v) b 0)
skips_more P xs c v h e all b g =
    on_bool (eqb b c)
    (λ y.
    let s : c ≡ b = sym (eqb-true b c y) in
    let w : v ≡ get_or (set xs c v) b 0 = sym (ap (λ (x : ℕ). get_or (set xs c v) x 0) (sym s) ∙ get_or-set_same xs c v 0 h) in
    subst (P b) w (subst (λ (x : ℕ). P x v) s e))
    (λ y.
    let s = eqb-false b c y in
    subst (P b) (sym (get_or-set_other xs c b v 0 s)) (all b (omega (arith, s))))

-- the cells of transition j, and the first of them
module _ (places j : ℕ) (changes : List Float) (skips : List ℕ) where
  pub skips_of : (transitions : ℕ) → j < transitions → places ≤ 32 → Skips places transitions changes skips → SkipsOf places j changes skips
  skips_of transitions h small all p g =
      let d : (33 * j + p) / 33 ≡ j = omega arith in
      let r : (33 * j + p) % 33 ≡ p = omega arith in
      subst (λ (x : ℕ). Skip places (32 * x) changes p (get_or skips (33 * j + p) 0)) d
      (subst (λ (x : ℕ). Skip places (32 * ((33 * j + p) / 33)) changes x (get_or skips (33 * j + p) 0)) r (all (33 * j + p) (omega arith)))

  pub skips_first : SkipsOf places j changes skips → Skip places (32 * j) changes 0 (get_or skips (33 * j) 0)
  skips_first all =
      let d : 33 * j + 0 ≡ 33 * j = omega arith in
      subst (λ (x : ℕ). Skip places (32 * j) changes 0 (get_or skips x 0)) d (all 0 (omega arith))

-- ---- the way from p on

-- no place from p to before q is changed; place q has yet to be looked at
pub record Idle (places from : ℕ) (changes : List Float) (p q : ℕ) : Type 0 where
  pub low : p ≤ q
  pub high : p ≤ places → q ≤ places
  pub past : places < p → q ≡ p
  pub idle : (r : ℕ) → p ≤ r → r < q → eq (get_or changes (from + r) nan) zero64 ≡ true

module _ (places from : ℕ) (changes : List Float) (p q : ℕ) where
  pub idle_none : p ≡ q → Idle places from changes p q
  idle_none e = record { low = omega arith; high = λ h. omega arith; past = λ h. sym e; idle = λ r l h. absurd (omega arith) }

  pub idle_more : q < places → Idle places from changes p q → eq (get_or changes (from + q) nan) zero64 ≡ true → Idle places from changes p (q + 1)
  idle_more h s e =
      record {
        low = omega (arith, s.low);
        high = λ k. omega arith;
        past = λ k. absurd (omega (arith, s.low));
        idle = λ r l k. on_bool (eqb r q) (λ y. ap (λ (x : ℕ). eq (get_or changes (from + x) nan) zero64) (eqb-true r q y) ∙ e) (λ y. s.idle r l (omega (arith, eqb-false r q y)));
      }

  -- at a place that is changed, or past the last
  pub skip_here : Idle places from changes p q → (q < places → eq (get_or changes (from + q) nan) zero64 ≡ false) → Skip places from changes p q
  skip_here s e = record { low = s.low; high = s.high; idle = s.idle; changed = e }

  -- past the last place
  pub skip_end : Idle places from changes p q → places ≤ q → (r : ℕ) → r ≡ max places p → Skip places from changes p r
  skip_end s h r e = by_order (dec_lt places p)
    where
      by_order : Dec (places < p) → Skip places from changes p r
      by_order (yes k) =
          let z = s.past k in
          record { low = omega arith; high = λ t. absurd (omega arith); idle = λ b l t. absurd (omega arith); changed = λ t. absurd (omega arith) }
      by_order (no k) =
          let z = s.high (omega arith) in
          record { low = omega arith; high = λ t. omega arith; idle = λ b l t. s.idle b l (omega arith); changed = λ t. absurd (omega arith) }

-- ---- the loop

pub map_skip : (f : ℕ → Float → Float) (p q : ℕ) (before after : List Float) → p ≤ q → ((r : ℕ) → p ≤ r → r < q → (v : Float) → f r v ≡ v)
    → MapTo f p before after → MapTo f q before after
map_skip f p q before after h same m =
    record {
      long = m.long;
      done = λ r k. on_bool (ltb r p) (λ y. m.done r (ltb-true r p y)) (λ y. m.rest r (ltb-false r p y) ∙ sym (same r (ltb-false r p y) k (get_or before r nan)));
      rest = λ r k. m.rest r (omega arith);
    }

pub noise_idle : (d noise v : Float) → eq d zero64 ≡ true → noise_by d noise v ≡ v
noise_idle d noise v e = ap (λ (b : Bool). pick b v (add binary64 v (mul binary64 d noise))) e

pub drift_idle : (d a dt v : Float) → eq d zero64 ≡ true → drift_by d a dt v ≡ v
drift_idle d a dt v e = ap (λ (b : Bool). pick b v (add binary64 v (mul binary64 (mul binary64 d a) dt))) e

pub noise_changed : (d noise v : Float) → eq d zero64 ≡ false → add binary64 v (mul binary64 d noise) ≡ noise_by d noise v
noise_changed d noise v e = sym (ap (λ (b : Bool). pick b v (add binary64 v (mul binary64 d noise))) e)

pub drift_changed : (d a dt v : Float) → eq d zero64 ≡ false → add binary64 v (mul binary64 (mul binary64 d a) dt) ≡ drift_by d a dt v
drift_changed d a dt v e = sym (ap (λ (b : Bool). pick b v (add binary64 v (mul binary64 (mul binary64 d a) dt))) e)
