-- A step of xoshiro256** and a step back undo each other, in either order. Assumes nothing.
use Rattle.std.proofs.Common.{◌≡◌, ℕ, ◌+◌, ◌^◌, ◌<◌, ap, ◌∙◌, ap₂, mod-lt, pow_pos}
use lib.Bits.{bit_xor, xor_lt, xor_comm, xor_zero_r}
use Rattle.words.specs.Rotation.{rotl}
use Rattle.words.proofs.Rotation.{rotl_parts}
use Rattle.rng.specs.Xoshiro.{step}
use Rattle.rng.specs.Laws.{unsheared, step_back, BackAfterStep, StepAfterBack, StepStays, BackStays}
use Rattle.rng.proofs.Turned.{turned, turned_lt, turned_back}
use Rattle.rng.proofs.Linear.{rotl_45}
use Rattle.rng.proofs.Xor.{shl, shl_xor, shl_shl, shl_out, xor_assoc, xor_twice, xor_again, xor_through, xor_right_comm}

-- ---- rotations by 45 and by the 19 that are left of 64

rotl_19 : (x : ℕ) → x < 2 ^ 64 → rotl x 19 ≡ turned 45 19 x
rotl_19 x h = rotl_parts x 19 h

rotl_45_lt : (x : ℕ) → x < 2 ^ 64 → rotl x 45 < 2 ^ 64
rotl_45_lt x h = rw (rotl_45 x h) (turned_lt 19 45 x h)

rotl_19_lt : (x : ℕ) → x < 2 ^ 64 → rotl x 19 < 2 ^ 64
rotl_19_lt x h = rw (rotl_19 x h) (turned_lt 45 19 x h)

rotl_19_45 : (x : ℕ) → x < 2 ^ 64 → rotl (rotl x 45) 19 ≡ x
rotl_19_45 x h = rotl_19 (rotl x 45) (rotl_45_lt x h) ∙ ap (turned 45 19) (rotl_45 x h) ∙ turned_back 19 45 x h

rotl_45_19 : (x : ℕ) → x < 2 ^ 64 → rotl (rotl x 19) 45 ≡ x
rotl_45_19 x h = rotl_45 (rotl x 19) (rotl_19_lt x h) ∙ ap (turned 19 45) (rotl_19 x h) ∙ turned_back 45 19 x h

-- ---- x ^ (x << 17): a shift by 4 * 17 = 68 leaves nothing

module _ (x : ℕ) where
  abbrev u : ℕ
  u = bit_xor x (shl x 17)

  -- each shift of u is a difference of two shifts of x, and the sum of the four telescopes
  shifted : (k : ℕ) → shl u k ≡ bit_xor (shl x k) (shl x (17 + k))
  shifted k = shl_xor x (shl x 17) k ∙ ap (bit_xor (shl x k)) (shl_shl x 17 k)

  last : shl u 51 ≡ shl x 51
  last = shifted 51 ∙ ap (bit_xor (shl x 51)) (shl_out x 4) ∙ xor_zero_r (shl x 51)

  pub unsheared_of : unsheared u ≡ x
  unsheared_of =
      ap (λ (a : ℕ). bit_xor (bit_xor (bit_xor u a) (shl u 34)) (shl u 51)) (shifted 17)
      ∙ ap (λ (a : ℕ). bit_xor (bit_xor a (shl u 34)) (shl u 51)) (xor_through x (shl x 17) (shl x 34))
      ∙ ap (λ (a : ℕ). bit_xor (bit_xor (bit_xor x (shl x 34)) a) (shl u 51)) (shifted 34)
      ∙ ap (λ (a : ℕ). bit_xor a (shl u 51)) (xor_through x (shl x 34) (shl x 51))
      ∙ ap (bit_xor (bit_xor x (shl x 51))) last
      ∙ xor_twice x (shl x 51)

-- and the other way round: u ^ w with w = (u << 17) ^ (u << 34) ^ (u << 51), shifted by 17, is w
module _ (u : ℕ) where
  abbrev w : ℕ
  w = bit_xor (bit_xor (shl u 17) (shl u 34)) (shl u 51)

  is : unsheared u ≡ bit_xor u w
  is = ap (λ (a : ℕ). bit_xor a (shl u 51)) (xor_assoc u (shl u 17) (shl u 34)) ∙ xor_assoc u (bit_xor (shl u 17) (shl u 34)) (shl u 51)

  moved : shl (unsheared u) 17 ≡ w
  moved =
      shl_xor (bit_xor (bit_xor u (shl u 17)) (shl u 34)) (shl u 51) 17
      ∙ ap₂ bit_xor
      (shl_xor (bit_xor u (shl u 17)) (shl u 34) 17
      ∙ ap₂ bit_xor (shl_xor u (shl u 17) 17 ∙ ap (bit_xor (shl u 17)) (shl_shl u 17 17)) (shl_shl u 34 17))
      (shl_shl u 51 17 ∙ shl_out u 4)
      ∙ xor_zero_r w

  pub sheared_of : bit_xor (unsheared u) (shl (unsheared u) 17) ≡ u
  sheared_of = ap₂ bit_xor is moved ∙ xor_twice u w

unsheared_lt : (u : ℕ) → u < 2 ^ 64 → unsheared u < 2 ^ 64
unsheared_lt u h = xor_lt 64 _ _ (xor_lt 64 _ _ (xor_lt 64 u _ h (mod-lt _ (pow_pos 64))) (mod-lt _ (pow_pos 64))) (mod-lt _ (pow_pos 64))

-- ---- the states

pub step_stays : StepStays
step_stays s h = record {
  in0 = xor_lt 64 _ _ h.in0 (xor_lt 64 _ _ h.in3 h.in1);
  in1 = xor_lt 64 _ _ h.in1 (xor_lt 64 _ _ h.in2 h.in0);
  in2 = xor_lt 64 _ _ (xor_lt 64 _ _ h.in2 h.in0) (mod-lt _ (pow_pos 64));
  in3 = rotl_45_lt _ (xor_lt 64 _ _ h.in3 h.in1);
}

pub back_stays : BackStays
back_stays s h =
    let v = rotl_19_lt s.s3 h.in3 in
    let x0 = xor_lt 64 s.s0 (rotl s.s3 19) h.in0 v in
    let x1 = unsheared_lt (bit_xor s.s1 s.s2) (xor_lt 64 s.s1 s.s2 h.in1 h.in2) in
    record { in0 = x0; in1 = x1; in2 = xor_lt 64 _ _ (xor_lt 64 _ _ h.in1 x0) x1; in3 = xor_lt 64 _ _ v x1 }

-- ---- a step, and a step back

pub back_after_step : BackAfterStep
back_after_step s h =
    let x2 = bit_xor s.s2 s.s0 in
    let x3 = bit_xor s.s3 s.s1 in
    let v : rotl (rotl x3 45) 19 ≡ x3 = rotl_19_45 x3 (xor_lt 64 s.s3 s.s1 h.in3 h.in1) in
    let e0 : (step_back (step s)).s0 ≡ s.s0 = ap (bit_xor (bit_xor s.s0 x3)) v ∙ xor_twice s.s0 x3 in
    let e1 : (step_back (step s)).s1 ≡ s.s1 = ap unsheared (xor_through s.s1 x2 (shl s.s1 17)) ∙ unsheared_of s.s1 in
    let e2 : (step_back (step s)).s2 ≡ s.s2 =
    ap₂ (λ (a b : ℕ). bit_xor (bit_xor (bit_xor s.s1 x2) a) b) e0 e1
    ∙ xor_right_comm (bit_xor s.s1 x2) s.s0 s.s1
    ∙ ap (λ (a : ℕ). bit_xor a s.s0) (ap (λ (a : ℕ). bit_xor a s.s1) (xor_comm s.s1 x2) ∙ xor_twice x2 s.s1)
    ∙ xor_twice s.s2 s.s0 in
    let e3 : (step_back (step s)).s3 ≡ s.s3 = ap₂ bit_xor v e1 ∙ xor_twice s.s3 s.s1 in
    λ i. record { s0 = e0 i; s1 = e1 i; s2 = e2 i; s3 = e3 i }

-- ---- a step back, and a step

pub step_after_back : StepAfterBack
step_after_back s h =
    let v = rotl s.s3 19 in
    let x0 = bit_xor s.s0 v in
    let u = bit_xor s.s1 s.s2 in
    let x1 = unsheared u in
    let e3 : bit_xor (bit_xor v x1) x1 ≡ v = xor_twice v x1 in
    let e2 : bit_xor (bit_xor (bit_xor s.s1 x0) x1) x0 ≡ bit_xor s.s1 x1 = xor_right_comm (bit_xor s.s1 x0) x1 x0 ∙ ap (λ (a : ℕ). bit_xor a x1) (xor_twice s.s1 x0) in
    let f0 : (step (step_back s)).s0 ≡ s.s0 = ap (bit_xor x0) e3 ∙ xor_twice s.s0 v in
    let f1 : (step (step_back s)).s1 ≡ s.s1 = ap (bit_xor x1) (e2 ∙ xor_comm s.s1 x1) ∙ xor_again x1 s.s1 in
    let f2 : (step (step_back s)).s2 ≡ s.s2 =
    ap (λ (a : ℕ). bit_xor a (shl x1 17)) e2 ∙ xor_assoc s.s1 x1 (shl x1 17) ∙ ap (bit_xor s.s1) (sheared_of u) ∙ xor_again s.s1 s.s2 in
    let f3 : (step (step_back s)).s3 ≡ s.s3 = ap (λ (a : ℕ). rotl a 45) e3 ∙ rotl_45_19 s.s3 h.in3 in
    λ i. record { s0 = f0 i; s1 = f1 i; s2 = f2 i; s3 = f3 i }
