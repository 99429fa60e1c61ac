-- The state change of xoshiro256** is linear: shifts and rotations of words pass through the exclusive-or. Assumes nothing.
use Rattle.std.proofs.Common.{◌≡◌, ℕ, ◌^◌, ◌<◌, sym, ap, ◌∙◌, ap₂}
use lib.Bits.{bit_xor, xor_lt}
use Rattle.words.specs.Rotation.{rotl}
use Rattle.words.proofs.Rotation.{rotl_parts}
use Rattle.rng.specs.Laws.{Linear}
use Rattle.rng.proofs.Turned.{turned, turned_xor}
use Rattle.rng.proofs.Xor.{shl, shl_xor, xor_four}

-- ---- a rotation of words by 45

pub rotl_45 : (x : ℕ) → x < 2 ^ 64 → rotl x 45 ≡ turned 19 45 x
rotl_45 x h = rotl_parts x 45 h

rotl_45_xor : (a b : ℕ) → a < 2 ^ 64 → b < 2 ^ 64 → rotl (bit_xor a b) 45 ≡ bit_xor (rotl a 45) (rotl b 45)
rotl_45_xor a b ha hb =
    rotl_45 (bit_xor a b) (xor_lt 64 a b ha hb) ∙ turned_xor 19 45 a b ha hb ∙ sym (ap₂ bit_xor (rotl_45 a ha) (rotl_45 b hb))

-- ---- the step

pub linear : Linear
linear s t h k =
    let x2 = xor_four s.s2 t.s2 s.s0 t.s0 in
    let x3 = xor_four s.s3 t.s3 s.s1 t.s1 in
    λ i. record {
      s0 = (ap (bit_xor (bit_xor s.s0 t.s0)) x3 ∙ xor_four s.s0 t.s0 (bit_xor s.s3 s.s1) (bit_xor t.s3 t.s1)) i;
      s1 = (ap (bit_xor (bit_xor s.s1 t.s1)) x2 ∙ xor_four s.s1 t.s1 (bit_xor s.s2 s.s0) (bit_xor t.s2 t.s0)) i;
      s2 = (ap₂ bit_xor x2 (shl_xor s.s1 t.s1 17) ∙ xor_four (bit_xor s.s2 s.s0) (bit_xor t.s2 t.s0) (shl s.s1 17) (shl t.s1 17)) i;
      s3 = (ap (λ (x : ℕ). rotl x 45) x3
          ∙ rotl_45_xor (bit_xor s.s3 s.s1) (bit_xor t.s3 t.s1) (xor_lt 64 s.s3 s.s1 h.in3 h.in1) (xor_lt 64 t.s3 t.s1 k.in3 k.in1)) i;
    }
