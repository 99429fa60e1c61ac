-- The mask of the bits that are set in a number is the number, of so many bits: bit by bit from the lowest. Assumes nothing.
use mathlib.Core.Path.{◌≡◌, sym, ap, ◌∙◌}
use mathlib.Core.List.{List, ◌∷◌}
use Prim.Native.Nat.{ℕ, zero, suc, ◌+◌, ◌*◌, ◌/◌, ◌%◌, ◌^◌, ◌<◌}
use native.Mathlib.Nat.{add-mul, mul_assoc, mul_comm, mod-eq_of_lt, mod-lt, mod-one, mul-one, pow-suc, pow-zero, zero-mul, le_of_suc-le-suc, not-suc-le-zero}
use native.Mathlib.Omega.{arith}
use lib.Arith.{mod-mul}
use lib.Dec.{eqb}
use lib.Pow.{pow_pos}
use Rattle.net.specs.Net.{pick}
use Rattle.gates.specs.Gated.{bits_from}
use Rattle.c_face.specs.Diffused.{mask_of}

-- one bit more
mask_bit : (b p : ℕ) (further : List ℕ) → b < 2 → mask_of (pick (eqb b 1) (p ∷ further) further) ≡ b * 2 ^ p + mask_of further
mask_bit zero p further h = omega arith
mask_bit (suc zero) p further h = omega arith
mask_bit (suc (suc b)) p further h = absurd (not-suc-le-zero (le_of_suc-le-suc (le_of_suc-le-suc h)))

regroup : (b y z : ℕ) → b * z + y * (z * 2) ≡ (y * 2 + b) * z
regroup b y z =
    let e : (y * 2 + b) * z ≡ y * 2 * z + b * z = add-mul (y * 2) b z in
    let f : y * 2 * z ≡ y * (z * 2) = mul_assoc y 2 z ∙ ap (λ (n : ℕ). y * n) (mul_comm 2 z) in
    omega arith

mask_bits : (p k x : ℕ) → mask_of (bits_from p k x) ≡ (x % 2 ^ k) * 2 ^ p
unfolding bits_from
mask_bits p zero x = sym (ap (λ (n : ℕ). x % n * 2 ^ p) (pow-zero 2) ∙ ap (λ (n : ℕ). n * 2 ^ p) (mod-one x) ∙ zero-mul (2 ^ p))
mask_bits p (suc k) x =
    mask_bit (x % 2) p (bits_from (suc p) k (x / 2)) (mod-lt x (omega arith))
    ∙ ap (λ (n : ℕ). x % 2 * 2 ^ p + n) (mask_bits (suc p) k (x / 2) ∙ ap (λ (n : ℕ). x / 2 % 2 ^ k * n) (pow-suc 2 p))
    ∙ regroup (x % 2) (x / 2 % 2 ^ k) (2 ^ p)
    ∙ ap (λ (n : ℕ). n * 2 ^ p) (sym (ap (λ (n : ℕ). x % n) (pow-suc 2 k) ∙ mod-mul x (pow_pos k) (omega arith)))

-- of 64 bits, all of them
pub mask_whole : (x : ℕ) → x < 2 ^ 64 → mask_of (bits_from 0 64 x) ≡ x
mask_whole x h = mask_bits 0 64 x ∙ mul-one (x % 2 ^ 64) ∙ mod-eq_of_lt h
