-- A rotation by d of a word of e + d bits, as its two parts, for any two lengths e and d: it stays a word, the rotation by e undoes it, and it passes through
-- the exclusive-or. Assumes nothing.
use Rattle.std.proofs.Common.{◌≡◌, ℕ, ◌+◌, ◌*◌, ◌/◌, ◌%◌, ◌^◌, ◌<◌, sym, ◌∙◌, ap₂, mod-lt, pow_pos, pow-add, shr_lt}
use lib.Arith.{digits_lt}
use lib.Bits.{bit_xor, xor_shr, xor_mod, xor_block}
use lib.Pow.{split, high, low}

-- the lower e bits above the upper d
abbrev pub turned : ℕ → ℕ → ℕ → ℕ
turned e d x = x % 2 ^ e * 2 ^ d + x / 2 ^ e

pub turned_lt : (e d x : ℕ) → x < 2 ^ (d + e) → turned e d x < 2 ^ (e + d)
turned_lt e d x h = rw (pow-add 2 e d) (digits_lt (mod-lt x (pow_pos e)) (shr_lt d e h))

pub turned_back : (e d x : ℕ) → x < 2 ^ (d + e) → turned d e (turned e d x) ≡ x
turned_back e d x h =
    let upper : x / 2 ^ e < 2 ^ d = shr_lt d e h in
    ap₂ (λ (a b : ℕ). a * 2 ^ e + b) (low (x % 2 ^ e) d upper) (high (x % 2 ^ e) d upper) ∙ split x e

pub turned_xor : (e d a b : ℕ) → a < 2 ^ (d + e) → b < 2 ^ (d + e) → turned e d (bit_xor a b) ≡ bit_xor (turned e d a) (turned e d b)
turned_xor e d a b ha hb =
    ap₂ (λ (x y : ℕ). x * 2 ^ d + y) (xor_mod a b e) (xor_shr a b e)
    ∙ sym (xor_block d (a % 2 ^ e) (b % 2 ^ e) (a / 2 ^ e) (b / 2 ^ e) (shr_lt d e ha) (shr_lt d e hb))
