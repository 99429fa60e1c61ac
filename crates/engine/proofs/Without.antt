-- What is in one word and not in another, bit by bit. Assumes nothing.
use Prim.Native.Nat.{ℕ, zero, suc, ◌/◌, ◌%◌, ◌^◌, ◌<◌}
use mathlib.Core.Path.{◌≡◌, refl, ap, ◌∙◌}
use mathlib.Core.Bool.{Bool, true, false, ◌&&◌, not}
use native.Mathlib.Omega.{arith}
use native.Mathlib.Nat.{mod-lt}
use lib.Dec.{eqb}
use lib.Bits.{bit_and, bit_xor, xor_shr, xor_mod}
use Rattle.words.specs.Bits.{bit}
use Rattle.words.proofs.Bits.{bit_and_lem}

abbrev differs : Bool → Bool → Bool
differs true b = not b
differs false b = b

bit_xor_lem : (a b j : ℕ) → bit (bit_xor a b) j ≡ differs (bit a j) (bit b j)
unfolding bit
bit_xor_lem a b j =
    ap (λ (z : ℕ). eqb (z % 2) 1) (xor_shr a b j) ∙ ap (λ (z : ℕ). eqb z 1) (xor_mod (a / 2 ^ j) (b / 2 ^ j) 1) ∙ digits (a / 2 ^ j) (b / 2 ^ j)
  where
    go : (r s : ℕ) → r < 2 → s < 2 → eqb (bit_xor r s) 1 ≡ differs (eqb r 1) (eqb s 1)
    go zero zero l k = refl
    go zero (suc zero) l k = refl
    go (suc zero) zero l k = refl
    go (suc zero) (suc zero) l k = refl
    go (suc (suc r)) s l k = absurd (omega arith)
    go zero (suc (suc s)) l k = absurd (omega arith)
    go (suc zero) (suc (suc s)) l k = absurd (omega arith)

    digits : (x y : ℕ) → eqb (bit_xor (x % 2) (y % 2)) 1 ≡ differs (eqb (x % 2) 1) (eqb (y % 2) 1)
    digits x y = go (x % 2) (y % 2) (mod-lt x (omega arith)) (mod-lt y (omega arith))

pub bit_without : (a b j : ℕ) → bit (bit_xor a (bit_and a b)) j ≡ (bit a j && not (bit b j))
bit_without a b j = bit_xor_lem a (bit_and a b) j ∙ ap (differs (bit a j)) (bit_and_lem a b j) ∙ go (bit a j) (bit b j)
  where
    go : (x y : Bool) → differs x (x && y) ≡ (x && not y)
    go true y = refl
    go false y = refl
