-- The part of a word from a bit on: the word shifted down and up again. Bit by bit, as in the crate words. Assumes nothing.
use Prim.Native.Nat.{ℕ, zero, suc, ◌+◌, ◌*◌, ◌/◌, ◌%◌, ◌^◌, ◌<◌}
use mathlib.Core.Path.{◌≡◌, sym, ap, ap₂, ◌∙◌}
use mathlib.Core.Bool.{Bool, ◌&&◌}
use native.Mathlib.Omega.{arith}
use native.Mathlib.Nat.{pow-suc, div-one, mul-one, mul_assoc, lt_of_le_of_lt, div-mul-le_self, mod-eq_of_lt}
use lib.Dec.{eqb, leb, leb-zero, leb-suc-zero, leb-suc-suc}
use lib.Pow.{shr-shr}
use Rattle.words.specs.Bits.{bit}
use Rattle.words.proofs.Bits.{bit_first, bit_next}

twice : (y : ℕ) → y * 2 / 2 ≡ y
twice y = omega arith

even : (y : ℕ) → y * 2 % 2 ≡ 0
even y = omega arith

shifted : (k w : ℕ) → w / 2 ^ suc k * 2 ^ suc k ≡ (w / 2 / 2 ^ k * 2 ^ k) * 2
shifted k w =
    let e : 1 + k ≡ suc k = omega arith in
    let d : w / 2 / 2 ^ k ≡ w / 2 ^ suc k = shr-shr w 1 k ∙ ap (λ (x : ℕ). w / 2 ^ x) e in
    ap (λ (x : ℕ). w / 2 ^ suc k * x) (pow-suc 2 k)
    ∙ sym (assoc (w / 2 ^ suc k) (2 ^ k))
    ∙ ap (λ (x : ℕ). x * 2 ^ k * 2) (sym d)
  where
    assoc : (a b : ℕ) → a * b * 2 ≡ a * (b * 2)
    assoc a b = mul_assoc a b 2

bits_from_lem : (k w j : ℕ) → bit (w / 2 ^ k * 2 ^ k) j ≡ (leb k j && bit w j)
bits_from_lem zero w j = ap (λ (x : ℕ). bit x j) (mul-one (w / 1) ∙ div-one w) ∙ sym (ap (λ (b : Bool). b && bit w j) (leb-zero j))
bits_from_lem (suc k) w zero =
    ap (λ (x : ℕ). bit x 0) (shifted k w)
    ∙ bit_first ((w / 2 / 2 ^ k * 2 ^ k) * 2)
    ∙ ap (λ (x : ℕ). eqb x 1) (even (w / 2 / 2 ^ k * 2 ^ k))
    ∙ sym (ap (λ (b : Bool). b && bit w 0) (leb-suc-zero k))
bits_from_lem (suc k) w (suc j) =
    ap (λ (x : ℕ). bit x (suc j)) (shifted k w)
    ∙ bit_next ((w / 2 / 2 ^ k * 2 ^ k) * 2) j
    ∙ ap (λ (x : ℕ). bit x j) (twice (w / 2 / 2 ^ k * 2 ^ k))
    ∙ bits_from_lem k (w / 2) j
    ∙ ap₂ (λ (a b : Bool). a && b) (sym (leb-suc-suc k j)) (sym (bit_next w j))

pub bit_from : (k w j : ℕ) → w < 2 ^ 64 → bit ((w / 2 ^ k * 2 ^ k) % 2 ^ 64) j ≡ (leb k j && bit w j)
bit_from k w j h =
    ap (λ (x : ℕ). bit x j) (mod-eq_of_lt (lt_of_le_of_lt (div-mul-le_self w (2 ^ k)) h)) ∙ bits_from_lem k w j
