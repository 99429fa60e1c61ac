-- The digits under their field are the fraction that the definition combines, and the difference is its exponent (`by_digits`).
use mathlib.Core.Path.{◌≡◌, refl, ap, ◌∙◌}
use mathlib.Core.Bool.{Bool, true, false}
use Prim.Native.Nat.{ℕ, ◌+◌, ◌*◌, ◌%◌, ◌^◌, ◌<◌}
use native.Mathlib.Omega.{arith}
use lib.Bits.{bit_and, and_mask}
use Rattle.std.specs.Prelude.{ltb, cond}
use lib.Ieee.{binary64, of_bits}
use mir.Syntax.{w32}
use mir.Val.{bool_byte}
use mir.Facts.{to_z-of_z}
use Rattle.portable_log.specs.Log.{combine}
use Rattle.portable_log.proofs.Rest.{twofold, twofold_lt, put_under, under_is_no_nan, by_digits}
use Rattle.portable_log.proofs.scaled_log.Goals as goal

-- whether the fraction is doubled, as the code has it
abbrev doubled : ℕ → ℕ
doubled b = bool_byte (ltb (bit_and b 0xF_FFFF_FFFF_FFFF) 0x6_A09E_667F_3BCD)

is_twofold : (b : ℕ) → doubled b ≡ twofold (b % 2 ^ 52)
is_twofold b = one_if (ltb (bit_and b 0xF_FFFF_FFFF_FFFF) 0x6_A09E_667F_3BCD) ∙ ap twofold (and_mask b 52)
  where
    one_if : (t : Bool) → bool_byte t ≡ cond t 1 0
    one_if true = refl
    one_if false = refl

small : (b : ℕ) → doubled b < 2
small b = rw (is_twofold b) (twofold_lt (b % 2 ^ 52))

pub float_from_bits-f : goal.float_from_bits-f
float_from_bits-f c =
    let b = c.args.b in
    rw (put_under b (doubled b) (small b)) (under_is_no_nan (b % 2 ^ 52) (doubled b) (omega arith) (small b))

pub returns : goal.returns
returns c =
    let b = c.args.b in
    let k = c.args.scale in
    let frac = put_under b (doubled b) (small b) ∙ ap (λ (d : ℕ). (1022 + d) * 2 ^ 52 + b % 2 ^ 52) (is_twofold b) in
    let exp = to_z-of_z {w = w32} (record { sfits = c.difference.type_inv }) ∙ rw (is_twofold b) at c.difference.ensures in
    c.combine.ensures ∙ (λ i. combine (of_bits binary64 (frac i)) (exp i)) ∙ by_digits k b c.requires.0
