-- The portable logarithm: `frexp` and `plog` of document 003. Document 01, "003": "The seven polynomial coefficients stay a table
-- of binary64 bit patterns, every operation in the source's order." Definitions only.
use Rattle.std.specs.Prelude.{ℕ, ◌+◌, ◌-◌, ◌*◌, ◌/◌, ◌^◌, true, false, ◌||◌, cond, List, [], ◌∷◌, eqb, ℤ, pos, ◌-ℤ◌, get_or, Float}
use Rattle.std.specs.Int.Bits.{bit_and, bit_or}
use Rattle.std.specs.Float.{nan, inf, binary64}
use Rattle.std.specs.Float.Ieee.{to_bits, of_bits, of_int, add, sub, mul, div, lt, eq, is_nan}
pub use Rattle.floats.specs.{zero64, one64}
use Rattle.portable_log.specs.declared.Parts.{Parts}

-- the binary64 of a bit pattern, and the operations on two of them

abbrev f64 : ℕ → Float
f64 b = of_bits binary64 b

abbrev plus : Float → Float → Float
plus x y = add binary64 x y

abbrev minus : Float → Float → Float
minus x y = sub binary64 x y

abbrev times : Float → Float → Float
times x y = mul binary64 x y

abbrev over : Float → Float → Float
over x y = div binary64 x y

-- beside 0 and 1: 0.5, 2, 2 ^ 52, sqrt(2) / 2, and the logarithm of 2 in a high and a low part

abbrev pub half64 : Float
half64 = f64 0x3FE0_0000_0000_0000

abbrev pub two64 : Float
two64 = f64 0x4000_0000_0000_0000

abbrev pub two52 : Float
two52 = f64 0x4330_0000_0000_0000

abbrev pub sqrt2over2 : Float
sqrt2over2 = f64 0x3FE6_A09E_667F_3BCD

abbrev pub ln2hi : Float
ln2hi = f64 0x3FE6_2E42_FEE0_0000

abbrev pub ln2lo : Float
ln2lo = f64 0x3DEA_39EF_3579_3C76

-- the bit patterns of the seven polynomial coefficients
abbrev pub coefficients : List ℕ
coefficients =
    0x3FE5_5555_5555_5593 ∷ 0x3FD9_9999_9997_FA04 ∷ 0x3FD2_4924_9422_9359 ∷ 0x3FCC_71C5_1D8E_78AF
    ∷ 0x3FC7_4664_96CB_03DE ∷ 0x3FC3_9A09_D078_C69F ∷ 0x3FC2_F112_DF3E_5244 ∷ []

-- L 1 to L 7: the coefficients, counted from 1
abbrev pub L : ℕ → Float
L i = f64 (get_or coefficients (i - 1) 0)

-- ---- frexp

-- the exponent's field of a bit pattern: the 11 bits above the lowest 52
abbrev pub field : ℕ → ℕ
field b = bit_and (b / 2 ^ 52) 0x7FF

-- the pattern with 1022 in that field: sign and digits stay, the magnitude lies in [0.5, 1)
abbrev pub frac : ℕ → Float
frac b = f64 (bit_or (bit_and b 0x800F_FFFF_FFFF_FFFF) (1022 * 2 ^ 52))

-- the parts of a number, read off the pattern of 2 ^ k times the number
abbrev pub parts_of : ℕ → ℕ → Parts
parts_of k b = record { frac = frac b; exp = pos (field b) -ℤ pos (1022 + k) }

-- The parts of x; with an exponent's field of 0, those of x times 2 ^ 52. Positive, finite and not 0, x is frac times 2 ^ exp.
-- Every other value goes by the same rule: a negative keeps its sign, the zeros give ±0.5 and -1074, the infinities ±0.5 and 1025.
-- A NaN counts as the pattern 0x7FF8_0000_0000_0000, which `to_bits` writes for it, and gives 0.75 and 1025.
abbrev pub frexp : Float → Parts
frexp x = let b = to_bits binary64 x in cond (eqb (field b) 0) (parts_of 52 (to_bits binary64 (times x two52))) (parts_of 0 b)

-- ---- plog

-- the logarithm of f1 times 2 ^ ki, for f1 from sqrt(2) / 2 to sqrt(2), operation by operation
unfoldable pub combine : Float → ℤ → Float
combine f1 ki =
    let f = minus f1 one64 in
    let k = of_int binary64 ki in
    let s = over f (plus two64 f) in
    let s2 = times s s in
    let s4 = times s2 s2 in
    let t1 = times s2 (plus (L 1) (times s4 (plus (L 3) (times s4 (plus (L 5) (times s4 (L 7))))))) in
    let t2 = times s4 (plus (L 2) (times s4 (plus (L 4) (times s4 (L 6))))) in
    let r = plus t1 t2 in
    let hfsq = times (times half64 f) f in
    minus (times k ln2hi) (minus (minus hfsq (plus (times s (plus hfsq r)) (times k ln2lo))) f)

-- the logarithm of frac times 2 ^ exp: below sqrt(2) / 2 the fraction is doubled, and the exponent is one less
abbrev pub of_parts : Parts → Float
of_parts p = cond (lt p.frac sqrt2over2) (combine (times p.frac two64) (p.exp -ℤ pos 1)) (combine p.frac p.exp)

-- "NaN and +infinity unchanged, negative gives NaN, either zero −infinity"
abbrev pub plog : Float → Float
plog x =
    cond (is_nan x || eq x (inf false)) x
    (cond (lt x zero64) nan
    (cond (eq x zero64) (inf true)
    (of_parts (frexp x))))

-- "−plog(1 − x1)": what the waiting time of a race takes the logarithm of, 1 less the number x1 that an output x of the generator gives: its upper 53 bits times
-- 2^-53, as `uniform` of the crate rng has it
abbrev pub rest : ℕ → Float
rest x = minus one64 (times (of_int binary64 (pos (x / 2 ^ 11))) (f64 0x3CA0_0000_0000_0000))
