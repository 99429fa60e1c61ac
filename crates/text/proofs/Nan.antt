-- The pattern that stands for every NaN is the definition's.
use mathlib.Core.Path.{◌≡◌, refl, subst}
use mathlib.Core.Bool.{true}
use lib.Dec.{T}
use lib.Ieee.{Float, nan, inf, fin, is_nan, binary64, to_bits}

pub nan_bits : (x : Float) → true ≡ is_nan x → 0x7ff8_0000_0000_0000 ≡ to_bits binary64 x
unfolding to_bits is_nan
nan_bits nan e = refl
nan_bits (inf s) e = absurd (subst T e tt)
nan_bits (fin s m k) e = absurd (subst T e tt)
