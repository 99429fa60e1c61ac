-- A flag as a number.
use mathlib.Core.Path.{◌≡◌, refl}
use mathlib.Core.Bool.{Bool, true, false}
use mir.Val.{bool_byte}
use Rattle.net.specs.Net.{pick}

pub flag : (b : Bool) → bool_byte b ≡ pick b 1 0
flag true = refl
flag false = refl
