-- Document 01's sample with the labels q0 and q1, computed: for its net text the definitions yield its printed result, byte for byte. So do two refusals of the run line.
use mathlib.Core.Path.{◌≡◌, refl}
use mathlib.Core.List.{◌++◌}
use lib.Ieee.{of_bits, to_bits, of_int, add, sub, mul, div, neg, lt, le, eq, ne, is_nan}
use Rattle.text.specs.Text.{Bytes, bytes}
use Rattle.pathrun_text.specs.Pathrun.{table, output}

front : Bytes
front = bytes "(net\n(place 2 0 q0)\n(place 0 0 q1)\n(move 3ff0000000000000 3ff0000000000000 (take 0 1 1) (put 1 1))\n"

sample : output (front ++ bytes "(run 3 1 1 4000000000000000)\n)\n")
    ≡ bytes "(result 2 3 1)\n(mean q0 4000000000000000 0000000000000000 0000000000000000)\n(mean q1 0000000000000000 0000000000000000 4000000000000000)\n"
unfolding front output table of_bits to_bits of_int add sub mul div neg lt le eq ne is_nan
sample = refl

one_sample : output (front ++ bytes "(run 1 1 1 4000000000000000)\n)\n") ≡ bytes "(refused 8 0)\n"
unfolding front output table of_bits to_bits of_int add sub mul div neg lt le eq ne is_nan
one_sample = refl

not_closed : output (front ++ bytes "(run 3 1 1 4000000000000000)\n") ≡ bytes "(refused 1 6)\n"
unfolding front output table of_bits to_bits of_int add sub mul div neg lt le eq ne is_nan
not_closed = refl
