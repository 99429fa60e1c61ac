-- Document 01's sample with the labels q0 and q1, computed: the definitions give its very bytes.
use mathlib.Core.Path.{◌≡◌, refl}
use mathlib.Core.List.{[], ◌∷◌}
use lib.Ieee.{Float, binary64, of_bits, to_bits}
use Rattle.text.specs.Text.{bytes}
use Rattle.result_text.specs.Lines.{printed, refused_line}

zero : Float
zero = of_bits binary64 0

two : Float
two = of_bits binary64 0x4000_0000_0000_0000

sample : printed 2 3 1 (bytes "q0" ∷ bytes "q1" ∷ []) ((two ∷ zero ∷ zero ∷ []) ∷ (zero ∷ zero ∷ two ∷ []) ∷ []) []
    ≡ bytes "(result 2 3 1)\n(mean q0 4000000000000000 0000000000000000 0000000000000000)\n(mean q1 0000000000000000 0000000000000000 4000000000000000)\n"
unfolding two zero of_bits to_bits
sample = refl

deviations : printed 1 2 2 (bytes "paging-queue" ∷ []) ((two ∷ zero ∷ []) ∷ []) ((zero ∷ two ∷ []) ∷ [])
    ≡ bytes "(result 1 2 2)\n(mean paging-queue 4000000000000000 0000000000000000)\n(dev paging-queue 0000000000000000 4000000000000000)\n"
unfolding two zero of_bits to_bits
deviations = refl

refusal : refused_line 18 1024 ≡ bytes "(refused 18 1024)\n"
refusal = refl
