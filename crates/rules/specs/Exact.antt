-- Which propensities are rounded. Document 02, order 6: the answer of combinations "says whether its float equals the whole-number binomial exactly"; "A
-- propensity passes this on, one of 0 as exact".
use Rattle.std.specs.Prelude.{ℕ, Bool, ◌&&◌, not, List, pos}
use Rattle.std.specs.Float.Ieee.{lt}
use Rattle.net.specs.Net.{Take, Transition, Net, Marking, zero64, amount, held}
use Rattle.net.specs.Tests.{any}
use Rattle.combinations.specs.Combinations.{as_flag, combinations}
use Rattle.rules.specs.Propensity.{propensity}

-- What combinations says of its float (crate combinations, Binomial). A refusal says nothing, and no run meets one (Values).
unfoldable pub exact_ways : ℕ → ℕ → Bool
exact_ways m w = as_flag (combinations (pos m) (pos w))

-- a kinetic input whose binomial is inexact; "some binomial inexact"
abbrev pub inexact : Marking → Take → Bool
inexact m k = k.kinetic && not (exact_ways (held m k.place) (amount k.weight))

abbrev pub some_inexact : Marking → List Take → Bool
some_inexact m ks = any (inexact m) ks

-- "a propensity above 0 with some binomial inexact"; "one of 0" passes on as exact
abbrev pub rounded : Net → Marking → Transition → Bool
rounded n m t = lt zero64 (propensity n m t) && some_inexact m t.takes

-- whether a0 adds such a propensity
abbrev pub adds_rounded : Net → Marking → Bool
adds_rounded n m = any (rounded n m) n.transitions
