-- Running timers that took little each: a new one like them and a removal leave them so, and what they took together is bounded by their number.
use Prim.Native.Nat.{◌*◌, ◌≤◌}
use Prim.{tt}
use mathlib.Core.Bool.{Bool, true, false}
use mathlib.Core.List.{List, [], ◌∷◌}
use native.Mathlib.Omega.{arith}
use lib.ListN.{length}
use lib.Ieee.{lt}
use Rattle.net.specs.Net.{pick}
use Rattle.rules.specs.Timers.{Timer, insert, others}
use Rattle.rules.specs.Moments.{taken_by_timers}
use Rattle.playing.specs.Stepping.{Light}

pub light_pick : (b : Bool) (p q : List Timer) → Light p → Light q → Light (pick b p q)
light_pick true p q h l = h
light_pick false p q h l = l

pub light_insert : (x : Timer) (q : List Timer) → x.taken ≤ 16_000_000 → Light q → Light (insert x q)
light_insert x [] h l = (h, tt)
light_insert x (z ∷ q) h l = light_pick (lt x.at z.at) (x ∷ z ∷ q) (z ∷ insert x q) (h, l) (l.0, light_insert x q h l.1)

pub light_others : (q : List Timer) → Light q → Light (others q)
light_others [] l = l
light_others (z ∷ q) l = l.1

pub light_taken : (q : List Timer) → Light q → taken_by_timers q ≤ 16_000_000 * length q
light_taken [] l = omega arith
light_taken (z ∷ q) l = omega (arith, light_taken q l.1)
