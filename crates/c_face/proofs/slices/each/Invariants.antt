-- The elements before the index are mapped, and those from it on are as they were.
use mathlib.Core.Path.{◌≡◌}
use mathlib.Core.List.{◌++◌, map}
use Prim.Native.Nat.{ℕ, ◌<◌}
use lib.ListN.{length, get_or, take, drop}
use Rattle.c_face.proofs.slices.each.Given as goal

abbrev pub invariant-loop-x : goal.invariant-loop-x
invariant-loop-x g l =
    let A = g.row.T.Denot in
    (h : A → A) → ((k : ℕ) (d y : A) → k < length l.initial.xs → g.F.Fn.post l.f (get_or l.initial.xs k d, tt) y → y ≡ h (get_or l.initial.xs k d))
    → l.xs ≡ map h (take l.x-index l.initial.xs) ++ drop l.x-index l.initial.xs
