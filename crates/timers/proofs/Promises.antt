-- The timer list that turns: document 02's order 9, sentence by sentence (specs/Calls).
use Prim.Native.Nat.{ℕ, ◌≤◌, min}
use mathlib.Core.Path.{◌≡◌, refl, ap, ◌∙◌}
use mathlib.Core.Bool.{Bool, false}
use mathlib.Core.List.{List}
use native.Mathlib.Omega.{arith}
use borrow.Author.Tests.{le-ltb}
use lib.ListN.{length}
use lib.Ieee.{Float}
use Rattle.rules.specs.Timers.{Timer}
use Rattle.timers.specs.declared.Ring.{Ring}
use Rattle.timers.specs.Turning.{held, timers_of, Sound, InsertedIn}
use Rattle.timers.specs.Calls.{Call, old, Calls, none, inserts, removes, Turns}
use Rattle.timers.proofs.Rings.{length_timers}

follows : {cs : List Call} {a b : List Float} {o p : List ℕ} {r s : Ring} → Calls cs a o r b p s → Sound a o r
    → (timers_of b p s ≡ old cs (timers_of a o r)) × Sound b p s
follows none h = (refl, h)
follows (inserts {cs} c rest) h =
    let w = follows rest (c.stays h) in
    (w.0 ∙ ap (old cs) (c.list h), w.1)
follows (removes {cs} {a} {o = o} c rest) h =
    let w = follows rest (c.stays a o h) in
    (w.0 ∙ ap (old cs) (c.list a o), w.1)

at_most : (a : List Float) (o : List ℕ) (r : Ring) → length (timers_of a o r) ≤ 256
at_most a o r = omega (arith, length_timers a o r)

full : (room : ℕ) {x : Timer} {a a' : List Float} {o o' : List ℕ} {r r' : Ring} {taken : Bool} → InsertedIn room x a o r a' o' r' taken
    → length (timers_of a o r) ≡ 256 → taken ≡ false
full room {a = a} {o = o} {r = r} c h = c.says ∙ le-ltb (length (timers_of a o r)) (min room 256) (omega arith)

pub turns : Turns
turns =
    record {
      stands = λ r r' c h a o i. ap (held a o) (c.slots h i);
      is_old = follows;
      few = at_most;
      refuses = λ {room} c h. let w = full room c h in let l = c.refused w in (w, l.0, l.1, l.2);
    }
