-- By the end (proofs/Answered, told). Assumes nothing.
use borrow.Enum.Refused.{opened}
use mathlib.Core.Path.{sym, ap, ◌∙◌}
use mathlib.Core.List.{List}
use Prim.Native.Nat.{ℕ}
use lib.Ieee.{Float}
use Rattle.rng.specs.State.{words}
use Rattle.playing.specs.declared.PathEnd.{PathEnd}
use Rattle.ssa.specs.Path.{end_of}
use Rattle.ssa.specs.Told.{answer_of}
use Rattle.ssa.proofs.Answered.{not_refused, told}
use Rattle.ssa.proofs.start.answer.Goals as goal

pub returns-in-Refused : goal.returns-in-Refused
returns-in-Refused c = let a = c.args in λ (t : List Float). sym (ap (λ (e : PathEnd). answer_of a.w a.n (words a.rng.s) t e) c.in-Refused.is)

pub returns : goal.returns
returns c =
    let a = c.args in
    let w = a.w in
    λ (t : List Float). ap (λ (k : ℕ). record {
      end = end_of w.end;
      steps = w.steps;
      settled = k;
      peak = w.peak;
      rounded = w.rounded;
      generator = words w.rng.s;
      table = t;
    }) c.settled.ensures
    ∙ sym (told w a.n (words a.rng.s) t w.end (not_refused w.end (opened c.in_default.in_default-own.keys2)))
