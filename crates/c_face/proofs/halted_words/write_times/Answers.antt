-- The clock and the first i completion times stand in their places.
use borrow.Author.Rules.{rules}
use native.Mathlib.Omega.{arith}
use native.Mathlib.Numerals.{add-one}
use mathlib.Core.Path.{◌≡◌, refl, sym, ap, ◌∙◌}
use lib.ListN.{length}
use lib.Ieee.{nan}
use Rattle.rules.specs.Timers.{Timer}
use Rattle.carried.specs.Timers.{timers_in}
use Rattle.c_face.specs.Layout.{time_in}
use Rattle.c_face.proofs.Parts.{holds_none, holds_more}
use Rattle.c_face.proofs.Running.{timer_at_lem, timer_past}
use Rattle.c_face.proofs.halted_words.write_times.Goals as goal
use Rattle.c_face.proofs.halted_words.write_times.Goals.{then-i-n, else-i-n}

pub loop-i-init : goal.loop-i-init
loop-i-init c =
    let ts = c.args.times.now in
    let long : length ts ≡ 257 = search rules in
    λ whos takens. holds_more nan (holds_none nan _ ts long) (omega arith) refl

pub loop-i-preserved : goal.loop-i-preserved
loop-i-preserved c =
    let l = c.loop-i in
    let s = c.args in
    λ whos takens.
    let m = l.invariant whos takens in
    let q = timers_in s.ats.now whos takens s.n in
    let at = ap (time_in s.clock q) (add-one l.i) in
    elim c.if-i-n.branch [
      | then-i-n w ↦
          let x = timer_at_lem s.ats.now whos takens s.n l.i (omega arith) w.if-i-n.true in
          rw w.times-is (holds_more nan m (omega arith) (sym (at ∙ ap (λ (t : Timer). t.at) x)))
      | else-i-n w ↦
          let x = timer_past s.ats.now whos takens s.n l.i w.if-i-n.false in
          rw w.times-is (holds_more nan m (omega arith) (sym (at ∙ ap (λ (t : Timer). t.at) x)))
    ]

pub returns : goal.returns
returns c = λ whos takens i h. (c.loop-i.invariant whos takens).each i (omega arith)
