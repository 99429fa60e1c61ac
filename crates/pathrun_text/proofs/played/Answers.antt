-- `played` meets its contract: a buffer that could be too short is left alone; in another, a refusal of the reader or the run's answer is printed.
use mathlib.Core.Path.{ap, ◌∙◌}
use Rattle.pathrun_text.specs.Pathrun.{output}
use Rattle.pathrun_text.specs.Printing.{in_front}
use Rattle.pathrun_text.proofs.Answers.{long_enough, too_short, on_refused, on_given, given_accepted}
use Rattle.pathrun_text.proofs.played.Goals as goal

pub returns-then-out-lt-LONGEST : goal.returns-then-out-lt-LONGEST
returns-then-out-lt-LONGEST c =
    let a = c.args in
    too_short a.out.now (output a.text.now) c.if-out-lt-LONGEST.true

pub run-requires : goal.run-requires
run-requires c =
    (c.if-out-lt-LONGEST.false, given_accepted c.args.text.now c.read_net.result c.read_net.ensures _ c.in-Ok.is)

pub returns-in-Err : goal.returns-in-Err
returns-in-Err c =
    let a = c.args in
    let read = c.read_net in
    c.refused.ensures
    ∙ ap (in_front a.out.now) (on_refused a.text.now read.result read.ensures _ c.in-Err.is c.number.ensures)
    ∙ long_enough a.out.now (output a.text.now) c.if-out-lt-LONGEST.false

pub returns-in-Ok : goal.returns-in-Ok
returns-in-Ok c =
    let a = c.args in
    let read = c.read_net in
    c.run.ensures
    ∙ ap (in_front a.out.now) (on_given a.text.now read.result read.ensures _ c.in-Ok.is)
    ∙ long_enough a.out.now (output a.text.now) c.if-out-lt-LONGEST.false
