-- A digit more, or none left (Digits). Assumes nothing.
use Rattle.std.proofs.Common.{◌≡◌, length, refl, arith}
use Rattle.replay_io.proofs.Digits.{one_more, no_more, written}
use Rattle.replay_io.proofs.word.Goals as goal

pub loop-b-init : goal.loop-b-init
loop-b-init c = refl

pub loop-b-preserved : goal.loop-b-preserved
loop-b-preserved c =
    one_more c.args.digits.now c.loop-b.b-index c.loop-b.n c.digit.result c.loop-b.invariant c.loop-b-test.true c.digit.ensures

pub returns : goal.returns
returns c =
    let end : c.loop-b.b-index ≡ length c.args.digits.now = omega arith in
    let whole = no_more c.args.digits.now c.loop-b.b-index c.loop-b.n c.loop-b.invariant end in
    record { counted = whole; written = λ v. written c.args.digits.now c.loop-b.n v whole }
