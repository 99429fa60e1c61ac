-- A fill of the first n cells, which are all that are asked or all that there are (Fronts). Assumes nothing.
use Rattle.std.proofs.Common.{◌≡◌, ◌∙◌, ap, sym, List, ◌++◌, replicate, drop, arith, length-take-le}
use lib.Ieee.{Float}
use Rattle.net.specs.Net.{zero64}
use Rattle.averages.proofs.Fronts.{on_end, on_front_one}
use Rattle.averages.proofs.moments.clear.Goals as goal

pub returns : goal.returns
returns c =
    let t = c.args.table.now in
    let n = c.min-n.result in
    let long = length-take-le n t (omega arith) in
    let filled : c.fill.new.self ≡ replicate n zero64 = c.fill.ensures.after (λ y e. e) ∙ ap (λ k. replicate k zero64) long in
    ap (λ (l : List Float). l ++ drop n t) filled ∙ sym (on_front_one zero64 n t (omega arith))
    ∙ on_end (λ (x : Float). zero64) n c.args.cells t (omega arith) (λ h. omega arith)
