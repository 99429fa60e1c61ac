use Rattle.std.proofs.Common.{◌≡◌, ℕ, ◌∙◌, eqb, arith, rules}
use Rattle.std.specs.List.{count_by}
use Rattle.std.proofs.lemmas.List.Sums.{count_by-le-length}
use Rattle.game.proofs.Asked.{faults_are}
use Rattle.game.proofs.accept.faults.Goals as goal

pub returns : goal.returns
returns c =
    let sides = c.args.sides.now in
    let e : c.count.result ≡ count_by (λ (x : ℕ). eqb x 0) sides = search rules in
    (e ∙ faults_are sides, omega (arith, e, count_by-le-length (λ (x : ℕ). eqb x 0) sides))
