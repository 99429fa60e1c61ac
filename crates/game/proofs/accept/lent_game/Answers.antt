-- The tables that the search asks for are those that the calls before it make. Assumes nothing.
use mathlib.Core.Path.{ap, ◌∙◌}
use Rattle.net.specs.Net.{Marking}
use Rattle.net.specs.Readable.{readable}
use Rattle.net.specs.Record.{net_of}
use Rattle.engine.proofs.Lists.{initial_is}
use Rattle.game.specs.Search.{fault_move}
use Rattle.game.specs.Play.{game_of}
use Rattle.game.proofs.accept.lent_game.Goals as goal

pub returns : goal.returns
returns c =
    let f = c in
    let a = f.args in
    let n = net_of a.net.now in
    c.fault_move.ensures
    ∙ ap (λ (m : Marking). fault_move a.turns (game_of (readable n) a.sides.now a.wanted a.count) m) (f.first_counts-counts.ensures.0 ∙ initial_is n)
