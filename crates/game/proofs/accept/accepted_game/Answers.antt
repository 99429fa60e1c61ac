-- The net with its slots in order reads as the net. Assumes nothing.
use Rattle.std.proofs.Common.{◌≡◌, ℕ, ◌^◌, ◌<◌, ◌≤◌, get_or, sym, subst}
use Rattle.net.specs.declared.Net.{Net as NetRecord}
use Rattle.net.specs.Readable.{readable}
use Rattle.net.specs.Record.{net_of}
use Rattle.net.proofs.Sound.{sound}
use Rattle.engine.specs.Engine.{Tidy}
use Rattle.game.specs.Play.{Sided}
use Rattle.game.proofs.Asked.{same_game}
use Rattle.game.proofs.accept.accepted_game.Goals as goal

pub lent_game-requires : goal.lent_game-requires
lent_game-requires c =
    let a = c.args in
    let Asked : NetRecord → Type 0
    = λ n. Tidy n × ((p : ℕ) → p < n.places → get_or n.initial p 0 ≤ 2 ^ 53) × Sided n.transitions a.sides.now × (a.wanted < n.places) × (a.turns ≤ 8) in
    subst Asked (sym c.of.ensures) (
      c.fill.ensures.tidy,
      (sound (net_of a.net.now) c.requires.0).initial,
      c.requires.1,
      c.requires.2,
      c.requires.3,
    )

pub returns : goal.returns
returns c =
    let a = c.args in
    let Same : NetRecord → Type 0 = λ n. readable n ≡ readable (net_of a.net.now) in
    same_game (net_of c.of.result) (net_of a.net.now) (subst Same (sym c.of.ensures) c.fill.ensures.reads) a.turns a.sides.now a.wanted a.count
    c.lent_game.ensures
