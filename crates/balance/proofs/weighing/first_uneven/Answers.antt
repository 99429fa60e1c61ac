-- The transition in its turn: what is asked of its slots, and what they tell. Assumes nothing.
use Rattle.std.proofs.Common.{sym, ap, ◌∙◌, arith}
use Rattle.net.specs.Record.{net_of}
use Rattle.balance.proofs.Weights.{light, placed, even_is, left_stop, left_go}
use Rattle.balance.proofs.weighing.first_uneven.Goals as goal

pub slots_even-requires : goal.slots_even-requires
slots_even-requires c =
    let s = c.args in
    let net = net_of s.net.now in
    let j = c.loop-j.j in
    let t = c.loop-j-test.true in (
      omega (arith, c.requires.0.arcs j t, c.requires.0.transitions),
      light net c.requires.0 j t,
      placed net c.requires.0 j t c.requires.1,
      c.requires.2,
    )

pub returns-then-not-slots_even : goal.returns-then-not-slots_even
returns-then-not-slots_even c =
    let s = c.args in
    let net = net_of s.net.now in
    let j = c.loop-j.j in
    left_stop s.weights.now net j s.net.now.transitions c.loop-j.invariant c.loop-j-test.true
    (sym (c.slots_even.ensures ∙ even_is s.weights.now net j) ∙ c.if-not-slots_even.true)

pub loop-j-preserved : goal.loop-j-preserved
loop-j-preserved c =
    let s = c.args in
    let net = net_of s.net.now in
    let j = c.loop-j.j in
    left_go s.weights.now net j s.net.now.transitions c.loop-j.invariant c.loop-j-test.true
    (sym (c.slots_even.ensures ∙ even_is s.weights.now net j) ∙ c.if-not-slots_even.false)
