-- The word marks the delayed transitions, so a timer goes to one of the word exactly where 22 does not meet it (Changed, sent-by-word). Assumes nothing.
use Rattle.std.proofs.Common.{not, sym, ap, ◌∙◌}
use Rattle.net.specs.Record.{net_of}
use Rattle.net.proofs.Sound.{sound}
use Rattle.carried.specs.Timers.{timers_in}
use Rattle.ssa.proofs.Changed.{sent_by_word}
use Rattle.ssa.proofs.change.timers_fit.Goals as goal

pub timed_word-delayed-requires : goal.timed_word-delayed-requires
timed_word-delayed-requires c = (sound (net_of c.args.net.now) c.requires.0).transitions

pub returns : goal.returns
returns c =
    let a = c.args in
    let n = net_of a.net.now in
    λ old ps ats takens few good w.
    c.timers_fit.ensures ats takens
    ∙ sym (ap not
    (sent_by_word n (sound n c.requires.0).transitions c.timed_word-delayed.result c.timed_word-delayed.ensures old few ps good a.names.now w
    (timers_in ats a.whos.now takens a.n)))
