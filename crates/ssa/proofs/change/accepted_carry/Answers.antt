-- A path that passes its tests brings what the run asks for (Brought): its counts in a fresh array, its timers by their new numbers in the ring, and its
-- tokens. What the run leaves is the answer of the rules over the renamed path (Continued).
use borrow.Enum.Refused.{opened}
use Rattle.std.proofs.Common.{◌≡◌, refl, ◌∙◌, arith, rules, length}
use Rattle.net.specs.Readable.{readable}
use Rattle.net.specs.Record.{net_of}
use Rattle.net.proofs.Sound.{sound}
use Rattle.carried.specs.Pairs.{pairs_of}
use Rattle.ssa.proofs.Answered.{not_refused}
use Rattle.playing.proofs.Tokens.{sum_few}
use Rattle.ssa.proofs.Brought.{brought, below, renamed_queue, small, light, rest_rises, resumes, tokens_same, now_same, counts_same}
use Rattle.ssa.proofs.Continued.{continued_refused, continued_to, few_steps}
use Rattle.ssa.proofs.change.accepted_carry.Goals as goal

pub new_numbers-requires : goal.new_numbers-requires
new_numbers-requires c =
    let a = c.args in
    let n = net_of a.net.now in
    let places = a.net.now.places in
    let ps = pairs_of a.pairs.now in
    let xs = a.instants.now in
    let b = brought n c.requires.0 places ps a.path xs a.table.now c.requires.1 in
    (b.few, below n c.requires.0 places ps a.path xs a.table.now c.requires.1 c.names_of-names.result c.names_of-names.ensures)

pub first_counts-counts-requires : goal.first_counts-counts-requires
first_counts-counts-requires c =
    let a = c.args in
    let n = net_of a.net.now in
    let places = a.net.now.places in
    let ps = pairs_of a.pairs.now in
    let xs = a.instants.now in
    let b = brought n c.requires.0 places ps a.path xs a.table.now c.requires.1 in
    ((sound n c.requires.0).places, small b)

pub sum-requires : goal.sum-requires
sum-requires c = ((sound (net_of c.args.net.now) c.requires.0).places, c.first_counts-counts.ensures.1)

pub taken-requires : goal.taken-requires
taken-requires c =
    let a = c.args in
    let n = net_of a.net.now in
    let places = a.net.now.places in
    let ps = pairs_of a.pairs.now in
    let xs = a.instants.now in
    let b = brought n c.requires.0 places ps a.path xs a.table.now c.requires.1 in
    (b.few, light b)

pub overflow_add-s : goal.overflow_add-s
overflow_add-s c =
    let few = sum_few c.args.net.now.places c.first_counts-counts.result c.first_counts-counts.ensures.1.small in
    record { fits = omega (arith, c.sum.ensures, few, (sound (net_of c.args.net.now) c.requires.0).places, c.taken.ensures.0) }

pub overflow_sub-left : goal.overflow_sub-left
overflow_sub-left c =
    let a = c.args in
    let n = net_of a.net.now in
    let places = a.net.now.places in
    let ps = pairs_of a.pairs.now in
    let xs = a.instants.now in
    let b = brought n c.requires.0 places ps a.path xs a.table.now c.requires.1 in
    b.steps

pub resume-w-requires : goal.resume-w-requires
resume-w-requires c =
    let a = c.args in
    let n = net_of a.net.now in
    let places = a.net.now.places in
    let ps = pairs_of a.pairs.now in
    let xs = a.instants.now in
    let b = brought n c.requires.0 places ps a.path xs a.table.now c.requires.1 in
    let i = c.hand_in-ring in
    let timers = i.ensures.list
    ∙ renamed_queue n c.requires.0 places ps a.path xs a.table.now c.requires.1 c.names_of-names.result c.names_of-names.ensures c.new_numbers.result c.new_numbers.ensures in
    let k = c.first_counts-counts in
    let q = a.path.timers in (
      c.requires.0,
      resumes b ps k.result i.new.ats i.new.owners i.result timers k.ensures.1 i.ensures.sound,
      b.instants.some_instant,
      b.recorded,
      b.instants.few,
      b.room,
      tokens_same b ps k.result i.new.ats i.new.owners i.result timers c.sum.result c.taken.result c.sum.ensures (c.taken.ensures.1 q.ats q.whos),
    )

pub returns-in-Refused : goal.returns-in-Refused
returns-in-Refused c =
    let a = c.args in
    let n = net_of a.net.now in
    let places = a.net.now.places in
    let ps = pairs_of a.pairs.now in
    let xs = a.instants.now in
    let b = brought n c.requires.0 places ps a.path xs a.table.now c.requires.1 in
    let i = c.hand_in-ring in
    let timers = i.ensures.list
    ∙ renamed_queue n c.requires.0 places ps a.path xs a.table.now c.requires.1 c.names_of-names.result c.names_of-names.ensures c.new_numbers.result c.new_numbers.ensures in
    let k = c.first_counts-counts in
    let now = now_same b ps k.result i.new.ats i.new.owners i.result timers
    (counts_same places a.path.counts k.result (omega (arith, (sound n c.requires.0).places)) k.ensures.0) a.path.generator.s in
    c.turned_down.ensures places _
    ∙ continued_refused (readable n) places ps a.path xs a.table.now a.named (rest_rises b) now refl c.min.ensures c.resume-w.ensures c.in-Refused.is

pub handed-requires : goal.handed-requires
handed-requires c =
    let a = c.args in
    let n = net_of a.net.now in
    let places = a.net.now.places in
    let ps = pairs_of a.pairs.now in
    let xs = a.instants.now in
    let b = brought n c.requires.0 places ps a.path xs a.table.now c.requires.1 in
    let i = c.hand_in-ring in
    let timers = i.ensures.list
    ∙ renamed_queue n c.requires.0 places ps a.path xs a.table.now c.requires.1 c.names_of-names.result c.names_of-names.ensures c.new_numbers.result c.new_numbers.ensures in
    let k = c.first_counts-counts in
    let now = now_same b ps k.result i.new.ats i.new.owners i.result timers
    (counts_same places a.path.counts k.result (omega (arith, (sound n c.requires.0).places)) k.ensures.0) a.path.generator.s in
    let few = few_steps (readable n) places ps a.path xs a.table.now a.named (rest_rises b) now refl c.min.ensures c.resume-w.ensures
    (not_refused c.resume-w.result.end (opened c.in_default.in_default-own.keys2)) in
    (omega (arith, few, c.min.ensures, b.steps, b.limit), omega (arith, few, c.min.ensures, b.steps, b.limit, b.rounded))

pub returns : goal.returns
returns c =
    let a = c.args in
    let n = net_of a.net.now in
    let places = a.net.now.places in
    let ps = pairs_of a.pairs.now in
    let xs = a.instants.now in
    let b = brought n c.requires.0 places ps a.path xs a.table.now c.requires.1 in
    let i = c.hand_in-ring in
    let timers = i.ensures.list
    ∙ renamed_queue n c.requires.0 places ps a.path xs a.table.now c.requires.1 c.names_of-names.result c.names_of-names.ensures c.new_numbers.result c.new_numbers.ensures in
    let k = c.first_counts-counts in
    let now = now_same b ps k.result i.new.ats i.new.owners i.result timers
    (counts_same places a.path.counts k.result (omega (arith, (sound n c.requires.0).places)) k.ensures.0) a.path.generator.s in
    let h = c.handed in
    continued_to (readable n) places ps a.path xs a.table.now a.named (rest_rises b) now refl c.min.ensures c.resume-w.ensures
    (not_refused c.resume-w.result.end (opened c.in_default.in_default-own.keys2)) h.result h.ensures.0 h.ensures.1 (h.ensures.2 places)
