-- What is left to find from pair i on, by the numbers in the two sets, is what the whole list has (proofs/Listed). Each arm that returns
-- found it in pair i or found none, and a whole turn puts the pair's numbers into the sets. Assumes nothing.
use Rattle.std.proofs.Common.{refl, arith}
use Rattle.carried.proofs.Listed.{none_left, past_old, past_new, met_old, met_new, passed}
use Rattle.carried.proofs.renaming.list_fits.Goals as goal

pub loop-i-init : goal.loop-i-init
loop-i-init c = refl

pub returns-then-old-a : goal.returns-then-old-a
returns-then-old-a c =
    let t = c in
    let l = t.loop-i in
    let s = t.args in
    past_old s.pairs.now s.old s.new l.olds l.news l.i l.invariant t.loop-i-test.true c.if-old-a.true

pub returns-then-new-b : goal.returns-then-new-b
returns-then-new-b c =
    let a = c in
    let t = a in
    let l = t.loop-i in
    let s = t.args in
    past_new s.pairs.now s.old s.new l.olds l.news l.i l.invariant t.loop-i-test.true a.if-old-a.false c.if-new-b.true

pub overflow_shr-olds : goal.overflow_shr-olds
overflow_shr-olds c = omega arith

pub returns-then-olds-a-eq1 : goal.returns-then-olds-a-eq1
returns-then-olds-a-eq1 c =
    let b = c in
    let a = b in
    let t = a in
    let l = t.loop-i in
    let s = t.args in
    met_old s.pairs.now s.old s.new l.olds l.news l.i l.invariant t.loop-i-test.true a.if-old-a.false b.if-new-b.false c.if-olds-a-eq1.true

pub overflow_shr-news : goal.overflow_shr-news
overflow_shr-news c = omega arith

pub returns-then-news-b-eq1 : goal.returns-then-news-b-eq1
returns-then-news-b-eq1 c =
    let d = c in
    let b = d in
    let a = b in
    let t = a in
    let l = t.loop-i in
    let s = t.args in
    met_new s.pairs.now s.old s.new l.olds l.news l.i l.invariant t.loop-i-test.true a.if-old-a.false b.if-new-b.false d.if-olds-a-eq1.false
    c.if-news-b-eq1.true

pub loop-i-preserved : goal.loop-i-preserved
loop-i-preserved c =
    let e = c in
    let d = e in
    let b = d in
    let a = b in
    let t = a in
    let l = t.loop-i in
    let s = t.args in
    passed s.pairs.now s.old s.new l.olds l.news l.i l.invariant t.loop-i-test.true a.if-old-a.false b.if-new-b.false d.if-olds-a-eq1.false
    e.if-news-b-eq1.false c.joined-olds.result c.joined-news.result c.joined-olds.ensures c.joined-news.ensures

pub returns : goal.returns
returns c =
    let l = c.loop-i in
    let s = c.args in
    none_left s.pairs.now s.old s.new l.olds l.news l.i l.invariant c.loop-i-test.false
