-- The tests are those of the list move_tests, in its order: each is what a function answers of the slots (Moves). Assumes nothing.
use Rattle.net.specs.Record.{net_of}
use Rattle.net.proofs.Moves.{by_2, by_3, by_4, by_5, by_6, by_7}
use Rattle.net.proofs.transition_fault.Goals as goal

pub returns-then-too_many : goal.returns-then-too_many
returns-then-too_many c = let a = c.args in by_2 (net_of a.net.now) a.before a.strange a.rate a.delay a.count c.if-too_many.ensures

pub returns-then-no_such_place : goal.returns-then-no_such_place
returns-then-no_such_place c =
    let a = c.args in
    by_3 (net_of a.net.now) a.before a.strange a.rate a.delay a.count c.if-too_many.ensures c.if-no_such_place.ensures

pub returns-then-outside : goal.returns-then-outside
returns-then-outside c =
    let a = c.args in
    by_4 (net_of a.net.now) a.before a.strange a.rate a.delay a.count c.if-too_many.ensures c.if-no_such_place.ensures c.if-outside.ensures

pub returns-then-taken_twice : goal.returns-then-taken_twice
returns-then-taken_twice c =
    let a = c.args in
    by_5 (net_of a.net.now) a.before a.strange a.rate a.delay a.count c.if-too_many.ensures c.if-no_such_place.ensures c.if-outside.ensures
    c.if-taken_twice.ensures

pub returns-then-delayed_for_nothing : goal.returns-then-delayed_for_nothing
returns-then-delayed_for_nothing c =
    let a = c.args in
    by_6 (net_of a.net.now) a.before a.strange a.rate a.delay a.count c.if-too_many.ensures c.if-no_such_place.ensures c.if-outside.ensures
    c.if-taken_twice.ensures c.if-delayed_for_nothing.ensures

pub returns-then-kinetic_over : goal.returns-then-kinetic_over
returns-then-kinetic_over c =
    let a = c.args in
    by_7 (net_of a.net.now) a.before a.strange a.rate a.delay a.count c.if-too_many.ensures c.if-no_such_place.ensures c.if-outside.ensures
    c.if-taken_twice.ensures c.if-delayed_for_nothing.ensures c.if-kinetic_over.ensures

pub returns : goal.returns
returns c =
    let a = c.args in
    by_7 (net_of a.net.now) a.before a.strange a.rate a.delay a.count c.if-too_many.ensures c.if-no_such_place.ensures c.if-outside.ensures
    c.if-taken_twice.ensures c.if-delayed_for_nothing.ensures c.if-kinetic_over.ensures
