-- `put_all` meets its contract: the sentences one behind the other, and none behind one that did not fit.
use mathlib.Core.Path.{ap, ◌∙◌}
use mathlib.Core.Bool.{true}
use Prim.Native.Nat.{ℕ}
use Rattle.std.specs.Prelude.{Option, Some}
use Rattle.net.specs.Labels.{label_at}
use Rattle.gates.specs.Gated.{gates_of}
use Rattle.reason.specs.Call.{reasons}
use Rattle.reason.specs.Reasons.{read_words, inhibitor_words, non_kinetic_words}
use Rattle.reason.proofs.Cases.{in_turn, short_counted, short_labels, short_timed}
use Rattle.reason.proofs.writing.put_all.Goals as goal

pub returns-in_err-a : goal.returns-in_err-a
unfolding read_words inhibitor_words non_kinetic_words
returns-in_err-a c =
    let a = c.args in
    let r = reasons (label_at a.net.now.label.now a.net.now.lengths.now) (gates_of a.g) in
    let out = c.put_counted.new.out in
    ap (λ (x : Option ℕ). (out, x)) c.from_residual.ensures
    ∙ in_turn (a.out.now, Some 0) r c.in_err-a.ensures
    (short_counted out r.inhibitors inhibitor_words) (short_counted out r.non_kinetic non_kinetic_words) (short_labels out true r.bounded) (short_timed out r.delayed)

pub returns-in_err-b : goal.returns-in_err-b
unfolding read_words inhibitor_words non_kinetic_words
returns-in_err-b c =
    let a = c.args in
    let r = reasons (label_at a.net.now.label.now a.net.now.lengths.now) (gates_of a.g) in
    let out = c.put_counted-2.new.out in
    ap (λ (x : Option ℕ). (out, x)) c.from_residual-in_err-b.ensures
    ∙ in_turn (a.out.now, Some 0) r c.in_ok-a.ensures c.in_err-b.ensures
    (short_counted out r.non_kinetic non_kinetic_words) (short_labels out true r.bounded) (short_timed out r.delayed)

pub returns-in_err-c : goal.returns-in_err-c
unfolding read_words inhibitor_words non_kinetic_words
returns-in_err-c c =
    let a = c.args in
    let r = reasons (label_at a.net.now.label.now a.net.now.lengths.now) (gates_of a.g) in
    let out = c.put_counted-3.new.out in
    ap (λ (x : Option ℕ). (out, x)) c.from_residual-in_err-c.ensures
    ∙ in_turn (a.out.now, Some 0) r c.in_ok-a.ensures c.in_ok-b.ensures c.in_err-c.ensures (short_labels out true r.bounded) (short_timed out r.delayed)

pub returns-in_err-d : goal.returns-in_err-d
unfolding read_words inhibitor_words non_kinetic_words
returns-in_err-d c =
    let a = c.args in
    let r = reasons (label_at a.net.now.label.now a.net.now.lengths.now) (gates_of a.g) in
    let out = c.put_labels.new.out in
    ap (λ (x : Option ℕ). (out, x)) c.from_residual-in_err-d.ensures
    ∙ in_turn (a.out.now, Some 0) r c.in_ok-a.ensures c.in_ok-b.ensures c.in_ok-c.ensures c.in_err-d.ensures (short_timed out r.delayed)

pub returns : goal.returns
unfolding read_words inhibitor_words non_kinetic_words
returns c =
    let a = c.args in
    in_turn (a.out.now, Some 0) (reasons (label_at a.net.now.label.now a.net.now.lengths.now) (gates_of a.g))
    c.in_ok-a.ensures c.in_ok-b.ensures c.in_ok-c.ensures c.in_ok-d.ensures c.put_timed.ensures
