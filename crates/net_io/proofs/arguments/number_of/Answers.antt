-- The digits so far come to the value, and the rest on top of it to the whole (Digits, Upto). Assumes nothing.
use Prim.Native.Nat.{ℕ, ◌<◌}
use mathlib.Core.Path.{◌≡◌, refl, sym, ap, ◌∙◌, subst}
use mathlib.Core.Bool.{Bool, cond}
use Rattle.std.proofs.Common.{rules, tests, arith}
use native.Mathlib.Numerals.{add-one}
use lib.ListN.{length}
use Rattle.std.specs.Prelude.{Some, None}
use Rattle.net_io.specs.Digits.{value_from, held}
use Rattle.net_io.proofs.Digits.{Upto, one_more, no_digit, all_digits, told}
use Rattle.net_io.proofs.arguments.number_of.Goals as goal

pub loop-b-init : goal.loop-b-init
loop-b-init c = record { v = 0; has = refl; rest = refl; same = refl }

pub returns-then-not-is_digit : goal.returns-then-not-is_digit
returns-then-not-is_digit c =
    let ds = c.args.digits.now in
    let none = no_digit ds c.loop-b.b-index c.loop-b.value c.loop-b.invariant c.loop-b-test.true (sym c.is_digit.ensures ∙ c.if-not-is_digit.true) in
    sym (ap (λ (b : Bool). cond b (Some (held (value_from 0 ds))) None) none)

pub loop-b-preserved : goal.loop-b-preserved
loop-b-preserved c =
    let ds = c.args.digits.now in
    let i = c.loop-b.b-index in
    let u = c.loop-b.invariant in
    subst (λ (k : ℕ). Upto ds k c.with_digit-value.result) (sym (add-one i))
    (one_more ds i c.loop-b.value u c.with_digit-value.result c.loop-b-test.true (sym c.is_digit.ensures ∙ c.if-not-is_digit.false) (c.with_digit-value.ensures u.v u.has))

pub returns : goal.returns
returns c =
    let ds = c.args.digits.now in
    let some : 0 < length ds = search (rules, tests) in
    let end : c.loop-b.b-index ≡ length ds = omega arith in
    let a = all_digits ds c.loop-b.b-index c.loop-b.value c.loop-b.invariant end in
    told ds c.loop-b.value some a.0 a.1
