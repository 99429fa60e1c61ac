-- The loop adds the counts of the places below p; each is at most 2^53, so 32 of them are at most 2^58.
use mathlib.Core.List.{List, [], ◌∷◌, ◌++◌}
use native.Mathlib.Numerals.{add-one}
use lib.ListN.{length, take, get_or}
use lib.Seq.{take-suc}
use Rattle.rules.specs.Moments.{sum_of}
use native.Mathlib.Omega.{arith}
use mathlib.Core.Path.{◌≡◌, refl, ap, ◌∙◌}
use Prim.Native.Nat.{ℕ, ◌+◌, ◌<◌}
use Rattle.playing.proofs.begin.sum.Goals as goal

sum_append : (xs ys : List ℕ) → sum_of (xs ++ ys) ≡ sum_of xs + sum_of ys
sum_append [] ys = omega arith
sum_append (x ∷ xs) ys = omega (arith, sum_append xs ys)

sum_more : (counts : List ℕ) (p : ℕ) → p < length counts → sum_of (take (p + 1) counts) ≡ sum_of (take p counts) + get_or counts p 0
sum_more counts p h =
    ap (λ (k : ℕ). sum_of (take k counts)) (add-one p) ∙ ap sum_of (take-suc counts p 0 h)
    ∙ sum_append (take p counts) (get_or counts p 0 ∷ []) ∙ (omega arith)

pub overflow_add-total : goal.overflow_add-total
overflow_add-total c = omega (arith, c.requires.1.small c.loop-p.p)

pub loop-p-preserved : goal.loop-p-preserved
loop-p-preserved c =
    let x = c.requires.1.small c.loop-p.p in
    let m = sum_more c.args.counts.now c.loop-p.p (omega (arith, c.requires.1.long)) in
    (omega (arith, m), omega (arith, x))

pub returns : goal.returns
returns c =
    let e : c.loop-p.p ≡ c.args.places = omega arith in
    c.loop-p.invariant.0 ∙ ap (λ (k : ℕ). sum_of (take k c.args.counts.now)) e
