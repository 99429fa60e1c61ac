-- A turn maps one element more.
use mathlib.Core.Path.{◌≡◌, sym, ap, ◌∙◌}
use mathlib.Core.List.{List, ◌++◌, map}
use Prim.Native.Nat.{ℕ, ◌-◌, ◌≤◌}
use native.Mathlib.Omega.{arith}
use lib.ListN.{length, get_or, set, take, drop}
use lib.Seq.{length-take-le, get_or-drop, get_or-append_right}
use Rattle.std.proofs.lemmas.List.{length-map, take_all, drop_all, append-nil}
use Rattle.std.proofs.lemmas.List.Edits.{map_over_more}
use Rattle.c_face.proofs.slices.each.Goals as goal

-- the element at the index is as it was
untouched : {A : Type 0} (h : A → A) (xs : List A) (i : ℕ) (d : A) → i ≤ length xs → get_or (map h (take i xs) ++ drop i xs) i d ≡ get_or xs i d
untouched h xs i d l =
    let n : length (map h (take i xs)) ≡ i = length-map (take i xs) h ∙ length-take-le i xs l in
    get_or-append_right (map h (take i xs)) (drop i xs) i d (omega arith)
    ∙ get_or-drop i xs (i - length (map h (take i xs))) d
    ∙ ap (λ (k : ℕ). get_or xs k d) (omega arith)

whole : {A : Type 0} (h : A → A) (xs : List A) (i : ℕ) → length xs ≤ i → map h (take i xs) ++ drop i xs ≡ map h xs
whole h xs i l = rw (take_all i xs l, drop_all i xs l) (append-nil (map h xs))

pub loop-x-preserved : goal.loop-x-preserved
loop-x-preserved g c =
    let x = c.x-item.result in
    let i = c.loop-x.x-index in
    let xs = c.args.xs.now in
    λ h e.
    let m = c.loop-x.invariant h e in
    let u : get_or c.loop-x.xs i x ≡ get_or xs i x = rw m (untouched h xs i x (omega arith)) in
    ap (set c.loop-x.xs i) (e i x c.f.result c.loop-x-test.true (rw u at c.f.ensures) ∙ ap h (sym (c.x-item.is ∙ u)))
    ∙ map_over_more h xs c.loop-x.xs i x c.loop-x-test.true m c.x-item.is

pub returns : goal.returns
returns g c =
    λ h e. c.loop-x.invariant h e ∙ whole h c.args.xs.now c.loop-x.x-index c.loop-x-test.false
