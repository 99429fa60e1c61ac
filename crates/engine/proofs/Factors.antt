-- What the ways of takes multiply to, slot by slot: the factors of the slots that are left go on top of what is worked so far. Assumes nothing.
use Prim.Native.Nat.{ℕ, ◌+◌, ◌-◌, ◌^◌, ◌≤◌, ◌<◌}
use mathlib.Core.Path.{◌≡◌, refl, sym, ap, ◌∙◌}
use mathlib.Core.Bool.{Bool, true, false}
use mathlib.Core.List.{List, ◌∷◌}
use native.Mathlib.Omega.{arith}
use lib.Dec.{eqb, leb}
use lib.ListN.{get_or}
use lib.IntN.{pos}
use lib.Ieee.{Float, nan, binary64, of_bits, mul, div}
use mir.Syntax.{w64}
use mir.Val.{to_z}
use mir.Facts.{to_z_pos}
use borrow.Author.Tests.{leb-false, eqb-true, ne_eqb}
use Rattle.std.proofs.Common.{Option, Some, None, unwrap_or}
use Rattle.net.specs.Net.{Marking, pick, zero64, amount, held}
use Rattle.net.specs.Readable.{Slot, slot_at, slots, takes_of}
use Rattle.combinations.specs.Combinations.{Answer, value, refused, combinations}
use Rattle.combinations.specs.Real as Real
use Rattle.combinations.specs.Real.{unflagged}
use Rattle.rules.specs.Propensity.{as_float, ways, factored}
use Rattle.engine.specs.Limits.{at_least}
use Rattle.engine.proofs.Arcs.{ap_pick, on_bool, amount_most, slots_step}

pub pick_true : {A : Type 0} (b : Bool) (x y : A) → b ≡ true → pick b x y ≡ x
pick_true b x y e = ap (λ (t : Bool). pick t x y) e

pub pick_false : {A : Type 0} (b : Bool) (x y : A) → b ≡ false → pick b x y ≡ y
pick_false b x y e = ap (λ (t : Bool). pick t x y) e

-- ---- the ways of one slot

-- the float of an answer without its flag
abbrev pub alone : Real.Answer → Float
alone (Real.value x) = x
alone (Real.refused c) = nan

alone_is : (a : Answer) → alone (unflagged a) ≡ as_float a
alone_is (value x e) = refl
alone_is (refused c) = refl

-- 0 over 0
no_number : div binary64 zero64 zero64 ≡ nan
unfolding div of_bits
no_number = refl

or_no_number : (r : Option Float) → unwrap_or r (div binary64 zero64 zero64) ≡ alone (Real.meaning r)
or_no_number (Some x) = refl
or_no_number None = no_number

-- what the answers of `combinations` say of two numbers that are the same signed
pub ways_answer : (m w : ℕ) → m ≤ 2 ^ 53 → w ≤ 1_000_000 → (r : Option Float) → Real.meaning r ≡ unflagged (combinations (to_z w64 m) (to_z w64 w))
    → unwrap_or r (div binary64 zero64 zero64) ≡ ways m w
ways_answer m w h k r e =
    let a : to_z w64 m ≡ pos m = to_z_pos w64 (omega arith) in
    let b : to_z w64 w ≡ pos w = to_z_pos w64 (omega arith) in
    or_no_number r ∙ ap alone (e ∙ (λ i. unflagged (combinations (a i) (b i)))) ∙ alone_is (combinations (pos m) (pos w))

-- x times the ways of one slot
abbrev pub times : Float → ℕ → ℕ → ℕ → Float
times x kind weight count = pick (eqb kind 0) (mul binary64 x (ways count (amount weight))) x

-- the same, by the limit of a kinetic take
pub times_limit : (x : Float) (kind weight limit count : ℕ) → weight ≤ 1_000_000 → (kind ≡ 0 → limit ≡ at_least (amount weight))
    → pick (eqb kind 0) (mul binary64 x (ways count (at_least limit))) x ≡ times x kind weight count
times_limit x kind weight limit count h l =
    on_bool (eqb kind 0)
    (λ e.
    let same : at_least limit ≡ amount weight = omega (arith, l (eqb-true kind 0 e), amount_most weight h) in
    ap (λ (w : ℕ). pick (eqb kind 0) (mul binary64 x (ways count w)) x) same)
    (λ e. pick_false (eqb kind 0) _ x e ∙ sym (pick_false (eqb kind 0) _ x e))

factored_slot : (m : Marking) (x : Float) (l : Slot) (ls : List Slot)
    → factored m x (takes_of (l ∷ ls)) ≡ factored m (times x l.kind l.weight (held m l.place)) (takes_of ls)
factored_slot m x l ls =
    ap_pick (factored m x) (leb l.kind 1) _ _
    ∙ on_bool (leb l.kind 1)
    (λ e. pick_true (leb l.kind 1) _ _ e)
    (λ e.
    let h = leb-false l.kind 1 e in
    pick_false (leb l.kind 1) _ _ e ∙ sym (ap (λ (y : Float). factored m y (takes_of ls)) (pick_false (eqb l.kind 0) _ x (ne_eqb l.kind 0 (λ d. omega arith)))))

-- one turn of the loop over slots, at slot a
pub factored_turn : (m : Marking) (x : Float) (k p w : List ℕ) (a e : ℕ) → a < e
    → factored m x (takes_of (slots k p w a (e - a)))
    ≡ factored m (times x (get_or k a 0) (get_or w a 0) (held m (get_or p a 0))) (takes_of (slots k p w (a + 1) (e - (a + 1))))
factored_turn m x k p w a e h =
    ap (λ (ls : List Slot). factored m x (takes_of ls)) (slots_step k p w a e h)
    ∙ factored_slot m x (slot_at k p w a) (slots k p w (a + 1) (e - (a + 1)))
