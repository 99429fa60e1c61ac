-- A cell in 0..2^53 is a fraction of at most 2^53, so that what is left of it without its fraction is at most 2^53 too. Whether it is whole is one comparison.
use Rattle.std.proofs.Common.{◌≡◌, ℕ, suc, ◌+◌, ◌-◌, ◌*◌, ◌^◌, ◌<◌, ◌≤◌, Bool, true, false, not, ◌&&◌, ◌||◌, eqb, ltb, ◌⊎◌, List, take, drop, ℤ, pos, sym, refl, ap, ◌∙◌, ap₂, inl, inr, mul-le-mul_right, suc-mul, add-one, arith, ltb-true, lt-ltb, eqb-true}
use mathlib.Core.Bool.{and-false, not-not}
use lib.Ieee.{Float, nan, inf, fin, binary64, up, down, lt, le, eq, round, of_int, of_bits, to_unsigned}
use lib.Ieee.Fits.{down_pos}
use lib.Ieee.Nearest.{div_mono}
use Rattle.net.specs.Net.{zero64}
use Rattle.net.proofs.Slots.{or_stop, or_go}
use Rattle.rules.specs.Propensity.{float}
use Rattle.rules.specs.Change.{cell_fits}
use Rattle.rules.proofs.Order.{never, either, both, lt_le}
use Rattle.carried.specs.Records.{some_strange, record_of, strange_from}

-- 2^53
abbrev pub most : Float
most = of_bits binary64 0x4340_0000_0000_0000

most_is : float (2 ^ 53) ≡ most
unfolding of_int round of_bits
most_is = refl

pub above : (x : Float) → le zero64 x ≡ true → lt (fin true 1 (pos 0)) x ≡ true
unfolding lt of_bits
above x h = lt_le (fin true 1 (pos 0)) zero64 x refl h

at_most : (a b : ℕ) → (ltb a b || eqb a b && true) ≡ true → a ≤ b
at_most a b h = go (either (ltb a b) (eqb a b && true) h)
  where
    go : (ltb a b ≡ true) ⊎ (eqb a b && true ≡ true) → a ≤ b
    go (inl l) = omega (arith, ltb-true a b l)
    go (inr q) = omega (arith, eqb-true a b (both (eqb a b) true q).0)

fraction : (m : ℕ) (e : ℤ) → le (fin false m e) most ≡ true → m * up e ≤ 2 ^ 53 * down e
unfolding le of_bits
fraction m e h = let k = at_most (m * up e * 1) (1 * 2 ^ 53 * down e) h in omega arith

pub below : (x : Float) → le zero64 x ≡ true → le x most ≡ true → lt x (fin false 1 (pos 64)) ≡ true
unfolding lt le of_bits
below nan l h = never l
below (inf false) l h = never h
below (inf true) l h = never l
below (fin true m e) l h = lt-ltb 0 (m * up e * 1 + 1 * 2 ^ 64 * down e) (omega (arith, down_pos e))
below (fin false m e) l h = lt-ltb (m * up e * 1) (1 * 2 ^ 64 * down e) (omega (arith, down_pos e, fraction m e h))

pub small : (x : Float) → le zero64 x ≡ true → le x most ≡ true → to_unsigned 64 x ≤ 2 ^ 53
unfolding le of_bits to_unsigned
small nan l h = omega arith
small (inf false) l h = never h
small (inf true) l h = omega arith
small (fin true m e) l h = omega arith
small (fin false m e) l h =
    let cut = div_mono (m * up e) (down e) (2 ^ 53) 1 (down_pos e) (omega arith) (omega (arith, fraction m e h)) in
    omega arith

pub whole_cell : (x : Float) {k : ℕ} → le zero64 x ≡ true → le x most ≡ true → k ≡ to_unsigned 64 x → eq x (float k) ≡ cell_fits x
whole_cell x l h e =
    ap (λ (j : ℕ). eq x (float j)) e
    ∙ sym (ap₂ (λ (a b : Bool). a && b && eq x (float (to_unsigned 64 x))) l (ap (le x) most_is ∙ h))

pub too_large : (x : Float) → le x most ≡ false → false ≡ cell_fits x
too_large x h =
    let whole = eq x (float (to_unsigned 64 x)) in
    sym (ap (λ (b : Bool). le zero64 x && b && whole) (ap (le x) most_is ∙ h) ∙ ap (λ (b : Bool). b && whole) (and-false (le zero64 x)))

pub below_zero : (x : Float) → le zero64 x ≡ false → false ≡ cell_fits x
below_zero x h = sym (ap (λ (b : Bool). b && le x (float (2 ^ 53)) && eq x (float (to_unsigned 64 x))) h)

-- ---- the cells of the places, n a place

pub cells_in : (p places n r : ℕ) → p < places → r ≤ n → p * n + r ≤ places * n
cells_in p places n r h l = let m : suc p * n ≤ places * n = mul-le-mul_right n h in omega (arith, suc-mul p n)

-- What is left to test from place p on, t being the whole. The cells of place p are those from cell p * n on.
module _ (n r : ℕ) (table : List Float) (p places : ℕ) {t : Bool} (inv : strange_from n r table p (places - p) ≡ t) where
  module _ (h : p < places) {b : Bool} (e : b ≡ not (some_strange (take (p * n + r - p * n) (drop (p * n) table)))) where
    turn : t ≡ (not b || strange_from n r table (p + 1) (places - (p + 1)))
    turn =
        let count : places - p ≡ suc (places - (p + 1)) = omega arith in
        let long : p * n + r - p * n ≡ r = omega arith in
        let some : not b ≡ some_strange (record_of n r table p) =
        ap not e ∙ not-not _ ∙ ap (λ (k : ℕ). some_strange (take k (drop (p * n) table))) long in
        sym inv
        ∙ ap (strange_from n r table p) count
        ∙ ap₂ (λ (x : Bool) (q : ℕ). x || strange_from n r table q (places - (p + 1))) (sym some) (sym (add-one p))

    pub place_stop : not b ≡ true → false ≡ not t
    place_stop f = ap not (or_stop _ _ turn f)

    pub place_go : not b ≡ false → strange_from n r table (p + 1) (places - (p + 1)) ≡ t
    place_go f = or_go _ _ turn f

  pub places_end : places ≤ p → true ≡ not t
  places_end h = let count : places - p ≡ 0 = omega arith in ap not (sym (ap (strange_from n r table p) count) ∙ inv)
