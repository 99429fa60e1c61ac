-- A value has one square root only. Of two nearest roots each would be strictly nearer than the other, by the square of the same midpoint. So they are the
-- same number of units, and then the same bit pattern. Assumes nothing.
use Rattle.std.proofs.Common.{◌≡◌, ℕ, zero, suc, ◌+◌, ◌-◌, ◌*◌, ◌/◌, ◌^◌, ◌<◌, ◌≤◌, true, false, sym, ap, ◌∙◌, subst, true≢false, lt_trans, le_of_suc-le-suc, lt_irrefl, add_comm, le_antisymm, lt_of_not-le, mul-div_cancel}
use lib.Ieee.{Float, nan, inf, fin, binary64, down, size, to_bits, of_bits}
use lib.Ieee.Bits.{of_bits-to_bits}
use lib.Ieee.Exact.{HasValue}
use lib.Ieee.Fits.{down_pos}
use Rattle.root.specs.Nearest.{InUnits, NearestRoot}
use Rattle.root.specs.Theorems.{OnlyOne}
use Rattle.root.proofs.Units.{count}

-- the pattern of n units
bits : ℕ → ℕ
bits n = let k = size n - 53 in 0 + k * 2 ^ 52 + n / 2 ^ k

bits_is : (x : Float) (a : ℕ) → HasValue x false a (2 ^ 1074) → to_bits binary64 x ≡ bits a
unfolding to_bits bits
bits_is nan a h = absurd h
bits_is (inf s) a h = absurd h
bits_is (fin true m e) a h = absurd (true≢false h.0)
bits_is (fin false m e) a h = ap bits (ap (λ (x : ℕ). x / down e) h.1 ∙ mul-div_cancel a (down_pos e))

same_value : {x y : Float} {a : ℕ} → InUnits x a → InUnits y a → x ≡ y
same_value {x} {y} {a} u v =
    sym (of_bits-to_bits binary64 x u.held) ∙ ap (of_bits binary64) (bits_is x a u.value ∙ sym (bits_is y a v.value)) ∙ of_bits-to_bits binary64 y v.held

-- the first is no more than the second
below : {x r s : Float} (a : NearestRoot x r) (b : NearestRoot x s) → a.q ≤ b.q
below {x} {r} {s} a b = le_of_suc-le-suc (lt_of_not-le (λ (g : suc b.q ≤ a.q).
    let e : a.n ≡ b.n = count x a.n b.n a.of_x.value b.of_x.value in
    let h : (b.q + a.q) * (b.q + a.q) < 4 * (b.n * 2 ^ 1074) = subst (λ (i : ℕ). (b.q + a.q) * (b.q + a.q) < 4 * (i * 2 ^ 1074)) e (a.above s b.q b.of_r g) in
    let k : 4 * (b.n * 2 ^ 1074) < (b.q + a.q) * (b.q + a.q) = subst (λ (i : ℕ). 4 * (b.n * 2 ^ 1074) < i * i) (add_comm a.q b.q) (b.under r a.q a.of_r g) in
    lt_irrefl (4 * (b.n * 2 ^ 1074)) (lt_trans k h)))

one_nearest : {x r s : Float} → NearestRoot x r → NearestRoot x s → r ≡ s
one_nearest {x} {r} {s} a b = same_value (subst (λ (i : ℕ). InUnits r i) (le_antisymm (below a b) (below b a)) a.of_r) b.of_r

pub only_one : OnlyOne
only_one nan r s a b = a ∙ sym b
only_one (inf true) r s a b = a ∙ sym b
only_one (inf false) r s a b = a ∙ sym b
only_one (fin t zero e) r s a b = a ∙ sym b
only_one (fin true (suc m) e) r s a b = a ∙ sym b
only_one (fin false (suc m) e) r s a b = one_nearest a b
