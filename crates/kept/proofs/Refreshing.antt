-- The sums before the lowest transition that changed stay good, a full working is what is kept whole, and some mark is set just where a rounded propensity is
-- added. Assumes nothing.
use Prim.Native.Nat.{ℕ, zero, suc, ◌^◌, ◌<◌}
use mathlib.Core.Path.{◌≡◌, refl, sym, ap, ◌∙◌, subst}
use mathlib.Core.Bool.{Bool, true, false, ◌||◌, not, true≢false}
use mathlib.Core.List.{List}
use native.Mathlib.Omega.{arith}
use lib.Count.{count_trailing_zeros}
use lib.Dec.{eqb}
use lib.ListN.{length, get_or, take}
use lib.Seq.{get_or-take, length-take-le, ext_get_or}
use lib.Ieee.{Float, nan}
use borrow.Author.Tests.{eqb-true, eqb-false}
use Rattle.words.specs.Bits.{bit}
use Rattle.words.proofs.Bits.{bit_none, lowest_set, below_lowest}
use Rattle.net.specs.declared.Net.{Net as NetRecord}
use Rattle.net.specs.Net.{Net, Marking}
use Rattle.net.specs.Readable.{readable}
use Rattle.net.proofs.Lengths.{transitions_length}
use Rattle.rules.specs.Propensity.{propensities, total}
use Rattle.rules.specs.Exact.{adds_rounded}
use Rattle.rules.specs.Index.{any_below}
use Rattle.rules.specs.RunningSums.{SumsKept}
use Rattle.rules.proofs.Index.{kept_whole, marks_whole}
use Rattle.rules.proofs.RunningSums.{sums_stay}
use Rattle.jump.specs.Summing.{Summed}
use Rattle.engine.specs.Engine.{Tidy}
use Rattle.engine.proofs.Arcs.{on_bool}
use Rattle.kept.specs.Kept.{Kept, Marked}
use Rattle.kept.proofs.Settling.{kept_at}

above_zero : (x : ℕ) → (x ≡ 0 → ⊥) → 0 < x
above_zero zero h = absurd (h refl)
above_zero (suc x) h = omega arith

-- ---- a full working, and its sums

module _ (n : NetRecord) (m : Marking) (able : ℕ) (props after sums : List Float) (tidy : Tidy n) (kept : Kept (readable n) m 0 0 able after) (l : length props ≡ 64)
    (l' : length after ≡ 64) where
  abbrev k : ℕ
  k = n.transitions

  pub worked_whole : take n.transitions after ≡ propensities (readable n) m
  worked_whole =
      ap (λ (x : ℕ). take x after) (sym (transitions_length n))
      ∙ kept_whole (readable n) m (λ (j : ℕ). false) after after (omega (arith, transitions_length n, tidy.transitions)) (λ j h e. kept_at (readable n) m able after kept j h)
      (record { long = refl; these = λ j h e. absurd (true≢false (sym e)); others = λ j e. refl })

  many : length (take k props) ≡ k
  many = length-take-le k props (omega (arith, tidy.transitions))

  as_many : length (take k after) ≡ k
  as_many = length-take-le k after (omega (arith, tidy.transitions))

  module _ (changed : ℕ) (same : (j : ℕ) → bit changed j ≡ false → get_or after j nan ≡ get_or props j nan) where
    -- nothing changed
    pub sums_same : (a0 : Float) → changed ≡ 0 → Summed n.transitions props sums a0 → Summed n.transitions after sums a0
    sums_same a0 e s = record { each = subst (λ (xs : List Float). SumsKept k xs sums) alike s.each; all = s.all ∙ ap total alike }
      where
        alike : take k props ≡ take k after
        alike =
            ext_get_or nan (take k props) (take k after) (many ∙ sym as_many)
            (λ i h.
            let b : i < k = omega (arith, many) in
            get_or-take k props i nan b ∙ sym (same i (ap (λ (w : ℕ). bit w i) e ∙ bit_none i)) ∙ sym (get_or-take k after i nan b))

    module _ (fits : changed < 2 ^ 64) (inside : (j : ℕ) → bit changed j ≡ true → j < n.transitions) (some : changed ≡ 0 → ⊥) where
      pub lowest_inside : count_trailing_zeros 64 changed < n.transitions
      lowest_inside = inside (count_trailing_zeros 64 changed) (lowest_set 64 changed (above_zero changed some) fits)

      pub front_kept : SumsKept n.transitions (take n.transitions props) sums → SumsKept (count_trailing_zeros 64 changed) (take n.transitions after) sums
      front_kept s =
          sums_stay (count_trailing_zeros 64 changed) (take k props) (take k after) sums (omega (arith, many, lowest_inside)) (omega (arith, as_many, lowest_inside))
          (λ i h.
          let b : i < k = omega (arith, lowest_inside) in
          get_or-take k props i nan b ∙ sym (same i (below_lowest 64 changed i h)) ∙ sym (get_or-take k after i nan b))
          (λ i h. s i (omega (arith, lowest_inside)))

-- ---- some mark

some_none : (f : ℕ → Bool) (k : ℕ) → ((j : ℕ) → f j ≡ false) → any_below f k ≡ false
some_none f zero h = refl
some_none f (suc k) h = (λ i. some_none f k h i || h k i)

some_there : (f : ℕ → Bool) (k j : ℕ) → j < k → f j ≡ true → any_below f k ≡ true
some_there f zero j h e = absurd (omega arith)
some_there f (suc k) j h e = on_bool (eqb j k)
    (λ q. ap (λ (b : Bool). any_below f k || b) (ap f (sym (eqb-true j k q)) ∙ e) ∙ or_true (any_below f k))
    (λ q. let d = eqb-false j k q in ap (λ (b : Bool). b || f k) (some_there f k j (apart d h) e))
  where
    or_true : (b : Bool) → (b || true) ≡ true
    or_true true = refl
    or_true false = refl

    apart : (j ≡ k → ⊥) → j < suc k → j < k
    apart d h = omega arith

pub marks_some : (n : Net) (m : Marking) (able marks : ℕ) → marks < 2 ^ 64 → Marked n m 0 0 able marks → not (eqb marks 0) ≡ adds_rounded n m
marks_some n m able marks fits k =
    on_bool (eqb marks 0)
    (λ e. ap not e ∙ sym (some_none (bit marks) (length n.transitions) (λ j. ap (λ (w : ℕ). bit w j) (eqb-true marks 0 e) ∙ bit_none j)))
    (λ e.
    let above : 0 < marks = above_zero marks (eqb-false marks 0 e) in
    let there : bit marks (count_trailing_zeros 64 marks) ≡ true = lowest_set 64 marks above fits in
    ap not e ∙ sym (some_there (bit marks) (length n.transitions) (count_trailing_zeros 64 marks) (k.inside (count_trailing_zeros 64 marks) there) there))
    ∙ marks_whole n m (bit marks) (λ j h e. k.told j h (bit_none j) (bit_none j))
