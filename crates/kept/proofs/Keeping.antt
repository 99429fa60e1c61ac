-- What is kept, from step to step: it stays good through a change of the counts, except for the transitions that this may move or cross; at the beginning nothing
-- is kept, and all are crossed; and a delayed transition that is not crossed is shut. Assumes nothing.
use Prim.Native.Nat.{ℕ, zero, suc, ◌≤◌, ◌<◌}
use mathlib.Core.Path.{◌≡◌, refl, sym, ap, ◌∙◌}
use mathlib.Core.Bool.{true, false, ◌&&◌, ◌||◌, true≢false}
use mathlib.Core.List.{List, ◌∷◌}
use mathlib.Core.Logic.{⊎_elim}
use native.Mathlib.Omega.{arith}
use lib.Bits.{bit_or}
use lib.Dec.{ltb}
use lib.ListN.{length, get_or, take, replicate, get_or-replicate}
use lib.Ieee.{Float, nan, binary64, of_bits, add, lt}
use borrow.Author.Tests.{lt-ltb, ltb-true}
use Rattle.words.specs.Bits.{bit}
use Rattle.words.proofs.Bits.{bit_none, bit_or_lem}
use Rattle.net.specs.Net.{Net, Marking, pick, zero64, rate_of, timed}
use Rattle.net.proofs.Slots.{not_first, not_second}
use Rattle.rules.specs.Enabled.{enabled}
use Rattle.rules.specs.Propensity.{summed, total}
use Rattle.rules.specs.Exact.{rounded}
use Rattle.rules.specs.Moves.{transition}
use Rattle.rules.specs.RunningSums.{sums_from}
use Rattle.jump.specs.Summing.{Summed}
use Rattle.engine.specs.Guards.{Quiet}
use Rattle.kept.specs.Kept.{Kept, Marked}
use Rattle.kept.proofs.Settling.{or_either}

-- ---- through a change of the counts

module _ (a b j : ℕ) where
  in_neither : bit (bit_or a b) j ≡ false → (bit a j || bit b j) ≡ false
  in_neither e = sym (bit_or_lem a b j) ∙ e

  not_in_first : bit (bit_or a b) j ≡ false → bit a j ≡ false
  not_in_first e = not_first (bit a j) (bit b j) (in_neither e)

  not_in_second : bit (bit_or a b) j ≡ false → bit b j ≡ false
  not_in_second e = not_second (bit a j) (bit b j) (in_neither e)

  in_one : {P : Type 0} → (bit a j ≡ true → P) → (bit b j ≡ true → P) → bit (bit_or a b) j ≡ true → P
  in_one f g e = ⊎_elim f g (or_either (bit a j) (bit b j) (sym (bit_or_lem a b j) ∙ e))

module _ (n : Net) (m m' : Marking) (mv cr mv' cr' able : ℕ) (q : Quiet n m m' mv' cr') where
  pub kept_quiet : (props : List Float) → Kept n m mv cr able props → Kept n m' (bit_or mv mv') (bit_or cr cr') able props
  kept_quiet props k =
      record {
        gates = λ j h c. k.gates j h (not_in_first cr cr' j c) ∙ sym (q.gates j h (not_in_second cr cr' j c));
        shut = λ j h c f. k.shut j h (not_in_first cr cr' j c) f;
        runs = λ j h c v f. k.runs j h (not_in_first cr cr' j c) (not_in_first mv mv' j v) f ∙ sym (q.ways j h (not_in_second mv mv' j v) (rate_of (transition n j)));
        waits = k.waits;
        moves = λ j e. in_one mv mv' j (k.moves j) (q.moves j) e;
        crosses = λ j e. in_one cr cr' j (k.crosses j) (q.crosses j) e;
      }

  -- a propensity that is neither moved nor crossed is rounded after it just where it was before
  rounded_stays : (j : ℕ) → j < length n.transitions → bit mv' j ≡ false → bit cr' j ≡ false → rounded n m' (transition n j) ≡ rounded n m (transition n j)
  rounded_stays j h v c =
      let t = transition n j in
      (λ i. lt zero64 (pick (q.gates j h c i) (q.ways j h v (rate_of t) i) zero64) && q.exact j h v i)

  pub marked_quiet : (marks : ℕ) → Marked n m mv cr able marks → Marked n m' (bit_or mv mv') (bit_or cr cr') able marks
  marked_quiet marks k =
      record {
        shut = λ j h c f. k.shut j h (not_in_first cr cr' j c) f;
        told = λ j h c v. k.told j h (not_in_first cr cr' j c) (not_in_first mv mv' j v) ∙ sym (rounded_stays j h (not_in_second mv mv' j v) (not_in_second cr cr' j c));
        inside = k.inside;
      }

-- a delayed transition that is not crossed
pub shut_open : (n : Net) (m : Marking) (mv cr able : ℕ) (props : List Float) → Kept n m mv cr able props
    → (j : ℕ) → j < length n.transitions → timed (transition n j) ≡ true → bit cr j ≡ false → enabled n m (transition n j) ≡ false
shut_open n m mv cr able props k j h t c = sym (k.gates j h c) ∙ (k.waits j h t).0

-- ---- at the beginning

module _ (n : Net) (m : Marking) (crossed : ℕ) (all : (j : ℕ) → bit crossed j ≡ ltb j (length n.transitions)) where
  none_left : {P : Type 0} (j : ℕ) → j < length n.transitions → bit crossed j ≡ false → P
  none_left j h c = absurd (true≢false (sym (all j ∙ lt-ltb j (length n.transitions) h) ∙ c))

  none_in : {P : Type 0} (j : ℕ) → bit 0 j ≡ true → P
  none_in j e = absurd (true≢false (sym e ∙ bit_none j))

  pub kept_first : length n.transitions ≤ 64 → Kept n m 0 crossed 0 (replicate 64 zero64)
  kept_first few =
      record {
        gates = λ j h c. none_left j h c;
        shut = λ j h c f. none_left j h c;
        runs = λ j h c v f. none_left j h c;
        waits = λ j h t. (bit_none j, get_or-replicate 64 j zero64 nan (omega arith));
        moves = λ j e. none_in j e;
        crosses = λ j e. ltb-true j (length n.transitions) (sym (all j) ∙ e);
      }

  pub marked_first : Marked n m 0 crossed 0 0
  marked_first = record { shut = λ j h c f. none_left j h c; told = λ j h c v. none_left j h c; inside = λ j e. none_in j e }

add_zero : add binary64 zero64 zero64 ≡ zero64
unfolding add of_bits
add_zero = refl

take_zeros : (k i : ℕ) → k ≤ i → take k (replicate i zero64) ≡ replicate k zero64
take_zeros zero i h = refl
take_zeros (suc k) zero h = absurd (omega arith)
take_zeros (suc k) (suc i) h = ap (λ (l : List Float). zero64 ∷ l) (take_zeros k i (omega arith))

sums_zero : (k : ℕ) → sums_from zero64 (replicate k zero64) ≡ replicate k zero64
sums_zero zero = refl
sums_zero (suc k) = ap (λ (x : Float). x ∷ sums_from x (replicate k zero64)) add_zero ∙ ap (λ (l : List Float). zero64 ∷ l) (sums_zero k)

summed_zero : (k : ℕ) → summed zero64 (replicate k zero64) ≡ zero64
summed_zero zero = refl
summed_zero (suc k) = ap (λ (x : Float). summed x (replicate k zero64)) add_zero ∙ summed_zero k

pub summed_first : (k : ℕ) → k ≤ 64 → Summed k (replicate 64 zero64) (replicate 64 zero64) zero64
summed_first k h =
    record {
      each = λ i l.
          get_or-replicate 64 i zero64 nan (omega arith)
          ∙ sym (get_or-replicate k i zero64 nan l)
          ∙ ap (λ (xs : List Float). get_or xs i nan) (sym (ap (sums_from zero64) (take_zeros k 64 h) ∙ sums_zero k));
      all = sym (ap total (take_zeros k 64 h) ∙ summed_zero k);
    }
