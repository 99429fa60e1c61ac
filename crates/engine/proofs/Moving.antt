-- A loop that takes, or puts, slot by slot: what is left to do comes to the whole, and the sum of the counts follows what has moved, of which each slot gives
-- a million at most. Assumes nothing.
use Prim.Native.Nat.{ℕ, ◌+◌, ◌-◌, ◌*◌, ◌^◌, ◌≤◌, ◌<◌, min}
use mathlib.Core.Path.{◌≡◌, sym, ap, ◌∙◌, subst⁻¹}
use mathlib.Core.Bool.{true, false, false≢true}
use mathlib.Core.List.{List}
use native.Mathlib.Omega.{arith}
use lib.ListN.{length, get_or, set}
use Rattle.net.specs.Net.{Marking}
use Rattle.net.specs.Readable.{slots}
use Rattle.rules.specs.Step.{counts_fit}
use Rattle.rules.specs.Moments.{sum_of}
use Rattle.engine.specs.Engine.{marking, Counts, PutBy}
use Rattle.engine.proofs.Arcs.{slots_end, slots_whole}
use Rattle.engine.proofs.Marks.{takes, takes_most, puts, puts_most, taking_of, putting_of, take_rule, put_rule, moving_turn, counts_set, sum_marking, fit_all, put_stop}

module _ (places : ℕ) (k p w : List ℕ) (e : ℕ) (before whole : Marking) where
  pub record Taking (counts : List ℕ) (less a : ℕ) : Type 0 where
    pub left : taking_of (marking places counts) (slots k p w a (e - a)) ≡ whole
    pub good : Counts counts
    pub sums : sum_of before ≡ sum_of (marking places counts) + less
    pub few : less + 1_000_000 * (e - a) ≤ 16_000_000

  pub record Putting (counts : List ℕ) (more a : ℕ) : Type 0 where
    pub left : putting_of (marking places counts) (slots k p w a (e - a)) ≡ whole
    pub good : Counts counts
    pub sums : sum_of (marking places counts) ≡ sum_of before + more
    pub few : more + 1_000_000 * (e - a) ≤ 16_000_000

  -- one turn, at slot a
  module _ (counts : List ℕ) (a : ℕ) (h : a < e) (n : places ≤ 32) (i : get_or p a 0 < places) (light : get_or w a 0 ≤ 1_000_000) (x : ℕ) where
    abbrev count : ℕ
    count = get_or counts (get_or p a 0) 0

    pub taking_turn : (less : ℕ) → Taking counts less a → x ≡ min count (takes (get_or k a 0) (get_or w a 0))
        → (counts' : List ℕ) (less' : ℕ) → counts' ≡ set counts (get_or p a 0) (count - x) → less' ≡ less + x → Taking counts' less' (a + 1)
    taking_turn less f d counts' less' c l =
        let sum = sum_marking places counts (get_or p a 0) (count - x) i (omega (arith, f.good.long)) in
        record {
          left = ap (λ (xs : List ℕ). taking_of (marking places xs) (slots k p w (a + 1) (e - (a + 1)))) c
              ∙ moving_turn ◌-◌ takes taking_of take_rule places k p w counts a e h i (count - x) (omega arith)
              ∙ f.left;
          good = subst⁻¹ Counts c (counts_set counts (get_or p a 0) (count - x) f.good (omega arith) (omega (arith, f.good.small (get_or p a 0))));
          sums = omega (arith, sum, ap (λ (xs : List ℕ). sum_of (marking places xs)) c, f.sums);
          few = omega (arith, takes_most (get_or k a 0) (get_or w a 0) light, f.few);
        }

    module _ (more : ℕ) (f : Putting counts more a) (d : x ≡ puts (get_or k a 0) (get_or w a 0)) where
      new : count + x ≡ count + puts (get_or k a 0) (get_or w a 0)
      new = ap (λ (y : ℕ). count + y) d

      inside : places ≤ length counts
      inside = omega (arith, f.good.long)

      pub putting_turn : count + x ≤ 2 ^ 53 → (counts' : List ℕ) (more' : ℕ) → counts' ≡ set counts (get_or p a 0) (count + x) → more' ≡ more + x
          → Putting counts' more' (a + 1)
      putting_turn small counts' more' c l =
          let sum = sum_marking places counts (get_or p a 0) (count + x) i inside in
          record {
            left = ap (λ (xs : List ℕ). putting_of (marking places xs) (slots k p w (a + 1) (e - (a + 1)))) c
                ∙ moving_turn ◌+◌ puts putting_of put_rule places k p w counts a e h i (count + x) new
                ∙ f.left;
            good = subst⁻¹ Counts c (counts_set counts (get_or p a 0) (count + x) f.good (omega arith) small);
            sums = omega (arith, sum, ap (λ (xs : List ℕ). sum_of (marking places xs)) c, f.sums);
            few = omega (arith, puts_most (get_or k a 0) (get_or w a 0) light, f.few);
          }

      -- a count that passes 2^53 stays above
      pub putting_stop : 2 ^ 53 < count + x → (found : Marking) → PutBy false whole found
      putting_stop o found =
          record {
            says = sym (sym (ap counts_fit f.left) ∙ put_stop places k p w counts a e inside h i (count + x) new o);
            gives = λ t. absurd (false≢true t);
          }

  pub putting_all : (counts : List ℕ) (more a : ℕ) → Putting counts more a → e ≤ a → PutBy true whole (marking places counts)
  putting_all counts more a f h =
      let done = sym (ap (putting_of (marking places counts)) (slots_end k p w a e h)) ∙ f.left in
      record { says = sym (sym (ap counts_fit done) ∙ fit_all places counts f.good.small); gives = λ t. done }

-- they begin with n slots at a
module _ (places : ℕ) (k p w counts : List ℕ) (a n : ℕ) (c : Counts counts) (h : n ≤ 16) where
  pub taking_none : Taking places k p w (a + n) (marking places counts) (taking_of (marking places counts) (slots k p w a n)) counts 0 a
  taking_none =
      record { left = ap (taking_of (marking places counts)) (slots_whole k p w a n); good = c; sums = omega arith; few = omega arith }

  pub putting_none : Putting places k p w (a + n) (marking places counts) (putting_of (marking places counts) (slots k p w a n)) counts 0 a
  putting_none =
      record { left = ap (putting_of (marking places counts)) (slots_whole k p w a n); good = c; sums = omega arith; few = omega arith }
