-- A loop that takes and puts in one way through the slots of a transition, whose puts stand last: a slot that is no put takes, and from a put on nothing is
-- left to take. What is left to take and to put comes to the whole. Assumes nothing.
use Prim.Native.Nat.{ℕ, ◌+◌, ◌-◌, ◌*◌, ◌^◌, ◌≤◌, ◌<◌, min}
use mathlib.Core.Path.{◌≡◌, sym, ap, ◌∙◌, subst, subst⁻¹}
use mathlib.Core.Bool.{true, false, false≢true}
use mathlib.Core.List.{List, [], ◌∷◌}
use native.Mathlib.Omega.{arith}
use lib.ListN.{length, get_or, set}
use borrow.Author.Tests.{eqb-true, lt-leb}
use Rattle.net.specs.Net.{Take, Marking, amount}
use Rattle.net.specs.Readable.{Slot, slot_at, slots, takes_of, arcs_of, is_put}
use Rattle.rules.specs.Moves.{taking, putting}
use Rattle.rules.specs.Step.{counts_fit}
use Rattle.rules.specs.Moments.{sum_of}
use Rattle.engine.specs.Engine.{PutsLast, marking, Counts, PutBy}
use Rattle.engine.proofs.Arcs.{amount_most, slots_step, slots_end, slots_whole}
use Rattle.engine.proofs.Marks.{takes, takes_most, puts, taking_of, putting_of, take_rule, put_rule, moving_turn, counts_set, sum_marking, fit_all, put_stop}

abbrev pub firing_of : Marking → List Slot → Marking
firing_of m ls = putting_of (taking_of m ls) ls

-- a put takes nothing
put_takes : (l : Slot) (ls : List Slot) → is_put l.kind ≡ true → takes_of (l ∷ ls) ≡ takes_of ls
put_takes l ls e =
    let two : l.kind ≡ 2 = eqb-true l.kind 2 e in
    simp (lt-leb l.kind 1 (omega arith))

module _ (places : ℕ) (k p w : List ℕ) (e : ℕ) (before whole : Marking) where
  -- what holds at slot a: the sum of the counts has lost `less` and got `more`, to which each slot adds a million at most
  pub record Firing (counts : List ℕ) (less more a : ℕ) : Type 0 where
    pub left : firing_of (marking places counts) (slots k p w a (e - a)) ≡ whole
    pub good : Counts counts
    pub last : PutsLast (slots k p w a (e - a))
    pub sums : sum_of (marking places counts) + less ≡ sum_of before + more
    pub few : less + more + 1_000_000 * (e - a) ≤ 16_000_000

  -- one turn, at slot a
  module _ (counts : List ℕ) (less more a : ℕ) (f : Firing counts less more a) (h : a < e) (n : places ≤ 32) (i : get_or p a 0 < places) (light : get_or w a 0 ≤ 1_000_000) where
    abbrev here : List Slot
    here = slots k p w a (e - a)

    abbrev behind : List Slot
    behind = slots k p w (a + 1) (e - (a + 1))

    abbrev count : ℕ
    count = get_or counts (get_or p a 0) 0

    step : here ≡ slot_at k p w a ∷ behind
    step = slots_step k p w a e h

    ordered : PutsLast (slot_at k p w a ∷ behind)
    ordered = subst PutsLast step f.last

    inside : places ≤ length counts
    inside = omega (arith, f.good.long)

    -- the count of its place becomes v, and the sums follow
    turn : (v : ℕ) (counts' : List ℕ) (less' more' : ℕ) → counts' ≡ set counts (get_or p a 0) v
        → firing_of (marking places (set counts (get_or p a 0) v)) behind ≡ firing_of (marking places counts) here → v ≤ 2 ^ 53
        → v + less' + more ≡ count + less + more' → less' + more' ≤ less + more + 1_000_000 → Firing counts' less' more' (a + 1)
    turn v counts' less' more' c same small both most =
        record {
          left = ap (λ (xs : List ℕ). firing_of (marking places xs) behind) c ∙ same ∙ f.left;
          good = subst⁻¹ Counts c (counts_set counts (get_or p a 0) v f.good (omega arith) small);
          last = ordered.1;
          sums = omega (arith, ap (λ (xs : List ℕ). sum_of (marking places xs)) c, sum_marking places counts (get_or p a 0) v i inside, f.sums);
          few = omega (arith, f.few);
        }

    pub firing_take : is_put (get_or k a 0) ≡ false → (x : ℕ) → x ≡ min count (takes (get_or k a 0) (get_or w a 0)) → (counts' : List ℕ) (less' more' : ℕ)
        → counts' ≡ set counts (get_or p a 0) (count - x) → less' ≡ less + x → more' ≡ more → Firing counts' less' more' (a + 1)
    firing_take y x d counts' less' more' c l m =
        let same : arcs_of is_put here ≡ arcs_of is_put behind = ap (arcs_of is_put) step ∙ simp y in
        turn (count - x) counts' less' more' c
        (ap (λ (z : Marking). putting_of z behind) (moving_turn ◌-◌ takes taking_of take_rule places k p w counts a e h i (count - x) (omega arith))
        ∙ sym (ap (putting (taking_of (marking places counts) here)) same))
        (omega (arith, f.good.small (get_or p a 0))) (omega arith) (omega (arith, takes_most (get_or k a 0) (get_or w a 0) light))

    module _ (y : is_put (get_or k a 0) ≡ true) (x : ℕ) (d : x ≡ amount (get_or w a 0)) where
      only_puts : firing_of (marking places counts) here ≡ putting_of (marking places counts) here
      only_puts =
          let none : takes_of here ≡ [] = ap takes_of step ∙ put_takes (slot_at k p w a) behind y ∙ ordered.0 y in
          ap (λ (ts : List Take). putting_of (taking (marking places counts) ts) here) none

      new : count + x ≡ count + puts (get_or k a 0) (get_or w a 0)
      new = simp (y, d)

      pub firing_put : count + x ≤ 2 ^ 53 → (counts' : List ℕ) (less' more' : ℕ)
          → counts' ≡ set counts (get_or p a 0) (count + x) → less' ≡ less → more' ≡ more + x → Firing counts' less' more' (a + 1)
      firing_put small counts' less' more' c l m =
          turn (count + x) counts' less' more' c
          (ap (λ (ts : List Take). putting_of (taking (marking places (set counts (get_or p a 0) (count + x))) ts) behind) (ordered.0 y)
          ∙ moving_turn ◌+◌ puts putting_of put_rule places k p w counts a e h i (count + x) new
          ∙ sym only_puts)
          small (omega arith) (omega (arith, amount_most (get_or w a 0) light))

      -- a count that passes 2^53 stays above
      pub firing_stop : 2 ^ 53 < count + x → (found : Marking) → PutBy false whole found
      firing_stop o found =
          record {
            says = sym (ap counts_fit (sym f.left ∙ only_puts) ∙ put_stop places k p w counts a e inside h i (count + x) new o);
            gives = λ t. absurd (false≢true t);
          }

  pub firing_all : (counts : List ℕ) (less more a : ℕ) → Firing counts less more a → e ≤ a → PutBy true whole (marking places counts)
  firing_all counts less more a f h =
      let done = sym (ap (firing_of (marking places counts)) (slots_end k p w a e h)) ∙ f.left in
      record { says = sym (ap counts_fit (sym done) ∙ fit_all places counts f.good.small); gives = λ t. done }

-- it begins with n slots at a
pub firing_none : (places : ℕ) (k p w counts : List ℕ) (a n : ℕ) → Counts counts → PutsLast (slots k p w a n) → n ≤ 16
    → Firing places k p w (a + n) (marking places counts) (firing_of (marking places counts) (slots k p w a n)) counts 0 0 a
firing_none places k p w counts a n c o h =
    let all = slots_whole k p w a n in
    record {
      left = ap (firing_of (marking places counts)) all;
      good = c;
      last = subst⁻¹ PutsLast all o;
      sums = omega arith;
      few = omega arith;
    }
