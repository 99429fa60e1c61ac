-- What a ring's list is after an insertion and a removal.
use Prim.Native.Nat.{ℕ, zero, suc, ◌+◌, ◌-◌, ◌%◌, ◌≤◌, ◌<◌, min}
use mathlib.Core.Path.{◌≡◌, refl, sym, ap, ◌∙◌}
use mathlib.Core.Bool.{Bool, true, false}
use mathlib.Core.List.{List}
use native.Mathlib.Omega.{arith}
use borrow.Author.Tests.{le-ltb, lt-ltb}
use lib.Dec.{eqb}
use lib.ListN.{length}
use lib.Ieee.{Float, inf, le}
use Rattle.timers.specs.declared.Ring.{Ring}
use Rattle.net.specs.Net.{pick}
use Rattle.rules.specs.Timers.{Timer, insert, others}
use Rattle.timers.specs.InOrder.{in_order}
use Rattle.timers.specs.Turning.{from, held, running, timers_of, says_ordered, Sound, placed, has_room, InsertedIn, RemovedFrom}
use Rattle.timers.specs.Slots.{LookedFor}
use Rattle.rules.proofs.Order.{never}
use Rattle.timers.proofs.Ordered.{number, same_place, insert_rises, others_rise}
use Rattle.timers.proofs.Places.{length_from, from_mod, Placed, front, behind}

pub length_timers : (ats : List Float) (owners : List ℕ) (r : Ring) → length (timers_of ats owners r) ≡ running r
length_timers ats owners r = length_from (held ats owners) r.start (running r)

-- ---- an insertion

-- a list of n timers that starts at place s, with the new one at its place i
pub inserted : (ordered : Bool) (s n i n₀ n₁ : ℕ) (x : Timer) (ats : List Float) (owners : List ℕ) (g : ℕ → Timer) → n₀ ≡ n → n₁ ≡ suc n
    → LookedFor ordered x.at s (s + i) (s + n) ats → Placed s (s + i) (s + n) x (held ats owners) g
    → from g s n₁ ≡ placed ordered x (from (held ats owners) s n₀)
inserted ordered s n i n₀ n₁ x ats owners g e₀ e₁ at put =
    ap (from g s) e₁ ∙ go ordered refl ∙ sym (ap (λ (k : ℕ). placed ordered x (from f s k)) e₀)
  where
    f : ℕ → Timer
    f = held ats owners

    go : (b : Bool) → ordered ≡ b → from g s (suc n) ≡ placed b x (from f s n)
    go true e =
        let p = at.back e in
        behind s (s + i) (s + n) x f g put p.later.each p.earlier s n i (omega arith) refl refl (omega (arith, at.within))
    go false e =
        let p = at.front e in
        front s (s + i) (s + n) x f g put p.earlier.each p.later s n i (omega arith) refl refl (omega (arith, at.within))

-- known to be in order with a new timer: it was, and the completion time is a number
still : (b : Bool) (o : ℕ) → eqb (pick b o 0) 1 ≡ true → (eqb o 1 ≡ true) × (b ≡ true)
still true o e = (e, refl)
still false o e = never e

placed_is : (b : Bool) (x : Timer) (xs : List Timer) → (b ≡ true → in_order xs ≡ true) → placed b x xs ≡ insert x xs
placed_is true x xs h = same_place (inf true) x xs (h refl)
placed_is false x xs h = refl

pub refused : (room n : ℕ) (x : Timer) (ats : List Float) (owners : List ℕ) (r : Ring) → running r ≡ n → min room 256 ≤ n
    → InsertedIn room x ats owners r ats owners r false
refused room n x ats owners r e h =
    let no : has_room room (timers_of ats owners r) ≡ false =
    le-ltb (length (timers_of ats owners r)) (min room 256) (omega (arith, length_timers ats owners r)) in
    record {
      says = sym no;
      list = λ s. rw no refl;
      stays = λ s. s;
      every = rw no refl;
      refused = λ e. (refl, refl, refl);
      start = refl;
      beyond = λ p l u. refl;
      ordered = λ e. never e;
    }

module _ (room n : ℕ) (x : Timer) (ats : List Float) (owners : List ℕ) (r : Ring) (ats' : List Float) (owners' : List ℕ) (r' : Ring) where
  pub taken : running r ≡ n → n < min room 256 → r'.start ≡ r.start → r'.ordered ≡ pick (le x.at x.at) r.ordered 0
      → ((p : ℕ) → r.start + running r < p → p < r.start + 256 → held ats' owners' (p % 256) ≡ held ats owners (p % 256))
      → timers_of ats' owners' r' ≡ placed (says_ordered r) x (timers_of ats owners r) → InsertedIn room x ats owners r ats' owners' r' true
  taken e h begins o beyond every =
      let yes : has_room room (timers_of ats owners r) ≡ true =
      lt-ltb (length (timers_of ats owners r)) (min room 256) (omega (arith, length_timers ats owners r)) in
      record {
        says = sym yes;
        list = λ s. rw yes (list s);
        stays = stays;
        every = rw yes every;
        refused = λ q. never (sym q);
        start = begins;
        beyond = beyond;
        ordered = λ q. o;
      }
    where
      list : Sound ats owners r → timers_of ats' owners' r' ≡ insert x (timers_of ats owners r)
      list s = every ∙ placed_is (says_ordered r) x (timers_of ats owners r) s

      stays : Sound ats owners r → Sound ats' owners' r'
      stays s t =
          let w = still (le x.at x.at) r.ordered (ap (λ (k : ℕ). eqb k 1) (sym o) ∙ t) in
          ap in_order (list s) ∙ insert_rises (inf true) x (timers_of ats owners r) (s w.0) (number x.at x.at w.1)

-- ---- a removal

no_less : {n : ℕ} → 0 < n → n ≡ 0 → ⊥
no_less h e = omega arith

others_none : (f : ℕ → Timer) (p n : ℕ) → n ≡ 0 → from f p n ≡ others (from f p n)
others_none f p zero e = refl
others_none f p (suc n) e = absurd (no e)
  where
    no : suc n ≡ 0 → ⊥
    no q = omega arith

others_from : (f : ℕ → Timer) (p q n m : ℕ) → n ≡ suc m → q % 256 ≡ suc p % 256 → from f q m ≡ others (from f p n)
others_from f p q n m e h = from_mod f q (suc p) m h ∙ sym (ap (λ (k : ℕ). others (from f p k)) e)

pub removed_one : (r : Ring) (n s : ℕ) → n ≡ running r → (n ≡ 0 → ⊥) → s ≡ (r.start + 1) % 256
    → RemovedFrom r (record { start = s; len = n - 1; ordered = r.ordered })
removed_one r n s e h q =
    record {
      list = list;
      stays = λ ats owners t o. ap in_order (list ats owners) ∙ others_rise (timers_of ats owners r) (t o);
      slots = λ l i. omega arith;
      none = λ z. absurd (h (e ∙ z));
      ordered = refl;
    }
  where
    list : (ats : List Float) (owners : List ℕ) → from (held ats owners) s (min (n - 1) 256) ≡ others (timers_of ats owners r)
    list ats owners = others_from (held ats owners) r.start s (running r) (min (n - 1) 256) (omega arith) (omega arith)
