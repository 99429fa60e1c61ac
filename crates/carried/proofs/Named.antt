-- The table of new numbers holds what a renaming list gives: it is filled from the list's end to its front, so that of two pairs the first counts.
-- By a list that passes 21 the table sends a timer aright where the rule does, and gives each timer that passes 22 its new number. Assumes nothing.
use Rattle.std.proofs.Common.{◌≡◌, ℕ, zero, suc, ◌+◌, ◌-◌, ◌*◌, ◌/◌, ◌%◌, ◌<◌, ◌≤◌, Bool, true, false, not, ◌&&◌, eqb, ltb, leb, List, [], ◌∷◌, map, length, get_or, drop, set, replicate, sym, refl, ap, ◌∙◌, arith, length-set, get_or-set_other, get_or-set_same, ltb-true, lt-ltb, ne_eqb, eqb-true, leb-false}
use mathlib.Core.Bool.{not-not}
use mathlib.Core.Option.{Option, none, some}
use lib.ListN.{get_or-replicate}
use lib.Ieee.{Float, nan}
use borrow.Author.Tests.{eqb-false, not-false}
use Rattle.words.specs.Bits.{bit}
use Rattle.net.specs.Net.{Net, pick, timed}
use Rattle.net.specs.Tests.{any}
use Rattle.rules.specs.Change.{Pair, new_number, list_strange, sent_wrong, number_or, renamed_timer}
use Rattle.rules.specs.Moves.{transition}
use Rattle.rules.specs.Timers.{Timer}
use Rattle.rules.proofs.Order.{both, neither}
use Rattle.rules.proofs.TakesOnce.{no_some}
use Rattle.timers.proofs.Places.{from_same}
use Rattle.engine.proofs.Arcs.{on_bool}
use Rattle.carried.specs.Pairs.{pairs_of, number_in, Names, goes_to}
use Rattle.carried.specs.Timers.{slot, timers_in}
use Rattle.carried.proofs.Listed.{pair_at, pairs_step, pairs_end, outside}
use Rattle.carried.proofs.Waiting.{none_each, from_map}

-- ---- the first pair, or the others

first_or : (p : Pair) (ps : List Pair) (j : ℕ) (b : Bool) → eqb p.old j ≡ b → new_number (p ∷ ps) j ≡ pick b (some p.new) (new_number ps j)
first_or p ps j b e = ap (λ (c : Bool). pick c (some p.new) (new_number ps j)) e

-- ---- the table, filled

named_none : Names [] (replicate 64 64)
named_none = record { long = refl; each = λ j h. get_or-replicate 64 j 64 64 h }

module _ (ps : List Pair) (names : List ℕ) (w : Names ps names) (p : Pair) where
  named_set : p.old < 64 → Names (p ∷ ps) (set names p.old p.new)
  named_set h = record {
    long = length-set names p.old p.new ∙ w.long;
    each = λ j l.
        on_bool (eqb p.old j)
        (λ e.
        ap (λ (k : ℕ). get_or (set names p.old p.new) k 64) (sym (eqb-true p.old j e))
        ∙ get_or-set_same names p.old p.new 64 (omega (arith, w.long))
        ∙ ap number_in (sym (first_or p ps j true e)))
        (λ e.
        get_or-set_other names p.old j p.new 64 (λ d. eqb-false p.old j e (sym d))
        ∙ w.each j l
        ∙ ap number_in (sym (first_or p ps j false e)));
  }

  named_past : 64 ≤ p.old → Names (p ∷ ps) names
  named_past h = record {
    long = w.long;
    each = λ j l. w.each j l ∙ ap number_in (sym (first_or p ps j false (ne_eqb p.old j (λ e. omega arith))));
  }

-- ---- the loop, down from the last pair

pub named_start : (ws : List ℕ) → Names (pairs_of (drop (2 * (length ws / 2)) ws)) (replicate 64 64)
named_start ws = rw (pairs_end ws (length ws / 2) (omega arith)) named_none

module _ (ws names : List ℕ) (i : ℕ) (inside : i ≤ length ws / 2) (left : 0 < i) (w : Names (pairs_of (drop (2 * i) ws)) names) where
  before : pairs_of (drop (2 * (i - 1)) ws) ≡ pair_at ws (i - 1) ∷ pairs_of (drop (2 * i) ws)
  before =
      let e : i - 1 + 1 ≡ i = omega arith in
      pairs_step ws (i - 1) (omega arith) ∙ ap (λ (k : ℕ). pair_at ws (i - 1) ∷ pairs_of (drop (2 * k) ws)) e

  pub named_in : (pair_at ws (i - 1)).old < 64 → Names (pairs_of (drop (2 * (i - 1)) ws)) (set names (pair_at ws (i - 1)).old (pair_at ws (i - 1)).new)
  named_in h = rw before (named_set (pairs_of (drop (2 * i) ws)) names w (pair_at ws (i - 1)) h)

  pub named_out : 64 ≤ (pair_at ws (i - 1)).old → Names (pairs_of (drop (2 * (i - 1)) ws)) names
  named_out h = rw before (named_past (pairs_of (drop (2 * i) ws)) names w (pair_at ws (i - 1)) h)

-- ---- what is read of it

-- within a list it is the same whatever stands for what lies beyond
pub same_read : (xs : List ℕ) (i a b : ℕ) → i < length xs → get_or xs i a ≡ get_or xs i b
same_read [] i a b h = absurd (omega arith)
same_read (x ∷ xs) zero a b h = refl
same_read (x ∷ xs) (suc i) a b h = same_read xs i a b (omega arith)

-- a new number that there is
there : (o : Option ℕ) (j : ℕ) → number_in o < 64 → number_or j o ≡ number_in o
there none j h = absurd (omega arith)
there (some k) j h = refl

-- ---- 22 by the table, where the list passes 21

-- a listed number is one of its net's, on both sides
in_range : (k l : ℕ) (ps : List Pair) → any (outside k l) ps ≡ false → (i j : ℕ) → new_number ps i ≡ some j → (i < k) × (j < l)
in_range k l [] e i j d = no_some (sym d)
in_range k l (p ∷ ps) e i j d =
    let parts : (outside k l p ≡ false) × (any (outside k l) ps ≡ false) = neither (outside k l p) (any (outside k l) ps) e in
    let first : (leb k p.old ≡ false) × (leb l p.new ≡ false) = neither (leb k p.old) (leb l p.new) parts.0 in
    on_bool (eqb p.old i)
    (λ q.
    let s : some p.new ≡ some j = sym (first_or p ps i true q) ∙ d in
    let n : p.new ≡ j = cc in
    (omega (arith, eqb-true p.old i q, leb-false k p.old first.0), omega (arith, leb-false l p.new first.1)))
    (λ q. in_range k l ps parts.1 i j (sym (first_or p ps i false q) ∙ d))

module _ (old new : Net) (ps : List Pair) (names : List ℕ) (delayed : ℕ) (good : list_strange old new ps ≡ false)
    (few-old : length old.transitions ≤ 64) (few-new : length new.transitions ≤ 64) (w : Names ps names)
    (word : (j : ℕ) → bit delayed j ≡ (ltb j (length new.transitions) && timed (transition new j))) where
  pub sent_right : (j : ℕ) → goes_to names delayed j ≡ not (sent_wrong new (new_number ps j))
  sent_right j = go (new_number ps j) refl
    where
      go : (o : Option ℕ) → new_number ps j ≡ o → goes_to names delayed j ≡ not (sent_wrong new o)
      go none e =
          on_bool (ltb j 64)
          (λ h. let n : get_or names j 64 ≡ 64 = w.each j (ltb-true j 64 h) ∙ ap number_in e in rw (h, n))
          (λ h. rw h)
      go (some k) e =
          let r : (j < length old.transitions) × (k < length new.transitions) =
          in_range (length old.transitions) (length new.transitions) ps (neither _ _ (neither _ _ good).0).0 j k e in
          let n : get_or names j 64 ≡ k = w.each j (omega arith) ∙ ap number_in e in
          rw (lt-ltb j 64 (omega arith), n, lt-ltb k 64 (omega arith), word k, lt-ltb k (length new.transitions) r.1)
          (sym (not-not (timed (transition new k))))

  pub all_sent_right : (q : List Timer)
      → any (λ (x : Timer). sent_wrong new (new_number ps x.who)) q ≡ any (λ (x : Timer). not (goes_to names delayed x.who)) q
  all_sent_right q = λ i. any (λ (x : Timer). wrong x.who i) q
    where
      wrong : (j : ℕ) → sent_wrong new (new_number ps j) ≡ not (goes_to names delayed j)
      wrong j = sym (ap not (sent_right j) ∙ not-not (sent_wrong new (new_number ps j)))

-- ---- the timers that pass 22

module _ (names : List ℕ) (delayed : ℕ) (ats : List Float) (whos takens : List ℕ) (n : ℕ)
    (right : any (λ (x : Timer). not (goes_to names delayed x.who)) (timers_in ats whos takens n) ≡ false) (few : n ≤ 256) where
  goes : (i : ℕ) → i < n → (ltb (get_or whos i 0) 64 ≡ true) × (ltb (get_or names (get_or whos i 0) 64) 64 ≡ true)
  goes i h =
      both _ _
      (both _ _ (not-false _ (none_each (λ (x : Timer). not (goes_to names delayed x.who)) (slot ats whos takens) n few right i h))).0

  pub all_below : (i : ℕ) → i < n → get_or whos i 0 < 64
  all_below i h = ltb-true (get_or whos i 0) 64 (goes i h).0

  pub renamed_in : (ps : List Pair) → Names ps names → (numbers : List ℕ) → ((i : ℕ) → i < n → get_or numbers i 0 ≡ get_or names (get_or whos i 0) 0)
      → timers_in ats numbers takens n ≡ map (renamed_timer ps) (timers_in ats whos takens n)
  renamed_in ps w numbers e =
      from_same (λ (k : ℕ). renamed_timer ps (slot ats whos takens k)) (slot ats numbers takens) 0 n (λ k l h. timer (k % 256) (omega arith))
      ∙ from_map (renamed_timer ps) (slot ats whos takens) 0 n
    where
      number : (i : ℕ) → i < n → get_or numbers i 0 ≡ number_or (get_or whos i 0) (new_number ps (get_or whos i 0))
      number i h =
          let j = get_or whos i 0 in
          let r : get_or names j 64 ≡ number_in (new_number ps j) = w.each j (all_below i h) in
          e i h
          ∙ same_read names j 0 64 (omega (arith, w.long, all_below i h))
          ∙ r
          ∙ sym (there (new_number ps j) j (omega (arith, r, ltb-true (get_or names j 64) 64 (goes i h).1)))

      timer : (i : ℕ) → i < n → slot ats numbers takens i ≡ renamed_timer ps (slot ats whos takens i)
      timer i h = ap (λ (j : ℕ). record { at = get_or ats i nan; who = j; taken = get_or takens i 0 }) (number i h)
