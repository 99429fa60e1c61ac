-- A record with no fault is sound, and its labels are. No fault of the whole is none of any place or transition, that is none of any of its
-- tests, and a test over arcs or labels that does not apply holds of none of them. Assumes nothing.
use Prim.Native.Nat.{ℕ, zero, suc, ◌+◌, ◌*◌, ◌^◌, ◌≤◌, ◌<◌}
use mathlib.Core.Path.{◌≡◌, refl, sym, ap, ◌∙◌}
use mathlib.Core.Bool.{Bool, true, false, ◌||◌, not}
use mathlib.Core.List.{List, [], ◌∷◌}
use mathlib.Core.Option.{Option, none, some}
use native.Mathlib.Omega.{arith}
use borrow.Author.Tests.{leb-false, ltb-false, not-false}
use lib.Dec.{eqb, leb, ltb}
use lib.ListN.{get_or, length}
use lib.Ieee.{nan}
use Rattle.refusals.specs as Refusal
use Rattle.text.specs.Text.{Bytes, same}
use Rattle.net.specs.declared.Net.{Net as NetRecord}
use Rattle.net.specs.Net.{Place, Arc, Transition, pick}
use Rattle.net.specs.Tests.{first_of, any, empty, place_tests, too_many, no_such_place, outside, rate_fits, delay_fits, taken_twice, delayed_for_nothing, kinetic_total, arcs, or_else, fault_from}
use Rattle.net.specs.Labels.{label_fits, label_at, labels_from, label_fault}
use Rattle.net.specs.Readable.{Slot, slot_at, slots, slots_of, strange, transition, places_from, place_fault, places_fault, move_fault, moves_fault, fault}
use Rattle.net.specs.Sound.{Sound, Labelled}
use Rattle.net.proofs.Slots.{not_first, not_second, any_arcs, length_arcs, length_slots}

-- ---- none of a choice

some_none : {A : Type 0} (c : ℕ) → some c ≡ none → A
some_none c e = let z : ◌≡◌ {A = ℕ} 0 1 = cc in let f : ⊥ = omega arith in absurd f

first_none : (a b : Option ℕ) → or_else a b ≡ none → a ≡ none
first_none none b e = refl
first_none (some c) b e = some_none c e

later_none : (a b : Option ℕ) → or_else a b ≡ none → b ≡ none
later_none none b e = e
later_none (some c) b e = some_none c e

fails : (b : Bool) (c : ℕ) (later : Option ℕ) → pick b (some c) later ≡ none → b ≡ false
fails true c later e = some_none c e
fails false c later e = refl

others : (b : Bool) (c : ℕ) (later : Option ℕ) → pick b (some c) later ≡ none → later ≡ none
others true c later e = some_none c e
others false c later e = e

-- ---- none of a walk

bounded : (k m : ℕ) → ((q : ℕ) → q < k → q < m) → k ≤ m
bounded zero m h = omega arith
bounded (suc k) m h = h k (omega arith)

abbrev place_at : List ℕ → List ℕ → ℕ → Place
place_at initial capacity p = record { initial = get_or initial p 0; capacity = get_or capacity p 0 }

no_fault : (f : ℕ → Option ℕ) (b k : ℕ) → fault_from f b k ≡ none → (i : ℕ) → i < k → f (b + i) ≡ none
no_fault f b zero e i h = let z : ⊥ = omega arith in absurd z
no_fault f b (suc k) e zero h =
    let d : b ≡ b + 0 = omega arith in
    ap f (sym d) ∙ first_none (f b) (fault_from f (suc b) k) e
no_fault f b (suc k) e (suc i) h =
    let d : suc b + i ≡ b + suc i = omega arith in
    ap f (sym d) ∙ no_fault f (suc b) k (later_none (f b) (fault_from f (suc b) k) e) i (omega arith)

no_slot : (f : Slot → Bool) (k p w : List ℕ) (a n : ℕ) → any f (slots k p w a n) ≡ false → (i : ℕ) → i < n → f (slot_at k p w (a + i)) ≡ false
no_slot f k p w a zero e i h = let z : ⊥ = omega arith in absurd z
no_slot f k p w a (suc n) e zero h =
    let d : a ≡ a + 0 = omega arith in
    ap (λ (q : ℕ). f (slot_at k p w q)) (sym d) ∙ not_first (f (slot_at k p w a)) (any f (slots k p w (a + 1) n)) e
no_slot f k p w a (suc n) e (suc i) h =
    let d : a + 1 + i ≡ a + suc i = omega arith in
    ap (λ (q : ℕ). f (slot_at k p w q)) (sym d)
    ∙ no_slot f k p w (a + 1) n (not_second (f (slot_at k p w a)) (any f (slots k p w (a + 1) n)) e) i (omega arith)

no_label_lem : (f : Bytes → Bool) (label lengths : List ℕ) (p n : ℕ) → any f (labels_from label lengths p n) ≡ false → (i : ℕ) → i < n
    → f (label_at label lengths (p + i)) ≡ false
no_label_lem f label lengths p zero e i h = let z : ⊥ = omega arith in absurd z
no_label_lem f label lengths p (suc n) e zero h =
    let d : p ≡ p + 0 = omega arith in
    ap (λ (q : ℕ). f (label_at label lengths q)) (sym d) ∙ not_first (f (label_at label lengths p)) (any f (labels_from label lengths (suc p) n)) e
no_label_lem f label lengths p (suc n) e (suc i) h =
    let d : suc p + i ≡ p + suc i = omega arith in
    ap (λ (q : ℕ). f (label_at label lengths q)) (sym d)
    ∙ no_label_lem f label lengths (suc p) n (not_second (f (label_at label lengths p)) (any f (labels_from label lengths (suc p) n)) e) i (omega arith)

-- ---- a transition with no fault

module _ (n : NetRecord) (j : ℕ) (e : move_fault n j ≡ none) where
  abbrev t : Transition
  t = transition n j

  abbrev ls : List Slot
  ls = slots_of n j

  abbrev t₇ : Option ℕ
  t₇ = pick (ltb 16 (kinetic_total t.takes)) (some 7) none

  abbrev t₆ : Option ℕ
  t₆ = pick (delayed_for_nothing t) (some 6) t₇

  abbrev t₅ : Option ℕ
  t₅ = pick (taken_twice t) (some 5) t₆

  abbrev t₄ : Option ℕ
  t₄ = pick (strange ls || outside t) (some 4) t₅

  abbrev t₃ : Option ℕ
  t₃ = pick (no_such_place n.places t) (some 3) t₄

  e₃ : t₃ ≡ none
  e₃ = others (too_many n.places j t) 2 t₃ e

  e₄ : t₄ ≡ none
  e₄ = others (no_such_place n.places t) 3 t₄ e₃

  e₅ : t₅ ≡ none
  e₅ = others (strange ls || outside t) 4 t₅ e₄

  e₆ : t₆ ≡ none
  e₆ = others (taken_twice t) 5 t₆ e₅

  few : too_many n.places j t ≡ false
  few = fails (too_many n.places j t) 2 t₃ e

  move_few : j < 64
  move_few =
      leb-false 64 j (not_second (eqb n.places 0) (leb 64 j) (not_first (eqb n.places 0 || leb 64 j) (ltb 16 (length (arcs t))) few))

  move_arcs : get_or n.arcs j 0 ≤ 16
  move_arcs =
      ltb-false 16 (get_or n.arcs j 0)
      (ap (ltb 16) (sym (length_arcs (get_or n.rate j nan) (get_or n.delay j nan) ls ∙ length_slots n.kind n.place n.weight (16 * j) (get_or n.arcs j 0)))
      ∙ not_second (eqb n.places 0 || leb 64 j) (ltb 16 (length (arcs t))) few)

  move_place : (i : ℕ) → i < get_or n.arcs j 0 → get_or n.place (16 * j + i) 0 < n.places
  move_place i h =
      leb-false n.places (get_or n.place (16 * j + i) 0)
      (no_slot (λ (l : Slot). leb n.places l.place) n.kind n.place n.weight (16 * j) (get_or n.arcs j 0)
      (sym (any_arcs (λ (a : Arc). leb n.places a.place) (get_or n.rate j nan) (get_or n.delay j nan) ls)
      ∙ fails (no_such_place n.places t) 3 t₄ e₃)
      i
      h)

  inside : (strange ls || outside t) ≡ false
  inside = fails (strange ls || outside t) 4 t₅ e₄

  move_kind : (i : ℕ) → i < get_or n.arcs j 0 → get_or n.kind (16 * j + i) 0 ≤ 4
  move_kind i h =
      ltb-false 4 (get_or n.kind (16 * j + i) 0)
      (no_slot (λ (l : Slot). ltb 4 l.kind) n.kind n.place n.weight (16 * j) (get_or n.arcs j 0) (not_first (strange ls) (outside t) inside) i h)

  abbrev heavy : Bool
  heavy = any (λ (a : Arc). ltb 1_000_000 a.weight) (arcs t)

  timely : (not (rate_fits t.rate) || not (delay_fits t.delay) || heavy) ≡ false
  timely = not_second (strange ls) (outside t) inside

  move_weight : (i : ℕ) → i < get_or n.arcs j 0 → get_or n.weight (16 * j + i) 0 ≤ 1_000_000
  move_weight i h =
      ltb-false 1_000_000 (get_or n.weight (16 * j + i) 0)
      (no_slot (λ (l : Slot). ltb 1_000_000 l.weight) n.kind n.place n.weight (16 * j) (get_or n.arcs j 0)
      (sym (any_arcs (λ (a : Arc). ltb 1_000_000 a.weight) (get_or n.rate j nan) (get_or n.delay j nan) ls)
      ∙ not_second (not (rate_fits t.rate) || not (delay_fits t.delay)) heavy timely)
      i
      h)

  both : (not (rate_fits t.rate) || not (delay_fits t.delay)) ≡ false
  both = not_first (not (rate_fits t.rate) || not (delay_fits t.delay)) heavy timely

  move_rate : rate_fits (get_or n.rate j nan) ≡ true
  move_rate = not-false (rate_fits t.rate) (not_first (not (rate_fits t.rate)) (not (delay_fits t.delay)) both)

  move_delay : delay_fits (get_or n.delay j nan) ≡ true
  move_delay = not-false (delay_fits t.delay) (not_second (not (rate_fits t.rate)) (not (delay_fits t.delay)) both)

  move_once : taken_twice t ≡ false
  move_once = fails (taken_twice t) 5 t₆ e₅

  move_delayed : delayed_for_nothing t ≡ false
  move_delayed = fails (delayed_for_nothing t) 6 t₇ e₆

  move_kinetic : kinetic_total t.takes ≤ 16
  move_kinetic =
      ltb-false 16 (kinetic_total t.takes) (fails (ltb 16 (kinetic_total t.takes)) 7 none (others (delayed_for_nothing t) 6 t₇ e₆))

-- ---- the whole

one_place : (initial capacity : List ℕ) (k : ℕ) → empty (places_from initial capacity 0 k) ≡ false → 1 ≤ k
one_place initial capacity zero e = let z : ◌≡◌ {A = ℕ} 0 1 = cc in omega arith
one_place initial capacity (suc k) e = omega arith

module _ (n : NetRecord) (e : fault n ≡ none) where
  abbrev placed : Option ℕ
  placed = places_fault n.initial n.capacity n.label n.lengths 0 n.places

  abbrev placeless : Option ℕ
  placeless = first_of ((Refusal.bad_size, empty (places_from n.initial n.capacity 0 n.places)) ∷ [])

  abbrev moves : Option ℕ
  moves = moves_fault n 0 n.transitions

  opened : or_else placed (or_else placeless moves) ≡ none
  unfolding fault
  opened = e

  rest : or_else placeless moves ≡ none
  rest = later_none placed (or_else placeless moves) opened

  abbrev place_at_fault : ℕ → Option ℕ
  place_at_fault p = place_fault n.initial n.capacity n.label n.lengths p

  at_place : (p : ℕ) → p < n.places → place_at_fault p ≡ none
  at_place p h =
      let d : p ≡ 0 + p = omega arith in
      ap place_at_fault d ∙ no_fault place_at_fault 0 n.places (first_none placed (or_else placeless moves) opened) p h

  abbrev by_numbers : ℕ → Option ℕ
  by_numbers p = first_of (place_tests p false (place_at n.initial n.capacity p))

  numbers : (p : ℕ) → p < n.places → by_numbers p ≡ none
  numbers p h = first_none (by_numbers p) (label_fault n.label n.lengths p) (at_place p h)

  labels : (p : ℕ) → p < n.places → label_fault n.label n.lengths p ≡ none
  labels p h = later_none (by_numbers p) (label_fault n.label n.lengths p) (at_place p h)

  at_move : (j : ℕ) → j < n.transitions → move_fault n j ≡ none
  at_move j h =
      let d : j ≡ 0 + j = omega arith in
      ap (move_fault n) d ∙ no_fault (move_fault n) 0 n.transitions (later_none placeless moves rest) j h

  tokens : (p : ℕ) → p < n.places → (ltb (2 ^ 53) (get_or n.initial p 0) || ltb (2 ^ 53) (get_or n.capacity p 0)) ≡ false
  tokens p h =
      fails (ltb (2 ^ 53) (get_or n.initial p 0) || ltb (2 ^ 53) (get_or n.capacity p 0)) 4 none
      (others (leb 32 p) 2 _ (numbers p h))

  pub sound : Sound n
  sound =
      record {
        place_one = one_place n.initial n.capacity n.places (fails (empty (places_from n.initial n.capacity 0 n.places)) 2 none (first_none placeless moves rest));
        places = bounded n.places 32 (λ p h. leb-false 32 p (fails (leb 32 p) 2 _ (numbers p h)));
        transitions = bounded n.transitions 64 (λ j h. move_few n j (at_move j h));
        initial =
            λ p h. ltb-false (2 ^ 53) (get_or n.initial p 0) (not_first (ltb (2 ^ 53) (get_or n.initial p 0)) (ltb (2 ^ 53) (get_or n.capacity p 0)) (tokens p h));
        capacity =
            λ p h. ltb-false (2 ^ 53) (get_or n.capacity p 0) (not_second (ltb (2 ^ 53) (get_or n.initial p 0)) (ltb (2 ^ 53) (get_or n.capacity p 0)) (tokens p h));
        arcs = λ j h. move_arcs n j (at_move j h);
        rate = λ j h. move_rate n j (at_move j h);
        delay = λ j h. move_delay n j (at_move j h);
        kind = λ j i h g. move_kind n j (at_move j h) i g;
        place = λ j i h g. move_place n j (at_move j h) i g;
        weight = λ j i h g. move_weight n j (at_move j h) i g;
        once = λ j h. move_once n j (at_move j h);
        delayed = λ j h. move_delayed n j (at_move j h);
        kinetic = λ j h. move_kinetic n j (at_move j h);
      }

  abbrev mark : ℕ → Bytes
  mark p = label_at n.label n.lengths p

  abbrev used : ℕ → Bool
  used p = any (same (mark p)) (labels_from n.label n.lengths 0 p)

  pub labelled : Labelled n
  labelled =
      record {
        label = λ p h. not-false (label_fits (mark p)) (fails (not (label_fits (mark p))) 17 (pick (used p) (some 18) none) (labels p h));
        once =
            λ p q g h.
            let d : q ≡ 0 + q = omega arith in
            ap (λ (r : ℕ). same (mark p) (mark r)) d
            ∙ no_label_lem (same (mark p)) n.label n.lengths 0 p
            (fails (used p) 18 none (others (not (label_fits (mark p))) 17 (pick (used p) (some 18) none) (labels p h))) q g;
      }
