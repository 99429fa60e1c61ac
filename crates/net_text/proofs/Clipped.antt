-- What 64 bits hold of a line decides as the line itself: a value is cut only where its decimal is badly written, and then 4 applies whatever the
-- value; before 4 come 2, which counts, and 3, where a cut place is as far from the place count as the whole one. Labels are not cut. Assumes nothing.
use Prim.Native.Nat.{ℕ, ◌^◌, ◌≤◌, ◌<◌}
use mathlib.Core.Path.{◌≡◌, refl, sym, ap, ◌∙◌}
use mathlib.Core.Bool.{Bool, true, false, ◌||◌, not}
use mathlib.Core.List.{List, [], ◌∷◌, ◌++◌, map}
use mathlib.Core.Option.{Option, some}
use native.Mathlib.Omega.{arith}
use lib.Dec.{eqb, leb, ltb}
use lib.ListN.{length, length-map}
use lib.Ieee.{Float, binary64, of_bits}
use borrow.Author.Tests.{le-leb, lt-leb, lt-ltb, leb-true, leb-false}
use Rattle.net.specs.Net.{Place, Arc, Transition, Net, pick}
use Rattle.net.specs.Tests.{Test, first_of, any, empty, arcs, place_tests, move_tests, too_many, no_such_place, taken_twice, delayed_for_nothing, kinetic_total}
use Rattle.net.specs.Readable.{Slot, takes_of, arcs_of, is_put, is_read, is_block, transition_of, strange}
use Rattle.net.specs.Labels.{label_tests}
use Rattle.net.proofs.Slots.{length_arcs, any_arcs}
use Rattle.text.specs.Text.{Bytes}
use Rattle.net_text.specs.Forms.{Decimal, RawArc, raw_take, raw_put, raw_read, raw_block, raw_place, raw_move, raw_run}
use Rattle.net_text.specs.Reading.{RunLine, badly, bad_arc, transition, with_arc, Due, closing, Outcome, unless, after_place, after_move, inside_line}
use Rattle.net_text.specs.Filled.{arc_slot}
use Rattle.net_text.specs.Scanned.{held, slot_of}
use Rattle.net_text.specs.Position.{place_line_tests, run_tests}

-- ---- bits

or_no_left : (a b : Bool) → (a || b) ≡ false → a ≡ false
or_no_left true b e = e
or_no_left false b e = refl

or_no_right : (a b : Bool) → (a || b) ≡ false → b ≡ false
or_no_right true b e = let z : ◌≡◌ {A = ℕ} 0 1 = cc in absurd (omega arith)
or_no_right false b e = e

-- a decimal that is not badly written is held whole
pub held_whole : (d : Decimal) → badly d ≡ false → held d.value ≡ d.value
held_whole d e =
    let small : d.value < 2 ^ 64 = leb-false (2 ^ 64) d.value (or_no_right d.zero_led (leb (2 ^ 64) d.value) e) in
    omega arith

-- ---- arcs

exact_more : (r d : Float) (a : RawArc) (ls : List Slot) → with_arc a (transition_of r d ls) ≡ transition_of r d (arc_slot a ∷ ls)
exact_more r d (raw_take p w k) ls = go (eqb k.value 1)
  where
    go : (x : Bool) → record { rate = r; delay = d; takes = record { place = p.value; weight = w.value; kinetic = x } ∷ takes_of ls; puts = arcs_of is_put ls; reads = arcs_of is_read ls; blocks = arcs_of is_block ls }
        ≡ transition_of r d (record { kind = pick x 0 1; place = p.value; weight = w.value } ∷ ls)
    go true = refl
    go false = refl
exact_more r d (raw_put p w) ls = refl
exact_more r d (raw_read p w) ls = refl
exact_more r d (raw_block p w) ls = refl

exact_is : (r d : ℕ) (xs : List RawArc) → transition r d xs ≡ transition_of (of_bits binary64 r) (of_bits binary64 d) (map arc_slot xs)
exact_is r d [] = refl
exact_is r d (a ∷ xs) = ap (with_arc a) (exact_is r d xs) ∙ exact_more (of_bits binary64 r) (of_bits binary64 d) a (map arc_slot xs)

-- arcs that are not badly written are held whole
clean_arc : (a : RawArc) → bad_arc a ≡ false → arc_slot a ≡ slot_of a
clean_arc (raw_take p w k) e =
    let one : (badly p || badly w || badly k) ≡ false = or_no_left (badly p || badly w || badly k) (ltb 1 k.value) e in
    let two : (badly p || badly w) ≡ false = or_no_left (badly p || badly w) (badly k) one in
    rw (held_whole p (or_no_left (badly p) (badly w) two), held_whole w (or_no_right (badly p) (badly w) two))
clean_arc (raw_put p w) e = rw (held_whole p (or_no_left (badly p) (badly w) e), held_whole w (or_no_right (badly p) (badly w) e))
clean_arc (raw_read p w) e = rw (held_whole p (or_no_left (badly p) (badly w) e), held_whole w (or_no_right (badly p) (badly w) e))
clean_arc (raw_block p w) e = rw (held_whole p (or_no_left (badly p) (badly w) e), held_whole w (or_no_right (badly p) (badly w) e))

pub clean : (xs : List RawArc) → any bad_arc xs ≡ false → map arc_slot xs ≡ map slot_of xs
clean [] e = refl
clean (a ∷ xs) e =
    ap (λ (l : Slot). l ∷ map arc_slot xs) (clean_arc a (or_no_left (bad_arc a) (any bad_arc xs) e))
    ∙ ap (λ (ls : List Slot). slot_of a ∷ ls) (clean xs (or_no_right (bad_arc a) (any bad_arc xs) e))

-- every slot has a known kind
known_arc : (a : RawArc) → ltb 4 (slot_of a).kind ≡ false
known_arc (raw_take p w k) = go (eqb k.value 1)
  where
    go : (x : Bool) → ltb 4 (pick x 0 1) ≡ false
    go true = refl
    go false = refl
known_arc (raw_put p w) = refl
known_arc (raw_read p w) = refl
known_arc (raw_block p w) = refl

known : (xs : List RawArc) → strange (map slot_of xs) ≡ false
known [] = refl
known (a ∷ xs) = rw (known_arc a, known xs)

-- a place that is cut is not below the place count, and no more is the whole
leb_by : (p v : ℕ) (x : Bool) → p ≤ 32 → leb p v ≡ x → leb p (held v) ≡ x
leb_by p v true h e = let l : p ≤ v = leb-true p v e in le-leb p (held v) (omega arith)
leb_by p v false h e = let l : v < p = leb-false p v e in lt-leb p (held v) (omega arith)

far_arc : (p : ℕ) → p ≤ 32 → (a : RawArc) → leb p (slot_of a).place ≡ leb p (arc_slot a).place
far_arc p h (raw_take q w k) = leb_by p q.value (leb p q.value) h refl
far_arc p h (raw_put q w) = leb_by p q.value (leb p q.value) h refl
far_arc p h (raw_read q w) = leb_by p q.value (leb p q.value) h refl
far_arc p h (raw_block q w) = leb_by p q.value (leb p q.value) h refl

far : (p : ℕ) → p ≤ 32 → (xs : List RawArc) → any (λ (l : Slot). leb p l.place) (map arc_slot xs) ≡ any (λ (l : Slot). leb p l.place) (map slot_of xs)
far p h [] = refl
far p h (a ∷ xs) = rw (far_arc p h a, far p h xs)

-- ---- a move

-- the tests behind 4
abbrev pub later : Transition → List Test
later t = (5, taken_twice t) ∷ (6, delayed_for_nothing t) ∷ (7, ltb 16 (kinetic_total t.takes)) ∷ []

-- the first of 2 and 3 decides, and else 4, whatever comes behind
fourth : (x y : Bool) (ts us : List Test) → first_of ((2, x) ∷ (3, y) ∷ (4, true) ∷ ts) ≡ first_of ((2, x) ∷ (3, y) ∷ (4, true) ∷ us)
fourth true y ts us = refl
fourth false true ts us = refl
fourth false false ts us = refl

stopped : (x y : Bool) (ts : List Test) (d e : Due) → unless (first_of ((2, x) ∷ (3, y) ∷ (4, true) ∷ ts)) d ≡ unless (first_of ((2, x) ∷ (3, y) ∷ (4, true) ∷ ts)) e
stopped true y ts d e = refl
stopped false true ts d e = refl
stopped false false ts d e = refl

module _ (p k : ℕ) (R D : Float) where
  abbrev E : List RawArc → Transition
  E xs = transition_of R D (map arc_slot xs)

  abbrev S : List RawArc → Transition
  S xs = transition_of R D (map slot_of xs)

  many_same : (xs : List RawArc) → too_many p k (E xs) ≡ too_many p k (S xs)
  many_same xs =
      ap (λ (n : ℕ). eqb p 0 || leb 64 k || ltb 16 n)
      (length_arcs R D (map arc_slot xs) ∙ length-map xs arc_slot ∙ sym (length-map xs slot_of) ∙ sym (length_arcs R D (map slot_of xs)))

  far_same : p ≤ 32 → (xs : List RawArc) → no_such_place p (E xs) ≡ no_such_place p (S xs)
  far_same h xs =
      any_arcs (λ (a : Arc). leb p a.place) R D (map arc_slot xs)
      ∙ far p h xs
      ∙ sym (any_arcs (λ (a : Arc). leb p a.place) R D (map slot_of xs))

  -- all tests, and what is stored where none applies
  move_by : p ≤ 32 → (n : Net) (names : List Bytes) (xs : List RawArc) (bad : Bool) → any bad_arc xs ≡ bad
      → unless (first_of (move_tests p k bad (E xs))) (after_move n names (E xs)) ≡ unless (first_of (move_tests p k (bad || strange (map slot_of xs)) (S xs))) (after_move n names (S xs))
  move_by h n names xs true e =
      rw (many_same xs, far_same h xs)
      (stopped (too_many p k (S xs)) (no_such_place p (S xs)) (later (E xs)) (after_move n names (E xs)) (after_move n names (S xs))
      ∙ ap (λ (o : Option ℕ). unless o (after_move n names (S xs))) (fourth (too_many p k (S xs)) (no_such_place p (S xs)) (later (E xs)) (later (S xs))))
  move_by h n names xs false e = rw (clean xs e, known xs)

-- 2 is first
crowded : (c : ℕ) (x : Bool) (ts us : List Test) (d e : Due) → x ≡ true → unless (first_of ((c, x) ∷ ts)) d ≡ unless (first_of ((c, x) ∷ us)) e
crowded c true ts us d e h = refl
crowded c false ts us d e h = let z : ◌≡◌ {A = ℕ} 0 1 = cc in absurd (omega arith)

or_third : (a b c : Bool) → c ≡ true → (a || b || c) ≡ true
or_third true b c e = refl
or_third false true c e = refl
or_third false false c e = e

or_second : (a b c : Bool) → b ≡ true → (a || b || c) ≡ true
or_second true b c e = refl
or_second false b c e = rw e

module _ (n : Net) (names : List Bytes) (p k : ℕ) (r d : ℕ) (xs : List RawArc) (ls : List Slot) (places : length n.places ≡ p) (transitions : length n.transitions ≡ k) (count : length ls ≡ length xs) where
  -- what the slots decide
  abbrev judged : Outcome
  judged =
      unless (first_of (move_tests p k (any bad_arc xs || strange ls) (transition_of (of_bits binary64 r) (of_bits binary64 d) ls)))
      (after_move n names (transition_of (of_bits binary64 r) (of_bits binary64 d) ls))

  abbrev exact : Outcome
  exact = unless (first_of (move_tests p k (any bad_arc xs) (transition r d xs))) (after_move n names (transition r d xs))

  inside_is : inside_line n names (some (raw_move r d xs)) ≡ exact
  inside_is = rw (places, transitions)

  -- the arcs are in the slots
  pub move_held : p ≤ 32 → ls ≡ map slot_of xs → inside_line n names (some (raw_move r d xs)) ≡ judged
  move_held h e =
      inside_is
      ∙ ap (λ (t : Transition). unless (first_of (move_tests p k (any bad_arc xs) t)) (after_move n names t)) (exact_is r d xs)
      ∙ move_by p k (of_bits binary64 r) (of_bits binary64 d) h n names xs (any bad_arc xs) refl
      ∙ ap (λ (l : List Slot). unless (first_of (move_tests p k (any bad_arc xs || strange l) (transition_of (of_bits binary64 r) (of_bits binary64 d) l))) (after_move n names (transition_of (of_bits binary64 r) (of_bits binary64 d) l))) (sym e)

  -- there are too many: the slots do not matter
  both_many : too_many p k (transition r d xs) ≡ true → too_many p k (transition_of (of_bits binary64 r) (of_bits binary64 d) ls) ≡ true → inside_line n names (some (raw_move r d xs)) ≡ judged
  both_many e f = inside_is ∙ rw (e, f)

  counted : length (arcs (transition r d xs)) ≡ length xs
  counted =
      ap (λ (t : Transition). length (arcs t)) (exact_is r d xs)
      ∙ length_arcs (of_bits binary64 r) (of_bits binary64 d) (map arc_slot xs)
      ∙ length-map xs arc_slot

  counted_slots : length (arcs (transition_of (of_bits binary64 r) (of_bits binary64 d) ls)) ≡ length xs
  counted_slots = length_arcs (of_bits binary64 r) (of_bits binary64 d) ls ∙ count

  pub move_crowded : 16 < length xs → inside_line n names (some (raw_move r d xs)) ≡ judged
  move_crowded h =
      both_many
      (or_third (eqb p 0) (leb 64 k) _ (lt-ltb 16 (length (arcs (transition r d xs))) (omega (arith, counted))))
      (or_third (eqb p 0) (leb 64 k) _ (lt-ltb 16 (length (arcs (transition_of (of_bits binary64 r) (of_bits binary64 d) ls))) (omega (arith, counted_slots))))

  pub move_late : 64 ≤ k → inside_line n names (some (raw_move r d xs)) ≡ judged
  move_late h =
      both_many
      (or_second (eqb p 0) (leb 64 k) _ (le-leb 64 k h))
      (or_second (eqb p 0) (leb 64 k) _ (le-leb 64 k h))

-- ---- a place and a run line

head_four : (x y z : Bool) (d e : Due) → unless (first_of ((1, x) ∷ (2, y) ∷ (4, true || z) ∷ [])) d ≡ unless (first_of ((1, x) ∷ (2, y) ∷ (4, true) ∷ [])) e
head_four true y z d e = refl
head_four false true z d e = refl
head_four false false z d e = refl

module _ (n : Net) (names : List Bytes) (i c : Decimal) (l : Bytes) where
  abbrev exact_place : Place
  exact_place = record { initial = i.value; capacity = c.value }

  abbrev held_place : Place
  held_place = record { initial = held i.value; capacity = held c.value }

  place_by : (late : Bool) (k : ℕ) (bad : Bool) → (badly i || badly c) ≡ bad
      → unless (first_of ((1, late) ∷ (place_tests k bad exact_place ++ label_tests names l))) (after_place n names exact_place l)
      ≡ unless (first_of ((1, late) ∷ (place_tests k bad held_place ++ label_tests names l))) (after_place n names held_place l)
  place_by true k true e = refl
  place_by false k true e = go (leb 32 k)
    where
      go : (x : Bool) → unless (first_of ((2, x) ∷ (4, true) ∷ label_tests names l)) (after_place n names exact_place l)
          ≡ unless (first_of ((2, x) ∷ (4, true) ∷ label_tests names l)) (after_place n names held_place l)
      go true = refl
      go false = refl
  place_by late k false e = rw (held_whole i (or_no_left (badly i) (badly c) e), held_whole c (or_no_right (badly i) (badly c) e))

  pub place_held : (p k : ℕ) → length n.places ≡ p → empty n.transitions ≡ eqb k 0
      → inside_line n names (some (raw_place i c l)) ≡ unless (first_of (place_line_tests p k (badly i || badly c) held_place names l)) (after_place n names held_place l)
  place_held p k e f = rw (e, f) (place_by (not (eqb k 0)) p (badly i || badly c) refl)

module _ (n : Net) (names : List Bytes) (s r seed : Decimal) (horizon : ℕ) where
  abbrev exact_run : RunLine
  exact_run = record { samples = s.value; realizations = r.value; seed = seed.value; horizon = horizon }

  abbrev held_run : RunLine
  held_run = record { samples = held s.value; realizations = held r.value; seed = held seed.value; horizon = horizon }

  run_by : (p : ℕ) (bad : Bool) → (badly s || badly r || badly seed) ≡ bad
      → unless (first_of (run_tests p bad)) (closing n names exact_run) ≡ unless (first_of (run_tests p bad)) (closing n names held_run)
  run_by p true e = go (eqb p 0)
    where
      go : (x : Bool) → unless (first_of ((2, x) ∷ (4, true) ∷ [])) (closing n names exact_run) ≡ unless (first_of ((2, x) ∷ (4, true) ∷ [])) (closing n names held_run)
      go true = refl
      go false = refl
  run_by p false e =
      let two : (badly s || badly r) ≡ false = or_no_left (badly s || badly r) (badly seed) e in
      rw (held_whole s (or_no_left (badly s) (badly r) two), held_whole r (or_no_right (badly s) (badly r) two), held_whole seed (or_no_right (badly s || badly r) (badly seed) e))

  pub run_held : (p : ℕ) → empty n.places ≡ eqb p 0
      → inside_line n names (some (raw_run s r seed horizon)) ≡ unless (first_of (run_tests p (badly s || badly r || badly seed))) (closing n names held_run)
  run_held p e = rw e (run_by p (badly s || badly r || badly seed) refl)
