-- What the reader's tests say where none applies: labels hold no newline, and no number of a net is too large for its decimal. Assumes nothing.
use Prim.Native.Nat.{ℕ, suc, ◌+◌, ◌^◌, ◌≤◌, ◌<◌}
use native.Mathlib.Omega.{arith}
use mathlib.Core.Path.{◌≡◌, refl, sym, ap, ◌∙◌}
use mathlib.Core.Bool.{Bool, true, false, ◌&&◌, ◌||◌, not}
use mathlib.Core.List.{List, [], ◌∷◌, ◌++◌, map}
use mathlib.Core.Option.{none}
use lib.Dec.{eqb, leb, ltb}
use lib.ListN.{length}
use borrow.Author.Tests.{eqb-true, lt-leb, leb-false, ltb-false}
use Rattle.net.specs.Net.{Place, Arc, Take, Transition, pick}
use Rattle.net.specs.Tests.{Test, first_of, any, as_arc, arcs, place_tests, move_tests, rate_fits, delay_fits}
use Rattle.net.specs.Labels.{label_byte, every, label_fits, label_tests}
use Rattle.text.specs.Text.{Bytes, newline}
use Rattle.net_text.specs.Forms.{RawArc}
use Rattle.net_text.specs.Reading.{badly, bad_arc}
use Rattle.net_writing.specs.Writable.{PlacesFit}
use Rattle.net_writing.proofs.Cut.{OneLine}
use Rattle.net_writing.proofs.Lined.{plain, raw_of_take, raw_of_put, raw_of_read, raw_of_block, raw_arcs}

-- ---- tests in general

first_passed : (c : ℕ) (b : Bool) (ts : List Test) → first_of ((c, b) ∷ ts) ≡ none → (b ≡ false) × (first_of ts ≡ none)
first_passed c true ts e = let z : ◌≡◌ {A = ℕ} 0 1 = cc in absurd (omega arith)
first_passed c false ts e = (refl, e)

abbrev Passed : List Test → Type 0
Passed [] = Unit {0}
Passed (t ∷ ts) = (t.1 ≡ false) × Passed ts

passed : (ts : List Test) → first_of ts ≡ none → Passed ts
passed [] e = tt
passed (t ∷ ts) e =
    let here = first_passed t.0 t.1 ts e in
    (here.0, passed ts here.1)

neither : (a b : Bool) → a || b ≡ false → (a ≡ false) × (b ≡ false)
neither true b e = let z : ◌≡◌ {A = ℕ} 0 1 = cc in absurd (omega arith)
neither false b e = (refl, e)

both : (a b : Bool) → a && b ≡ true → (a ≡ true) × (b ≡ true)
both true b e = (refl, e)
both false b e = let z : ◌≡◌ {A = ℕ} 0 1 = cc in absurd (omega arith)

not_not : (a : Bool) → not a ≡ false → a ≡ true
not_not true e = refl
not_not false e = let z : ◌≡◌ {A = ℕ} 0 1 = cc in absurd (omega arith)

none_of : {A : Type 0} (f : A → Bool) (xs ys : List A) → any f (xs ++ ys) ≡ false → (any f xs ≡ false) × (any f ys ≡ false)
none_of f [] ys e = (refl, e)
none_of f (x ∷ xs) ys e =
    let here = neither (f x) (any f (xs ++ ys)) e in
    let later = none_of f xs ys here.1 in
    (rw here.0 later.0, later.1)

none_more : {A : Type 0} (f : A → Bool) (xs ys : List A) → any f xs ≡ false → any f ys ≡ false → any f (xs ++ ys) ≡ false
none_more f [] ys h k = k
none_more f (x ∷ xs) ys h k =
    let here = neither (f x) (any f xs) h in
    rw here.0 (none_more f xs ys here.1 k)

-- ---- labels

byte_line : (b : ℕ) (x : Bool) → eqb b newline ≡ x → label_byte b ≡ true → eqb b newline ≡ false
byte_line b true e h =
    let ten : b ≡ 10 = eqb-true b 10 e in
    let wrong : false ≡ true = ap label_byte (sym ten) ∙ h in
    let z : ◌≡◌ {A = ℕ} 0 1 = cc in
    absurd (omega arith)
byte_line b false e h = e

every_line : (l : Bytes) → every label_byte l ≡ true → OneLine l
every_line [] h = tt
every_line (b ∷ l) h =
    let two = both (label_byte b) (every label_byte l) h in
    (byte_line b (eqb b newline) refl two.0, every_line l two.1)

-- ---- a place's tests

pub record PlaceSays (q : Place) (l : Bytes) : Type 0 where
  pub initial : q.initial < 2 ^ 64
  pub capacity : q.capacity < 2 ^ 64
  pub label : OneLine l

pub place_says : (before : ℕ) (earlier : List Bytes) (q : Place) (l : Bytes) → first_of (place_tests before false q ++ label_tests earlier l) ≡ none
    → (before < 32) × PlaceSays q l
place_says before earlier q l e =
    let a = passed (place_tests before false q ++ label_tests earlier l) e in
    let b = a.1 in
    let c = b.1 in
    let d = neither (ltb (2 ^ 53) q.initial) (ltb (2 ^ 53) q.capacity) b.0 in
    let small = ltb-false (2 ^ 53) q.initial d.0 in
    let narrow = ltb-false (2 ^ 53) q.capacity d.1 in
    let fits = not_not (label_fits l) c.0 in
    (leb-false 32 before a.0, record { initial = omega arith; capacity = omega arith; label = every_line l (both (leb 1 (length l) && leb (length l) 16) (every label_byte l) fits).1 })

pub few_places : (before : ℕ) (earlier : List Bytes) (qs : List Place) (ls : List Bytes) → before ≤ 32 → PlacesFit before earlier qs ls → before + length qs ≤ 32
few_places before earlier [] ls h f = omega arith
few_places before earlier (q ∷ qs) [] h f = absurd f
few_places before earlier (q ∷ qs) (l ∷ ls) h f =
    let here = place_says before earlier q l f.0 in
    omega (arith, few_places (suc before) (earlier ++ (l ∷ [])) qs ls here.0 f.1)

-- ---- a move's tests

-- a decimal below 2 ^ 64 with no leading zero is none that is refused
pub well : (n : ℕ) → n < 2 ^ 64 → badly (plain n) ≡ false
well n h = lt-leb (2 ^ 64) n h

abbrev without_place : ℕ → Arc → Bool
without_place places a = leb places a.place

abbrev heavy : Arc → Bool
heavy a = ltb 1_000_000 a.weight

-- an arc's numbers are small where its tests find nothing
module _ (places : ℕ) (few : places ≤ 32) where
  small_arc : (a : Arc) → without_place places a ≡ false → heavy a ≡ false → (badly (plain a.place) ≡ false) × (badly (plain a.weight) ≡ false)
  small_arc a h k =
      let low = leb-false places a.place h in
      let light = ltb-false 1_000_000 a.weight k in
      (well a.place (omega arith), well a.weight (omega arith))

  arcs_well : (raw : Arc → RawArc) → ((a : Arc) → badly (plain a.place) ≡ false → badly (plain a.weight) ≡ false → bad_arc (raw a) ≡ false)
      → (xs : List Arc)
      → any (without_place places) xs ≡ false
      → any heavy xs ≡ false
      → any bad_arc (map raw xs) ≡ false
  arcs_well raw each [] h k = refl
  arcs_well raw each (a ∷ xs) h k =
      let p = neither (without_place places a) (any (without_place places) xs) h in
      let w = neither (heavy a) (any heavy xs) k in
      let s = small_arc a p.0 w.0 in
      rw (each a s.0 s.1) (arcs_well raw each xs p.1 w.1)

  kinetic_well : (b : Bool) → (badly (plain (pick b 1 0)) ≡ false) × (ltb 1 (pick b 1 0) ≡ false)
  kinetic_well true = (refl, refl)
  kinetic_well false = (refl, refl)

  takes_well : (xs : List Take) → any (without_place places) (map as_arc xs) ≡ false → any heavy (map as_arc xs) ≡ false → any bad_arc (map raw_of_take xs) ≡ false
  takes_well [] h k = refl
  takes_well (t ∷ xs) h k =
      let p = neither (without_place places (as_arc t)) (any (without_place places) (map as_arc xs)) h in
      let w = neither (heavy (as_arc t)) (any heavy (map as_arc xs)) k in
      let s = small_arc (as_arc t) p.0 w.0 in
      rw (s.0, s.1, (kinetic_well t.kinetic).0, (kinetic_well t.kinetic).1) (takes_well xs p.1 w.1)

  pub move_well : (before : ℕ) (t : Transition) → first_of (move_tests places before false t) ≡ none → any bad_arc (raw_arcs t) ≡ false
  move_well before t e =
      let a = passed (move_tests places before false t) e in
      let b = a.1 in
      let c = b.1 in
      let light = (neither (not (rate_fits t.rate) || not (delay_fits t.delay)) (any heavy (arcs t)) c.0).1 in
      let tk : List Arc = map as_arc t.takes in
      let p3 = none_of (without_place places) (tk ++ t.puts ++ t.reads) t.blocks b.0 in
      let p2 = none_of (without_place places) (tk ++ t.puts) t.reads p3.0 in
      let p1 = none_of (without_place places) tk t.puts p2.0 in
      let w3 = none_of heavy (tk ++ t.puts ++ t.reads) t.blocks light in
      let w2 = none_of heavy (tk ++ t.puts) t.reads w3.0 in
      let w1 = none_of heavy tk t.puts w2.0 in
      none_more bad_arc (map raw_of_take t.takes) _ (takes_well t.takes p1.0 w1.0)
      (none_more bad_arc (map raw_of_put t.puts) _ (arcs_well raw_of_put (λ a h k. rw (h, k)) t.puts p1.1 w1.1)
      (none_more bad_arc (map raw_of_read t.reads) _ (arcs_well raw_of_read (λ a h k. rw (h, k)) t.reads p2.1 w2.1)
      (arcs_well raw_of_block (λ a h k. rw (h, k)) t.blocks p3.1 w3.1)))
