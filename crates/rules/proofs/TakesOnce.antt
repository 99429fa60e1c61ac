-- A net record that passes the tests takes from no place twice, and puts into places that there are: refusals 5 and 3 are among a transition's tests, and a
-- record without a fault passes them all.
use Prim.Native.Nat.{ℕ, zero, suc}
use mathlib.Core.Path.{◌≡◌, refl, sym, ◌∙◌}
use mathlib.Core.Bool.{Bool, true, false}
use mathlib.Core.List.{List, [], ◌∷◌, ◌++◌, map}
use mathlib.Core.Option.{Option, none, some}
use native.Mathlib.Omega.{arith}
use lib.Dec.{eqb, leb}
use lib.ListN.{get_or, length}
use borrow.Author.Tests.{leb-false}
use Rattle.refusals.specs as Refusal
use Rattle.net.specs.declared.Net.{Net as NetRecord}
use Rattle.net.specs.Net.{Arc, Take, Transition, Net, pick}
use Rattle.net.specs.Tests.{Test, first_of, any, empty, as_arc, arcs, twice, taken_twice, move_tests, or_else}
use Rattle.net.specs.Readable.{slots_of, strange, transition, transitions_from, readable, places_fault, move_fault, moves_fault, fault}
use Rattle.net.proofs.Lengths.{places_length}
use Rattle.net.proofs.Twice.{eqb_swap}
use Rattle.rules.specs.Demand3.{takes_from, places_once, takes_once}
use Rattle.rules.specs.Moves as Rule
use Rattle.rules.proofs.Order.{neither}
use Rattle.rules.proofs.Peaks.{PutsInside}

-- ---- the test and the property

takes_any : (p : ℕ) (ks : List Take) → any (eqb p) (map (λ (k : Take). k.place) ks) ≡ takes_from p ks
takes_any p [] = refl
takes_any p (k ∷ ks) = rw (eqb_swap p k.place, takes_any p ks)

once : (ks : List Take) → twice (map (λ (k : Take). k.place) ks) ≡ false → places_once ks ≡ true
once [] h = refl
once (k ∷ ks) h =
    let w : (any (eqb k.place) (map (λ (l : Take). l.place) ks) ≡ false) × (twice (map (λ (l : Take). l.place) ks) ≡ false) =
    neither (any (eqb k.place) (map (λ (l : Take). l.place) ks)) (twice (map (λ (l : Take). l.place) ks)) h in
    let a : takes_from k.place ks ≡ false = sym (takes_any k.place ks) ∙ w.0 in
    rw (a, once ks w.1)

-- ---- no fault

pub no_some : {A : Type 0} {c : ℕ} → some c ≡ none → A
no_some p = absurd (let z : ◌≡◌ {A = ℕ} 0 1 = cc in omega arith)

pub neither_fault : (a b : Option ℕ) → or_else a b ≡ none → (a ≡ none) × (b ≡ none)
neither_fault none b h = (refl, h)
neither_fault (some c) b h = no_some h

pub none_applies : (ts : List Test) → first_of ts ≡ none → (i : ℕ) → (get_or ts i (0, false)).1 ≡ false
none_applies [] h zero = refl
none_applies [] h (suc i) = refl
none_applies (t ∷ ts) h i = go t.1 refl h i (none_applies ts)
  where
    go : (c : Bool) → t.1 ≡ c → pick c (some t.0) (first_of ts) ≡ none → (i : ℕ) → (first_of ts ≡ none → (i : ℕ) → (get_or ts i (0, false)).1 ≡ false)
        → (get_or (t ∷ ts) i (0, false)).1 ≡ false
    go true e p i ih = no_some p
    go false e p zero ih = e
    go false e p (suc i) ih = ih p i

module _ (n : NetRecord) where
  move_once : (j : ℕ) → move_fault n j ≡ none → taken_twice (transition n j) ≡ false
  move_once j h = none_applies (move_tests n.places j (strange (slots_of n j)) (transition n j)) h 3

  moves_once : (k j : ℕ) → moves_fault n j k ≡ none → takes_once (transitions_from n j k) ≡ true
  moves_once zero j h = refl
  moves_once (suc k) j h =
      let w : (move_fault n j ≡ none) × (moves_fault n (suc j) k ≡ none) = neither_fault (move_fault n j) (moves_fault n (suc j) k) h in
      rw (once (transition n j).takes (move_once j w.0), moves_once k (suc j) w.1)

  pub no_move_fault : fault n ≡ none → moves_fault n 0 n.transitions ≡ none
  unfolding fault
  no_move_fault h =
      let places : Option ℕ = places_fault n.initial n.capacity n.label n.lengths 0 n.places in
      let some_place : Option ℕ = first_of ((Refusal.bad_size, empty (readable n).places) ∷ []) in
      let moves : Option ℕ = moves_fault n 0 n.transitions in
      (neither_fault some_place moves (neither_fault places (or_else some_place moves) h).1).1

  pub takes_once_lem : fault n ≡ none → takes_once (readable n).transitions ≡ true
  takes_once_lem h = moves_once n.transitions 0 (no_move_fault h)

-- ---- puts land in places that there are (refusal 3)

pub none_of : (f : Arc → Bool) (xs ys : List Arc) → any f (xs ++ ys) ≡ false → (any f xs ≡ false) × (any f ys ≡ false)
none_of f [] ys h = (refl, h)
none_of f (x ∷ xs) ys h =
    let w : (f x ≡ false) × (any f (xs ++ ys) ≡ false) = neither (f x) (any f (xs ++ ys)) h in
    let v : (any f xs ≡ false) × (any f ys ≡ false) = none_of f xs ys w.1 in
    (rw w.0 v.0, v.1)

each_inside : (k : ℕ) (arcs : List Arc) → any (λ (a : Arc). leb k a.place) arcs ≡ false → PutsInside k arcs
each_inside k [] h = tt
each_inside k (a ∷ rest) h =
    let w : (leb k a.place ≡ false) × (any (λ (a : Arc). leb k a.place) rest ≡ false) =
    neither (leb k a.place) (any (λ (a : Arc). leb k a.place) rest) h in
    (leb-false k a.place w.0, each_inside k rest w.1)

abbrev pub EachInside : ℕ → List Transition → Type 0
EachInside k [] = Unit
EachInside k (this ∷ rest) = PutsInside k this.puts × EachInside k rest

pub inside_each : (n : Net) (k : ℕ) → EachInside k n.transitions → (j : ℕ) → PutsInside k (Rule.transition n j).puts
inside_each n k h j = go n.transitions h j
  where
    go : (trs : List Transition) → EachInside k trs → (j : ℕ) → PutsInside k (get_or trs j Rule.without_arcs).puts
    go [] h j = tt
    go (this ∷ rest) h zero = h.0
    go (this ∷ rest) h (suc j) = go rest h.1 j

module _ (n : NetRecord) where
  move_inside : (j : ℕ) → move_fault n j ≡ none → PutsInside n.places (transition n j).puts
  move_inside j h =
      let t : Transition = transition n j in
      let f : Arc → Bool = λ (a : Arc). leb n.places a.place in
      let all : any f (arcs t) ≡ false = none_applies (move_tests n.places j (strange (slots_of n j)) t) h 1 in
      let ahead : List Arc = map as_arc t.takes in
      each_inside n.places t.puts
      (none_of f ahead t.puts (none_of f (ahead ++ t.puts) t.reads (none_of f (ahead ++ t.puts ++ t.reads) t.blocks all).0).0).1

  moves_inside : (k j : ℕ) → moves_fault n j k ≡ none → EachInside n.places (transitions_from n j k)
  moves_inside zero j h = tt
  moves_inside (suc k) j h =
      let w : (move_fault n j ≡ none) × (moves_fault n (suc j) k ≡ none) = neither_fault (move_fault n j) (moves_fault n (suc j) k) h in
      (move_inside j w.0, moves_inside k (suc j) w.1)

  pub puts_inside : fault n ≡ none → (j : ℕ) → PutsInside (length (readable n).places) (Rule.transition (readable n) j).puts
  puts_inside h = rw (places_length n) (inside_each (readable n) n.places (moves_inside n.transitions 0 (no_move_fault n h)))
