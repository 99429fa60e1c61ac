-- A walk over the slots of a transition says what the definitions say of its arcs: first what every loop needs of the slots that are left,
-- then arcs, takes and kinetic weights, slot by slot. Assumes nothing.
use Prim.Native.Nat.{ℕ, zero, suc, ◌+◌, ◌-◌, ◌≤◌, ◌<◌}
use mathlib.Core.Path.{◌≡◌, refl, sym, ap, ◌∙◌}
use mathlib.Core.Bool.{Bool, true, false, ◌&&◌, ◌||◌, not, true≢false, or_assoc}
use mathlib.Core.List.{List, [], ◌∷◌, ◌++◌, map}
use native.Mathlib.Omega.{arith}
use borrow.Author.Tests.{le-leb, lt-leb, ne_eqb}
use lib.Dec.{eqb, leb, eqb-suc-zero}
use lib.ListN.{length, length-append, length-map}
use lib.Ieee.{Float}
use Rattle.net.specs.Net.{Arc, Take, pick, amount}
use Rattle.net.specs.Tests.{any, empty, as_arc, arcs, kinetic_total}
use Rattle.net.specs.Readable.{Slot, slot_at, slots, takes_of, arcs_of, is_put, is_read, is_block, transition_of}

-- ---- the slots that are left, from a up to e: one and the rest, or none

module _ (k p w : List ℕ) (a e : ℕ) where
  pub slots_step : a < e → slots k p w a (e - a) ≡ slot_at k p w a ∷ slots k p w (a + 1) (e - (a + 1))
  slots_step h =
      let d : e - a ≡ suc (e - (a + 1)) = omega arith in
      ap (slots k p w a) d

  pub slots_end : e ≤ a → slots k p w a (e - a) ≡ []
  slots_end h =
      let d : e - a ≡ 0 = omega arith in
      ap (slots k p w a) d

pub length_slots : (k p w : List ℕ) (a n : ℕ) → length (slots k p w a n) ≡ n
length_slots k p w a zero = refl
length_slots k p w a (suc n) = ap suc (length_slots k p w (a + 1) n)

-- a loop over a disjunction, whose whole is t: it stops at a part that holds, and goes on past one that does not
pub or_stop : {t : Bool} (x r : Bool) → t ≡ (x || r) → x ≡ true → true ≡ t
or_stop x r e h = sym (e ∙ ap (λ (b : Bool). b || r) h)

pub or_go : {t : Bool} (x r : Bool) → t ≡ (x || r) → x ≡ false → r ≡ t
or_go x r e h = sym (e ∙ ap (λ (b : Bool). b || r) h)

module _ (f : Slot → Bool) (k p w : List ℕ) (a e : ℕ) {t : Bool} where
  pub any_turn : a < e → any f (slots k p w a (e - a)) ≡ t → t ≡ (f (slot_at k p w a) || any f (slots k p w (a + 1) (e - (a + 1))))
  any_turn h inv = sym inv ∙ ap (any f) (slots_step k p w a e h)

-- ---- choices

ap_pick : {A B : Type 0} (f : A → B) (b : Bool) (x y : A) → f (pick b x y) ≡ pick b (f x) (f y)
ap_pick f true x y = refl
ap_pick f false x y = refl

same_pick : {A : Type 0} (b : Bool) (x : A) → pick b x x ≡ x
same_pick true x = refl
same_pick false x = refl

or_pick : (b x y : Bool) → pick b (x || y) y ≡ ((b && x) || y)
or_pick true x y = refl
or_pick false x y = refl

or_true : (a : Bool) → (a || true) ≡ true
or_true true = refl
or_true false = refl

pub or_first : {x : Bool} (y : Bool) → x ≡ true → (x || y) ≡ true
or_first y e = ap (λ (b : Bool). b || y) e

pub or_second : (x : Bool) {y : Bool} → y ≡ true → (x || y) ≡ true
or_second x e = ap (λ (b : Bool). x || b) e ∙ or_true x

pub or_neither : {x y : Bool} → x ≡ false → y ≡ false → (x || y) ≡ false
or_neither {x} {y} e g = ap (λ (b : Bool). b || y) e ∙ g

pub and_both : {x y z : Bool} → x ≡ true → z ≡ y → z ≡ (x && y)
and_both {x} {y} e g = g ∙ sym (ap (λ (b : Bool). b && y) e)

pub not_first : (x y : Bool) → (x || y) ≡ false → x ≡ false
not_first true y e = e
not_first false y e = refl

pub not_second : (x y : Bool) → (x || y) ≡ false → y ≡ false
not_second true y e = absurd (true≢false e)
not_second false y e = e

-- ---- every kind is a take, a put, a read or a block, and only one of them

abbrev bit : Bool → ℕ
bit b = pick b 1 0

one_kind : (k : ℕ) → bit (leb k 1) + bit (is_put k) + bit (is_read k) + bit (is_block k) ≡ 1
one_kind zero = refl
one_kind (suc zero) = refl
one_kind (suc (suc zero)) = refl
one_kind (suc (suc (suc zero))) = refl
one_kind (suc (suc (suc (suc k)))) =
    let n = suc (suc (suc (suc k))) in
    simp (lt-leb n 1 (omega arith), ne_eqb n 2 (λ e. omega arith), ne_eqb n 3 (λ e. omega arith), le-leb 4 n (omega arith))

-- ---- all arcs of a transition, slot by slot

abbrev arc_of : Slot → Arc
arc_of l = record { place = l.place; weight = l.weight }

length_pick : {A : Type 0} (b : Bool) (x : A) (xs : List A) → length (pick b (x ∷ xs) xs) ≡ bit b + length xs
length_pick true x xs = omega arith
length_pick false x xs = omega arith

lengths : (ls : List Slot) → length (takes_of ls) + length (arcs_of is_put ls) + length (arcs_of is_read ls) + length (arcs_of is_block ls) ≡ length ls
lengths [] = refl
lengths (l ∷ ls) =
    omega (
      arith,
      lengths ls,
      one_kind l.kind,
      length_pick (leb l.kind 1) (record { place = l.place; weight = l.weight; kinetic = eqb l.kind 0 }) (takes_of ls),
      length_pick (is_put l.kind) (arc_of l) (arcs_of is_put ls),
      length_pick (is_read l.kind) (arc_of l) (arcs_of is_read ls),
      length_pick (is_block l.kind) (arc_of l) (arcs_of is_block ls),
    )

pub length_arcs : (r d : Float) (ls : List Slot) → length (arcs (transition_of r d ls)) ≡ length ls
length_arcs r d ls = simp (length-append, length-map) (lengths ls)

any_append : {A : Type 0} (f : A → Bool) (xs ys : List A) → any f (xs ++ ys) ≡ (any f xs || any f ys)
any_append f [] ys = refl
any_append f (x ∷ xs) ys = ap (λ (b : Bool). f x || b) (any_append f xs ys) ∙ sym (or_assoc (f x) (any f xs) (any f ys))

-- of four classes one has the new arc
gather : (x b₁ b₂ b₃ b₄ A B C D : Bool) → bit b₁ + bit b₂ + bit b₃ + bit b₄ ≡ 1
    → (pick b₁ (x || A) A || pick b₂ (x || B) B || pick b₃ (x || C) C || pick b₄ (x || D) D) ≡ (x || (A || B || C || D))
gather false b₁ b₂ b₃ b₄ A B C D e = simp same_pick
gather true true b₂ b₃ b₄ A B C D e = refl
gather true false true b₃ b₄ A B C D e = simp or_true
gather true false false true b₄ A B C D e = simp or_true
gather true false false false true A B C D e = simp or_true
gather true false false false false A B C D e = let z : ⊥ = omega arith in absurd z

module _ (f : Arc → Bool) where
  abbrev four : List Slot → Bool
  four ls = any f (map as_arc (takes_of ls)) || any f (arcs_of is_put ls) || any f (arcs_of is_read ls) || any f (arcs_of is_block ls)

  four_any : (ls : List Slot) → four ls ≡ any (λ (l : Slot). f (arc_of l)) ls
  four_any [] = refl
  four_any (l ∷ ls) =
      simp (
        ap_pick (λ (ts : List Take). any f (map as_arc ts)) (leb l.kind 1) (record { place = l.place; weight = l.weight; kinetic = eqb l.kind 0 } ∷ takes_of ls) (takes_of ls),
        ap_pick (any f) (is_put l.kind) (arc_of l ∷ arcs_of is_put ls) (arcs_of is_put ls),
        ap_pick (any f) (is_read l.kind) (arc_of l ∷ arcs_of is_read ls) (arcs_of is_read ls),
        ap_pick (any f) (is_block l.kind) (arc_of l ∷ arcs_of is_block ls) (arcs_of is_block ls),
      )
      (gather (f (arc_of l)) (leb l.kind 1) (is_put l.kind) (is_read l.kind) (is_block l.kind) _ _ _ _ (one_kind l.kind)
      ∙ ap (λ (b : Bool). f (arc_of l) || b) (four_any ls))

  pub any_arcs : (r d : Float) (ls : List Slot) → any f (arcs (transition_of r d ls)) ≡ any (λ (l : Slot). f (arc_of l)) ls
  any_arcs r d ls = simp (any_append f) (four_any ls)

pub any_or : {A : Type 0} (f g : A → Bool) (ls : List A) → any (λ (l : A). f l || g l) ls ≡ (any f ls || any g ls)
any_or f g [] = refl
any_or f g (l ∷ ls) = ap (λ (b : Bool). f l || g l || b) (any_or f g ls) ∙ mix (f l) (g l) (any f ls) (any g ls)
  where
    mix : (a b c d : Bool) → (a || b || (c || d)) ≡ ((a || c) || (b || d))
    mix true b c d = refl
    mix false true c d = sym (or_true c)
    mix false false c d = refl

-- ---- takes, slot by slot

abbrev pub taken : List Slot → List ℕ
taken ls = map (λ (k : Take). k.place) (takes_of ls)

pub any_taken : (f : ℕ → Bool) (ls : List Slot) → any f (taken ls) ≡ any (λ (l : Slot). leb l.kind 1 && f l.place) ls
any_taken f [] = refl
any_taken f (l ∷ ls) =
    ap_pick (λ (ts : List Take). any f (map (λ (k : Take). k.place) ts)) (leb l.kind 1) _ _
    ∙ or_pick (leb l.kind 1) (f l.place) (any f (taken ls))
    ∙ ap (λ (b : Bool). (leb l.kind 1 && f l.place) || b) (any_taken f ls)

pub empty_takes : (ls : List Slot) → empty (takes_of ls) ≡ not (any (λ (l : Slot). leb l.kind 1) ls)
empty_takes [] = refl
empty_takes (l ∷ ls) = ap_pick empty (leb l.kind 1) _ _ ∙ either (leb l.kind 1) _ _ (empty_takes ls)
  where
    either : (b n r : Bool) → n ≡ not r → pick b false n ≡ not (b || r)
    either true n r e = refl
    either false n r e = e

-- ---- kinetic weights, slot by slot

abbrev pub kinetic_weight : Slot → ℕ
kinetic_weight l = pick (eqb l.kind 0) (amount l.weight) 0

abbrev pub kinetic : List Slot → ℕ
kinetic ls = kinetic_total (takes_of ls)

kinetic_slot_lem : (l : Slot) (ls : List Slot) → kinetic (l ∷ ls) ≡ kinetic_weight l + kinetic ls
kinetic_slot_lem l ls = ap_pick kinetic_total (leb l.kind 1) _ _ ∙ only l.kind (amount l.weight) (kinetic ls)
  where
    none : (b : Bool) (t : ℕ) → pick b (0 + t) t ≡ 0 + t
    none true t = refl
    none false t = omega arith

    only : (k a t : ℕ) → pick (leb k 1) (pick (eqb k 0) a 0 + t) t ≡ pick (eqb k 0) a 0 + t
    only zero a t = refl
    only (suc k) a t = simp (eqb-suc-zero k) (none (leb (suc k) 1) t)

module _ (k p w : List ℕ) (a e : ℕ) where
  pub kinetic_turn : a < e
      → kinetic (slots k p w a (e - a)) ≡ kinetic_weight (slot_at k p w a) + kinetic (slots k p w (a + 1) (e - (a + 1)))
  kinetic_turn h = ap kinetic (slots_step k p w a e h) ∙ kinetic_slot_lem (slot_at k p w a) (slots k p w (a + 1) (e - (a + 1)))
