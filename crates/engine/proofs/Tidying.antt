-- A net whose used slots are copied, the puts of each transition behind its other arcs, and whose other slots are 0 reads as the net: each list of
-- arcs takes its slots from one group, in their order. Every slot keeps the bounds of an accepted net: a used one by proofs/Sound of the crate net, any
-- other since 0 keeps them; that no transition takes from one place twice is a fact of what is read. Assumes nothing.
use Prim.Native.Nat.{ℕ, zero, suc, ◌+◌, ◌-◌, ◌*◌, ◌≤◌, ◌<◌}
use mathlib.Core.Path.{◌≡◌, refl, sym, ap, ◌∙◌, subst, subst⁻¹}
use mathlib.Core.Bool.{Bool, true, false, true≢false}
use mathlib.Core.List.{List, [], ◌∷◌, ◌++◌, append-nil}
use mathlib.Core.Logic.{inl, inr, ⊎_elim}
use mathlib.Core.Option.{none as no_fault}
use native.Mathlib.Omega.{arith}
use native.Mathlib.Nat.{ne_of_lt, eq-or-lt_of_le}
use lib.Dec.{eqb, leb, ltb}
use lib.ListN.{length, get_or, set, length-set, replicate, length-replicate}
use lib.Seq.{get_or-set_same, get_or-set_other}
use lib.Ieee.{Float, nan}
use borrow.Author.Count.{below_none, below_more}
use borrow.Author.Tests.{eqb-true, ne_eqb, ltb-true, ltb-false, leb-true}
use Rattle.net.specs.Net.{Arc, Take, Transition, Net, pick}
use Rattle.net.specs.declared.Net.{Net as NetRecord}
use Rattle.net.specs.Readable.{Slot, slot_at, slots, slots_of, takes_of, arcs_of, is_put, is_read, is_block, transition, transition_of, transitions_from, places_from, readable, fault}
use Rattle.net.specs.Sound.{Sound}
use Rattle.net.specs.Record.{labelled}
use Rattle.net.proofs.Sound.{sound}
use Rattle.rules.specs.Demand3.{takes_once}
use Rattle.rules.proofs.TakesOnce.{takes_once_lem}
use Rattle.engine.specs.Engine.{AtMost, Below, PutsLast, Tidy, Tidied}
use Rattle.engine.specs.Arcs.{group, of_group, Copied}
use Rattle.engine.proofs.Arcs.{on_bool}
use Rattle.engine.proofs.Lists.{each_zero, each_set}
use Rattle.engine.proofs.Copying.{Outside, slots_length, slots_split, slots_same, copied_length}

-- a property of every slot of a list
data All (P : Slot → Type 0) : List Slot → Type 0 where
  none : All P []
  more : {l : Slot} {ls : List Slot} → P l → All P ls → All P (l ∷ ls)

module _ (P : Slot → Type 0) where
  all_pick : (b : Bool) {xs ys : List Slot} → All P xs → All P ys → All P (pick b xs ys)
  all_pick true f g = f
  all_pick false f g = g

  all_group : (g : ℕ) {ls : List Slot} → All P ls → All P (of_group g ls)
  all_group g none = none
  all_group g (more {l} h f) = all_pick (eqb (group l.kind) g) (more h (all_group g f)) (all_group g f)

  all_append : {xs ys : List Slot} → All P xs → All P ys → All P (xs ++ ys)
  all_append none g = g
  all_append (more h f) g = more h (all_append f g)

  module _ (k p w : List ℕ) where
    all_from : (i a : ℕ) → ((b : ℕ) → a ≤ b → b < a + i → P (slot_at k p w b)) → All P (slots k p w a i)
    all_from zero a f = none
    all_from (suc i) a f = more (f a (omega arith) (omega arith)) (all_from i (a + 1) (λ b x y. f b (omega arith) (omega arith)))

    all_at : (i a : ℕ) → All P (slots k p w a i) → (b : ℕ) → a ≤ b → b < a + i → P (slot_at k p w b)
    all_at zero a f b x y = absurd (omega arith)
    all_at (suc i) a (more h f) b x y = ⊎_elim (λ e. subst (λ (z : ℕ). P (slot_at k p w z)) e h) (λ l. all_at i (a + 1) f b (omega arith) (omega arith)) (eq-or-lt_of_le x)

-- ---- the two groups

group_put : (k : ℕ) → is_put k ≡ true → group k ≡ 1
group_put k e = ap (λ (b : Bool). pick b 1 0) e

group_other : (k : ℕ) → is_put k ≡ false → group k ≡ 0
group_other k e = ap (λ (b : Bool). pick b 1 0) e

abbrev in_order : List Slot → List Slot
in_order ls = of_group 0 ls ++ of_group 1 ls

-- whether a slot goes to the first group, and to the second
first_test : (k : ℕ) (b : Bool) → is_put k ≡ b → eqb (group k) 0 ≡ pick b false true
first_test k true e = ap (λ (z : ℕ). eqb z 0) (group_put k e)
first_test k false e = ap (λ (z : ℕ). eqb z 0) (group_other k e)

second_test : (k : ℕ) (b : Bool) → is_put k ≡ b → eqb (group k) 1 ≡ pick b true false
second_test k true e = ap (λ (z : ℕ). eqb z 1) (group_put k e)
second_test k false e = ap (λ (z : ℕ). eqb z 1) (group_other k e)

pub both_groups : (ls : List Slot) → length (of_group 0 ls) + length (of_group 1 ls) ≡ length ls
both_groups [] = refl
both_groups (l ∷ ls) =
    let ih = both_groups ls in
    on_bool (is_put l.kind)
    (λ e. simp (first_test l.kind true e, second_test l.kind true e) (omega arith))
    (λ e. simp (first_test l.kind false e, second_test l.kind false e) (omega arith))

-- a list of arcs by a test of the kind
abbrev picked : {A : Type 0} → (ℕ → Bool) → (Slot → A) → List Slot → List A
picked f g [] = []
picked f g (l ∷ ls) = pick (f l.kind) (g l ∷ picked f g ls) (picked f g ls)

abbrev take_of : Slot → Take
take_of l = record { place = l.place; weight = l.weight; kinetic = eqb l.kind 0 }

abbrev arc_of : Slot → Arc
arc_of l = record { place = l.place; weight = l.weight }

takes_picked : (ls : List Slot) → takes_of ls ≡ picked (λ (k : ℕ). leb k 1) take_of ls
takes_picked [] = refl
takes_picked (l ∷ ls) = ap (λ (ts : List Take). pick (leb l.kind 1) (take_of l ∷ ts) ts) (takes_picked ls)

arcs_picked : (f : ℕ → Bool) (ls : List Slot) → arcs_of f ls ≡ picked f arc_of ls
arcs_picked f [] = refl
arcs_picked f (l ∷ ls) = ap (λ (rest : List Arc). pick (f l.kind) (arc_of l ∷ rest) rest) (arcs_picked f ls)

module _ {A : Type 0} (f : ℕ → Bool) (g : Slot → A) where
  picked_append : (xs ys : List Slot) → picked f g (xs ++ ys) ≡ picked f g xs ++ picked f g ys
  picked_append [] ys = refl
  picked_append (x ∷ xs) ys =
      ap (λ (rest : List A). pick (f x.kind) (g x ∷ rest) rest) (picked_append xs ys)
      ∙ joined (f x.kind) (g x) (picked f g xs) (picked f g ys)
    where
      joined : (b : Bool) (y : A) (us vs : List A) → pick b (y ∷ (us ++ vs)) (us ++ vs) ≡ pick b (y ∷ us) us ++ vs
      joined true y us vs = refl
      joined false y us vs = refl

  -- all that the test lets pass are of group q, so the other group gives nothing
  from_group : (q : ℕ) → ((k : ℕ) → f k ≡ true → eqb (group k) q ≡ true) → (ls : List Slot) → picked f g (of_group q ls) ≡ picked f g ls
  from_group q h [] = refl
  from_group q h (l ∷ ls) =
      on_bool (f l.kind)
      (λ e. simp (h l.kind e, e) (ap (λ (rest : List A). g l ∷ rest) (from_group q h ls)))
      (λ e. on_bool (eqb (group l.kind) q)
      (λ d. simp (d, e) (from_group q h ls))
      (λ d. simp (d, e) (from_group q h ls)))

  not_from_group : (q : ℕ) → ((k : ℕ) → f k ≡ true → eqb (group k) q ≡ false) → (ls : List Slot) → picked f g (of_group q ls) ≡ []
  not_from_group q h [] = refl
  not_from_group q h (l ∷ ls) =
      on_bool (f l.kind)
      (λ e. simp (h l.kind e) (not_from_group q h ls))
      (λ e. on_bool (eqb (group l.kind) q)
      (λ d. simp (d, e) (not_from_group q h ls))
      (λ d. simp d (not_from_group q h ls)))

  pub first_only : ((k : ℕ) → f k ≡ true → is_put k ≡ false) → (ls : List Slot) → picked f g (in_order ls) ≡ picked f g ls
  first_only h ls =
      picked_append (of_group 0 ls) (of_group 1 ls)
      ∙ ap (λ (rest : List A). picked f g (of_group 0 ls) ++ rest) (not_from_group 1 (λ k e. second_test k false (h k e)) ls)
      ∙ append-nil (picked f g (of_group 0 ls))
      ∙ from_group 0 (λ k e. first_test k false (h k e)) ls

  pub second_only : ((k : ℕ) → f k ≡ true → is_put k ≡ true) → (ls : List Slot) → picked f g (in_order ls) ≡ picked f g ls
  second_only h ls =
      picked_append (of_group 0 ls) (of_group 1 ls)
      ∙ ap (λ (rest : List A). rest ++ picked f g (of_group 1 ls)) (not_from_group 0 (λ k e. first_test k true (h k e)) ls)
      ∙ from_group 1 (λ k e. second_test k true (h k e)) ls

take_not_put : (k : ℕ) → leb k 1 ≡ true → is_put k ≡ false
take_not_put k e = let h = leb-true k 1 e in ne_eqb k 2 (λ d. omega arith)

takes_order : (ls : List Slot) → takes_of (in_order ls) ≡ takes_of ls
takes_order ls = takes_picked (in_order ls) ∙ first_only (λ (k : ℕ). leb k 1) take_of take_not_put ls ∙ sym (takes_picked ls)

arcs_order : (f : ℕ → Bool) → ((k : ℕ) → f k ≡ true → is_put k ≡ false) → (ls : List Slot) → arcs_of f (in_order ls) ≡ arcs_of f ls
arcs_order f h ls = arcs_picked f (in_order ls) ∙ first_only f arc_of h ls ∙ sym (arcs_picked f ls)

puts_order : (ls : List Slot) → arcs_of is_put (in_order ls) ≡ arcs_of is_put ls
puts_order ls = arcs_picked is_put (in_order ls) ∙ second_only is_put arc_of (λ k e. e) ls ∙ sym (arcs_picked is_put ls)

-- a transition reads the same
order_reads : (r d : Float) (ls : List Slot) → transition_of r d (in_order ls) ≡ transition_of r d ls
order_reads r d ls =
    let t = takes_order ls in
    let u = puts_order ls in
    let v = arcs_order is_read (λ k e. let h = eqb-true k 3 e in ne_eqb k 2 (λ d. omega arith)) ls in
    let x = arcs_order is_block (λ k e. let h = leb-true 4 k e in ne_eqb k 2 (λ d. omega arith)) ls in
    λ i. record { rate = r; delay = d; takes = t i; puts = u i; reads = v i; blocks = x i }

-- and its puts stand last: of the second group nothing is taken, and in the first no slot is a put
takes_second : (ls : List Slot) → takes_of (of_group 1 ls) ≡ []
takes_second ls = takes_picked (of_group 1 ls) ∙ not_from_group (λ (k : ℕ). leb k 1) take_of 1 (λ k e. second_test k false (take_not_put k e)) ls

second_last : (ls : List Slot) → PutsLast (of_group 1 ls)
second_last [] = tt
second_last (l ∷ ls) =
    on_bool (eqb (group l.kind) 1)
    (λ d. simp d (λ y. takes_second ls, second_last ls))
    (λ d. simp d (second_last ls))

first_last : (ls rest : List Slot) → PutsLast rest → PutsLast (of_group 0 ls ++ rest)
first_last [] rest h = h
first_last (l ∷ ls) rest h =
    on_bool (is_put l.kind)
    (λ e. simp (first_test l.kind true e) (first_last ls rest h))
    (λ e. simp (first_test l.kind false e) (λ y. absurd (true≢false (sym y ∙ e)), first_last ls rest h))

puts_last : (ls : List Slot) → PutsLast (in_order ls)
puts_last ls = first_last ls (of_group 1 ls) (second_last ls)

-- ---- the first j transitions are done

pub record Done (n : NetRecord) (arcs kind place weight : List ℕ) (j : ℕ) : Type 0 where
  pub within : j ≤ n.transitions
  pub long_arcs : length arcs ≡ 64
  pub long_kind : length kind ≡ 1024
  pub long_place : length place ≡ 1024
  pub long_weight : length weight ≡ 1024
  pub same_arcs : (i : ℕ) → i < j → get_or arcs i 0 ≡ get_or n.arcs i 0
  pub sorted : (i : ℕ) → i < j → slots kind place weight (16 * i) (get_or n.arcs i 0) ≡ in_order (slots_of n i)
  pub few : AtMost 16 arcs
  pub low : Below n.places place
  pub light : AtMost 1_000_000 weight

module _ (n : NetRecord) (s : Sound n) where
  pub done_none : {arcs kind place weight : List ℕ} → arcs ≡ replicate 64 0 → kind ≡ replicate 1024 0 → place ≡ replicate 1024 0 → weight ≡ replicate 1024 0
      → Done n arcs kind place weight 0
  done_none ea ek ep ew = coe 1 0 (i. Done n (ea i) (ek i) (ep i) (ew i) 0) (
      record {
        within = omega arith;
        long_arcs = length-replicate {A = ℕ} 64 0;
        long_kind = length-replicate {A = ℕ} 1024 0;
        long_place = length-replicate {A = ℕ} 1024 0;
        long_weight = length-replicate {A = ℕ} 1024 0;
        same_arcs = below_none _;
        sorted = λ i h. absurd (omega arith);
        few = each_zero (λ (x : ℕ). x ≤ 16) 64 (omega arith);
        low = each_zero (λ (x : ℕ). x < n.places) 1024 (omega (arith, s.place_one));
        light = each_zero (λ (x : ℕ). x ≤ 1_000_000) 1024 (omega arith);
      })

  module _ (j : ℕ) (h : j < n.transitions) where
    abbrev count : ℕ
    count = get_or n.arcs j 0

    abbrev end : ℕ
    end = 16 * j + count

    abbrev ls : List Slot
    ls = slots_of n j

    pub group_lengths : length (of_group 0 ls) + length (of_group 1 ls) ≡ count
    group_lengths = both_groups ls ∙ slots_length n.kind n.place n.weight count (16 * j)

    -- there is room for the second group
    pub second_room : {m : ℕ} {k p w k' p' w' : List ℕ} → Copied (16 * j) m (of_group 0 ls) k p w k' p' w' → m + length (of_group 1 ls) ≡ end
    second_room c = omega (arith, c.up, copied_length c, group_lengths)

    slot : (b : ℕ) → 16 * j ≤ b → 16 * j + (b - 16 * j) ≡ b
    slot b g = omega arith

    abbrev Fits : Slot → Type 0
    Fits l = (l.place < n.places) × (l.weight ≤ 1_000_000)

    used : All Fits (in_order ls)
    used =
        let all : All Fits ls = all_from Fits n.kind n.place n.weight count (16 * j) (λ b x y. (
          subst (λ (z : ℕ). get_or n.place z 0 < n.places) (slot b x) (s.place j (b - 16 * j) h (omega arith)),
          subst (λ (z : ℕ). get_or n.weight z 0 ≤ 1_000_000) (slot b x) (s.weight j (b - 16 * j) h (omega arith)),
        )) in
        all_append Fits (all_group Fits 0 all) (all_group Fits 1 all)

    module _ {m r : ℕ} {kind place weight kind' place' weight' kind'' place'' weight'' : List ℕ}
        (c : Copied (16 * j) m (of_group 0 ls) kind place weight kind' place' weight') (d : Copied m r (of_group 1 ls) kind' place' weight' kind'' place'' weight'') where
      r_is : r ≡ end
      r_is = omega (arith, c.up, d.up, copied_length c, copied_length d, group_lengths)

      new_slots : slots kind'' place'' weight'' (16 * j) count ≡ in_order ls
      new_slots =
          let e : count ≡ (m - 16 * j) + (r - m) = omega (arith, c.up, d.up, r_is) in
          let f : 16 * j + (m - 16 * j) ≡ m = omega (arith, c.up) in
          let old : slots kind'' place'' weight'' (16 * j) (m - 16 * j) ≡ slots kind' place' weight' (16 * j) (m - 16 * j) =
          slots_same kind' place' weight' kind'' place'' weight'' (m - 16 * j) (16 * j)
          (λ b x y. d.kind b (inl (omega arith))) (λ b x y. d.place b (inl (omega arith))) (λ b x y. d.weight b (inl (omega arith))) in
          let u = old ∙ c.inside in
          let v = ap (λ (z : ℕ). slots kind'' place'' weight'' z (r - m)) f ∙ d.inside in
          slots_split kind'' place'' weight'' (m - 16 * j) (r - m) count (16 * j) e ∙ (λ i. u i ++ v i)

      kept : (xs ys zs : List ℕ) → Outside (16 * j) m xs ys → Outside m r ys zs → Outside (16 * j) end xs zs
      kept xs ys zs f g a x = ⊎_elim (λ y. g a (inl (omega (arith, c.up))) ∙ f a (inl y)) (λ y. g a (inr (omega (arith, r_is))) ∙ f a (inr (omega (arith, r_is, d.up)))) x

      each_new : (P : ℕ → Type 0) (xs zs : List ℕ) → Outside (16 * j) end xs zs → ((b : ℕ) → 16 * j ≤ b → b < 16 * j + count → P (get_or zs b 0)) → ((a : ℕ) → P (get_or xs a 0)) → (a : ℕ) → P (get_or zs a 0)
      each_new P xs zs o new old a =
          on_bool (ltb a (16 * j))
          (λ e. subst⁻¹ P (o a (inl (ltb-true a (16 * j) e))) (old a))
          (λ e. on_bool (ltb a end)
          (λ f. new a (ltb-false a (16 * j) e) (ltb-true a end f))
          (λ f. subst⁻¹ P (o a (inr (ltb-false a end f))) (old a)))

      fits_new : (b : ℕ) → 16 * j ≤ b → b < 16 * j + count → Fits (slot_at kind'' place'' weight'' b)
      fits_new = all_at Fits kind'' place'' weight'' count (16 * j) (subst⁻¹ (All Fits) new_slots used)

      sorted_more : ((i : ℕ) → i < j → slots kind place weight (16 * i) (get_or n.arcs i 0) ≡ in_order (slots_of n i))
          → (i : ℕ) → i < j + 1 → slots kind'' place'' weight'' (16 * i) (get_or n.arcs i 0) ≡ in_order (slots_of n i)
      sorted_more f =
          below_more (λ (i : ℕ). slots kind'' place'' weight'' (16 * i) (get_or n.arcs i 0) ≡ in_order (slots_of n i)) j
          (λ i l.
          let a = s.arcs i (omega arith) in
          slots_same kind place weight kind'' place'' weight'' (get_or n.arcs i 0) (16 * i)
          (λ b x y. kept kind kind' kind'' c.kind d.kind b (inl (omega arith))) (λ b x y. kept place place' place'' c.place d.place b (inl (omega arith))) (λ b x y. kept weight weight' weight'' c.weight d.weight b (inl (omega arith)))
          ∙ f i l)
          new_slots

      pub done_more : {arcs : List ℕ} → Done n arcs kind place weight j → Done n (set arcs j count) kind'' place'' weight'' (j + 1)
      done_more {arcs} o =
          let l : j < length arcs = omega (arith, o.long_arcs, s.transitions) in
          record {
            within = omega arith;
            long_arcs = length-set arcs j count ∙ o.long_arcs;
            long_kind = d.long_kind ∙ c.long_kind ∙ o.long_kind;
            long_place = d.long_place ∙ c.long_place ∙ o.long_place;
            long_weight = d.long_weight ∙ c.long_weight ∙ o.long_weight;
            same_arcs =
                below_more (λ (i : ℕ). get_or (set arcs j count) i 0 ≡ get_or n.arcs i 0) j
                (λ i k. get_or-set_other arcs j i count 0 (ne_of_lt k) ∙ o.same_arcs i k) (get_or-set_same arcs j count 0 l);
            sorted = sorted_more o.sorted;
            few = each_set (λ (y : ℕ). y ≤ 16) arcs j count l (s.arcs j h) o.few;
            low = each_new (λ (y : ℕ). y < n.places) place place'' (kept place place' place'' c.place d.place) (λ b x y. (fits_new b x y).0) o.low;
            light = each_new (λ (y : ℕ). y ≤ 1_000_000) weight weight'' (kept weight weight' weight'' c.weight d.weight) (λ b x y. (fits_new b x y).1) o.light;
          }

-- ---- all are done

module _ (n : NetRecord) (arcs kind place weight : List ℕ) (j : ℕ) (d : Done n arcs kind place weight j) where
  abbrev made : NetRecord
  made = labelled n.places n.transitions n.initial n.capacity n.label n.lengths n.rate n.delay arcs kind place weight

  abbrev with_transitions : List Transition → Net
  with_transitions ts = record { places = places_from n.initial n.capacity 0 n.places; transitions = ts }

  slots_made : (i : ℕ) → i < j → slots_of made i ≡ in_order (slots_of n i)
  slots_made i h = ap (slots kind place weight (16 * i)) (d.same_arcs i h) ∙ d.sorted i h

  transition_made : (i : ℕ) → i < j → transition made i ≡ transition n i
  transition_made i h =
      ap (transition_of (get_or n.rate i nan) (get_or n.delay i nan)) (slots_made i h)
      ∙ order_reads (get_or n.rate i nan) (get_or n.delay i nan) (slots_of n i)

  transitions_made : (k i : ℕ) → i + k ≤ j → transitions_from made i k ≡ transitions_from n i k
  transitions_made zero i h = refl
  transitions_made (suc k) i h =
      ap (λ (t : Transition). t ∷ transitions_from made (suc i) k) (transition_made i (omega arith))
      ∙ ap (λ (ts : List Transition). transition n i ∷ ts) (transitions_made k (suc i) (omega arith))

  made_reads : n.transitions ≤ j → readable made ≡ readable n
  made_reads h =
      ap with_transitions (transitions_made n.transitions 0 (omega arith))

  made_tidy : n.transitions ≤ j → fault n ≡ no_fault → Tidy made
  made_tidy h f =
      let s = sound n f in
      record {
        places = s.places;
        transitions = s.transitions;
        arcs = d.few;
        place = d.low;
        weight = d.light;
        capacity = s.capacity;
        once = ap (λ (z : Net). takes_once z.transitions) (made_reads h) ∙ takes_once_lem n f;
        order = λ i k. subst⁻¹ PutsLast (slots_made i (omega arith)) (puts_last (slots_of n i));
      }

  pub all_tidied : n.transitions ≤ j → fault n ≡ no_fault → Tidied n made
  all_tidied h f = record { reads = made_reads h; tidy = made_tidy h f }
