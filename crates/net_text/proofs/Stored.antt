-- The tables after a store: a place or a transition at the end of the list, and the others as they were. Assumes nothing.
use Prim.Native.Nat.{ℕ, zero, suc, ◌+◌, ◌*◌, ◌≤◌, ◌<◌}
use mathlib.Core.Path.{◌≡◌, refl, sym, ap, ap₂, subst, ◌∙◌}
use mathlib.Core.Bool.{Bool, true, false}
use mathlib.Core.List.{List, [], ◌∷◌, ◌++◌}
use mathlib.Core.Option.{Option, none, some}
use native.Mathlib.Omega.{arith}
use native.Mathlib.Numerals.{add-one}
use native.Mathlib.Nat.{add-zero, zero-add}
use lib.Dec.{eqb, ltb, eqb-suc-zero}
use lib.ListN.{length, get_or, set, length-set}
use lib.Seq.{get_or-set_same, get_or-set_other}
use lib.Ieee.{Float, nan}
use borrow.Author.Tests.{ltb-true, ltb-false}
use Rattle.net.specs.Net.{Place, Transition}
use Rattle.net.specs.Tests.{empty, first_of, place_tests, move_tests, or_else, fault_from}
use Rattle.net.specs.Labels.{label_tests, labels_from, label_fault}
use Rattle.net.specs.Readable.{Slot, slots, slots_of, strange, transition_of, transition, transitions_from, places_from, readable, place_fault, move_fault, moves_fault}
use Rattle.net.specs.declared.Net.{Net as NetRecord}
use Rattle.text.specs.Text.{Bytes}
use Rattle.text.specs.Buffer.{placed}
use Rattle.text.proofs.Places.{length_placed}
use Rattle.net.specs.Record.{labelled}
use Rattle.net_text.specs.Position.{Room}
use Rattle.net_text.proofs.Labels.{numbered_same, numbered_last, label_other, labels_before, label_judged}

-- ---- how many

pub places_empty : (i c : List ℕ) (p k : ℕ) → empty (places_from i c p k) ≡ eqb k 0
places_empty i c p zero = refl
places_empty i c p (suc k) = sym (eqb-suc-zero k)

pub transitions_empty : (n : NetRecord) (j k : ℕ) → empty (transitions_from n j k) ≡ eqb k 0
transitions_empty n j zero = refl
transitions_empty n j (suc k) = sym (eqb-suc-zero k)

-- ---- the others

places_same : (i c i' c' : List ℕ) (p k : ℕ)
    → ((x : ℕ) → p ≤ x → x < p + k → get_or i x 0 ≡ get_or i' x 0) → ((x : ℕ) → p ≤ x → x < p + k → get_or c x 0 ≡ get_or c' x 0)
    → places_from i c p k ≡ places_from i' c' p k
places_same i c i' c' p zero f g = refl
places_same i c i' c' p (suc k) f g =
    rw (
      f p (omega arith) (omega arith),
      g p (omega arith) (omega arith),
      places_same i c i' c' (suc p) k (λ x l m. f x (omega arith) (omega arith)) (λ x l m. g x (omega arith) (omega arith)),
    )

slots_same : (k p w k' p' w' : List ℕ) (a n : ℕ)
    → ((x : ℕ) → x < a + n → get_or k x 0 ≡ get_or k' x 0)
    → ((x : ℕ) → x < a + n → get_or p x 0 ≡ get_or p' x 0)
    → ((x : ℕ) → x < a + n → get_or w x 0 ≡ get_or w' x 0)
    → slots k p w a n ≡ slots k' p' w' a n
slots_same k p w k' p' w' a zero f g h = refl
slots_same k p w k' p' w' a (suc n) f g h =
    rw (
      f a (omega arith),
      g a (omega arith),
      h a (omega arith),
      slots_same k p w k' p' w' (a + 1) n (λ x l. f x (omega arith)) (λ x l. g x (omega arith)) (λ x l. h x (omega arith)),
    )

-- ---- the last

places_last : (i c : List ℕ) (p k : ℕ) → places_from i c p (suc k) ≡ places_from i c p k ++ (record { initial = get_or i (p + k) 0; capacity = get_or c (p + k) 0 } ∷ [])
places_last i c p zero = rw (add-zero p)
places_last i c p (suc k) =
    let e : p + suc k ≡ suc p + k = omega arith in
    rw e (ap (λ (qs : List Place). record { initial = get_or i p 0; capacity = get_or c p 0 } ∷ qs) (places_last i c (suc p) k))

-- ---- no fault, with one more at the end

both : (a b : Option ℕ) → a ≡ none → b ≡ none → or_else a b ≡ none
both a b e f = rw (e, f)

pub first_none : (a b : Option ℕ) → or_else a b ≡ none → a ≡ none
first_none none b e = refl
first_none (some c) b e = cc

pub second_none : (a b : Option ℕ) → or_else a b ≡ none → b ≡ none
second_none none b e = e
second_none (some c) b e = cc

fit_last : (f : ℕ → Option ℕ) (j k : ℕ) → fault_from f j k ≡ none → f (j + k) ≡ none → fault_from f j (suc k) ≡ none
fit_last f j zero e h = both (f j) none (rw (add-zero j) at h) refl
fit_last f j (suc k) e h =
    let moved : j + suc k ≡ suc j + k = omega arith in
    both (f j) (fault_from f (suc j) (suc k))
    (first_none (f j) (fault_from f (suc j) k) e)
    (fit_last f (suc j) k (second_none (f j) (fault_from f (suc j) k) e) (subst (λ (i : ℕ). f i ≡ none) moved h))

faults_same : (f g : ℕ → Option ℕ) (j k : ℕ) → ((i : ℕ) → i < j + k → f i ≡ g i) → fault_from f j k ≡ fault_from g j k
faults_same f g j zero h = refl
faults_same f g j (suc k) h = ap₂ or_else (h j (omega arith)) (faults_same f g (suc j) k (λ i l. h i (omega arith)))

-- ---- a place is stored

module _ (initial capacity label lengths : List ℕ) (rate delay : List Float) (arcs kind place weight : List ℕ) (p t i c : ℕ) (l : Bytes) where
  abbrev before : NetRecord
  before = labelled p t initial capacity label lengths rate delay arcs kind place weight

  abbrev after : NetRecord
  after =
      labelled (p + 1) t (set initial p i) (set capacity p c) (placed label (16 * p) l) (set lengths p (length l)) rate delay arcs kind place weight

  abbrev q : Place
  q = record { initial = i; capacity = c }

  pub place_stored : length initial ≡ 32 → length capacity ≡ 32 → p < 32
      → readable after ≡ record { places = (readable before).places ++ (q ∷ []); transitions = (readable before).transitions }
  place_stored li lc h =
      let kept : places_from (set initial p i) (set capacity p c) 0 p ≡ places_from initial capacity 0 p =
      places_same (set initial p i) (set capacity p c) initial capacity 0 p
      (λ x l m. get_or-set_other initial p x i 0 (λ e. omega arith))
      (λ x l m. get_or-set_other capacity p x c 0 (λ e. omega arith)) in
      let one : get_or (set initial p i) (0 + p) 0 ≡ i = rw (zero-add p) (get_or-set_same initial p i 0 (omega arith)) in
      let two : get_or (set capacity p c) (0 + p) 0 ≡ c = rw (zero-add p) (get_or-set_same capacity p c 0 (omega arith)) in
      let qs : places_from (set initial p i) (set capacity p c) 0 (p + 1) ≡ places_from initial capacity 0 p ++ (q ∷ []) =
      ap (places_from (set initial p i) (set capacity p c) 0) (add-one p)
      ∙ places_last (set initial p i) (set capacity p c) 0 p
      ∙ rw (kept, one, two) in
      let ts : transitions_from after 0 t ≡ transitions_from before 0 t = numbered_same (transition after) (transition before) 0 t (λ j l. refl) in
      rw (qs, ts)

  module _ (r : Room before) (h : p < 32) (short : length l ≤ 16) where
    abbrev fault_at : ℕ → Option ℕ
    fault_at = place_fault initial capacity label lengths

    abbrev fault_after : ℕ → Option ℕ
    fault_after = place_fault (set initial p i) (set capacity p c) (placed label (16 * p) l) (set lengths p (length l))

    -- the places before it are tested as they were
    kept_place : (x : ℕ) → x < 0 + p → fault_after x ≡ fault_at x
    kept_place x m =
        let is : get_or (set initial p i) x 0 ≡ get_or initial x 0 = get_or-set_other initial p x i 0 (λ e. omega arith) in
        let cs : get_or (set capacity p c) x 0 ≡ get_or capacity x 0 = get_or-set_other capacity p x c 0 (λ e. omega arith) in
        let names : label_fault (placed label (16 * p) l) (set lengths p (length l)) x ≡ label_fault label lengths x =
        ap₂ (λ (ls : List Bytes) (m : Bytes). first_of (label_tests ls m)) (labels_before label lengths p l r.bytes r.sizes h short x (omega arith))
        (label_other label lengths p l r.bytes r.sizes h short x (omega arith)) in
        rw (is, cs) (ap (or_else (first_of (place_tests x false (record { initial = get_or initial x 0; capacity = get_or capacity x 0 })))) names)

    last_place : first_of (place_tests p false q) ≡ none → first_of (label_tests (labels_from label lengths 0 p) l) ≡ none → fault_after (0 + p) ≡ none
    last_place e f =
        let is : get_or (set initial p i) p 0 ≡ i = get_or-set_same initial p i 0 (omega (arith, r.initials)) in
        let cs : get_or (set capacity p c) p 0 ≡ c = get_or-set_same capacity p c 0 (omega (arith, r.capacities)) in
        ap fault_after (zero-add p)
        ∙ rw (is, cs)
        (both (first_of (place_tests p false q)) (label_fault (placed label (16 * p) l) (set lengths p (length l)) p) e
        (label_judged label lengths p l r.bytes r.sizes h short ∙ f))

    pub place_room : t ≡ 0 → first_of (place_tests p false q) ≡ none → first_of (label_tests (labels_from label lengths 0 p) l) ≡ none → Room after
    place_room none_yet passes fits =
        record {
          initials = length-set initial p i ∙ r.initials;
          capacities = length-set capacity p c ∙ r.capacities;
          bytes = length_placed label (16 * p) l (omega (arith, r.bytes)) ∙ r.bytes;
          sizes = length-set lengths p (length l) ∙ r.sizes;
          rates = r.rates;
          delays = r.delays;
          counts = r.counts;
          kinds = r.kinds;
          ends = r.ends;
          weights = r.weights;
          few_places = omega arith;
          few_transitions = r.few_transitions;
          few_arcs = r.few_arcs;
          fit_places =
              ap (fault_from fault_after 0) (add-one p)
              ∙ fit_last fault_after 0 p (faults_same fault_after fault_at 0 p kept_place ∙ r.fit_places) (last_place passes fits);
          fit_transitions = ap (moves_fault after 0) none_yet;
        }

-- ---- a transition is stored, its arcs in the slots

module _ (initial capacity label lengths : List ℕ) (rate delay : List Float) (arcs kind place weight kind' place' weight' : List ℕ) (p t n : ℕ) (x y : Float)
    (kinds : (a : ℕ) → a < 16 * t → get_or kind' a 0 ≡ get_or kind a 0)
    (places : (a : ℕ) → a < 16 * t → get_or place' a 0 ≡ get_or place a 0)
    (weights : (a : ℕ) → a < 16 * t → get_or weight' a 0 ≡ get_or weight a 0)
    (last : t < 64) where
  abbrev earlier : NetRecord
  earlier = labelled p t initial capacity label lengths rate delay arcs kind place weight

  abbrev later : NetRecord
  later = labelled p (t + 1) initial capacity label lengths (set rate t x) (set delay t y) (set arcs t n) kind' place' weight'

  kept_slots : Room earlier → (j : ℕ) → j < 0 + t → slots_of later j ≡ slots_of earlier j
  kept_slots r j l =
      let few : get_or arcs j 0 ≤ 16 = r.few_arcs j (omega arith) in
      let cs : get_or (set arcs t n) j 0 ≡ get_or arcs j 0 = get_or-set_other arcs t j n 0 (λ e. omega arith) in
      ap (slots kind' place' weight' (16 * j)) cs
      ∙ slots_same kind' place' weight' kind place weight (16 * j) (get_or arcs j 0)
      (λ a m. kinds a (omega arith)) (λ a m. places a (omega arith)) (λ a m. weights a (omega arith))

  kept_one : Room earlier → (j : ℕ) → j < 0 + t → transition later j ≡ transition earlier j
  kept_one r j l =
      let rs : get_or (set rate t x) j nan ≡ get_or rate j nan = get_or-set_other rate t j x nan (λ e. omega arith) in
      let ds : get_or (set delay t y) j nan ≡ get_or delay j nan = get_or-set_other delay t j y nan (λ e. omega arith) in
      rw (rs, ds) (ap (transition_of (get_or rate j nan) (get_or delay j nan)) (kept_slots r j l))

  kept_fault : Room earlier → (j : ℕ) → j < 0 + t → move_fault later j ≡ move_fault earlier j
  kept_fault r j l =
      ap (λ (u : Transition). first_of (move_tests p j (strange (slots_of later j)) u)) (kept_one r j l)
      ∙ ap (λ (ls : List Slot). first_of (move_tests p j (strange ls) (transition earlier j))) (kept_slots r j l)

  pub move_stored : Room earlier
      → readable later ≡ record { places = (readable earlier).places; transitions = (readable earlier).transitions ++ (transition_of x y (slots kind' place' weight' (16 * t) n) ∷ []) }
  move_stored r =
      let kept : transitions_from later 0 t ≡ transitions_from earlier 0 t = numbered_same (transition later) (transition earlier) 0 t (kept_one r) in
      let cs : get_or (set arcs t n) t 0 ≡ n = get_or-set_same arcs t n 0 (omega (arith, r.counts)) in
      let rs : get_or (set rate t x) t nan ≡ x = get_or-set_same rate t x nan (omega (arith, r.rates)) in
      let ds : get_or (set delay t y) t nan ≡ y = get_or-set_same delay t y nan (omega (arith, r.delays)) in
      let one : transition later (0 + t) ≡ transition_of x y (slots kind' place' weight' (16 * t) n) = rw (zero-add t, cs, rs, ds) in
      let ts : transitions_from later 0 (t + 1) ≡ transitions_from earlier 0 t ++ (transition_of x y (slots kind' place' weight' (16 * t) n) ∷ []) =
      ap (transitions_from later 0) (add-one t)
      ∙ numbered_last (transition later) 0 t
      ∙ ap (λ (ts : List Transition). ts ++ (transition later (0 + t) ∷ [])) kept
      ∙ ap (λ (u : Transition). transitions_from earlier 0 t ++ (u ∷ [])) one in
      ap (λ (ts : List Transition). record { places = places_from initial capacity 0 p; transitions = ts }) ts

  few_by : Room earlier → n ≤ 16 → (j : ℕ) → j < t + 1 → (e : Bool) → ltb j t ≡ e → get_or (set arcs t n) j 0 ≤ 16
  few_by r h j l true e =
      let below : j < t = ltb-true j t e in
      let cs : get_or (set arcs t n) j 0 ≡ get_or arcs j 0 = get_or-set_other arcs t j n 0 (λ q. omega arith) in
      omega (arith, r.few_arcs j below)
  few_by r h j l false e =
      let above : t ≤ j = ltb-false j t e in
      let is : j ≡ t = omega arith in
      let cs : get_or (set arcs t n) t 0 ≡ n = get_or-set_same arcs t n 0 (omega (arith, r.counts)) in
      rw is (omega arith)

  last_fault : Room earlier
      → move_fault later (0 + t) ≡ first_of (move_tests p t (strange (slots kind' place' weight' (16 * t) n)) (transition_of x y (slots kind' place' weight' (16 * t) n)))
  last_fault r =
      let cs : get_or (set arcs t n) t 0 ≡ n = get_or-set_same arcs t n 0 (omega (arith, r.counts)) in
      let rs : get_or (set rate t x) t nan ≡ x = get_or-set_same rate t x nan (omega (arith, r.rates)) in
      let ds : get_or (set delay t y) t nan ≡ y = get_or-set_same delay t y nan (omega (arith, r.delays)) in
      rw (zero-add t, cs, rs, ds)

  pub move_room : Room earlier → n ≤ 16 → length kind' ≡ 1024 → length place' ≡ 1024 → length weight' ≡ 1024
      → first_of (move_tests p t (strange (slots kind' place' weight' (16 * t) n)) (transition_of x y (slots kind' place' weight' (16 * t) n))) ≡ none → Room later
  move_room r h lk lp lw passes =
      record {
        initials = r.initials;
        capacities = r.capacities;
        bytes = r.bytes;
        sizes = r.sizes;
        rates = length-set rate t x ∙ r.rates;
        delays = length-set delay t y ∙ r.delays;
        counts = length-set arcs t n ∙ r.counts;
        kinds = lk;
        ends = lp;
        weights = lw;
        few_places = r.few_places;
        few_transitions = omega arith;
        few_arcs = λ j l. few_by r h j l (ltb j t) refl;
        fit_places = r.fit_places;
        fit_transitions =
            ap (moves_fault later 0) (add-one t)
            ∙ fit_last (move_fault later) 0 t (faults_same (move_fault later) (move_fault earlier) 0 t (kept_fault r) ∙ r.fit_transitions) (last_fault r ∙ passes);
      }
