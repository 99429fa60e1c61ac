-- What slots weigh, slot by slot, is what the rules weigh of the transition that they are; each weighs at most 10^9. And the lowest unbalanced transition,
-- transition by transition. Assumes nothing.
use Prim.Native.Nat.{ℕ, suc, ◌+◌, ◌-◌, ◌*◌, ◌≤◌, ◌<◌}
use mathlib.Core.Path.{◌≡◌, refl, sym, ap, ◌∙◌}
use mathlib.Core.Bool.{Bool, true, false}
use mathlib.Core.List.{List, ◌∷◌}
use mathlib.Core.Option.{Option, none, some}
use native.Mathlib.Omega.{arith}
use native.Mathlib.Nat.{mul-le-mul}
use native.Mathlib.Numerals.{add-one}
use lib.Dec.{leb}
use lib.ListN.{get_or}
use Rattle.net.specs.declared.Net.{Net as NetRecord}
use Rattle.net.specs.Net.{pick, amount}
use Rattle.net.specs.Sound.{Sound}
use Rattle.net.specs.Readable.{Slot, slot_at, slots, takes_of, arcs_of, is_put, transition, transitions_from}
use Rattle.rules.specs.Balance.{weight_at, takes_weigh, puts_weigh, even, first_uneven}
use Rattle.engine.specs.Arcs.{Light}
use Rattle.engine.proofs.Arcs.{ap_pick, amount_most, slots_step, slots_end, span, slots_of_lem}
use Rattle.balance.specs.Slots.{taken_weight, put_weight, slots_even, Placed}

-- ---- one slot

pub times_most : (w m : ℕ) → m ≤ 1_000_000 → w ≤ 1_000 → w * amount m ≤ 1_000_000_000
times_most w m h k = mul-le-mul k (amount_most m h)

pick_most : (b : Bool) (x : ℕ) → x ≤ 1_000_000_000 → pick b x 0 ≤ 1_000_000_000
pick_most true x h = h
pick_most false x h = omega arith

pub put_most : (k m w : ℕ) → m ≤ 1_000_000 → w ≤ 1_000 → put_weight k m w ≤ 1_000_000_000
put_most k m w h l = pick_most (is_put k) (w * amount m) (times_most w m h l)

pub taken_most : (k m w : ℕ) → m ≤ 1_000_000 → w ≤ 1_000 → taken_weight k m w ≤ 1_000_000_000
taken_most k m w h l = pick_most (leb k 1) (w * amount m) (times_most w m h l)

pick_add : (b : Bool) (x y : ℕ) → pick b (x + y) y ≡ pick b x 0 + y
pick_add true x y = refl
pick_add false x y = omega arith

put_slot_lem : (ws : List ℕ) (l : Slot) (ls : List Slot)
    → puts_weigh ws (arcs_of is_put (l ∷ ls)) ≡ put_weight l.kind l.weight (weight_at ws l.place) + puts_weigh ws (arcs_of is_put ls)
put_slot_lem ws l ls = ap_pick (puts_weigh ws) (is_put l.kind) _ _ ∙ pick_add (is_put l.kind) _ _

taken_slot_lem : (ws : List ℕ) (l : Slot) (ls : List Slot)
    → takes_weigh ws (takes_of (l ∷ ls)) ≡ taken_weight l.kind l.weight (weight_at ws l.place) + takes_weigh ws (takes_of ls)
taken_slot_lem ws l ls = ap_pick (takes_weigh ws) (leb l.kind 1) _ _ ∙ pick_add (leb l.kind 1) _ _

-- ---- what is left from slot a up to e: one slot and the rest, or nothing

module _ (ws k p m : List ℕ) (a e : ℕ) where
  abbrev puts : ℕ → ℕ
  puts b = puts_weigh ws (arcs_of is_put (slots k p m b (e - b)))

  abbrev takes : ℕ → ℕ
  takes b = takes_weigh ws (takes_of (slots k p m b (e - b)))

  pub put_turn : a < e → puts a ≡ put_weight (get_or k a 0) (get_or m a 0) (get_or ws (get_or p a 0) 0) + puts (a + 1)
  put_turn h =
      ap (λ (ls : List Slot). puts_weigh ws (arcs_of is_put ls)) (slots_step k p m a e h)
      ∙ put_slot_lem ws (slot_at k p m a) (slots k p m (a + 1) (e - (a + 1)))

  pub taken_turn : a < e → takes a ≡ taken_weight (get_or k a 0) (get_or m a 0) (get_or ws (get_or p a 0) 0) + takes (a + 1)
  taken_turn h =
      ap (λ (ls : List Slot). takes_weigh ws (takes_of ls)) (slots_step k p m a e h)
      ∙ taken_slot_lem ws (slot_at k p m a) (slots k p m (a + 1) (e - (a + 1)))

  pub put_end : e ≤ a → puts a ≡ 0
  put_end h = ap (λ (ls : List Slot). puts_weigh ws (arcs_of is_put ls)) (slots_end k p m a e h)

  pub taken_end : e ≤ a → takes a ≡ 0
  taken_end h = ap (λ (ls : List Slot). takes_weigh ws (takes_of ls)) (slots_end k p m a e h)

-- ---- the slots of transition j of an accepted net

module _ (n : NetRecord) (s : Sound n) (j : ℕ) (h : j < n.transitions) where
  pub light : Light (16 * j) (16 * j + get_or n.arcs j 0) n.weight
  light a low high =
      let d : 16 * j + (a - 16 * j) ≡ a = omega arith in
      let g = s.weight j (a - 16 * j) h (omega arith) in
      let e = ap (λ (b : ℕ). get_or n.weight b 0) d in
      omega arith

  pub placed : {k : ℕ} → k ≡ n.places → Placed (16 * j) (16 * j + get_or n.arcs j 0) n.place k
  placed l a low high =
      let d : 16 * j + (a - 16 * j) ≡ a = omega arith in
      let g = s.place j (a - 16 * j) h (omega arith) in
      let e = ap (λ (b : ℕ). get_or n.place b 0) d in
      omega arith

pub even_is : (ws : List ℕ) (n : NetRecord) (j : ℕ) → slots_even ws (span n j) ≡ even ws (transition n j)
even_is ws n j = ap (slots_even ws) (slots_of_lem n j)

-- ---- the lowest unbalanced of the transitions from number j on, where that of all is t

module _ (ws : List ℕ) (n : NetRecord) (j e : ℕ) where
  left_step : j < e
      → first_uneven ws j (transitions_from n j (e - j))
      ≡ pick (even ws (transition n j)) (first_uneven ws (j + 1) (transitions_from n (j + 1) (e - (j + 1)))) (some j)
  left_step h =
      let d : e - j ≡ suc (e - (j + 1)) = omega arith in
      ap (λ (k : ℕ). first_uneven ws j (transitions_from n j k)) d
      ∙ ap (λ (i : ℕ). pick (even ws (transition n j)) (first_uneven ws i (transitions_from n i (e - (j + 1)))) (some j)) (sym (add-one j))

  module _ {t : Option ℕ} (inv : first_uneven ws j (transitions_from n j (e - j)) ≡ t) where
    left_by : (b : Bool) → even ws (transition n j) ≡ b → j < e
        → pick b (first_uneven ws (j + 1) (transitions_from n (j + 1) (e - (j + 1)))) (some j) ≡ t
    left_by b y h =
        sym (left_step h ∙ ap (λ (x : Bool). pick x (first_uneven ws (j + 1) (transitions_from n (j + 1) (e - (j + 1)))) (some j)) y) ∙ inv

    pub left_stop : j < e → even ws (transition n j) ≡ false → some j ≡ t
    left_stop h y = left_by false y h

    pub left_go : j < e → even ws (transition n j) ≡ true → first_uneven ws (j + 1) (transitions_from n (j + 1) (e - (j + 1))) ≡ t
    left_go h y = left_by true y h

    pub left_end : e ≤ j → none ≡ t
    left_end h =
        let d : e - j ≡ 0 = omega arith in
        sym (ap (λ (k : ℕ). first_uneven ws j (transitions_from n j k)) d) ∙ inv

pub left_whole : (ws : List ℕ) (n : NetRecord) (e : ℕ) → first_uneven ws 0 (transitions_from n 0 (e - 0)) ≡ first_uneven ws 0 (transitions_from n 0 e)
left_whole ws n e =
    let d : e - 0 ≡ e = omega arith in
    ap (λ (k : ℕ). first_uneven ws 0 (transitions_from n 0 k)) d
