-- What the slots of a transition list is what the rules list: the arcs of one kind are the slots of that kind, and a place is raised only where a put is.
-- Assumes nothing.
use Prim.Native.Nat.{ℕ, zero, suc, ◌+◌, ◌*◌, ◌≤◌, ◌<◌}
use Rattle.net.specs.declared.Net.{Net as NetRecord}
use mathlib.Core.Path.{◌≡◌, refl, sym, ap, ◌∙◌}
use mathlib.Core.Bool.{Bool, true, false, ◌&&◌, ◌||◌, not, and-false}
use mathlib.Core.List.{List, [], ◌∷◌}
use native.Mathlib.Omega.{arith}
use native.Mathlib.Decide.{dec_lt}
use lib.Dec.{eqb, leb, ltb}
use lib.ListN.{get_or, get_or-eq_default}
use borrow.Author.Tests.{eqb-true, ltb-true, le-ltb, le-leb, lt-leb, ne_eqb}
use Rattle.net.specs.Net.{pick}
use Rattle.net.specs.Tests.{any}
use Rattle.net.specs.Readable.{Slot, takes_of, arcs_of, is_put, is_read, is_block, slots_of, transitions_from, places_from, readable}
use Rattle.net.proofs.Lengths.{transitions_length}
use Rattle.rules.specs.Moves.{without_arcs, transition}
use Rattle.rules.specs.Demand3.{takes_from}
use Rattle.rules.specs.Index.{on, capacity_of, depends_on, listed}
use Rattle.engine.proofs.Sides.{transition_at}
use Rattle.engine.specs.Engine.{Below}
use Rattle.engine.proofs.Arcs.{ap_pick}
use Rattle.index.specs.Slots.{put_in, taken_in, lists_for}
use Rattle.index.proofs.Placed.{put_on, none_on, each_below, nothing_moved, put_some}

-- ---- arcs that are no puts: a slot is a take, a put, a read or a block

-- a slot that is no put, on place p
abbrev plain_on : ℕ → Slot → Bool
plain_on p l = eqb l.place p && not (is_put l.kind)

abbrev plain_arcs : ℕ → List Slot → Bool
plain_arcs p ls = takes_from p (takes_of ls) || on p (arcs_of is_read ls) || on p (arcs_of is_block ls)

-- e: the slot is on the place; t, r, b: whether a take, a read or a block of the others is
as_take : (e t r b : Bool) → (((e || t) || r) || b) ≡ ((e && true) || ((t || r) || b))
as_take true t r b = refl
as_take false t r b = refl

as_put : (e t r b : Bool) → ((t || r) || b) ≡ ((e && false) || ((t || r) || b))
as_put true t r b = refl
as_put false t r b = refl

as_read : (e t r b : Bool) → ((t || (e || r)) || b) ≡ ((e && true) || ((t || r) || b))
as_read true true r b = refl
as_read true false r b = refl
as_read false t r b = refl

as_block : (e t r b : Bool) → ((t || r) || (e || b)) ≡ ((e && true) || ((t || r) || b))
as_block true true r b = refl
as_block true false true b = refl
as_block true false false b = refl
as_block false t r b = refl

by_kind : (k : ℕ) (e t r b : Bool)
    → ((pick (leb k 1) (e || t) t || pick (is_read k) (e || r) r) || pick (is_block k) (e || b) b) ≡ ((e && not (is_put k)) || ((t || r) || b))
by_kind zero e t r b = as_take e t r b
by_kind (suc zero) e t r b = as_take e t r b
by_kind (suc (suc zero)) e t r b = as_put e t r b
by_kind (suc (suc (suc zero))) e t r b = as_read e t r b
by_kind (suc (suc (suc (suc k)))) e t r b =
    let n = suc (suc (suc (suc k))) in
    rw (lt-leb n 1 (omega arith), ne_eqb n 2 (λ z. omega arith), ne_eqb n 3 (λ z. omega arith), le-leb 4 n (omega arith)) (as_block e t r b)

plain_slot : (p : ℕ) (l : Slot) (ls : List Slot) → plain_arcs p (l ∷ ls) ≡ (plain_on p l || plain_arcs p ls)
plain_slot p l ls =
    (λ i. (ap_pick (takes_from p) (leb l.kind 1) (record { place = l.place; weight = l.weight; kinetic = eqb l.kind 0 } ∷ takes_of ls) (takes_of ls) i
    || ap_pick (on p) (is_read l.kind) (record { place = l.place; weight = l.weight } ∷ arcs_of is_read ls) (arcs_of is_read ls) i)
    || ap_pick (on p) (is_block l.kind) (record { place = l.place; weight = l.weight } ∷ arcs_of is_block ls) (arcs_of is_block ls) i)
    ∙ by_kind l.kind (eqb l.place p) (takes_from p (takes_of ls)) (on p (arcs_of is_read ls)) (on p (arcs_of is_block ls))

plain_all : (p : ℕ) (ls : List Slot) → plain_arcs p ls ≡ any (plain_on p) ls
plain_all p [] = refl
plain_all p (l ∷ ls) = plain_slot p l ls ∙ ap (λ (b : Bool). plain_on p l || b) (plain_all p ls)

-- ---- with puts: e, the slot is on the place; u, it is a put; x, the place is bounded and raised; m and q, of the others

both_kinds : (e u x m q : Bool) → ((e && (not u || x)) || (m || (q && x))) ≡ (((e && not u) || m) || (((e && u) || q) && x))
both_kinds false u x m q = refl
both_kinds true false x m q = refl
both_kinds true true true true q = refl
both_kinds true true true false q = refl
both_kinds true true false true q = refl
both_kinds true true false false true = refl
both_kinds true true false false false = refl

abbrev raised : ℕ → List Slot → ℕ → Bool
raised capacity all p = ltb 0 capacity && ltb (taken_in all p) (put_in all p)

module _ (capacity : List ℕ) (all : List Slot) (p : ℕ) where
  abbrev here : Bool
  here = raised (get_or capacity p 0) all p

  lists_slot : (l : Slot) → lists_for capacity all p l ≡ (eqb l.place p && (not (is_put l.kind) || here))
  lists_slot l = go (eqb l.place p) refl
    where
      go : (e : Bool) → eqb l.place p ≡ e → (e && (not (is_put l.kind) || raised (get_or capacity l.place 0) all l.place)) ≡ (e && (not (is_put l.kind) || here))
      go true h = ap (λ (q : ℕ). not (is_put l.kind) || raised (get_or capacity q 0) all q) (eqb-true l.place p h)
      go false h = refl

  lists_any : (ls : List Slot) → any (lists_for capacity all p) ls ≡ (any (plain_on p) ls || (any (put_on p) ls && here))
  lists_any [] = refl
  lists_any (l ∷ ls) =
      (λ i. lists_slot l i || lists_any ls i)
      ∙ both_kinds (eqb l.place p) (is_put l.kind) here (any (plain_on p) ls) (any (put_on p) ls)

  raised_put : (any (put_on p) all && here) ≡ here
  raised_put = go (ltb 0 (get_or capacity p 0)) (ltb (taken_in all p) (put_in all p)) refl
    where
      go : (c d : Bool) → ltb (taken_in all p) (put_in all p) ≡ d → (any (put_on p) all && (c && d)) ≡ (c && d)
      go true true h = let k = ltb-true (taken_in all p) (put_in all p) h in rw (put_some p all (omega arith))
      go true false h = and-false (any (put_on p) all)
      go false d h = and-false (any (put_on p) all)

  slots_list : any (lists_for capacity all p) all ≡ (plain_arcs p all || here)
  slots_list = lists_any all ∙ (λ i. sym (plain_all p all) i || raised_put i)

-- ---- the readable net

capacities_at : (initial capacity : List ℕ) (b k i : ℕ) → i < k
    → (get_or (places_from initial capacity b k) i (record { initial = 0; capacity = 0 })).capacity ≡ get_or capacity (b + i) 0
capacities_at initial capacity b zero i h = absurd (omega arith)
capacities_at initial capacity b (suc k) zero h = let z : b ≡ b + 0 = omega arith in ap (λ (q : ℕ). get_or capacity q 0) z
capacities_at initial capacity b (suc k) (suc i) h =
    let z : suc b + i ≡ b + suc i = omega arith in
    capacities_at initial capacity (suc b) k i (omega arith) ∙ ap (λ (q : ℕ). get_or capacity q 0) z

module _ (n : NetRecord) where
  pub transition_past : (j : ℕ) → n.transitions ≤ j → transition (readable n) j ≡ without_arcs
  transition_past j h = get_or-eq_default (transitions_from n 0 n.transitions) without_arcs {n = j} (omega (arith, transitions_length n))

  -- the place is bounded by its capacity, and raised
  bound_is : Below n.places n.place → (p j : ℕ) → raised (capacity_of (readable n) p) (slots_of n j) p ≡ raised (get_or n.capacity p 0) (slots_of n j) p
  bound_is low p j = at (dec_lt p n.places)
    where
      still : (x : ℕ) → put_in (slots_of n j) p ≡ 0 → raised x (slots_of n j) p ≡ false
      still x z = ap (λ (b : Bool). ltb 0 x && b) (le-ltb (taken_in (slots_of n j) p) (put_in (slots_of n j) p) (omega arith)) ∙ and-false (ltb 0 x)

      at : Dec (p < n.places) → raised (capacity_of (readable n) p) (slots_of n j) p ≡ raised (get_or n.capacity p 0) (slots_of n j) p
      at (yes h) =
          let z : 0 + p ≡ p = omega arith in
          ap (λ (x : ℕ). raised x (slots_of n j) p) (capacities_at n.initial n.capacity 0 n.places p h ∙ ap (λ (q : ℕ). get_or n.capacity q 0) z)
      at (no h) =
          let e = (nothing_moved p (slots_of n j) (none_on n.places p (slots_of n j) (each_below n.places n.kind n.place n.weight low (16 * j) (get_or n.arcs j 0)) (omega arith))).1 in
          still (capacity_of (readable n) p) e ∙ sym (still (get_or n.capacity p 0) e)

  pub listed_slots : Below n.places n.place → (p j : ℕ) → j < n.transitions → any (lists_for n.capacity (slots_of n j) p) (slots_of n j) ≡ listed (readable n) p j
  listed_slots low p j h =
      slots_list n.capacity (slots_of n j) p
      ∙ ap (λ (b : Bool). plain_arcs p (slots_of n j) || b) (sym (bound_is low p j))
      ∙ sym (ap (depends_on (readable n) p) (transition_at n j h))

  pub listed_past : (p j : ℕ) → n.transitions ≤ j → listed (readable n) p j ≡ false
  listed_past p j h = ap (depends_on (readable n) p) (transition_past j h) ∙ and-false (ltb 0 (capacity_of (readable n) p))
