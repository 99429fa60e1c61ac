-- The loops over the slots: what the table says of the slots below a number, with one more, and with all. Assumes nothing.
use Prim.Native.Nat.{ℕ, zero, suc, ◌+◌, ◌-◌, ◌*◌, ◌/◌, ◌^◌, ◌≤◌, ◌<◌}
use Rattle.net.specs.declared.Net.{Net as NetRecord}
use mathlib.Core.Path.{◌≡◌, refl, sym, ap, subst, ◌∙◌}
use mathlib.Core.Bool.{Bool, true, false, ◌&&◌, ◌||◌, not, true≢false}
use mathlib.Core.List.{List, [], ◌∷◌}
use mathlib.Core.Logic.{◌⊎◌, inl, inr}
use native.Mathlib.Omega.{arith}
use native.Mathlib.Decide.{dec_lt}
use lib.Dec.{eqb, leb, ltb}
use lib.ListN.{get_or}
use borrow.Author.Tests.{eqb-true, eqb-false, leb-false, eq-eqb, ne_eqb, lt-ltb, lt-leb}
use Rattle.words.specs.Bits.{bit}
use Rattle.words.proofs.Bits.{bit_none}
use Rattle.net.specs.Net.{Transition, pick, moved, taken_by}
use Rattle.net.specs.Tests.{any}
use Rattle.net.specs.Readable.{Slot, slot_at, slots, takes_of, arcs_of, is_put, slots_of, readable}
use Rattle.net.proofs.Slots.{or_first, or_second, not_first, not_second}
use Rattle.rules.specs.Moves.{transition}
use Rattle.rules.specs.Index.{listed}
use Rattle.engine.specs.Engine.{Tidy}
use Rattle.engine.specs.Limits.{limit_at, no_limit, bound, room_limit, arc_limit, Limits, Says, its, rest}
use Rattle.engine.specs.Guards.{threshold, kinetic_on, Guards}
use Rattle.engine.proofs.Arcs.{ap_pick, on_bool}
use Rattle.index.specs.Slots.{lists_for, taken_in, put_in}
use Rattle.index.specs.Table.{Lists}
use Rattle.index.specs.Guarding.{Crossed, Begun, Adds, Guarded, Used, Guarding}
use Rattle.index.proofs.Placed.{places_fit}
use Rattle.engine.proofs.Sides.{transition_at}
use Rattle.index.proofs.ByPlace.{transition_past, listed_slots}

-- ---- tests

same : (a b : Bool) → (a ≡ true → b ≡ true) → (b ≡ true → a ≡ true) → a ≡ b
same true b f g = sym (f refl)
same false true f g = g refl
same false false f g = refl

left : (x y : Bool) → (x && y) ≡ true → x ≡ true
left true y p = refl
left false y p = p

right : (x y : Bool) → (x && y) ≡ true → y ≡ true
right true y p = p
right false y p = absurd (true≢false (sym p))

-- one of two holds
either : {R : Type 0} (x y : Bool) → (x || y) ≡ true → (x ≡ true → R) → (y ≡ true → R) → R
either true y p f g = f refl
either false y p f g = g p

-- ---- slots

module _ (f : Slot → Bool) (kind place weight : List ℕ) where
  any_at : (a k b : ℕ) → a ≤ b → b < a + k → f (slot_at kind place weight b) ≡ true → any f (slots kind place weight a k) ≡ true
  any_at a zero b l h e = absurd (omega arith)
  any_at a (suc k) b l h e =
      on_bool (eqb a b)
      (λ d. or_first (any f (slots kind place weight (a + 1) k)) (ap (λ (x : ℕ). f (slot_at kind place weight x)) (eqb-true a b d) ∙ e))
      (λ d. let n = eqb-false a b d in or_second (f (slot_at kind place weight a)) (any_at (a + 1) k b (omega (arith, n)) (omega arith) e))

  any_where : {R : Type 0} (a k : ℕ) → any f (slots kind place weight a k) ≡ true
      → ((b : ℕ) → a ≤ b → b < a + k → f (slot_at kind place weight b) ≡ true → R) → R
  any_where a zero e g = absurd (true≢false (sym e))
  any_where a (suc k) e g =
      either (f (slot_at kind place weight a)) (any f (slots kind place weight (a + 1) k)) e
      (λ h. g a (omega arith) (omega arith) h)
      (λ h. any_where (a + 1) k h (λ b l u z. g b (omega arith) (omega arith) z))

-- a kinetic input on place p
abbrev kinetic_slot : ℕ → Slot → Bool
kinetic_slot p l = eqb l.kind 0 && eqb l.place p

by_kind : (k : ℕ) (e r : Bool) → pick (leb k 1) ((eqb k 0 && e) || r) r ≡ ((eqb k 0 && e) || r)
by_kind zero e r = refl
by_kind (suc zero) e r = refl
by_kind (suc (suc k)) e r = rw (lt-leb (suc (suc k)) 1 (omega arith), ne_eqb (suc (suc k)) 0 (λ z. omega arith)) refl

kinetic_slots : (p : ℕ) (ls : List Slot) → kinetic_on p (takes_of ls) ≡ any (kinetic_slot p) ls
kinetic_slots p [] = refl
kinetic_slots p (l ∷ ls) =
    ap_pick (kinetic_on p) (leb l.kind 1) (record { place = l.place; weight = l.weight; kinetic = eqb l.kind 0 } ∷ takes_of ls) (takes_of ls)
    ∙ by_kind l.kind (eqb l.place p) (kinetic_on p (takes_of ls))
    ∙ ap (λ (b : Bool). kinetic_slot p l || b) (kinetic_slots p ls)

-- ---- one slot

-- a limit and what the table of limits has for it: the same, or both such that no count crosses them
abbrev Told : ℕ → ℕ → Type 0
Told x l = (threshold x ≡ threshold l) ⊎ ((2 ^ 53 < threshold x) × (2 ^ 53 < threshold l))

told_one : (x l : ℕ) → Told x l → threshold l ≡ 1 → threshold x ≡ 1
told_one x l (inl e) h = e ∙ h
told_one x l (inr f) h = absurd (never f.1 h)
  where
    never : 2 ^ 53 < threshold l → threshold l ≡ 1 → ⊥
    never a b = omega arith

one_told : (x l : ℕ) → Told x l → threshold x ≡ 1 → threshold l ≡ 1
one_told x l (inl e) h = sym e ∙ h
one_told x l (inr f) h = absurd (never f.0 h)
  where
    never : 2 ^ 53 < threshold x → threshold x ≡ 1 → ⊥
    never a b = omega arith

told_crossed : (x l : ℕ) → Told x l → Crossed (threshold l) → threshold x ≡ threshold l
told_crossed x l (inl e) c = e
told_crossed x l (inr f) c = absurd (never f.1 c.1)
  where
    never : 2 ^ 53 < threshold l → threshold l ≤ 2 ^ 53 → ⊥
    never a b = omega arith

-- a limit for a put is there only where the place is bounded, and raised
room_one : (q put taken : ℕ) → threshold (room_limit q put taken) ≡ 1 → (ltb 0 q && ltb taken put) ≡ true
room_one q put taken e =
    on_bool (eqb q 0 || leb put taken)
    (λ b. absurd (none (sym (ap (λ (t : Bool). threshold (pick t no_limit (q + 1 + taken - put))) b) ∙ e)))
    (λ b.
    let y = eqb-false q 0 (not_first (eqb q 0) (leb put taken) b) in
    let z = leb-false put taken (not_second (eqb q 0) (leb put taken) b) in
    ap (λ (t : Bool). t && ltb taken put) (lt-ltb 0 q (omega (arith, y))) ∙ lt-ltb taken put z)
  where
    none : no_limit ≡ 1 → ⊥
    none d = omega arith

module _ (n : NetRecord) (t : Tidy n) where
  -- a slot is of one transition only
  only_one : (i j a b : ℕ) → Used n i a → Used n j b → a ≡ b → i ≡ j
  only_one i j a b u v e = omega (arith, u.from, u.to, v.from, v.to, t.arcs i, t.arcs j)

  module _ (j a : ℕ) (u : Used n j a) where
    abbrev p : ℕ
    p = get_or n.place a 0

    its_transition : a / 16 ≡ j
    its_transition = omega (arith, u.from, u.to, t.arcs j)

    told : (limit : List ℕ) → Limits n limit → Told (get_or limit a 0) (limit_at n a)
    told limit h = go (h a (omega (arith, u.from, u.to, u.real, t.arcs j)))
      where
        go : Says n.arcs (limit_at n) a (get_or limit a 0) → Told (get_or limit a 0) (limit_at n a)
        go (its e) = inl (ap threshold e)
        go (rest e f) =
            let l = f a (omega arith) (subst (λ (i : ℕ). a < 16 * i + get_or n.arcs i 0) (sym its_transition) u.to) in
            inr (subst (λ (x : ℕ). 2 ^ 53 < threshold x) (sym e) (omega arith), subst (λ (x : ℕ). 2 ^ 53 < threshold x) (sym l) (omega arith))

    kinetic_here : get_or n.kind a 0 ≡ 0 → kinetic_on p (transition (readable n) j).takes ≡ true
    kinetic_here k =
        ap (λ (x : Transition). kinetic_on p x.takes) (transition_at n j u.real)
        ∙ kinetic_slots p (slots_of n j)
        ∙ any_at (kinetic_slot p) n.kind n.place n.weight (16 * j) (get_or n.arcs j 0) a u.from u.to (rw (eq-eqb _ _ k, eq-eqb p p refl) refl)

    -- a slot of threshold 1 lists its transition
    lists_here : threshold (limit_at n a) ≡ 1 → lists_for n.capacity (slots_of n j) p (slot_at n.kind n.place n.weight a) ≡ true
    lists_here e = ap (λ (b : Bool). b && lists) (eq-eqb p p refl) ∙ on_bool (is_put (get_or n.kind a 0)) put plain
      where
        all : List Slot
        all = slots_of n j

        raised : Bool
        raised = ltb 0 (get_or n.capacity p 0) && ltb (taken_in all p) (put_in all p)

        lists : Bool
        lists = not (is_put (get_or n.kind a 0)) || raised

        plain : is_put (get_or n.kind a 0) ≡ false → lists ≡ true
        plain b = ap (λ (x : Bool). not x || raised) b

        room : ℕ → ℕ → ℕ
        room i q = room_limit q (moved (arcs_of is_put (slots_of n i)) p) (taken_by (takes_of (slots_of n i)) p)

        bounded : bound n.places n.capacity p ≡ get_or n.capacity p 0
        bounded = ap (λ (b : Bool). pick b (get_or n.capacity p 0) 0) (lt-ltb p n.places (t.place a))

        put : is_put (get_or n.kind a 0) ≡ true → lists ≡ true
        put b =
            let l : limit_at n a ≡ room j (get_or n.capacity p 0) =
            ap (λ (x : Bool). pick x (room (a / 16) (bound n.places n.capacity p)) (arc_limit (get_or n.kind a 0) (get_or n.weight a 0))) b
            ∙ (λ i. room (its_transition i) (bounded i)) in
            ap (λ (x : Bool). not x || raised) b ∙ room_one (get_or n.capacity p 0) (put_in all p) (taken_in all p) (sym (ap threshold l) ∙ e)

    edge_listed : threshold (limit_at n a) ≡ 1 → listed (readable n) p j ≡ true
    edge_listed e =
        sym (listed_slots n t.place p j u.real)
        ∙ any_at (lists_for n.capacity (slots_of n j) p) n.kind n.place n.weight (16 * j) (get_or n.arcs j 0) a u.from u.to (lists_here e)

-- ---- a set of words with one transition more

module _ (at : ℕ → ℕ) (on : Bool) (p j : ℕ) (before after : List ℕ) (adds : Adds at on p j before after) where
  stays : (q i : ℕ) → q < 32 → bit (get_or before (at q) 0) i ≡ true → bit (get_or after (at q) 0) i ≡ true
  stays q i h e = adds q i h ∙ or_first ((on && eqb q p) && eqb i j) e

  added : p < 32 → on ≡ true → bit (get_or after (at p) 0) j ≡ true
  added h e = adds p j h ∙ or_second (bit (get_or before (at p) 0) j) (rw (e, eq-eqb p p refl, eq-eqb j j refl) refl)

  only : {R : Type 0} (q i : ℕ) → q < 32 → bit (get_or after (at q) 0) i ≡ true → (bit (get_or before (at q) 0) i ≡ true → R) → (on ≡ true → q ≡ p → i ≡ j → R) → R
  only q i h e f g =
      either (bit (get_or before (at q) 0) i) ((on && eqb q p) && eqb i j) (sym (adds q i h) ∙ e) f
      (λ z.
      let y = left (on && eqb q p) (eqb i j) z in
      g (left on (eqb q p) y) (eqb-true q p (right on (eqb q p) y)) (eqb-true i j (right (on && eqb q p) (eqb i j) z)))

-- ---- the loops

module _ (n : NetRecord) where
  pub guarding_none : (words guards : List ℕ) → Begun words guards → Lists (readable n) words → Guarding n guards 0
  guarding_none words guards b w =
      record {
        long = b.long;
        takes = λ j a u h. absurd (omega arith);
        kinetic = λ p j h e. absurd (true≢false (sym e ∙ ap (λ (x : ℕ). bit x j) (b.kinetic p h) ∙ bit_none j));
        edges = λ j a u h. absurd (omega arith);
        among = λ p j h e. absurd (true≢false (sym e ∙ ap (λ (x : ℕ). bit x j) (b.edge p h) ∙ bit_none j));
        lists = λ p j h. ap (λ (x : ℕ). bit x j) (b.lists p h) ∙ w.says p j;
        range = λ j a u h. absurd (omega arith);
      }

  module _ (t : Tidy n) where
    -- of the slot a, which is one of transition j
    module _ (before after limit : List ℕ) (j a : ℕ) (inv : Guarding n before a) (u : Used n j a) (h : Limits n limit)
        (g : Guarded (eqb (get_or n.kind a 0) 0) (threshold (get_or limit a 0)) (get_or n.place a 0) j before after) where
      abbrev x : ℕ
      x = get_or limit a 0

      abbrev l : ℕ
      l = limit_at n a

      split : (P : ℕ → ℕ → Type 0) → ((i b : ℕ) → Used n i b → b < a → P i b) → P j a → (i b : ℕ) → Used n i b → b < a + 1 → P i b
      split P old new i b v k = go (dec_lt b a)
        where
          go : Dec (b < a) → P i b
          go (yes m) = old i b v m
          go (no m) =
              let e : b ≡ a = omega arith in
              subst (λ (y : ℕ). P y b) (sym (only_one n t i j b a v u e)) (subst (P j) (sym e) new)

      low : (b : ℕ) → get_or n.place b 0 < 32
      low = places_fit n t

      pub guarding_more : Guarding n after (a + 1)
      guarding_more =
          let s = told n t j a u limit h in
          let p = get_or n.place a 0 in
          let kinetic = eqb (get_or n.kind a 0) 0 in
          let edge = eqb (threshold x) 1 in
          record {
            long = g.long;
            takes = split (λ (i b : ℕ). get_or n.kind b 0 ≡ 0 → bit (get_or after (get_or n.place b 0) 0) i ≡ true)
                (λ i b v k e. stays (λ (q : ℕ). q) kinetic p j before after g.takes (get_or n.place b 0) i (low b) (inv.takes i b v k e))
                (λ e. added (λ (q : ℕ). q) kinetic p j before after g.takes (low a) (eq-eqb _ _ e));
            kinetic = λ q i k e.
                only (λ (q : ℕ). q) kinetic p j before after g.takes q i k e (inv.kinetic q i k)
                (λ f y z. rw (y, z) (kinetic_here n t j a u (eqb-true _ _ f)));
            edges = split (λ (i b : ℕ). threshold (limit_at n b) ≡ 1 → bit (get_or after (32 + get_or n.place b 0) 0) i ≡ true)
                (λ i b v k e. stays (λ (q : ℕ). 32 + q) edge p j before after g.edges (get_or n.place b 0) i (low b) (inv.edges i b v k e))
                (λ e. added (λ (q : ℕ). 32 + q) edge p j before after g.edges (low a) (eq-eqb _ _ (told_one x l s e)));
            among = λ q i k e.
                only (λ (q : ℕ). 32 + q) edge p j before after g.edges q i k e (inv.among q i k)
                (λ f y z. rw (y, z) (edge_listed n t j a u (one_told x l s (eqb-true _ _ f))));
            lists = λ q i k. ap (λ (y : ℕ). bit y i) (g.lists q k) ∙ inv.lists q i k;
            range = split (λ (i b : ℕ). Crossed (threshold (limit_at n b))
                → (get_or after (96 + get_or n.place b 0) 0 ≤ threshold (limit_at n b)) × (threshold (limit_at n b) ≤ get_or after (128 + get_or n.place b 0) 0))
                (λ i b v k c.
                let r = inv.range i b v k c in
                (omega (arith, g.lower (get_or n.place b 0) (low b), r.0), omega (arith, g.higher (get_or n.place b 0) (low b), r.1)))
                (λ c.
                let e = told_crossed x l s c in
                let d : Crossed (threshold x) = subst Crossed (sym e) c in
                (subst (λ (y : ℕ). get_or after (96 + p) 0 ≤ y) e (g.first d), subst (λ (y : ℕ). y ≤ get_or after (128 + p) 0) e (g.last d)));
          }

    -- behind the arcs of a transition there is no slot up to those of the next
    pub guarding_next : (guards : List ℕ) (j a : ℕ) → Guarding n guards a → 16 * j + get_or n.arcs j 0 ≤ a → Guarding n guards (16 * (j + 1))
    guarding_next guards j a inv h =
        record {
          long = inv.long;
          takes = λ i b u k. inv.takes i b u (before i b u k);
          kinetic = inv.kinetic;
          edges = λ i b u k. inv.edges i b u (before i b u k);
          among = inv.among;
          lists = inv.lists;
          range = λ i b u k. inv.range i b u (before i b u k);
        }
      where
        before : (i b : ℕ) → Used n i b → b < 16 * (j + 1) → b < a
        before i b u k =
            on_bool (eqb i j)
            (λ e. let z = subst (λ (x : ℕ). b < 16 * x + get_or n.arcs x 0) (eqb-true i j e) u.to in omega (arith, z, h))
            (λ e. let d = eqb-false i j e in earlier d u.from u.to (t.arcs i))
          where
            earlier : (i ≡ j → ⊥) → 16 * i ≤ b → b < 16 * i + get_or n.arcs i 0 → get_or n.arcs i 0 ≤ 16 → b < a
            earlier d x y z = omega (arith, d, x, y, z, h, k)

    pub guarding_all : (guards : List ℕ) (j : ℕ) → Guarding n guards (16 * j) → n.transitions ≤ j → Guards n guards
    guarding_all guards j inv h =
        record {
          long = inv.long;
          kinetic = λ p i k. same (bit (get_or guards p 0) i) (kinetic_on p (transition (readable n) i).takes) (inv.kinetic p i k) (found p i (dec_lt i n.transitions));
          lists = inv.lists;
          among = inv.among;
          edge = λ i b k m e. inv.edges i (16 * i + b) (used i b k m) (below i b k m) e;
          range = λ i b k m c d. inv.range i (16 * i + b) (used i b k m) (below i b k m) (c, d);
        }
      where
        used : (i b : ℕ) → i < n.transitions → b < get_or n.arcs i 0 → Used n i (16 * i + b)
        used i b k m = record { real = k; from = omega arith; to = omega arith }

        below : (i b : ℕ) → i < n.transitions → b < get_or n.arcs i 0 → 16 * i + b < 16 * j
        below i b k m = omega (arith, t.arcs i, h)

        found : (p i : ℕ) → Dec (i < n.transitions) → kinetic_on p (transition (readable n) i).takes ≡ true → bit (get_or guards p 0) i ≡ true
        found p i (yes k) e =
            any_where (kinetic_slot p) n.kind n.place n.weight (16 * i) (get_or n.arcs i 0)
            (sym (ap (λ (x : Transition). kinetic_on p x.takes) (transition_at n i k) ∙ kinetic_slots p (slots_of n i)) ∙ e)
            (λ b l m z.
            let kind = eqb-true _ _ (left (eqb (get_or n.kind b 0) 0) (eqb (get_or n.place b 0) p) z) in
            let place = eqb-true _ _ (right (eqb (get_or n.kind b 0) 0) (eqb (get_or n.place b 0) p) z) in
            let v : Used n i b = record { real = k; from = l; to = m } in
            subst (λ (q : ℕ). bit (get_or guards q 0) i ≡ true) place (inv.takes i b v (omega (arith, t.arcs i, h)) kind))
        found p i (no k) e = absurd (true≢false (sym e ∙ ap (λ (x : Transition). kinetic_on p x.takes) (transition_past n i (omega arith))))
