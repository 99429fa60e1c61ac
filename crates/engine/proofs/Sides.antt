-- What a change of one count leaves as it was. A slot's side of its threshold decides whether it is open, so a transition none of whose thresholds lies between
-- the two counts is enabled at both or at neither; where no kinetic input is on the place, the ways stay; and a slot whose limit a count can reach is one for which
-- its transition is listed. Assumes nothing.
use Prim.Native.Nat.{ℕ, zero, suc, ◌+◌, ◌-◌, ◌*◌, ◌/◌, ◌^◌, ◌≤◌, ◌<◌}
use mathlib.Core.Path.{◌≡◌, refl, sym, ap, ap₂, ◌∙◌, subst, subst⁻¹}
use mathlib.Core.Bool.{Bool, true, false, ◌&&◌, ◌||◌, not, false≢true}
use mathlib.Core.List.{List, [], ◌∷◌}
use native.Mathlib.Omega.{arith}
use native.Mathlib.Nat.{not-suc-le-zero, le_of_suc-le-suc}
use lib.Dec.{eqb, leb, ltb}
use lib.ListN.{length, get_or, get_or-eq_default}
use lib.Ieee.{Float, binary64, mul}
use borrow.Author.Tests.{eq-eqb, eqb-true, eqb-false, lt-ltb, le-ltb, ltb-true, ltb-false, le-leb, leb-true, leb-false}
use Rattle.net.specs.declared.Net.{Net as NetRecord}
use Rattle.net.specs.Net.{Take, Transition, Net, Marking, pick, amount, held, moved, taken_by}
use Rattle.net.specs.Readable as Record
use Rattle.net.specs.Readable.{Slot, slot_at, slots, slots_of, takes_of, arcs_of, is_put, is_read, is_block, places_from, transitions_from, readable}
use Rattle.rules.specs.Propensity.{ways, factored}
use Rattle.rules.specs.Exact.{exact_ways, some_inexact}
use Rattle.rules.specs.Moves.{without_arcs, transition}
use Rattle.rules.specs.Demand3.{takes_from}
use Rattle.rules.specs.Index.{on, capacity_of, raises, depends_on, listed}
use Rattle.rules.proofs.Order.{neither}
use Rattle.engine.specs.Engine.{AtMost, Tidy}
use Rattle.engine.specs.Limits.{slot_open, no_limit, room_limit, bound, arc_limit, limit_at}
use Rattle.engine.specs.Guards.{threshold, kinetic_on}
use Rattle.engine.proofs.Arcs.{on_bool}
use Rattle.engine.proofs.Limits.{open_from, enabled_at, open_all}

-- ---- tests

pub first_true : (a b : Bool) → a ≡ true → (a || b) ≡ true
first_true a b e = ap (λ (x : Bool). x || b) e

pub second_true : (a b : Bool) → b ≡ true → (a || b) ≡ true
second_true true b e = refl
second_true false b e = e

pub first_of : {x : Bool} (y z w : Bool) → x ≡ true → (x || y || z || w) ≡ true
first_of y z w e = rw e

pub either : {P : Type 0} (a b : Bool) → (a ≡ true → P) → (b ≡ true → P) → (a || b) ≡ true → P
either true b f g e = f refl
either false b f g e = g e

pub and_last : (a b : Bool) → (a && b) ≡ true → b ≡ true
and_last true b e = e
and_last false b e = absurd (false≢true e)

-- ---- a slot, by the side of its threshold

-- no threshold above `low` and up to `high`: all counts between stand on one side of it
pub same_side : (t low high c d : ℕ) → low ≤ c → low ≤ d → c ≤ high → d ≤ high → (low < t → t ≤ high → ⊥) → ltb c t ≡ ltb d t
same_side t low high c d lc ld ch dh f =
    on_bool (ltb low t)
    (λ e. on_bool (leb t high)
    (λ g. absurd (f (ltb-true low t e) (leb-true t high g)))
    (λ g. let h = leb-false t high g in lt-ltb c t (omega arith) ∙ sym (lt-ltb d t (omega arith))))
    (λ e. let h = ltb-false low t e in le-ltb c t (omega arith) ∙ sym (le-ltb d t (omega arith)))

open_by : (l c : ℕ) → c ≤ 2 ^ 53 → slot_open l c ≡ pick (ltb l 0x8000_0000_0000_0000) (ltb c (threshold l)) (not (ltb c (threshold l)))
open_by l c h =
    on_bool (ltb l 0x8000_0000_0000_0000)
    (λ e. simp e)
    (λ e. simp e (lower (ltb c (0x1_0000_0000_0000_0000 - l)) refl))
  where
    lower : (b : Bool) → ltb c (0x1_0000_0000_0000_0000 - l) ≡ b → ltb (0xFFFF_FFFF_FFFF_FFFF - c) l ≡ not b
    lower true e = let u = ltb-true c (0x1_0000_0000_0000_0000 - l) e in le-ltb (0xFFFF_FFFF_FFFF_FFFF - c) l (omega arith)
    lower false e = let u = ltb-false c (0x1_0000_0000_0000_0000 - l) e in lt-ltb (0xFFFF_FFFF_FFFF_FFFF - c) l (omega arith)

open_same : (l c d : ℕ) → c ≤ 2 ^ 53 → d ≤ 2 ^ 53 → ltb c (threshold l) ≡ ltb d (threshold l) → slot_open l c ≡ slot_open l d
open_same l c d h k e =
    open_by l c h ∙ ap (λ (b : Bool). pick (ltb l 0x8000_0000_0000_0000) b (not b)) e ∙ sym (open_by l d k)

open_from_same : (limit : ℕ → ℕ) (place counts after : List ℕ) (i a : ℕ)
    → ((b : ℕ) → a ≤ b → b < a + i → slot_open (limit b) (get_or counts (get_or place b 0) 0) ≡ slot_open (limit b) (get_or after (get_or place b 0) 0))
    → open_from limit place counts a i ≡ open_from limit place after a i
open_from_same limit place counts after zero a f = refl
open_from_same limit place counts after (suc i) a f =
    ap₂ ◌&&◌ (f a (omega arith) (omega arith)) (open_from_same limit place counts after i (a + 1) (λ b x y. f b (omega arith) (omega arith)))

-- the counts at slot a stand on one side of its threshold
abbrev pub SameSide : NetRecord → List ℕ → List ℕ → ℕ → Type 0
SameSide n counts after a = ltb (get_or counts (get_or n.place a 0) 0) (threshold (limit_at n a)) ≡ ltb (get_or after (get_or n.place a 0) 0) (threshold (limit_at n a))

-- where they do at every slot of a transition, it is enabled at both or at neither
pub enabled_same : (n : NetRecord) (counts after : List ℕ) (j : ℕ) → Tidy n → AtMost (2 ^ 53) counts → AtMost (2 ^ 53) after
    → ((i : ℕ) → i < get_or n.arcs j 0 → SameSide n counts after (16 * j + i)) → enabled_at n counts j ≡ enabled_at n after j
enabled_same n counts after j s h k f =
    sym (open_all n counts j s h)
    ∙ open_from_same (limit_at n) n.place counts after ((16 * j + get_or n.arcs j 0) - 16 * j) (16 * j)
    (λ b x y. open_same (limit_at n b) (get_or counts (get_or n.place b 0) 0) (get_or after (get_or n.place b 0) 0) (h (get_or n.place b 0)) (k (get_or n.place b 0)) (at b x y))
    ∙ open_all n after j s k
  where
    at : (b : ℕ) → 16 * j ≤ b → b < 16 * j + ((16 * j + get_or n.arcs j 0) - 16 * j) → SameSide n counts after b
    at b x y =
        let z : 16 * j + (b - 16 * j) ≡ b = omega arith in
        subst (SameSide n counts after) z (f (b - 16 * j) (omega arith))

-- ---- the ways, by the kinetic inputs

module _ (m m' : Marking) where
  kinetic_here : (k : Take) (ks : List Take) → k.kinetic ≡ true → kinetic_on k.place (k ∷ ks) ≡ true
  kinetic_here k ks e = simp (e, eq-eqb k.place k.place refl)

  kinetic_there : (k : Take) (ks : List Take) (p : ℕ) → kinetic_on p ks ≡ true → kinetic_on p (k ∷ ks) ≡ true
  kinetic_there k ks p e = second_true (k.kinetic && eqb k.place p) (kinetic_on p ks) e

  pub factored_same : (ks : List Take) (x : Float) → ((p : ℕ) → kinetic_on p ks ≡ true → held m p ≡ held m' p) → factored m x ks ≡ factored m' x ks
  factored_same [] x h = refl
  factored_same (k ∷ ks) x h =
      ap (λ (y : Float). factored m y ks)
      (on_bool k.kinetic
      (λ e. ap (λ (c : ℕ). pick k.kinetic (mul binary64 x (ways c (amount k.weight))) x) (h k.place (kinetic_here k ks e)))
      (λ e. simp e))
      ∙ factored_same ks _ (λ p e. h p (kinetic_there k ks p e))

  pub inexact_same : (ks : List Take) → ((p : ℕ) → kinetic_on p ks ≡ true → held m p ≡ held m' p) → some_inexact m ks ≡ some_inexact m' ks
  inexact_same [] h = refl
  inexact_same (k ∷ ks) h =
      ap₂ ◌||◌
      (on_bool k.kinetic
      (λ e. ap (λ (c : ℕ). k.kinetic && not (exact_ways c (amount k.weight))) (h k.place (kinetic_here k ks e)))
      (λ e. simp e))
      (inexact_same ks (λ p e. h p (kinetic_there k ks p e)))

-- ---- the transitions of a net

module _ (n : NetRecord) where
  at : (k i j : ℕ) → j < k → get_or (transitions_from n i k) j without_arcs ≡ Record.transition n (i + j)
  at zero i j h = absurd (not-suc-le-zero h)
  at (suc k) i zero h =
      let e : i ≡ i + 0 = omega arith in
      ap (λ (x : ℕ). Record.transition n x) e
  at (suc k) i (suc j) h =
      let e : suc i + j ≡ i + suc j = omega arith in
      at k (suc i) j (le_of_suc-le-suc h) ∙ ap (λ (x : ℕ). Record.transition n x) e

  pub transition_at : (j : ℕ) → j < n.transitions → transition (readable n) j ≡ Record.transition n j
  transition_at j h =
      let e : 0 + j ≡ j = omega arith in
      at n.transitions 0 j h ∙ ap (λ (x : ℕ). Record.transition n x) e

capacity_from : (initial capacity : List ℕ) (k i p : ℕ) → p < k → (get_or (places_from initial capacity i k) p (record { initial = 0; capacity = 0 })).capacity ≡ get_or capacity (i + p) 0
capacity_from initial capacity zero i p h = absurd (not-suc-le-zero h)
capacity_from initial capacity (suc k) i zero h =
    let e : i ≡ i + 0 = omega arith in
    ap (λ (x : ℕ). get_or capacity x 0) e
capacity_from initial capacity (suc k) i (suc p) h =
    let e : suc i + p ≡ i + suc p = omega arith in
    capacity_from initial capacity k (suc i) p (le_of_suc-le-suc h) ∙ ap (λ (x : ℕ). get_or capacity x 0) e

capacity_at : (n : NetRecord) (p : ℕ) → p < n.places → capacity_of (readable n) p ≡ get_or n.capacity p 0
capacity_at n p h =
    let e : 0 + p ≡ p = omega arith in
    capacity_from n.initial n.capacity n.places 0 p h ∙ ap (λ (x : ℕ). get_or n.capacity x 0) e

-- a number that is no transition has no arcs
pub past_takes : (n : Net) (j p : ℕ) → length n.transitions ≤ j → kinetic_on p (transition n j).takes ≡ false
past_takes n j p h = rw (get_or-eq_default n.transitions without_arcs {n = j} h)

pub past_listed : (n : Net) (j p : ℕ) → length n.transitions ≤ j → listed n p j ≡ false
past_listed n j p h = rw (get_or-eq_default n.transitions without_arcs {n = j} h) (no_change (ltb 0 (capacity_of n p)))
  where
    no_change : (b : Bool) → (b && false) ≡ false
    no_change true = refl
    no_change false = refl

pub in_net : (n : Net) (j : ℕ) {b : Bool} → (length n.transitions ≤ j → b ≡ false) → b ≡ true → j < length n.transitions
in_net n j past e =
    on_bool (ltb j (length n.transitions))
    (λ f. ltb-true j (length n.transitions) f)
    (λ f. absurd (false≢true (sym (past (ltb-false j (length n.transitions) f)) ∙ e)))

-- ---- a slot of a limit that a count can reach is one for which its transition is listed

pub takes_there : (q : ℕ) (l : Slot) (ls : List Slot) → takes_from q (takes_of ls) ≡ true → takes_from q (takes_of (l ∷ ls)) ≡ true
takes_there q l ls h = on_bool (leb l.kind 1) (λ e. simp e (second_true (eqb l.place q) (takes_from q (takes_of ls)) h)) (λ e. simp e h)

pub takes_here : (l : Slot) (ls : List Slot) → leb l.kind 1 ≡ true → takes_from l.place (takes_of (l ∷ ls)) ≡ true
takes_here l ls e = simp e (first_true (eqb l.place l.place) (takes_from l.place (takes_of ls)) (eq-eqb l.place l.place refl))

pub arcs_there : (f : ℕ → Bool) (q : ℕ) (l : Slot) (ls : List Slot) → on q (arcs_of f ls) ≡ true → on q (arcs_of f (l ∷ ls)) ≡ true
arcs_there f q l ls h = on_bool (f l.kind) (λ e. simp e (second_true (eqb l.place q) (on q (arcs_of f ls)) h)) (λ e. simp e h)

pub arcs_here : (f : ℕ → Bool) (l : Slot) (ls : List Slot) → f l.kind ≡ true → on l.place (arcs_of f (l ∷ ls)) ≡ true
arcs_here f l ls e = simp e (first_true (eqb l.place l.place) (on l.place (arcs_of f ls)) (eq-eqb l.place l.place refl))

module _ (k p w : List ℕ) (b : ℕ) where
  -- what a slot b among i from a on says of its place, it says of all of them
  pub among_slots : (test : ℕ → Bool) (says : ℕ → List Slot → Bool)
      → ((l : Slot) (ls : List Slot) → test l.kind ≡ true → says l.place (l ∷ ls) ≡ true)
      → ((q : ℕ) (l : Slot) (ls : List Slot) → says q ls ≡ true → says q (l ∷ ls) ≡ true)
      → (i a : ℕ) → a ≤ b → b < a + i → test (get_or k b 0) ≡ true → says (get_or p b 0) (slots k p w a i) ≡ true
  among_slots test says here there zero a x y e = absurd (omega arith)
  among_slots test says here there (suc i) a x y e =
      on_bool (eqb b a)
      (λ d.
      let z = eqb-true b a d in
      subst⁻¹ (λ (c : ℕ). says (get_or p c 0) (slots k p w a (suc i)) ≡ true) z
      (here (slot_at k p w a) (slots k p w (a + 1) i) (subst (λ (c : ℕ). test (get_or k c 0) ≡ true) z e)))
      (λ d.
      let z = eqb-false b a d in
      there (get_or p b 0) (slot_at k p w a) (slots k p w (a + 1) i) (among_slots test says here there i (a + 1) (above a b x z) (omega arith) e))
    where
      above : (a b : ℕ) → a ≤ b → (b ≡ a → ⊥) → a + 1 ≤ b
      above a b x z = omega arith

module _ (n : NetRecord) (s : Tidy n) (j i : ℕ) (h : j < n.transitions) (l : i < get_or n.arcs j 0) where
  abbrev a : ℕ
  a = 16 * j + i

  abbrev k : ℕ
  k = get_or n.kind a 0

  abbrev p : ℕ
  p = get_or n.place a 0

  abbrev t : Transition
  t = Record.transition n j

  by_take : leb k 1 ≡ true → takes_from p t.takes ≡ true
  by_take e =
      among_slots n.kind n.place n.weight a (λ (x : ℕ). leb x 1) (λ (q : ℕ) (ls : List Slot). takes_from q (takes_of ls)) takes_here takes_there
      (get_or n.arcs j 0) (16 * j) (omega arith) (omega arith) e

  by_arc : (f : ℕ → Bool) → f k ≡ true → on p (arcs_of f (slots_of n j)) ≡ true
  by_arc f e =
      among_slots n.kind n.place n.weight a f (λ (q : ℕ) (ls : List Slot). on q (arcs_of f ls)) (arcs_here f) (arcs_there f)
      (get_or n.arcs j 0) (16 * j) (omega arith) (omega arith) e

  by_room : is_put k ≡ true → threshold (limit_at n a) ≤ 2 ^ 53 → (ltb 0 (capacity_of (readable n) p) && raises p t) ≡ true
  by_room e u =
      let q = bound n.places n.capacity p in
      let put = moved t.puts p in
      let taken = taken_by t.takes p in
      let here : a / 16 ≡ j = omega (arith, s.arcs j) in
      let lim : limit_at n a ≡ room_limit q put taken
      = ap (λ (b : Bool). pick b (room_limit q (moved (arcs_of is_put (slots_of n (a / 16))) p) (taken_by (takes_of (slots_of n (a / 16))) p)) (arc_limit k (get_or n.weight a 0))) e
      ∙ ap (λ (x : ℕ). room_limit q (moved (arcs_of is_put (slots_of n x)) p) (taken_by (takes_of (slots_of n x)) p)) here in
      let cap : capacity_of (readable n) p ≡ q
      = capacity_at n p (s.place a) ∙ sym (ap (λ (b : Bool). pick b (get_or n.capacity p 0) 0) (lt-ltb p n.places (s.place a))) in
      room q put taken (ap threshold lim) cap
    where
      room : (q put taken : ℕ) → threshold (limit_at n a) ≡ threshold (room_limit q put taken) → capacity_of (readable n) p ≡ q
          → (ltb 0 (capacity_of (readable n) p) && ltb taken put) ≡ true
      room q put taken lim cap =
          on_bool (eqb q 0 || leb put taken)
          (λ f.
          let z : threshold (room_limit q put taken) ≡ no_limit = ap (λ (b : Bool). threshold (pick b no_limit (q + 1 + taken - put))) f in
          absurd (none (threshold (limit_at n a)) u (lim ∙ z)))
          (λ f.
          let w = neither (eqb q 0) (leb put taken) f in
          let above = leb-false put taken w.1 in
          let some : 0 < q = pos q (eqb-false q 0 w.0) in
          ap₂ ◌&&◌ (ap (ltb 0) cap ∙ lt-ltb 0 q some) (lt-ltb taken put above))
        where
          none : (x : ℕ) → x ≤ 2 ^ 53 → x ≡ no_limit → ⊥
          none x u e = omega arith

          pos : (x : ℕ) → (x ≡ 0 → ⊥) → 0 < x
          pos zero h = absurd (h refl)
          pos (suc x) h = omega arith

  pub slot_listed : threshold (limit_at n a) ≤ 2 ^ 53 → listed (readable n) p j ≡ true
  slot_listed u =
      ap (depends_on (readable n) p) (transition_at n j h)
      ∙ on_bool (is_put k)
      (λ e. last (takes_from p t.takes) (on p t.reads) (on p t.blocks) (by_room e u))
      (λ e. on_bool (leb k 1)
      (λ f. first_of (on p t.reads) (on p t.blocks) (ltb 0 (capacity_of (readable n) p) && raises p t) (by_take f))
      (λ f. on_bool (is_read k)
      (λ g. second (takes_from p t.takes) (on p t.blocks) (ltb 0 (capacity_of (readable n) p) && raises p t) (by_arc is_read g))
      (λ g. third (takes_from p t.takes) (on p t.reads) (ltb 0 (capacity_of (readable n) p) && raises p t)
      (by_arc is_block (le-leb 4 k (blocks k (eqb-false k 2 e) (leb-false k 1 f) (eqb-false k 3 g)))))))
    where
      second : {y : Bool} (x z w : Bool) → y ≡ true → (x || y || z || w) ≡ true
      second true z w e = refl
      second false z w e = rw e

      third : {z : Bool} (x y w : Bool) → z ≡ true → (x || y || z || w) ≡ true
      third true y w e = refl
      third false true w e = refl
      third false false w e = rw e

      last : {w : Bool} (x y z : Bool) → w ≡ true → (x || y || z || w) ≡ true
      last true y z e = refl
      last false true z e = refl
      last false false true e = refl
      last false false false e = e

      blocks : (k : ℕ) → (k ≡ 2 → ⊥) → 1 < k → (k ≡ 3 → ⊥) → 4 ≤ k
      blocks k d x y = omega arith
