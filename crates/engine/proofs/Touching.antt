-- A table of guards has the words of the transitions that a change of one count may touch, and the words of several changes unite. In them are only transitions
-- that are listed for a place whose count is changed. Assumes nothing.
use Prim.Native.Nat.{ℕ, zero, suc, ◌+◌, ◌*◌, ◌^◌, ◌≤◌, ◌<◌, min}
use mathlib.Core.Path.{◌≡◌, refl, sym, ap, ap₂, ◌∙◌, subst, subst⁻¹}
use mathlib.Core.Bool.{Bool, true, false, ◌&&◌, ◌||◌, false≢true}
use mathlib.Core.List.{List, [], ◌∷◌}
use native.Mathlib.Omega.{arith}
use native.Mathlib.Nat.{not-suc-le-zero}
use lib.Bits.{bit_or}
use lib.Dec.{eqb, leb, ltb}
use lib.ListN.{length, get_or, set}
use lib.Seq.{get_or-set_same, get_or-set_other, take-set-lt}
use borrow.Author.Tests.{eq-eqb, eqb-true, eqb-false, lt-ltb, le-leb}
use Rattle.words.specs.Bits.{bit}
use Rattle.words.proofs.Bits.{bit_none, bit_or_lem}
use Rattle.net.specs.declared.Net.{Net as NetRecord}
use Rattle.net.specs.Net.{Take, Transition, Net, Marking, pick, amount, held, moved}
use Rattle.net.specs.Readable as Record
use Rattle.net.specs.Readable.{Slot, slots, takes_of, arcs_of, is_put, readable}
use Rattle.net.proofs.Lengths.{places_length, transitions_length}
use Rattle.rules.specs.Enabled.{enabled}
use Rattle.rules.specs.Moves.{transition}
use Rattle.rules.specs.Demand3.{takes_from}
use Rattle.rules.specs.Index.{on, capacity_of, raises, listed, any_below}
use Rattle.rules.proofs.Order.{neither}
use Rattle.engine.specs.Engine.{Tidy, marking, Counts}
use Rattle.engine.specs.Limits.{limit_at}
use Rattle.engine.specs.Guards.{threshold, kinetic_on, Guards, Quiet, crossing, Listed, Tells, moving_as, Told}
use Rattle.engine.proofs.Arcs.{on_bool}
use Rattle.engine.proofs.Marks.{takes, puts, counts_set}
use Rattle.engine.proofs.Sides.{first_true, second_true, first_of, either, and_last, same_side, SameSide, enabled_same, past_takes, past_listed, in_net, takes_there, takes_here, arcs_there, arcs_here, among_slots, factored_same, inexact_same, transition_at, slot_listed}

-- ---- words of listed transitions

some_below : (f : ℕ → Bool) (k p : ℕ) → p < k → f p ≡ true → any_below f k ≡ true
some_below f zero p h e = absurd (not-suc-le-zero h)
some_below f (suc k) p h e =
    on_bool (eqb p k)
    (λ d. second_true (any_below f k) (f k) (subst (λ (q : ℕ). f q ≡ true) (eqb-true p k d) e))
    (λ d. first_true (any_below f k) (f k) (some_below f k p (before p k h (eqb-false p k d)) e))
  where
    before : (p k : ℕ) → p < suc k → (p ≡ k → ⊥) → p < k
    before p k h d = omega arith

listed_one : (n : NetRecord) (touched : ℕ → Bool) (p : ℕ) → p < n.places → touched p ≡ true → (word : ℕ)
    → ((j : ℕ) → bit word j ≡ true → listed (readable n) p j ≡ true) → Listed (readable n) touched word
listed_one n touched p i hit word f j b =
    some_below (λ (q : ℕ). touched q && listed (readable n) q j) (length (readable n).places) p (omega (arith, places_length n)) (ap₂ ◌&&◌ hit (f j b))

listed_none : (n : Net) (touched : ℕ → Bool) → Listed n touched 0
listed_none n touched j b = absurd (false≢true (sym (bit_none j) ∙ b))

listed_more : (n : Net) (touched : ℕ → Bool) (a b : ℕ) → Listed n touched a → Listed n touched b → Listed n touched (bit_or a b)
listed_more n touched a b f g j e = either (bit a j) (bit b j) (f j) (g j) (sym (bit_or_lem a b j) ∙ e)

kinetic_takes : (p : ℕ) (ks : List Take) → kinetic_on p ks ≡ true → takes_from p ks ≡ true
kinetic_takes p [] e = e
kinetic_takes p (k ∷ ks) e =
    either (k.kinetic && eqb k.place p) (kinetic_on p ks)
    (λ d. first_true (eqb k.place p) (takes_from p ks) (and_last k.kinetic (eqb k.place p) d))
    (λ d. second_true (eqb k.place p) (takes_from p ks) (kinetic_takes p ks d))
    e

takes_listed : (n : Net) (q i : ℕ) → takes_from q (transition n i).takes ≡ true → listed n q i ≡ true
takes_listed n q i e =
    let this = transition n i in
    first_of (on q this.reads) (on q this.blocks) (ltb 0 (capacity_of n q) && raises q this) e

-- slot a is one of transition j, which so takes from its place where the slot takes something, and puts there where it puts something
module _ (arcs k p w : List ℕ) (j a : ℕ) (low : 16 * j ≤ a) (h : a < 16 * j + get_or arcs j 0) where
  abbrev all : List Slot
  all = slots k p w (16 * j) (get_or arcs j 0)

  pub take_touches : (count x : ℕ) → 0 < x → x ≡ min count (takes (get_or k a 0) (get_or w a 0)) → takes_from (get_or p a 0) (takes_of all) ≡ true
  take_touches count x some e =
      among_slots k p w a (λ (y : ℕ). leb y 1) (λ (q : ℕ) (ls : List Slot). takes_from q (takes_of ls)) takes_here takes_there (get_or arcs j 0) (16 * j) low h
      (on_bool (leb (get_or k a 0) 1)
      (λ d. d)
      (λ d. let z : takes (get_or k a 0) (get_or w a 0) ≡ 0 = ap (λ (b : Bool). pick b (amount (get_or w a 0)) 0) d in absurd (omega arith)))

  put_slot_lem : is_put (get_or k a 0) ≡ true → on (get_or p a 0) (arcs_of is_put all) ≡ true
  put_slot_lem e =
      among_slots k p w a is_put (λ (q : ℕ) (ls : List Slot). on q (arcs_of is_put ls)) (arcs_here is_put) (arcs_there is_put) (get_or arcs j 0) (16 * j) low h e

  pub put_touches : (x : ℕ) → 0 < x → x ≡ puts (get_or k a 0) (get_or w a 0) → on (get_or p a 0) (arcs_of is_put all) ≡ true
  put_touches x some e =
      put_slot_lem
      (on_bool (is_put (get_or k a 0))
      (λ d. d)
      (λ d. let z : puts (get_or k a 0) (get_or w a 0) ≡ 0 = ap (λ (b : Bool). pick b (amount (get_or w a 0)) 0) d in absurd (omega arith)))

  -- a transition that fires does one of both
  pub fire_takes : (count x : ℕ) → 0 < x → x ≡ min count (takes (get_or k a 0) (get_or w a 0)) → (takes_from (get_or p a 0) (takes_of all) || on (get_or p a 0) (arcs_of is_put all)) ≡ true
  fire_takes count x some e = first_true (takes_from (get_or p a 0) (takes_of all)) (on (get_or p a 0) (arcs_of is_put all)) (take_touches count x some e)

  pub fire_puts : is_put (get_or k a 0) ≡ true → (takes_from (get_or p a 0) (takes_of all) || on (get_or p a 0) (arcs_of is_put all)) ≡ true
  fire_puts e = second_true (takes_from (get_or p a 0) (takes_of all)) (on (get_or p a 0) (arcs_of is_put all)) (put_slot_lem e)

-- ---- one change of the counts, of place p, between `low` and `high`

crossing_edge : (guards : List ℕ) (p low high j : ℕ) → low ≡ 0 → bit (get_or guards (32 + p) 0) j ≡ true → crossing guards p low high j ≡ true
crossing_edge guards p low high j e b = first_true _ _ (ap₂ ◌&&◌ (eq-eqb low 0 e) b)

crossing_range : (guards : List ℕ) (p low high j : ℕ) → get_or guards (96 + p) 0 ≤ high → low < get_or guards (128 + p) 0 → bit (get_or guards (64 + p) 0) j ≡ true
    → crossing guards p low high j ≡ true
crossing_range guards p low high j x y b =
    second_true (eqb low 0 && bit (get_or guards (32 + p) 0) j) _ (simp (le-leb (get_or guards (96 + p) 0) high x, lt-ltb low (get_or guards (128 + p) 0) y) b)

crossing_any : {P : Type 0} (guards : List ℕ) (p low high j : ℕ) → (bit (get_or guards (32 + p) 0) j ≡ true → P) → (bit (get_or guards (64 + p) 0) j ≡ true → P)
    → crossing guards p low high j ≡ true → P
crossing_any guards p low high j f g e =
    let b = bit (get_or guards (64 + p) 0) j in
    either (eqb low 0 && bit (get_or guards (32 + p) 0) j) (leb (get_or guards (96 + p) 0) high && ltb low (get_or guards (128 + p) 0) && b)
    (λ d. f (and_last (eqb low 0) (bit (get_or guards (32 + p) 0) j) d))
    (λ d. g (and_last (leb (get_or guards (96 + p) 0) high && ltb low (get_or guards (128 + p) 0)) b d))
    e

module _ (n : NetRecord) (s : Tidy n) (guards : List ℕ) (g : Guards n guards) (counts : List ℕ) (good : Counts counts) (p d low high x : ℕ)
    (i : p < n.places) (lc : low ≤ get_or counts p 0) (ld : low ≤ d) (ch : get_or counts p 0 ≤ high) (dh : d ≤ high) (small : high ≤ 2 ^ 53)
    (w : (j : ℕ) → bit x j ≡ crossing guards p low high j) where
  abbrev after : List ℕ
  after = set counts p d

  abbrev m : Marking
  m = marking n.places counts

  abbrev m' : Marking
  m' = marking n.places after

  inside : p < 32
  inside = omega (arith, s.places)

  good' : Counts after
  good' = counts_set counts p d good inside (omega arith)

  -- a threshold that the change crosses has its transition in the word
  crosses_in : (j i : ℕ) → j < n.transitions → i < get_or n.arcs j 0 → get_or n.place (16 * j + i) 0 ≡ p
      → low < threshold (limit_at n (16 * j + i)) → threshold (limit_at n (16 * j + i)) ≤ high → bit x j ≡ true
  crosses_in j i h l z u v =
      let q = get_or n.place (16 * j + i) 0 in
      let t = threshold (limit_at n (16 * j + i)) in
      w j
      ∙ ap (λ (y : ℕ). crossing guards y low high j) (sym z)
      ∙ on_bool (eqb t 1)
      (λ e. let one = eqb-true t 1 e in crossing_edge guards q low high j (omega arith) (g.edge j i h l one))
      (λ e.
      let two = above t low (eqb-false t 1 e) u in
      let r = g.range j i h l two (omega arith) in
      crossing_range guards q low high j (omega (arith, r.0)) (omega (arith, r.1))
      (g.lists q j (omega (arith, s.places, s.place (16 * j + i))) ∙ slot_listed n s j i h l (omega arith)))
    where
      above : (t low : ℕ) → (t ≡ 1 → ⊥) → low < t → 2 ≤ t
      above t low e u = omega arith

  slot_side : (j i : ℕ) → j < n.transitions → bit x j ≡ false → i < get_or n.arcs j 0 → SameSide n counts after (16 * j + i)
  slot_side j i h b l =
      let q = get_or n.place (16 * j + i) 0 in
      let t = threshold (limit_at n (16 * j + i)) in
      on_bool (eqb q p)
      (λ e.
      let z = eqb-true q p e in
      let c : get_or counts q 0 ≡ get_or counts p 0 = ap (λ (y : ℕ). get_or counts y 0) z in
      let c' : get_or after q 0 ≡ d = ap (λ (y : ℕ). get_or after y 0) z ∙ get_or-set_same counts p d 0 (omega (arith, good.long, inside)) in
      same_side t low high (get_or counts q 0) (get_or after q 0) (omega arith) (omega arith) (omega arith) (omega arith)
      (λ u v. false≢true (sym b ∙ crosses_in j i h l z u v)))
      (λ e. sym (ap (λ (y : ℕ). ltb y t) (get_or-set_other counts p q d 0 (eqb-false q p e))))

  -- the counts of other places stay
  other : (q : ℕ) → (q ≡ p → ⊥) → held m q ≡ held m' q
  other q e =
      sym (ap (λ (z : Marking). held z q) (take-set-lt n.places counts p d i) ∙ get_or-set_other m p q d 0 e)

  kinetic_stays : (j : ℕ) → bit (get_or guards p 0) j ≡ false → (q : ℕ) → kinetic_on q (transition (readable n) j).takes ≡ true → held m q ≡ held m' q
  kinetic_stays j b q e =
      on_bool (eqb q p)
      (λ f.
      let z = eqb-true q p f in
      absurd (false≢true (sym b ∙ g.kinetic p j inside ∙ ap (λ (y : ℕ). kinetic_on y (transition (readable n) j).takes) (sym z) ∙ e)))
      (λ f. other q (eqb-false q p f))

  -- what is crossed is listed for the place
  crossed_listed : (j : ℕ) → bit x j ≡ true → listed (readable n) p j ≡ true
  crossed_listed j b = crossing_any guards p low high j (g.among p j inside) (λ e. sym (g.lists p j inside) ∙ e) (sym (w j) ∙ b)

  pub quiet_set : Quiet (readable n) m m' (get_or guards p 0) x
  quiet_set =
      record {
        gates = λ j h b.
            let k : j < n.transitions = omega (arith, transitions_length n) in
            let same = transition_at n j k in
            ap (enabled (readable n) m') same
            ∙ sym (enabled_same n counts after j s good.small good'.small (λ l y. slot_side j l k b y))
            ∙ sym (ap (enabled (readable n) m) same);
        ways = λ j h b y. sym (factored_same m m' (transition (readable n) j).takes y (kinetic_stays j b));
        exact = λ j h b. sym (inexact_same m m' (transition (readable n) j).takes (kinetic_stays j b));
        moves = λ j b. in_net (readable n) j (past_takes (readable n) j p) (sym (g.kinetic p j inside) ∙ b);
        crosses = λ j b. in_net (readable n) j (past_listed (readable n) j p) (crossed_listed j b);
      }

  -- so are the transitions with a kinetic input on it
  tells_set : (touches : ℕ → Transition → Bool) (j : ℕ) → touches p (Record.transition n j) ≡ true → Tells touches n j m m' (get_or guards p 0) x
  tells_set touches this hit =
      let touched : ℕ → Bool = λ q. touches q (Record.transition n this) in (
        quiet_set,
        listed_one n touched p i hit (get_or guards p 0) (λ j b. takes_listed (readable n) p j (kinetic_takes p (transition (readable n) j).takes (sym (g.kinetic p j inside) ∙ b))),
        listed_one n touched p i hit x crossed_listed,
      )

-- ---- several changes

pub quiet_none : (n : Net) (m : Marking) → Quiet n m m 0 0
quiet_none n m =
    record {
      gates = λ j h b. refl;
      ways = λ j h b x. refl;
      exact = λ j h b. refl;
      moves = λ j b. absurd (false≢true (sym (bit_none j) ∙ b));
      crosses = λ j b. absurd (false≢true (sym (bit_none j) ∙ b));
    }

pub quiet_more : (n : Net) (m m' m'' : Marking) (a b c d : ℕ) → Quiet n m m' a b → Quiet n m' m'' c d → Quiet n m m'' (bit_or a c) (bit_or b d)
quiet_more n m m' m'' a b c d f g =
    record {
      gates = λ j h e. let w = neither (bit b j) (bit d j) (sym (bit_or_lem b d j) ∙ e) in g.gates j h w.1 ∙ f.gates j h w.0;
      ways = λ j h e x. let w = neither (bit a j) (bit c j) (sym (bit_or_lem a c j) ∙ e) in g.ways j h w.1 x ∙ f.ways j h w.0 x;
      exact = λ j h e. let w = neither (bit a j) (bit c j) (sym (bit_or_lem a c j) ∙ e) in g.exact j h w.1 ∙ f.exact j h w.0;
      moves = λ j e. either (bit a j) (bit c j) (f.moves j) (g.moves j) (sym (bit_or_lem a c j) ∙ e);
      crosses = λ j e. either (bit b j) (bit d j) (f.crosses j) (g.crosses j) (sym (bit_or_lem b d j) ∙ e);
    }

module _ (touches : ℕ → Transition → Bool) (n : NetRecord) (j : ℕ) where
  abbrev touched : ℕ → Bool
  touched p = touches p (Record.transition n j)

  tells_none : (m : Marking) → Tells touches n j m m 0 0
  tells_none m = (quiet_none (readable n) m, listed_none (readable n) touched, listed_none (readable n) touched)

  tells_more : (m m' m'' : Marking) (a b c d : ℕ) → Tells touches n j m m' a b → Tells touches n j m' m'' c d → Tells touches n j m m'' (bit_or a c) (bit_or b d)
  tells_more m m' m'' a b c d f g =
      (quiet_more (readable n) m m' m'' a b c d f.0 g.0, listed_more (readable n) touched a c f.1 g.1, listed_more (readable n) touched b d f.2 g.2)

-- ---- as a loop over slots tells it

module _ (touches : ℕ → Transition → Bool) (n : NetRecord) (j : ℕ) (guards before : List ℕ) where
  -- what it tells of the counts now
  abbrev So : List ℕ → ℕ → ℕ → Type 0
  So counts moved crossed = Told touches n j guards before counts moved crossed

  pub told_none : So before 0 0
  told_none = λ m s g. tells_none touches (moving_as n m) j (marking n.places before)

  pub told_same : (counts : List ℕ) (moved crossed : ℕ) → So counts moved crossed
      → (counts' : List ℕ) (moved' crossed' : ℕ) → counts' ≡ counts → moved' ≡ moved → crossed' ≡ crossed → So counts' moved' crossed'
  told_same counts moved crossed told counts' moved' crossed' ec em ex =
      subst⁻¹ (λ (y : ℕ). So counts' moved' y) ex (subst⁻¹ (λ (y : ℕ). So counts' y crossed) em (subst⁻¹ (λ (y : List ℕ). So y moved crossed) ec told))

  -- the count of place p, which the transition touches, becomes d
  pub told_more : (counts : List ℕ) (moved crossed : ℕ) → So counts moved crossed → Counts counts → (p d low high x : ℕ)
      → ((m : NetRecord) → touches p (Record.transition (moving_as n m) j) ≡ true)
      → p < n.places → low ≤ get_or counts p 0 → low ≤ d → get_or counts p 0 ≤ high → d ≤ high → high ≤ 2 ^ 53
      → ((j : ℕ) → bit x j ≡ crossing guards p low high j)
      → (counts' : List ℕ) (moved' crossed' : ℕ) → counts' ≡ set counts p d → moved' ≡ bit_or moved (get_or guards p 0) → crossed' ≡ bit_or crossed x
      → So counts' moved' crossed'
  told_more counts moved crossed told good p d low high x hit i lc ld ch dh small w counts' moved' crossed' ec em ex =
      told_same (set counts p d) (bit_or moved (get_or guards p 0)) (bit_or crossed x)
      (λ m s g.
      tells_more touches (moving_as n m) j (marking n.places before) (marking n.places counts) (marking n.places (set counts p d)) moved crossed (get_or guards p 0) x
      (told m s g)
      (tells_set (moving_as n m) s guards g counts good p d low high x i lc ld ch dh small w touches j (hit m)))
      counts' moved' crossed' ec em ex
