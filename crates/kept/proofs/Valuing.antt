-- What the ways of the kinetic takes multiply to, slot by slot: those that are left, on top of what is worked so far, come to the whole, and behind the last
-- kinetic take there are none. The limit that the table has for a kinetic take is that of its arc. Assumes nothing.
use Prim.Native.Nat.{ℕ, zero, suc, ◌+◌, ◌-◌, ◌*◌, ◌/◌, ◌≤◌, ◌<◌}
use mathlib.Core.Path.{◌≡◌, refl, sym, ap, ◌∙◌}
use mathlib.Core.Bool.{Bool, true, false, ◌&&◌, false≢true}
use mathlib.Core.List.{List}
use native.Mathlib.Omega.{arith}
use lib.Dec.{eqb, leb}
use lib.ListN.{get_or}
use lib.Ieee.{Float, binary64, mul}
use borrow.Author.Tests.{ne_eqb, eqb-true, leb-true}
use Rattle.net.specs.declared.Net.{Net as NetRecord}
use Rattle.net.specs.Net.{Transition, Marking, amount, rate_of}
use Rattle.net.specs.Readable as Record
use Rattle.net.specs.Readable.{Slot, slots, slots_of, takes_of, readable}
use Rattle.rules.specs.Moves.{transition}
use Rattle.rules.specs.Propensity.{ways, factored}
use Rattle.engine.specs.Engine.{Tidy, marking}
use Rattle.engine.specs.Limits.{no_limit, at_least, slot_limit, limit_at, Says, its, rest}
use Rattle.engine.proofs.Arcs.{amount_most, slots_end, slots_whole}
use Rattle.engine.proofs.Factors.{pick_false, times, factored_turn}
use Rattle.engine.proofs.Marks.{held_marking}
use Rattle.kept.specs.Kept.{single, Alone, Two}
use Rattle.engine.proofs.Sides.{transition_at}

-- ---- the limit of a kinetic take

module _ (n : NetRecord) (tidy : Tidy n) (a : ℕ) (kinetic : get_or n.kind a 0 ≡ 0) where
  its_own : limit_at n a ≡ at_least (amount (get_or n.weight a 0))
  its_own = ap (λ (y : ℕ). slot_limit n.places n.capacity (slots_of n (a / 16)) y (get_or n.place a 0) (get_or n.weight a 0)) kinetic

  never_free : (w : ℕ) → w ≤ 1_000_000 → at_least w ≡ no_limit → ⊥
  never_free w h e = omega arith

  pub kinetic_says : (j x : ℕ) → 16 * j ≤ a → a < 16 * j + get_or n.arcs j 0 → Says n.arcs (limit_at n) a x → x ≡ at_least (amount (get_or n.weight a 0))
  kinetic_says j x low high (its e) = e ∙ its_own
  kinetic_says j x low high (rest e free) =
      let here : j ≡ a / 16 = omega (arith, tidy.arcs j) in
      let u : a < 16 * (a / 16) + get_or n.arcs (a / 16) 0 = rw (sym here) high in
      absurd (never_free (amount (get_or n.weight a 0)) (amount_most (get_or n.weight a 0) (tidy.weight a)) (sym its_own ∙ free a (omega arith) u))

-- ---- slots without a kinetic take multiply to nothing

module _ (m : Marking) (k p w : List ℕ) (e : ℕ) where
  none_left : (i a : ℕ) (x : Float) → e - a ≡ i → ((b : ℕ) → a ≤ b → b < e → get_or k b 0 ≡ 0 → ⊥) → factored m x (takes_of (slots k p w a (e - a))) ≡ x
  none_left zero a x d f = ap (λ (ls : List Slot). factored m x (takes_of ls)) (slots_end k p w a e (omega arith))
  none_left (suc i) a x d f =
      factored_turn m x k p w a e (omega arith)
      ∙ ap (λ (y : Float). factored m y (takes_of (slots k p w (a + 1) (e - (a + 1))))) (pick_false (eqb (get_or k a 0) 0) _ x (ne_eqb (get_or k a 0) 0 (λ z. f a (omega arith) (omega arith) z)))
      ∙ none_left i (a + 1) x (omega arith) (λ b l u. f b (omega arith) u)

-- ---- the loop over the slots of transition j

module _ (n : NetRecord) (counts : List ℕ) (j : ℕ) where
  abbrev m : Marking
  m = marking n.places counts

  abbrev last : ℕ
  last = 16 * j + get_or n.arcs j 0

  abbrev left : ℕ → List Slot
  left a = slots n.kind n.place n.weight a (last - a)

  abbrev whole : Float
  whole = factored m (rate_of (transition (readable n) j)) (transition (readable n) j).takes

  pub record Valuing (x : Float) (a : ℕ) : Type 0 where
    pub low : 16 * j ≤ a
    pub comes : factored m x (takes_of (left a)) ≡ whole

  pub valuing_none : j < n.transitions → (x : Float) → x ≡ rate_of (transition (readable n) j) → Valuing x (16 * j)
  valuing_none h x e =
      record {
        low = omega arith;
        comes =
            ap (λ (ls : List Slot). factored m x (takes_of ls)) (slots_whole n.kind n.place n.weight (16 * j) (get_or n.arcs j 0))
            ∙ ap (λ (y : Float). factored m y (Record.transition n j).takes) e
            ∙ ap (λ (t : Transition). factored m (rate_of (transition (readable n) j)) t.takes) (sym (transition_at n j h));
      }

  pub valuing_more : Tidy n → (x y : Float) (a : ℕ) → Valuing x a → a < last
      → y ≡ times x (get_or n.kind a 0) (get_or n.weight a 0) (get_or counts (get_or n.place a 0) 0) → Valuing y (a + 1)
  valuing_more tidy x y a v h e =
      record {
        low = omega (arith, v.low);
        comes =
            ap (λ (z : Float). factored m z (takes_of (left (a + 1)))) (e
            ∙ ap (times x (get_or n.kind a 0) (get_or n.weight a 0)) (sym (held_marking n.places counts (get_or n.place a 0) (tidy.place a))))
            ∙ sym (factored_turn m x n.kind n.place n.weight a last h)
            ∙ v.comes;
      }

  pub valuing_all : (x : Float) (a : ℕ) → Valuing x a → ((b : ℕ) → a ≤ b → 16 * j ≤ b → b < last → get_or n.kind b 0 ≡ 0 → ⊥) → x ≡ whole
  valuing_all x a v f =
      sym (none_left m n.kind n.place n.weight last (last - a) a x refl (λ b l u. f b l (omega (arith, v.low)) u)) ∙ v.comes

-- ---- a transition whose ways are the count of one place

amount_one : (w : ℕ) → w ≤ 1 → amount w ≡ 1
amount_one zero h = refl
amount_one (suc zero) h = refl
amount_one (suc (suc w)) h = absurd (omega arith)

both : (a b : Bool) → (a && b) ≡ true → (a ≡ true) × (b ≡ true)
both true b e = (refl, e)
both false b e = absurd (false≢true e)

-- a kinetic take of one token multiplies by the count
single_times : (kind weight : List ℕ) (a : ℕ) → single kind weight a ≡ true → (x : Float) (c : ℕ)
    → times x (get_or kind a 0) (get_or weight a 0) c ≡ mul binary64 x (ways c 1)
single_times kind weight a e x c =
    let s = both (eqb (get_or kind a 0) 0) (leb (get_or weight a 0) 1) e in
    rw (eqb-true (get_or kind a 0) 0 s.0, amount_one (get_or weight a 0) (leb-true (get_or weight a 0) 1 s.1)) refl

pub valuing_alone : (n : NetRecord) (counts : List ℕ) (j p : ℕ) → Tidy n → j < n.transitions → Alone n j p
    → (x y : Float) → x ≡ rate_of (transition (readable n) j) → y ≡ mul binary64 x (ways (get_or counts p 0) 1)
    → y ≡ factored (marking n.places counts) (rate_of (transition (readable n) j)) (transition (readable n) j).takes
valuing_alone n counts j p tidy h a x y e f =
    valuing_all n counts j y (16 * j + 1)
    (valuing_more n counts j tidy x y (16 * j) (valuing_none n counts j h x e) (omega (arith, a.there))
    (f ∙ sym (single_times n.kind n.weight (16 * j) a.takes x (get_or counts (get_or n.place (16 * j) 0) 0) ∙ ap (λ (q : ℕ). mul binary64 x (ways (get_or counts q 0) 1)) a.from)))
    (λ b l u v z. a.behind b l v z)

-- or those of two
pub valuing_two : (n : NetRecord) (counts : List ℕ) (j : ℕ) → Tidy n → j < n.transitions → Two n j
    → (x y : Float) → x ≡ rate_of (transition (readable n) j)
    → y ≡ mul binary64 (mul binary64 x (ways (get_or counts (get_or n.place (16 * j) 0) 0) 1)) (ways (get_or counts (get_or n.place (16 * j + 1) 0) 0) 1)
    → y ≡ factored (marking n.places counts) (rate_of (transition (readable n) j)) (transition (readable n) j).takes
valuing_two n counts j tidy h a x y e f =
    valuing_all n counts j y (16 * j + 1 + 1)
    (valuing_more n counts j tidy first y (16 * j + 1)
    (valuing_more n counts j tidy x first (16 * j) (valuing_none n counts j h x e) (omega (arith, a.there)) (sym (single_times n.kind n.weight (16 * j) a.takes x _)))
    (omega (arith, a.there))
    (f ∙ sym (single_times n.kind n.weight (16 * j + 1) a.takes_too first _)))
    (λ b l u v z. a.behind b (omega arith) v z)
  where
    first : Float
    first = mul binary64 x (ways (get_or counts (get_or n.place (16 * j) 0) 0) 1)
