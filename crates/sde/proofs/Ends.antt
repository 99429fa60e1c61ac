-- The kinetic takes of a span of slots are those before the span's kinetic end: what follows adds none. Assumes nothing.
use Prim.Native.Nat.{ℕ, zero, suc, ◌+◌, ◌-◌, ◌*◌, ◌≤◌, ◌<◌}
use Prim.{⊥}
use mathlib.Core.Path.{◌≡◌, refl, sym, ap, ◌∙◌}
use mathlib.Core.Bool.{Bool, true, false}
use mathlib.Core.List.{List, [], ◌∷◌}
use native.Mathlib.Omega.{arith}
use lib.Dec.{eqb}
use lib.ListN.{get_or}
use lib.Ieee.{Float}
use borrow.Author.Tests.{lt-leb, ne_eqb, eqb-true, eqb-false}
use Rattle.net.specs.declared.Net.{Net as NetRecord}
use Rattle.net.specs.Net.{Take, pick, rate_of}
use Rattle.net.specs.Readable.{Slot, slots, takes_of, transition}
use Rattle.sde.specs.Diffusion.{kinetic_of, factored, propensity}
use Rattle.sde.specs.Slots.{KineticEnd}
use Rattle.engine.proofs.Arcs.{on_bool}
use Rattle.sde.proofs.Factors.{left, propensity_made}

abbrev kinetics : List Slot → List Take
kinetics ls = kinetic_of (takes_of ls)

-- one slot in front of others
one_more : (kind place weight : ℕ) (ls : List Slot) → kinetics (record { kind = kind; place = place; weight = weight } ∷ ls)
    ≡ pick (eqb kind 0) (record { place = place; weight = weight; kinetic = true } ∷ kinetics ls) (kinetics ls)
one_more zero place weight ls = refl
one_more (suc zero) place weight ls = refl
one_more (suc (suc k)) place weight ls = simp (lt-leb (suc (suc k)) 1 (omega arith), ne_eqb (suc (suc k)) 0 (λ e. omega arith))

module _ (k p w : List ℕ) where
  abbrev take_at : ℕ → Take
  take_at a = record { place = get_or p a 0; weight = get_or w a 0; kinetic = true }

  -- c slots from a on, none of them a kinetic take
  none_kinetic : (c a : ℕ) → ((b : ℕ) → a ≤ b → b < a + c → eqb (get_or k b 0) 0 ≡ false) → kinetics (slots k p w a c) ≡ []
  none_kinetic zero a f = refl
  none_kinetic (suc c) a f =
      let rest = kinetics (slots k p w (a + 1) c) in
      one_more (get_or k a 0) (get_or p a 0) (get_or w a 0) (slots k p w (a + 1) c)
      ∙ ap (λ (b : Bool). pick b (take_at a ∷ rest) rest) (f a (omega arith) (omega arith))
      ∙ none_kinetic c (a + 1) (λ b l h. f b (omega arith) (omega arith))

  -- m slots, and c more of which none is a kinetic take
  then_none : (m c a : ℕ) → ((b : ℕ) → a + m ≤ b → b < a + m + c → eqb (get_or k b 0) 0 ≡ false) → kinetics (slots k p w a (m + c)) ≡ kinetics (slots k p w a m)
  then_none zero c a f =
      let d : 0 + c ≡ c = omega arith in
      ap (λ (x : ℕ). kinetics (slots k p w a x)) d ∙ none_kinetic c a (λ b l h. f b (omega arith) (omega arith))
  then_none (suc m) c a f =
      let d : suc m + c ≡ suc (m + c) = omega arith in
      ap (λ (x : ℕ). kinetics (slots k p w a x)) d
      ∙ one_more (get_or k a 0) (get_or p a 0) (get_or w a 0) (slots k p w (a + 1) (m + c))
      ∙ ap (λ (ts : List Take). pick (eqb (get_or k a 0) 0) (take_at a ∷ ts) ts) (then_none m c (a + 1) (λ b l h. f b (omega arith) (omega arith)))
      ∙ sym (one_more (get_or k a 0) (get_or p a 0) (get_or w a 0) (slots k p w (a + 1) m))

  pub up_to_end : (from end e : ℕ) → KineticEnd k from end e → kinetics (slots k p w from (e - from)) ≡ kinetics (slots k p w from (end - from))
  up_to_end from end e h =
      let d : end - from ≡ (e - from) + (end - e) = omega (arith, h.low, h.high) in
      sym (ap (λ (c : ℕ). kinetics (slots k p w from c)) d
      ∙ then_none (e - from) (end - e) from (λ b l g. h.idle b (omega (arith, h.low, h.high)) (omega (arith, h.low, h.high))))

-- the end, slot by slot
pub end_first : (kind : List ℕ) (from : ℕ) → KineticEnd kind from from from
end_first kind from = record { low = omega arith; high = omega arith; idle = λ a l g. absurd (omega arith) }

module _ (kind : List ℕ) (from end : ℕ) where
  pub end_here : from ≤ end → KineticEnd kind from (end + 1) (end + 1)
  end_here h = record { low = omega arith; high = omega arith; idle = λ a l g. absurd (omega arith) }

  pub end_stays : (e : ℕ) → KineticEnd kind from end e → (get_or kind end 0 ≡ 0 → ⊥) → KineticEnd kind from (end + 1) e
  end_stays e s y =
      record {
        low = s.low;
        high = omega (arith, s.high);
        idle = λ a l g. on_bool (eqb a end) (λ q. ap (λ (b : ℕ). eqb (get_or kind b 0) 0) (eqb-true a end q) ∙ ne_eqb (get_or kind end 0) 0 y) (λ q. s.idle a l (omega (arith, eqb-false a end q)));
      }

-- the propensity of transition j, from the slots before its kinetic end
pub propensity_within : (n : NetRecord) (x : List Float) (j e : ℕ) → KineticEnd n.kind (16 * j) (16 * j + get_or n.arcs j 0) e → {r a : Float}
    → r ≡ rate_of (transition n j) → a ≡ left x r (slots n.kind n.place n.weight (16 * j) (e - 16 * j)) → a ≡ propensity x (transition n j)
propensity_within n x j e h {r} q f =
    propensity_made n x j q (f ∙ ap (factored x r) (up_to_end n.kind n.place n.weight (16 * j) (16 * j + get_or n.arcs j 0) e h))
