-- The loop that begins the table: the words of the places before p stand in it, and before these it is 0. Assumes nothing.
use Prim.Native.Nat.{ℕ, ◌+◌, ◌≤◌, ◌<◌}
use mathlib.Core.Path.{◌≡◌, refl, ◌∙◌}
use mathlib.Core.List.{List}
use native.Mathlib.Omega.{arith}
use lib.ListN.{length, get_or, set, replicate, length-replicate, length-set}
use lib.Seq.{get_or-set_same, get_or-set_other}
use borrow.Author.Count.{below_none, below_more}
use Rattle.engine.proofs.Lists.{each_zero}
use Rattle.index.specs.Guarding.{Begun}

module _ (words : List ℕ) where
  pub record Beginning (guards : List ℕ) (p : ℕ) : Type 0 where
    pub long : length guards ≡ 160
    pub zeros : (x : ℕ) → x < 64 → get_or guards x 0 ≡ 0
    pub lists : (q : ℕ) → q < p → get_or guards (64 + q) 0 ≡ get_or words q 0

  pub beginning_none : Beginning (replicate 160 0) 0
  beginning_none =
      record { long = length-replicate {A = ℕ} 160 0; zeros = λ x h. each_zero (λ (y : ℕ). y ≡ 0) 160 refl x; lists = below_none _ }

  pub beginning_more : (guards : List ℕ) (p first : ℕ) → Beginning guards p → p < 32 → Beginning (set (set guards (64 + p) (get_or words p 0)) (96 + p) first) (p + 1)
  beginning_more guards p first inv h =
      record {
        long = length-set one (96 + p) first ∙ length-set guards (64 + p) word ∙ inv.long;
        zeros = λ x l. past x (λ z. omega arith) ∙ get_or-set_other guards (64 + p) x word 0 (λ z. omega arith) ∙ inv.zeros x l;
        lists = below_more (λ (q : ℕ). get_or (set one (96 + p) first) (64 + q) 0 ≡ get_or words q 0) p
            (λ q l. past (64 + q) (λ z. omega arith) ∙ get_or-set_other guards (64 + p) (64 + q) word 0 (λ z. omega arith) ∙ inv.lists q l)
            (past (64 + p) (λ z. omega arith) ∙ get_or-set_same guards (64 + p) word 0 (omega (arith, inv.long)));
      }
    where
      word : ℕ
      word = get_or words p 0

      one : List ℕ
      one = set guards (64 + p) word

      past : (x : ℕ) → (x ≡ 96 + p → ⊥) → get_or (set one (96 + p) first) x 0 ≡ get_or one x 0
      past x d = get_or-set_other one (96 + p) x first 0 d

  pub beginning_all : (guards : List ℕ) (p : ℕ) → Beginning guards p → 32 ≤ p → Begun words guards
  beginning_all guards p inv h =
      record {
        long = inv.long;
        kinetic = λ q l. inv.zeros q (omega arith);
        edge = λ q l. inv.zeros (32 + q) (omega arith);
        lists = λ q l. inv.lists q (omega arith);
      }
