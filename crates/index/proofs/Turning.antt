-- One slot told: four words of its place are written, and every other word is as it was. Assumes nothing.
use Prim.Native.Nat.{ℕ, ◌+◌, ◌≤◌, ◌<◌}
use mathlib.Core.Path.{◌≡◌, sym, ap, subst, ◌∙◌}
use mathlib.Core.Bool.{Bool, ◌&&◌, ◌||◌, and-true, and-false, or-false}
use mathlib.Core.List.{List}
use native.Mathlib.Omega.{arith}
use lib.Dec.{eqb}
use lib.ListN.{length, get_or, set, length-set}
use lib.Seq.{get_or-set_same, get_or-set_other}
use borrow.Author.Tests.{eqb-true, eqb-false}
use Rattle.words.specs.Bits.{bit}
use Rattle.engine.proofs.Arcs.{on_bool}
use Rattle.index.specs.Guarding.{Crossed, Adds, Guarded}

module _ (before : List ℕ) (p takes edges least most : ℕ) (low : p < 32) (long : length before ≡ 160) where
  abbrev pub written : List ℕ
  written = set (set (set (set before p takes) (32 + p) edges) (96 + p) least) (128 + p) most

  abbrev one : List ℕ
  one = set before p takes

  abbrev two : List ℕ
  two = set one (32 + p) edges

  abbrev three : List ℕ
  three = set two (96 + p) least

  long_one : length one ≡ 160
  long_one = length-set before p takes ∙ long

  long_two : length two ≡ 160
  long_two = length-set one (32 + p) edges ∙ long_one

  long_three : length three ≡ 160
  long_three = length-set two (96 + p) least ∙ long_two

  long_all : length written ≡ 160
  long_all = length-set three (128 + p) most ∙ long_three

  -- what stands at number x
  past_four : (x : ℕ) → (x ≡ 128 + p → ⊥) → get_or written x 0 ≡ get_or three x 0
  past_four x d = get_or-set_other three (128 + p) x most 0 d

  past_three : (x : ℕ) → (x ≡ 96 + p → ⊥) → get_or three x 0 ≡ get_or two x 0
  past_three x d = get_or-set_other two (96 + p) x least 0 d

  past_two : (x : ℕ) → (x ≡ 32 + p → ⊥) → get_or two x 0 ≡ get_or one x 0
  past_two x d = get_or-set_other one (32 + p) x edges 0 d

  past_one : (x : ℕ) → (x ≡ p → ⊥) → get_or one x 0 ≡ get_or before x 0
  past_one x d = get_or-set_other before p x takes 0 d

  takes_here : get_or written p 0 ≡ takes
  takes_here =
      past_four p (λ z. omega arith) ∙ past_three p (λ z. omega arith) ∙ past_two p (λ z. omega arith)
      ∙ get_or-set_same before p takes 0 (omega (arith, long))

  edges_here : get_or written (32 + p) 0 ≡ edges
  edges_here =
      past_four (32 + p) (λ z. omega arith) ∙ past_three (32 + p) (λ z. omega arith)
      ∙ get_or-set_same one (32 + p) edges 0 (omega (arith, long_one))

  least_here : get_or written (96 + p) 0 ≡ least
  least_here = past_four (96 + p) (λ z. omega arith) ∙ get_or-set_same two (96 + p) least 0 (omega (arith, long_two))

  most_here : get_or written (128 + p) 0 ≡ most
  most_here = get_or-set_same three (128 + p) most 0 (omega (arith, long_three))

  -- none of the four
  elsewhere : (x : ℕ) → (x ≡ p → ⊥) → (x ≡ 32 + p → ⊥) → (x ≡ 96 + p → ⊥) → (x ≡ 128 + p → ⊥) → get_or written x 0 ≡ get_or before x 0
  elsewhere x d e f g = past_four x g ∙ past_three x f ∙ past_two x e ∙ past_one x d

  -- by place: the words at these numbers
  module _ (at : ℕ → ℕ) (other : (q : ℕ) → q < 32 → (q ≡ p → ⊥) → get_or written (at q) 0 ≡ get_or before (at q) 0) where
    by_place : (P : ℕ → ℕ → Type 0) → P (get_or before (at p) 0) (get_or written (at p) 0) → ((x : ℕ) → P x x) → (q : ℕ) → q < 32
        → P (get_or before (at q) 0) (get_or written (at q) 0)
    by_place P here there q h =
        on_bool (eqb q p)
        (λ e. subst (λ (x : ℕ). P (get_or before (at x) 0) (get_or written (at x) 0)) (sym (eqb-true q p e)) here)
        (λ e. subst (P (get_or before (at q) 0)) (sym (other q h (eqb-false q p e))) (there (get_or before (at q) 0)))

    adds : (on : Bool) (j word : ℕ) → get_or written (at p) 0 ≡ word → ((i : ℕ) → bit word i ≡ (bit (get_or before (at p) 0) i || (on && eqb i j)))
        → Adds at on p j before written
    adds on j word e f q i h =
        on_bool (eqb q p)
        (λ d.
        let z = eqb-true q p d in
        ap (λ (x : ℕ). bit (get_or written (at x) 0) i) z
        ∙ ap (λ (x : ℕ). bit x i) e
        ∙ f i
        ∙ ap (λ (x : ℕ). bit (get_or before (at x) 0) i || (on && eqb i j)) (sym z)
        ∙ ap (λ (b : Bool). bit (get_or before (at q) 0) i || (b && eqb i j)) (sym (ap (λ (b : Bool). on && b) d ∙ and-true on)))
        (λ d.
        ap (λ (x : ℕ). bit x i) (other q h (eqb-false q p d))
        ∙ sym (or-false (bit (get_or before (at q) 0) i))
        ∙ ap (λ (b : Bool). bit (get_or before (at q) 0) i || (b && eqb i j)) (sym (ap (λ (b : Bool). on && b) d ∙ and-false on)))

  guarded : (kinetic : Bool) (x j : ℕ)
      → ((i : ℕ) → bit takes i ≡ (bit (get_or before p 0) i || (kinetic && eqb i j)))
      → ((i : ℕ) → bit edges i ≡ (bit (get_or before (32 + p) 0) i || (eqb x 1 && eqb i j)))
      → least ≤ get_or before (96 + p) 0 → (Crossed x → least ≤ x) → get_or before (128 + p) 0 ≤ most → (Crossed x → x ≤ most)
      → Guarded kinetic x p j before written
  guarded kinetic x j t e l l' m m' =
      record {
        long = long_all;
        takes = adds (λ (q : ℕ). q) (λ q h d. elsewhere q d (λ z. omega arith) (λ z. omega arith) (λ z. omega arith)) kinetic j takes takes_here t;
        edges = adds (λ (q : ℕ). 32 + q) (λ q h d. elsewhere (32 + q) (λ z. omega arith) (λ z. d (omega arith)) (λ z. omega arith) (λ z. omega arith))
            (eqb x 1) j edges edges_here e;
        lists = λ q h. elsewhere (64 + q) (λ z. omega arith) (λ z. omega arith) (λ z. omega arith) (λ z. omega arith);
        lower = by_place (λ (q : ℕ). 96 + q) (λ q h d. elsewhere (96 + q) (λ z. omega arith) (λ z. omega arith) (λ z. d (omega arith)) (λ z. omega arith))
            (λ (b a : ℕ). a ≤ b) (subst (λ (y : ℕ). y ≤ get_or before (96 + p) 0) (sym least_here) l) (λ y. omega arith);
        first = λ c. subst (λ (y : ℕ). y ≤ x) (sym least_here) (l' c);
        higher = by_place (λ (q : ℕ). 128 + q) (λ q h d. elsewhere (128 + q) (λ z. omega arith) (λ z. omega arith) (λ z. omega arith) (λ z. d (omega arith)))
            (λ (b a : ℕ). b ≤ a) (subst (λ (y : ℕ). get_or before (128 + p) 0 ≤ y) (sym most_here) m) (λ y. omega arith);
        last = λ c. subst (λ (y : ℕ). x ≤ y) (sym most_here) (m' c);
      }

  -- of the slot whose threshold x is y
  pub guarded_of : (kinetic : Bool) (x j : ℕ) {y : ℕ}
      → ((i : ℕ) → bit takes i ≡ (bit (get_or before p 0) i || (kinetic && eqb i j)))
      → ((i : ℕ) → bit edges i ≡ (bit (get_or before (32 + p) 0) i || (eqb x 1 && eqb i j)))
      → least ≤ get_or before (96 + p) 0 → (Crossed x → least ≤ x) → get_or before (128 + p) 0 ≤ most → (Crossed x → x ≤ most) → x ≡ y
      → Guarded kinetic y p j before written
  guarded_of kinetic x j t e l l' m m' z = subst (λ (y : ℕ). Guarded kinetic y p j before written) z (guarded kinetic x j t e l l' m m')
