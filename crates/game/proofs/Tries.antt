-- One turn of each loop of the search: what was examined, and what is left to try from here, is the whole. Assumes nothing.
use Prim.Native.Nat.{ℕ, suc, ◌+◌, ◌≤◌, ◌<◌}
use mathlib.Core.Path.{◌≡◌, refl, sym, ap, ◌∙◌}
use mathlib.Core.Bool.{Bool, true, false}
use mathlib.Core.List.{List, [], ◌∷◌}
use native.Mathlib.Omega.{arith}
use native.Mathlib.Numerals.{add-one}
use lib.ListN.{length, get_or, drop, drop_of_length-le}
use lib.Seq.{drop-cons}
use borrow.Author.Tests.{eq-eqb, ne_eqb}
use Rattle.net.specs.Net.{Marking, pick}
use Rattle.game.specs.Game.{Side, fault, recovery, Game, firing, may_fire, Answer, fire_first, pass_first, never}
use Rattle.game.specs.Search.{Counted, counted, plus, settle_fault, settle_recovery, fault_tries, recovery_tries}
use Rattle.game.specs.Play.{side_of, sides_of}

-- ---- the sides that are left, from transition j on

abbrev pub left_of : List ℕ → ℕ → List Side
left_of sides j = sides_of (drop j sides)

module _ (sides : List ℕ) (j : ℕ) where
  pub left_step : j < length sides → left_of sides j ≡ side_of (get_or sides j 0) ∷ left_of sides (j + 1)
  left_step h = ap sides_of (drop-cons sides j 0 h) ∙ ap (λ (i : ℕ). side_of (get_or sides j 0) ∷ left_of sides i) (sym (add-one j))

  pub left_fault : j < length sides → get_or sides j 0 ≡ 0 → left_of sides j ≡ fault ∷ left_of sides (j + 1)
  left_fault h e = left_step h ∙ ap (λ (b : Bool). pick b fault recovery ∷ left_of sides (j + 1)) (eq-eqb (get_or sides j 0) 0 e)

  pub left_recovery : j < length sides → (get_or sides j 0 ≡ 0 → ⊥) → left_of sides j ≡ recovery ∷ left_of sides (j + 1)
  left_recovery h e = left_step h ∙ ap (λ (b : Bool). pick b fault recovery ∷ left_of sides (j + 1)) (ne_eqb (get_or sides j 0) 0 e)

  pub left_none : length sides ≤ j → left_of sides j ≡ []
  left_none h = ap sides_of (drop_of_length-le sides h)

-- ---- sums

plus_plus : {A : Type 0} (a b : ℕ) (c : Counted A) → plus a (plus b c) ≡ plus (a + b) c
plus_plus a b c =
    let e : a + (b + c.examined) ≡ a + b + c.examined = omega arith in
    ap (counted c.answer) e

-- ---- the fault side

module _ (g : Game) (next : Marking → Counted Bool) (m : Marking) (sides : List ℕ) where
  -- all that is left to try from transition j on
  abbrev pub fault_left : Bool → ℕ → Counted Answer
  fault_left moved j = fault_tries g next m moved j (left_of sides j)

  module _ (examined : ℕ) (moved : Bool) (j : ℕ) (whole : Counted Answer) (inv : plus examined (fault_left moved j) ≡ whole) where
    -- a transition of the other side
    pub fault_other : j < length sides → (get_or sides j 0 ≡ 0 → ⊥) → plus examined (fault_left moved (j + 1)) ≡ whole
    fault_other h o =
        ap (λ (i : ℕ). plus examined (fault_tries g next m moved i (left_of sides (j + 1)))) (add-one j)
        ∙ sym (ap (λ (ss : List Side). plus examined (fault_tries g next m moved j ss)) (left_recovery sides j h o))
        ∙ inv

    module _ (h : j < length sides) (o : get_or sides j 0 ≡ 0) where
      turn : (b : Bool) → may_fire g.net m j ≡ b
          → plus examined (pick b (settle_fault (fire_first j) (next (firing g.net m j)) (fault_left true (j + 1))) (fault_left moved (j + 1))) ≡ whole
      turn b e =
          ap (λ (i : ℕ). plus examined (pick b (settle_fault (fire_first j) (next (firing g.net m j)) (fault_tries g next m true i (left_of sides (j + 1))))
          (fault_tries g next m moved i (left_of sides (j + 1))))) (add-one j)
          ∙ ap (λ (x : Bool). plus examined (pick x (settle_fault (fire_first j) (next (firing g.net m j)) (fault_tries g next m true (suc j) (left_of sides (j + 1))))
          (fault_tries g next m moved (suc j) (left_of sides (j + 1))))) (sym e)
          ∙ sym (ap (λ (ss : List Side). plus examined (fault_tries g next m moved j ss)) (left_fault sides j h o))
          ∙ inv

      -- one that may not fire
      pub fault_shut : may_fire g.net m j ≡ false → plus examined (fault_left moved (j + 1)) ≡ whole
      fault_shut e = turn false e

      -- one that fires, with what is found behind it
      module _ (c : Counted Bool) (f : c ≡ next (firing g.net m j)) (e : may_fire g.net m j ≡ true) where
        tried : (b : Bool) → c.answer ≡ b → plus examined (pick b (counted (fire_first j) c.examined) (plus c.examined (fault_left true (j + 1)))) ≡ whole
        tried b y =
            ap (λ (x : Bool). plus examined (pick x (counted (fire_first j) c.examined) (plus c.examined (fault_left true (j + 1))))) (sym y)
            ∙ ap (λ (d : Counted Bool). plus examined (settle_fault (fire_first j) d (fault_left true (j + 1)))) f
            ∙ turn true e

        pub fault_settled : c.answer ≡ true → counted (fire_first j) (examined + c.examined) ≡ whole
        fault_settled y = tried true y

        pub fault_goes_on : c.answer ≡ false → plus (examined + c.examined) (fault_left true (j + 1)) ≡ whole
        fault_goes_on y = sym (plus_plus examined c.examined (fault_left true (j + 1))) ∙ tried false y

        pub fault_room : examined + c.examined ≤ whole.examined
        fault_room = go c.answer refl
          where
            go : (b : Bool) → c.answer ≡ b → examined + c.examined ≤ whole.examined
            go true y = let z = ap (λ (d : Counted Answer). d.examined) (tried true y) in omega arith
            go false y = let z = ap (λ (d : Counted Answer). d.examined) (tried false y) in omega arith

    module _ (h : length sides ≤ j) where
      -- no transition is left
      pub fault_tired : moved ≡ true → counted never examined ≡ whole
      fault_tired e =
          let z : examined ≡ examined + 0 = omega arith in
          ap (counted never) z
          ∙ ap (λ (b : Bool). plus examined (fault_tries g next m b j [])) (sym e)
          ∙ sym (ap (λ (ss : List Side). plus examined (fault_tries g next m moved j ss)) (left_none sides j h))
          ∙ inv

      module _ (e : moved ≡ false) (c : Counted Bool) (f : c ≡ next m) where
        passed : (b : Bool) → c.answer ≡ b → plus examined (pick b (counted pass_first c.examined) (plus c.examined (counted never 0))) ≡ whole
        passed b y =
            ap (λ (x : Bool). plus examined (pick x (counted pass_first c.examined) (plus c.examined (counted never 0)))) (sym y)
            ∙ ap (λ (d : Counted Bool). plus examined (settle_fault pass_first d (counted never 0))) f
            ∙ ap (λ (b : Bool). plus examined (fault_tries g next m b j [])) (sym e)
            ∙ sym (ap (λ (ss : List Side). plus examined (fault_tries g next m moved j ss)) (left_none sides j h))
            ∙ inv

        pub fault_passed : c.answer ≡ true → counted pass_first (examined + c.examined) ≡ whole
        fault_passed y = passed true y

        pub fault_in_vain : c.answer ≡ false → counted never (examined + c.examined) ≡ whole
        fault_in_vain y =
            let z : examined + c.examined ≡ examined + (c.examined + 0) = omega arith in
            ap (counted never) z ∙ passed false y

        pub fault_pass_room : examined + c.examined ≤ whole.examined
        fault_pass_room = go c.answer refl
          where
            go : (b : Bool) → c.answer ≡ b → examined + c.examined ≤ whole.examined
            go true y = let z = ap (λ (d : Counted Answer). d.examined) (passed true y) in omega arith
            go false y = let z = ap (λ (d : Counted Answer). d.examined) (passed false y) in omega arith

-- ---- the recovery side

module _ (g : Game) (next : Marking → Counted Bool) (m : Marking) (sides : List ℕ) where
  abbrev pub recovery_left : Bool → ℕ → Counted Bool
  recovery_left moved j = recovery_tries g next m moved j (left_of sides j)

  module _ (examined : ℕ) (moved : Bool) (j : ℕ) (whole : Counted Bool) (inv : plus examined (recovery_left moved j) ≡ whole) where
    pub recovery_other : j < length sides → get_or sides j 0 ≡ 0 → plus examined (recovery_left moved (j + 1)) ≡ whole
    recovery_other h o =
        ap (λ (i : ℕ). plus examined (recovery_tries g next m moved i (left_of sides (j + 1)))) (add-one j)
        ∙ sym (ap (λ (ss : List Side). plus examined (recovery_tries g next m moved j ss)) (left_fault sides j h o))
        ∙ inv

    module _ (h : j < length sides) (o : get_or sides j 0 ≡ 0 → ⊥) where
      turn_recovery : (b : Bool) → may_fire g.net m j ≡ b
          → plus examined (pick b (settle_recovery (next (firing g.net m j)) (recovery_left true (j + 1))) (recovery_left moved (j + 1))) ≡ whole
      turn_recovery b e =
          ap (λ (i : ℕ). plus examined (pick b (settle_recovery (next (firing g.net m j)) (recovery_tries g next m true i (left_of sides (j + 1))))
          (recovery_tries g next m moved i (left_of sides (j + 1))))) (add-one j)
          ∙ ap (λ (x : Bool). plus examined (pick x (settle_recovery (next (firing g.net m j)) (recovery_tries g next m true (suc j) (left_of sides (j + 1))))
          (recovery_tries g next m moved (suc j) (left_of sides (j + 1))))) (sym e)
          ∙ sym (ap (λ (ss : List Side). plus examined (recovery_tries g next m moved j ss)) (left_recovery sides j h o))
          ∙ inv

      pub recovery_shut : may_fire g.net m j ≡ false → plus examined (recovery_left moved (j + 1)) ≡ whole
      recovery_shut e = turn_recovery false e

      module _ (c : Counted Bool) (f : c ≡ next (firing g.net m j)) (e : may_fire g.net m j ≡ true) where
        tried_recovery : (b : Bool) → c.answer ≡ b → plus examined (pick b (plus c.examined (recovery_left true (j + 1))) (counted false c.examined)) ≡ whole
        tried_recovery b y =
            ap (λ (x : Bool). plus examined (pick x (plus c.examined (recovery_left true (j + 1))) (counted false c.examined))) (sym y)
            ∙ ap (λ (d : Counted Bool). plus examined (settle_recovery d (recovery_left true (j + 1)))) f
            ∙ turn_recovery true e

        pub recovery_settled : c.answer ≡ false → counted false (examined + c.examined) ≡ whole
        recovery_settled y = tried_recovery false y

        pub recovery_goes_on : c.answer ≡ true → plus (examined + c.examined) (recovery_left true (j + 1)) ≡ whole
        recovery_goes_on y = sym (plus_plus examined c.examined (recovery_left true (j + 1))) ∙ tried_recovery true y

        pub recovery_room : examined + c.examined ≤ whole.examined
        recovery_room = go c.answer refl
          where
            go : (b : Bool) → c.answer ≡ b → examined + c.examined ≤ whole.examined
            go true y = let z = ap (λ (d : Counted Bool). d.examined) (tried_recovery true y) in omega arith
            go false y = let z = ap (λ (d : Counted Bool). d.examined) (tried_recovery false y) in omega arith

    module _ (h : length sides ≤ j) where
      pub recovery_tired : moved ≡ true → counted true examined ≡ whole
      recovery_tired e =
          let z : examined ≡ examined + 0 = omega arith in
          ap (counted true) z
          ∙ ap (λ (b : Bool). plus examined (recovery_tries g next m b j [])) (sym e)
          ∙ sym (ap (λ (ss : List Side). plus examined (recovery_tries g next m moved j ss)) (left_none sides j h))
          ∙ inv

      module _ (e : moved ≡ false) (c : Counted Bool) (f : c ≡ next m) where
        passed_recovery : (b : Bool) → c.answer ≡ b → plus examined (pick b (plus c.examined (counted true 0)) (counted false c.examined)) ≡ whole
        passed_recovery b y =
            ap (λ (x : Bool). plus examined (pick x (plus c.examined (counted true 0)) (counted false c.examined))) (sym y)
            ∙ ap (λ (d : Counted Bool). plus examined (settle_recovery d (counted true 0))) f
            ∙ ap (λ (b : Bool). plus examined (recovery_tries g next m b j [])) (sym e)
            ∙ sym (ap (λ (ss : List Side). plus examined (recovery_tries g next m moved j ss)) (left_none sides j h))
            ∙ inv

        pub recovery_passed : counted c.answer (examined + c.examined) ≡ whole
        recovery_passed = go c.answer refl
          where
            go : (b : Bool) → c.answer ≡ b → counted b (examined + c.examined) ≡ whole
            go true y =
                let z : examined + c.examined ≡ examined + (c.examined + 0) = omega arith in
                ap (counted true) z ∙ passed_recovery true y
            go false y = passed_recovery false y
