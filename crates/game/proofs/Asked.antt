-- The tests of a call, in their order: each answer of the call is the definition's by the tests that led to it. Assumes nothing.
use Prim.Native.Nat.{ℕ, zero, suc, ◌+◌, ◌-◌, ◌^◌, ◌≤◌, ◌<◌}
use mathlib.Core.Path.{◌≡◌, refl, sym, ap, ◌∙◌, subst}
use mathlib.Core.Bool.{Bool, true, false, ◌&&◌, ◌||◌, cond}
use mathlib.Core.List.{List, [], ◌∷◌}
use mathlib.Core.Option.{Option, none, some}
use native.Mathlib.Omega.{arith}
use lib.Dec.{eqb, leb, ltb}
use lib.ListN.{length, get_or}
use lib.Ieee.{nan, lt}
use borrow.Author.Tests.{eq-eqb, ne_eqb, eqb-true, le-leb, lt-leb, leb-true, lt-ltb, le-ltb}
use Rattle.std.specs.List.{list_all, count_by}
use Rattle.std.proofs.lemmas.List.Sums.{sum_by-cons}
use Rattle.refusals.specs as Refusal
use Rattle.net.specs.declared.Net.{Net as NetRecord}
use Rattle.net.specs.Net.{Net, pick, zero64}
use Rattle.net.specs.Readable.{transitions_from, readable, fault as net_fault}
use Rattle.net.specs.Sound.{Sound}
use Rattle.net.proofs.Lengths.{places_length, transitions_length}
use Rattle.rules.specs.Moves.{initial_counts}
use Rattle.engine.specs.Engine.{any_timed}
use Rattle.engine.proofs.Lists.{above_from, above_all}
use Rattle.game.specs.Game.{Side, fault, recovery, Answer, Exactly}
use Rattle.game.specs.Search.{Counted, fault_move}
use Rattle.game.specs.Play.{sides_of, owned, game_of, Sided}
use Rattle.game.specs.Call.{delayed, each_side, sides_fit, turns_fit, Called, refused, found, after_net, unless_fault, called, Exact}
use Rattle.game.proofs.Right.{exactly}
use Rattle.game.proofs.Bound.{few_fault}

-- ---- the sides

pub faults_are : (sides : List ℕ) → count_by (λ (x : ℕ). eqb x 0) sides ≡ owned fault (sides_of sides)
faults_are [] = refl
faults_are (x ∷ xs) = sum_by-cons (λ (x : ℕ). cond (eqb x 0) 1 0) x xs ∙ go (eqb x 0) (faults_are xs)
  where
    go : (b : Bool) → count_by (λ (x : ℕ). eqb x 0) xs ≡ owned fault (sides_of xs) → cond b 1 0 + count_by (λ (x : ℕ). eqb x 0) xs ≡ owned fault (pick b fault recovery ∷ sides_of xs)
    go true h = omega arith
    go false h = omega arith

two_sides : (ss : List Side) → owned fault ss + owned recovery ss ≡ length ss
two_sides [] = refl
two_sides (fault ∷ ss) = let h = two_sides ss in omega arith
two_sides (recovery ∷ ss) = let h = two_sides ss in omega arith

sides_long : (xs : List ℕ) → length (sides_of xs) ≡ length xs
sides_long [] = refl
sides_long (x ∷ xs) = ap suc (sides_long xs)

pub other_side : (sides : List ℕ) (f : ℕ) → f ≡ owned fault (sides_of sides) → length sides - f ≡ owned recovery (sides_of sides)
other_side sides f e = omega (arith, two_sides (sides_of sides), sides_long sides)

pub each_is : (sides : List ℕ) → list_all (λ (x : ℕ). leb x 1) sides ≡ each_side sides
each_is [] = refl
each_is (x ∷ xs) = ap (λ (b : Bool). leb x 1 && b) (each_is xs)

-- the test of the list, part by part; f of its sides are the fault side
module _ (n : ℕ) (sides : List ℕ) where
  abbrev four : Bool → Bool → Bool → Bool → Bool
  four a b c d = a && b && c && d

  abbrev faults_few : Bool
  faults_few = leb (owned fault (sides_of sides)) 8

  abbrev recoveries_few : Bool
  recoveries_few = leb (owned recovery (sides_of sides)) 8

  pub not_long : (length sides ≡ n → ⊥) → false ≡ sides_fit n sides
  not_long h = sym (ap (λ (b : Bool). four b (each_side sides) faults_few recoveries_few) (ne_eqb (length sides) n h))

  module _ (l : length sides ≡ n) where
    long_enough : sides_fit n sides ≡ four true (each_side sides) faults_few recoveries_few
    long_enough = ap (λ (b : Bool). four b (each_side sides) faults_few recoveries_few) (eq-eqb (length sides) n l)

    pub not_each : each_side sides ≡ false → false ≡ sides_fit n sides
    not_each h = sym (long_enough ∙ ap (λ (b : Bool). four true b faults_few recoveries_few) h)

    module _ (s : each_side sides ≡ true) (f : ℕ) (e : f ≡ owned fault (sides_of sides)) where
      sides_all : sides_fit n sides ≡ four true true faults_few recoveries_few
      sides_all = long_enough ∙ ap (λ (b : Bool). four true b faults_few recoveries_few) s

      pub not_few : 8 < f → false ≡ sides_fit n sides
      not_few h = sym (sides_all ∙ ap (λ (b : Bool). four true true b recoveries_few) (lt-leb (owned fault (sides_of sides)) 8 (omega arith)))

      pub few_enough : f ≤ 8 → leb (length sides - f) 8 ≡ sides_fit n sides
      few_enough h =
          ap (λ (k : ℕ). leb k 8) (other_side sides f e)
          ∙ sym (sides_all ∙ ap (λ (b : Bool). four true true b recoveries_few) (le-leb (owned fault (sides_of sides)) 8 (omega arith)))

-- what a list that fits gives, and a turn number
both : (a b : Bool) → (a && b) ≡ true → (a ≡ true) × (b ≡ true)
both true b e = (refl, e)
both false b e = (e, absurd (let z : ◌≡◌ {A = ℕ} 0 1 = cc in omega arith))

pub fitting : (n : ℕ) (sides : List ℕ) → sides_fit n sides ≡ true → Sided n sides
fitting n sides e =
    let x = both _ _ e in
    let y = both _ _ x.0 in
    let z = both _ _ y.0 in
    record {
      long = eqb-true (length sides) n z.0;
      fault = leb-true (owned fault (sides_of sides)) 8 y.1;
      recovery = leb-true (owned recovery (sides_of sides)) 8 x.1;
    }

pub turns_few : (k : ℕ) → turns_fit k ≡ true → (1 ≤ k) × (k ≤ 8)
turns_few k e = let x = both _ _ e in (leb-true 1 k x.0, leb-true k 8 x.1)

-- ---- delays

delayed_from : (n : NetRecord) (j k : ℕ) → delayed (transitions_from n j k) ≡ above_from n.delay j k
delayed_from n j zero = refl
delayed_from n j (suc k) = ap (λ (b : Bool). lt zero64 (get_or n.delay j nan) || b) (delayed_from n (suc j) k)

pub delayed_is : (n : NetRecord) → any_timed n.transitions n.delay ≡ delayed (readable n).transitions
delayed_is n =
    let e : n.transitions - 0 ≡ n.transitions = omega arith in
    sym (above_all n.delay n.transitions) ∙ ap (above_from n.delay 0) e ∙ sym (delayed_from n 0 n.transitions)

-- ---- the tidied net r of n

module _ (r n : NetRecord) (e : readable r ≡ readable n) where
  pub same_moves : r.transitions ≡ n.transitions
  same_moves = sym (transitions_length r) ∙ ap (λ (m : Net). length m.transitions) e ∙ transitions_length n

  pub first_small : Sound n → r.places ≡ n.places → r.initial ≡ n.initial → (p : ℕ) → p < r.places → get_or r.initial p 0 ≤ 2 ^ 53
  first_small s d f p h =
      subst (λ (xs : List ℕ). get_or xs p 0 ≤ 2 ^ 53) (sym f) (s.initial p (subst (λ (k : ℕ). p < k) d h))

  pub same_game : {x : Counted Answer} (k : ℕ) (sides : List ℕ) (p c : ℕ) → x ≡ fault_move k (game_of (readable r) sides p c) (initial_counts (readable r))
      → x ≡ fault_move k (game_of (readable n) sides p c) (initial_counts (readable n))
  same_game k sides p c h = h ∙ ap (λ (m : Net). fault_move k (game_of m sides p c) (initial_counts m)) e

-- ---- the call

module _ (n : NetRecord) (sides : List ℕ) (p c turns : ℕ) where
  abbrev game : Counted Answer
  game = fault_move turns (game_of (readable n) sides p c) (initial_counts (readable n))

  -- the answer by the tests of delays, list and turns, and place
  abbrev answer : Bool → Bool → Bool → Called
  answer a b d = pick a (refused Refusal.delayed_transition) (pick b (pick d (found game) (refused Refusal.no_such_goal)) (refused Refusal.bad_sides))

  pub by_net : {f : ℕ} → net_fault n ≡ some f → refused f ≡ called n sides p c turns
  unfolding called
  by_net e = sym (ap (λ (o : Option ℕ). unless_fault o (after_net (readable n) sides p c turns)) e)

  module _ (e : net_fault n ≡ none) where
    tested : called n sides p c turns ≡ answer (delayed (readable n).transitions) (sides_fit (length (readable n).transitions) sides && turns_fit turns)
        (ltb p (length (readable n).places))
    unfolding called
    tested = ap (λ (o : Option ℕ). unless_fault o (after_net (readable n) sides p c turns)) e

    measured : called n sides p c turns ≡ answer (any_timed n.transitions n.delay) (sides_fit n.transitions sides && turns_fit turns) (ltb p n.places)
    measured =
        tested
        ∙ ap (λ (b : Bool). answer b (sides_fit (length (readable n).transitions) sides && turns_fit turns) (ltb p (length (readable n).places))) (sym (delayed_is n))
        ∙ ap (λ (k : ℕ). answer (any_timed n.transitions n.delay) (sides_fit k sides && turns_fit turns) (ltb p (length (readable n).places))) (transitions_length n)
        ∙ ap (λ (k : ℕ). answer (any_timed n.transitions n.delay) (sides_fit n.transitions sides && turns_fit turns) (ltb p k)) (places_length n)

    pub by_delay : any_timed n.transitions n.delay ≡ true → refused Refusal.delayed_transition ≡ called n sides p c turns
    by_delay a = sym (measured ∙ ap (λ (b : Bool). answer b (sides_fit n.transitions sides && turns_fit turns) (ltb p n.places)) a)

    module _ (a : any_timed n.transitions n.delay ≡ false) where
      prompt : called n sides p c turns ≡ answer false (sides_fit n.transitions sides && turns_fit turns) (ltb p n.places)
      prompt = measured ∙ ap (λ (b : Bool). answer b (sides_fit n.transitions sides && turns_fit turns) (ltb p n.places)) a

      pub by_sides : sides_fit n.transitions sides ≡ false → refused Refusal.bad_sides ≡ called n sides p c turns
      by_sides b = sym (prompt ∙ ap (λ (x : Bool). answer false (x && turns_fit turns) (ltb p n.places)) b)

      module _ (b : sides_fit n.transitions sides ≡ true) where
        sided : called n sides p c turns ≡ answer false (turns_fit turns) (ltb p n.places)
        sided = prompt ∙ ap (λ (x : Bool). answer false (x && turns_fit turns) (ltb p n.places)) b

        pub by_turns : turns_fit turns ≡ false → refused Refusal.bad_sides ≡ called n sides p c turns
        by_turns d = sym (sided ∙ ap (λ (x : Bool). answer false x (ltb p n.places)) d)

        module _ (d : turns_fit turns ≡ true) where
          timed_right : called n sides p c turns ≡ answer false true (ltb p n.places)
          timed_right = sided ∙ ap (λ (x : Bool). answer false x (ltb p n.places)) d

          pub by_place : n.places ≤ p → refused Refusal.no_such_goal ≡ called n sides p c turns
          by_place h = sym (timed_right ∙ ap (answer false true) (le-ltb p n.places h))

          pub by_game : p < n.places → (x : Counted Answer) → x ≡ game → found x ≡ called n sides p c turns
          by_game h x y = ap found y ∙ sym (timed_right ∙ ap (answer false true) (lt-ltb p n.places h))

-- ---- the answer is the game's

same_found : {x y : Counted Answer} → found x ≡ found y → x ≡ y
same_found e = cc

-- a refusal answers no game
pub not_found : {P : Type 0} {f : ℕ} {x : Counted Answer} → refused f ≡ found x → P
not_found e = absurd (let z : ◌≡◌ {A = ℕ} 0 1 = cc in omega arith)

-- an answer of the search is the game's (Right), within the bound (Bound)
pub answer_exactly : (n : NetRecord) (sides : List ℕ) (p c turns : ℕ) (x : Counted Answer)
    → x ≡ fault_move turns (game_of (readable n) sides p c) (initial_counts (readable n)) → 1 ≤ turns → turns ≤ 8
    → Sided n.transitions sides → Exact n sides p c turns (found x)
answer_exactly n sides p c turns x e low high sided y f =
    let g = game_of (readable n) sides p c in
    let m = initial_counts (readable n) in
    let d : suc (turns - 1) ≡ turns = omega arith in
    let s : fault_move turns g m ≡ y = sym e ∙ same_found f in (
      subst (Exactly g (turns - 1) m) (ap (λ (k : ℕ). (fault_move k g m).answer) d ∙ ap (λ (z : Counted Answer). z.answer) s) (exactly g (turns - 1) m),
      subst (λ (z : Counted Answer). z.examined ≤ 19_173_961) s (few_fault g sided.fault sided.recovery turns m high),
    )
