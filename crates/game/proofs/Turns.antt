-- The loops of the two moves over the program's values: the invariant as a record, with a lemma for its beginning, for each way through a turn and for
-- each way out. Assumes nothing.
use Prim.Native.Nat.{ℕ, zero, suc, ◌+◌, ◌-◌, ◌≤◌, ◌<◌}
use mathlib.Core.Path.{◌≡◌, sym, ap, ◌∙◌}
use mathlib.Core.Bool.{Bool, true, false}
use mathlib.Core.List.{List}
use native.Mathlib.Omega.{arith}
use lib.ListN.{length, get_or}
use borrow.Author.Tests.{eq-eqb, ne_eqb}
use Rattle.net.specs.declared.Net.{Net as NetRecord}
use Rattle.net.specs.Net.{Marking, pick, held}
use Rattle.net.specs.Readable.{readable}
use Rattle.engine.specs.Engine.{marking}
use Rattle.engine.proofs.Marks.{held_marking}
use Rattle.game.specs.Game.{Game, firing, may_fire, Answer, already, fire_first, pass_first, never}
use Rattle.game.specs.Search.{Counted, counted, plus, met, won, as_won, fault_tries, recovery_tries, fault_move, recovery_move}
use Rattle.game.specs.Play.{game_of, Table}
use Rattle.game.proofs.Bound.{few_fault, few_recovery}
use Rattle.game.proofs.Tries as Tries

-- ---- a position that is left at once, at counts whose place p holds what the code reads there

module _ {n : NetRecord} {limit sides : List ℕ} {p : ℕ} (T : Table n limit sides p) (c left : ℕ) (counts : List ℕ) where
  abbrev g : Game
  g = game_of (readable n) sides p c

  abbrev m : Marking
  m = marking n.places counts

  is_met : get_or counts p 0 ≡ c → met g m ≡ true
  is_met e = eq-eqb (held m p) c (held_marking n.places counts p T.place ∙ e)

  not_met : (get_or counts p 0 ≡ c → ⊥) → met g m ≡ false
  not_met f = ne_eqb (held m p) c (λ e. f (sym (held_marking n.places counts p T.place) ∙ e))

  pub fault_met : get_or counts p 0 ≡ c → counted already 1 ≡ fault_move left g m
  unfolding fault_move
  fault_met e = go left
    where
      go : (k : ℕ) → counted already 1 ≡ fault_move k g m
      go zero = ap (λ (b : Bool). counted (pick b already never) 1) (sym (is_met e))
      go (suc k) =
          ap (λ (b : Bool). pick b (counted already 1) (plus 1 (fault_tries g (λ (x : Marking). recovery_move k g x) m false 0 g.sides))) (sym (is_met e))

  pub recovery_met : get_or counts p 0 ≡ c → counted true 1 ≡ recovery_move left g m
  unfolding fault_move
  recovery_met e = go left
    where
      go : (k : ℕ) → counted true 1 ≡ recovery_move k g m
      go zero = ap (λ (b : Bool). counted b 1) (sym (is_met e))
      go (suc k) =
          ap (λ (b : Bool). pick b (counted true 1) (plus 1 (recovery_tries g (λ (x : Marking). as_won (fault_move k g x)) m false 0 g.sides))) (sym (is_met e))

  module _ (f : get_or counts p 0 ≡ c → ⊥) where
    pub fault_used : left ≡ 0 → counted never 1 ≡ fault_move left g m
    unfolding fault_move
    fault_used z = ap (λ (b : Bool). counted (pick b already never) 1) (sym (not_met f)) ∙ ap (λ (k : ℕ). fault_move k g m) (sym z)

    pub recovery_used : left ≡ 0 → counted false 1 ≡ recovery_move left g m
    unfolding fault_move
    recovery_used z = ap (λ (b : Bool). counted b 1) (sym (not_met f)) ∙ ap (λ (k : ℕ). recovery_move k g m) (sym z)

-- ---- the loop of the fault side

-- k transitions, of which those below j are tried
pub record FaultTurn (g : Game) (left : ℕ) (m : Marking) (sides : List ℕ) (k examined : ℕ) (moved : Bool) (j : ℕ) : Type 0 where
  pub long : length sides ≡ k
  pub within : j ≤ k
  pub whole : plus examined (Tries.fault_left g (λ (x : Marking). recovery_move (left - 1) g x) m sides moved j) ≡ fault_move left g m

pub fault_begins : {n : NetRecord} {limit sides : List ℕ} {p : ℕ} → Table n limit sides p → (c left : ℕ) (counts : List ℕ) → (get_or counts p 0 ≡ c → ⊥) → (left ≡ 0 → ⊥)
    → FaultTurn (game_of (readable n) sides p c) left (marking n.places counts) sides n.transitions 1 false 0
unfolding fault_move
fault_begins {n} {limit} {sides} {p} T c left counts f z = record { long = T.sided.long; within = omega arith; whole = go (left - 1) (omega arith) }
  where
    G : Game
    G = game_of (readable n) sides p c

    M : Marking
    M = marking n.places counts

    go : (l : ℕ) → left ≡ suc l → plus 1 (Tries.fault_left G (λ (x : Marking). recovery_move l G x) M sides false 0) ≡ fault_move left G M
    go l e =
        ap (λ (b : Bool). pick b (counted already 1) (plus 1 (fault_tries G (λ (x : Marking). recovery_move l G x) M false 0 G.sides))) (sym (not_met T c left counts f))
        ∙ ap (λ (k : ℕ). fault_move k G M) (sym e)

module _ {g : Game} {left : ℕ} {m : Marking} {sides : List ℕ} {k examined : ℕ} {moved : Bool} {j : ℕ} (t : FaultTurn g left m sides k examined moved j) where
  abbrev behind : Marking → Counted Bool
  behind x = recovery_move (left - 1) g x

  pub fault_other : j < k → (get_or sides j 0 ≡ 0 → ⊥) → FaultTurn g left m sides k examined moved (j + 1)
  fault_other h o = record { long = t.long; within = omega arith; whole = Tries.fault_other g behind m sides examined moved j (fault_move left g m) t.whole (omega (arith, h, t.long)) o }

  module _ (h : j < k) (o : get_or sides j 0 ≡ 0) where
    pub fault_shut : may_fire g.net m j ≡ false → FaultTurn g left m sides k examined moved (j + 1)
    fault_shut e =
        record {
          long = t.long;
          within = omega arith;
          whole = Tries.fault_shut g behind m sides examined moved j (fault_move left g m) t.whole (omega (arith, h, t.long)) o e;
        }

    module _ (e : may_fire g.net m j ≡ true) {after : Marking} (f : after ≡ firing g.net m j) (r : Counted Bool) (s : r ≡ recovery_move (left - 1) g after) where
      found : r ≡ behind (firing g.net m j)
      found = s ∙ ap behind f

      pub fault_settled : r.answer ≡ true → counted (fire_first j) (examined + r.examined) ≡ fault_move left g m
      fault_settled y = Tries.fault_settled g behind m sides examined moved j (fault_move left g m) t.whole (omega (arith, h, t.long)) o r found e y

      pub fault_goes_on : r.answer ≡ false → FaultTurn g left m sides k (examined + r.examined) true (j + 1)
      fault_goes_on y =
          record {
            long = t.long;
            within = omega arith;
            whole = Tries.fault_goes_on g behind m sides examined moved j (fault_move left g m) t.whole (omega (arith, h, t.long)) o r found e y;
          }

      pub fault_room : examined + r.examined ≤ (fault_move left g m).examined
      fault_room = Tries.fault_room g behind m sides examined moved j (fault_move left g m) t.whole (omega (arith, h, t.long)) o r found e

  module _ (h : k ≤ j) where
    pub fault_tired : moved ≡ true → counted never examined ≡ fault_move left g m
    fault_tired e = Tries.fault_tired g behind m sides examined moved j (fault_move left g m) t.whole (omega (arith, h, t.long)) e

    module _ (e : moved ≡ false) (r : Counted Bool) (s : r ≡ recovery_move (left - 1) g m) where
      pub fault_passed : r.answer ≡ true → counted pass_first (examined + r.examined) ≡ fault_move left g m
      fault_passed y = Tries.fault_passed g behind m sides examined moved j (fault_move left g m) t.whole (omega (arith, h, t.long)) e r s y

      pub fault_in_vain : r.answer ≡ false → counted never (examined + r.examined) ≡ fault_move left g m
      fault_in_vain y = Tries.fault_in_vain g behind m sides examined moved j (fault_move left g m) t.whole (omega (arith, h, t.long)) e r s y

      pub fault_pass_room : examined + r.examined ≤ (fault_move left g m).examined
      fault_pass_room = Tries.fault_pass_room g behind m sides examined moved j (fault_move left g m) t.whole (omega (arith, h, t.long)) e r s

-- ---- the loop of the recovery side

pub record RecoveryTurn (g : Game) (left : ℕ) (m : Marking) (sides : List ℕ) (k examined : ℕ) (moved : Bool) (j : ℕ) : Type 0 where
  pub long : length sides ≡ k
  pub within : j ≤ k
  pub whole : plus examined (Tries.recovery_left g (λ (x : Marking). as_won (fault_move (left - 1) g x)) m sides moved j) ≡ recovery_move left g m

pub recovery_begins : {n : NetRecord} {limit sides : List ℕ} {p : ℕ} → Table n limit sides p → (c left : ℕ) (counts : List ℕ) → (get_or counts p 0 ≡ c → ⊥) → (left ≡ 0 → ⊥)
    → RecoveryTurn (game_of (readable n) sides p c) left (marking n.places counts) sides n.transitions 1 false 0
unfolding fault_move
recovery_begins {n} {limit} {sides} {p} T c left counts f z = record { long = T.sided.long; within = omega arith; whole = go (left - 1) (omega arith) }
  where
    G : Game
    G = game_of (readable n) sides p c

    M : Marking
    M = marking n.places counts

    go : (l : ℕ) → left ≡ suc l → plus 1 (Tries.recovery_left G (λ (x : Marking). as_won (fault_move l G x)) M sides false 0) ≡ recovery_move left G M
    go l e =
        ap (λ (b : Bool). pick b (counted true 1) (plus 1 (recovery_tries G (λ (x : Marking). as_won (fault_move l G x)) M false 0 G.sides))) (sym (not_met T c left counts f))
        ∙ ap (λ (k : ℕ). recovery_move k G M) (sym e)

module _ {g : Game} {left : ℕ} {m : Marking} {sides : List ℕ} {k examined : ℕ} {moved : Bool} {j : ℕ} (t : RecoveryTurn g left m sides k examined moved j) where
  abbrev behind_it : Marking → Counted Bool
  behind_it x = as_won (fault_move (left - 1) g x)

  pub recovery_other : j < k → get_or sides j 0 ≡ 0 → RecoveryTurn g left m sides k examined moved (j + 1)
  recovery_other h o =
      record { long = t.long; within = omega arith; whole = Tries.recovery_other g behind_it m sides examined moved j (recovery_move left g m) t.whole (omega (arith, h, t.long)) o }

  module _ (h : j < k) (o : get_or sides j 0 ≡ 0 → ⊥) where
    pub recovery_shut : may_fire g.net m j ≡ false → RecoveryTurn g left m sides k examined moved (j + 1)
    recovery_shut e =
        record {
          long = t.long;
          within = omega arith;
          whole = Tries.recovery_shut g behind_it m sides examined moved j (recovery_move left g m) t.whole (omega (arith, h, t.long)) o e;
        }

    module _ (e : may_fire g.net m j ≡ true) {after : Marking} (f : after ≡ firing g.net m j) (r : Counted Answer) (s : r ≡ fault_move (left - 1) g after) where
      found_it : as_won r ≡ behind_it (firing g.net m j)
      found_it = ap as_won s ∙ ap behind_it f

      pub recovery_settled : won r.answer ≡ false → counted false (examined + r.examined) ≡ recovery_move left g m
      recovery_settled y =
          Tries.recovery_settled g behind_it m sides examined moved j (recovery_move left g m) t.whole (omega (arith, h, t.long)) o (as_won r) found_it e y

      pub recovery_goes_on : won r.answer ≡ true → RecoveryTurn g left m sides k (examined + r.examined) true (j + 1)
      recovery_goes_on y =
          record {
            long = t.long;
            within = omega arith;
            whole = Tries.recovery_goes_on g behind_it m sides examined moved j (recovery_move left g m) t.whole (omega (arith, h, t.long)) o (as_won r) found_it e y;
          }

      pub recovery_room : examined + r.examined ≤ (recovery_move left g m).examined
      recovery_room = Tries.recovery_room g behind_it m sides examined moved j (recovery_move left g m) t.whole (omega (arith, h, t.long)) o (as_won r) found_it e

  module _ (h : k ≤ j) where
    pub recovery_tired : moved ≡ true → counted true examined ≡ recovery_move left g m
    recovery_tired e = Tries.recovery_tired g behind_it m sides examined moved j (recovery_move left g m) t.whole (omega (arith, h, t.long)) e

    module _ (e : moved ≡ false) (r : Counted Answer) (s : r ≡ fault_move (left - 1) g m) where
      pub recovery_passed : counted (won r.answer) (examined + r.examined) ≡ recovery_move left g m
      recovery_passed = Tries.recovery_passed g behind_it m sides examined moved j (recovery_move left g m) t.whole (omega (arith, h, t.long)) e (as_won r) (ap as_won s)

      pub recovery_pass_room : examined + r.examined ≤ (recovery_move left g m).examined
      recovery_pass_room = let z = ap (λ (d : Counted Bool). d.examined) recovery_passed in omega arith

-- ---- no count of positions wraps

pub fault_fits : {n : NetRecord} {limit sides : List ℕ} {p : ℕ} → Table n limit sides p → (c left : ℕ) (m : Marking) → left ≤ 8
    → (x : ℕ) → x ≤ (fault_move left (game_of (readable n) sides p c) m).examined → x ≤ 19_173_961
fault_fits {n} {limit} {sides} {p} t c left m l x h = omega (arith, few_fault (game_of (readable n) sides p c) t.sided.fault t.sided.recovery left m l)

pub recovery_fits : {n : NetRecord} {limit sides : List ℕ} {p : ℕ} → Table n limit sides p → (c left : ℕ) (m : Marking) → left ≤ 8
    → (x : ℕ) → x ≤ (recovery_move left (game_of (readable n) sides p c) m).examined → x ≤ 19_173_961
recovery_fits {n} {limit} {sides} {p} t c left m l x h = omega (arith, few_recovery (game_of (readable n) sides p c) t.sided.fault t.sided.recovery left m l)
