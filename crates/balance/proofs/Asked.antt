-- The call's answer by the tests that lead to it, and the test of the weights in the library's words. Assumes nothing.
use Prim.Native.Nat.{ℕ, zero, suc, ◌+◌, ◌≤◌, ◌<◌}
use mathlib.Core.Path.{◌≡◌, refl, sym, ap, ◌∙◌}
use mathlib.Core.Bool.{Bool, true, false, ◌||◌}
use mathlib.Core.List.{List, [], ◌∷◌}
use mathlib.Core.Option.{Option, none, some}
use native.Mathlib.Omega.{arith}
use native.Mathlib.Numerals.{add-one}
use lib.Dec.{eqb, ltb}
use lib.ListN.{length, get_or, drop}
use lib.Seq.{drop-cons, drop-length}
use borrow.Author.Tests.{eq-eqb, ne_eqb, lt-ltb, le-ltb, ltb-false}
use Rattle.std.specs.List.{list_any}
use Rattle.net.specs.declared.Net.{Net as NetRecord}
use Rattle.net.specs.Net.{pick}
use Rattle.net.specs.Readable.{readable, fault}
use Rattle.net.proofs.Slots.{or_stop, or_go, not_first, not_second}
use Rattle.net.proofs.Lengths.{places_length}
use Rattle.rules.specs.Step.{refused}
use Rattle.rules.specs.Balance.{some_above1000, balance}
use Rattle.balance.specs.Call.{unless_fault, called, weighed}
use Rattle.balance.specs.Slots.{Small}

-- ---- the test of the weights

pub above : (ws : List ℕ) → list_any (λ (w : ℕ). ltb 1_000 w) ws ≡ some_above1000 ws
above [] = refl
above (w ∷ ws) = ap (λ (b : Bool). ltb 1_000 w || b) (above ws)

-- where none is above 1,000, each is small
pub small : (ws : List ℕ) → some_above1000 ws ≡ false → Small ws
small [] e p = omega arith
small (w ∷ ws) e zero = ltb-false 1000 w (not_first (ltb 1000 w) (some_above1000 ws) e)
small (w ∷ ws) e (suc p) = small ws (not_second (ltb 1000 w) (some_above1000 ws) e) p

-- ---- the call

-- a net has as many places as its record says
module _ (n : NetRecord) (ws : List ℕ) where
  abbrev long : ℕ → Bool
  long k = eqb (length ws) k

  by_tests : {a : Option ℕ} → fault n ≡ a → called n ws ≡ unless_fault a (balance (readable n) ws)
  unfolding called
  by_tests e = ap (λ (x : Option ℕ). unless_fault x (balance (readable n) ws)) e

  pub by_net : {c : ℕ} → fault n ≡ some c → refused c ≡ called n ws
  by_net e = sym (by_tests e)

  module _ (e : fault n ≡ none) where
    by_lists : {l a : Bool} → long n.places ≡ l → some_above1000 ws ≡ a
        → called n ws ≡ pick l (pick a (refused 4) (weighed (readable n) ws)) (refused 3)
    by_lists {l} {a} d f =
        by_tests e
        ∙ ap (λ (k : ℕ). pick (long k) (pick (some_above1000 ws) (refused 4) (weighed (readable n) ws)) (refused 3)) (places_length n)
        ∙ ap (λ (x : Bool). pick x (pick (some_above1000 ws) (refused 4) (weighed (readable n) ws)) (refused 3)) d
        ∙ ap (λ (x : Bool). pick l (pick x (refused 4) (weighed (readable n) ws)) (refused 3)) f

    pub by_length : (length ws ≡ n.places → ⊥) → refused 3 ≡ called n ws
    by_length h = sym (by_lists (ne_eqb (length ws) n.places h) refl)

    module _ (h : length ws ≡ n.places) where
      pub by_weight : some_above1000 ws ≡ true → refused 4 ≡ called n ws
      by_weight f = sym (by_lists (eq-eqb (length ws) n.places h) f)

      pub by_sums : some_above1000 ws ≡ false → weighed (readable n) ws ≡ called n ws
      by_sums f = sym (by_lists (eq-eqb (length ws) n.places h) f)
