-- The first fault: of several tests, one test at a time, then of several places or transitions, one at a time. Assumes nothing.
use Prim.Native.Nat.{ℕ, zero, suc, ◌+◌, ◌-◌, ◌<◌}
use mathlib.Core.Path.{◌≡◌, refl, sym, ap, ◌∙◌}
use mathlib.Core.Bool.{Bool, true, false}
use mathlib.Core.List.{List, [], ◌∷◌}
use mathlib.Core.Option.{Option, none, some}
use native.Mathlib.Numerals.{add-one}
use native.Mathlib.Omega.{arith}
use Rattle.refusals.specs as Refusal
use Rattle.net.specs.declared.Net.{Net as NetRecord}
use Rattle.net.specs.Net.{pick}
use Rattle.net.specs.Tests.{first_of, empty, or_else, fault_from}
use Rattle.net.specs.Readable.{places_from, places_fault, moves_fault, fault}

-- a test that applies
pub stop : {b : Bool} (c : ℕ) (later : Option ℕ) → b ≡ true → some c ≡ pick b (some c) later
stop c later e = sym (ap (λ (b : Bool). pick b (some c) later) e)

-- a test that does not: what the later ones say is what all say
pub pass : {b : Bool} (c : ℕ) {said later : Option ℕ} → b ≡ false → said ≡ later → said ≡ pick b (some c) later
pass c {said} {later} e f = f ∙ sym (ap (λ (b : Bool). pick b (some c) later) e)

-- a walk whose whole is t: it stops at a fault, and goes on past what has none
pub else_stop : {t first : Option ℕ} (later : Option ℕ) {c : ℕ} → t ≡ or_else first later → first ≡ some c → some c ≡ t
else_stop later e f = sym (e ∙ ap (λ (o : Option ℕ). or_else o later) f)

pub else_go : {t first : Option ℕ} (later : Option ℕ) → t ≡ or_else first later → first ≡ none → later ≡ t
else_go later e f = sym (e ∙ ap (λ (o : Option ℕ). or_else o later) f)

-- the places or transitions that are left, from j up to k: one and the rest, or none
module _ (f : ℕ → Option ℕ) (j k : ℕ) {t : Option ℕ} where
  pub faults_turn : j < k → fault_from f j (k - j) ≡ t → t ≡ or_else (f j) (fault_from f (j + 1) (k - (j + 1)))
  faults_turn h inv =
      let d : k - j ≡ suc (k - (j + 1)) = omega arith in
      sym inv
      ∙ ap (fault_from f j) d
      ∙ ap (λ (i : ℕ). or_else (f j) (fault_from f i (k - (j + 1)))) (sym (add-one j))

-- ---- the whole net

some_place : (initial capacity : List ℕ) (p k : ℕ) → (k ≡ 0 → ⊥) → empty (places_from initial capacity p k) ≡ false
some_place initial capacity p zero h = absurd (h refl)
some_place initial capacity p (suc k) h = refl

module _ (n : NetRecord) where
  abbrev placed : Option ℕ
  placed = places_fault n.initial n.capacity n.label n.lengths 0 n.places

  abbrev placeless : Bool → Option ℕ
  placeless b = or_else (first_of ((Refusal.bad_size, b) ∷ [])) (moves_fault n 0 n.transitions)

  pub by_place : {c : ℕ} → placed ≡ some c → some c ≡ fault n
  unfolding fault
  by_place e = else_stop (placeless (empty (places_from n.initial n.capacity 0 n.places))) refl e

  pub by_none : placed ≡ none → n.places ≡ 0 → some 2 ≡ fault n
  unfolding fault
  by_none e z =
      sym (ap (λ (k : ℕ). placeless (empty (places_from n.initial n.capacity 0 k))) z)
      ∙ else_go (placeless (empty (places_from n.initial n.capacity 0 n.places))) refl e

  pub by_moves : {v : Option ℕ} → placed ≡ none → (n.places ≡ 0 → ⊥) → v ≡ moves_fault n 0 n.transitions → v ≡ fault n
  unfolding fault
  by_moves e h m =
      m
      ∙ sym (ap placeless (some_place n.initial n.capacity 0 n.places h))
      ∙ else_go (placeless (empty (places_from n.initial n.capacity 0 n.places))) refl e
