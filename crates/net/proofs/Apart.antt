-- Labels decide 17 and 18 alone. Of two nets that differ in labels alone, each place is first tested by its numbers, which are the same; where
-- these have no fault, a label's fault is 17 or 18, and without one both walks go on. Assumes nothing.
use Prim.Native.Nat.{ℕ, zero, suc}
use mathlib.Core.Path.{◌≡◌, refl, sym, ◌∙◌}
use mathlib.Core.Bool.{Bool, true, false, not, true≢false}
use mathlib.Core.List.{List, [], ◌∷◌}
use mathlib.Core.Option.{Option, none, some}
use lib.ListN.{get_or}
use Rattle.text.specs.Text.{same}
use Rattle.refusals.specs as Refusal
use Rattle.net.specs.declared.Net.{Net as NetRecord}
use Rattle.net.specs.Net.{pick}
use Rattle.net.specs.Tests.{first_of, any, empty, place_tests, or_else, fault_from}
use Rattle.net.specs.Labels.{label_fits, label_at, labels_from, label_fault}
use Rattle.net.specs.Readable.{readable, place_fault, moves_fault, fault, relabelled, by_label, LabelsApart}

-- none, or 17 or 18
abbrev at_most : Option ℕ → Bool
at_most none = true
at_most (some c) = by_label (some c)

label_fault_only : (label lengths : List ℕ) (p : ℕ) → at_most (label_fault label lengths p) ≡ true
label_fault_only label lengths p =
    only (not (label_fits (label_at label lengths p))) (any (same (label_at label lengths p)) (labels_from label lengths 0 p))
  where
    only : (b c : Bool) → at_most (pick b (some 17) (pick c (some 18) none)) ≡ true
    only true c = refl
    only false true = refl
    only false false = refl

-- one place: its numbers' fault a, its labels' faults b and b', and what is left of both walks
step : (a b b' w w' rest : Option ℕ) → at_most b ≡ true → at_most b' ≡ true
    → (by_label (or_else w rest) ≡ false → by_label (or_else w' rest) ≡ false → or_else w' rest ≡ or_else w rest)
    → by_label (or_else (or_else (or_else a b) w) rest) ≡ false → by_label (or_else (or_else (or_else a b') w') rest) ≡ false
    → or_else (or_else (or_else a b') w') rest ≡ or_else (or_else (or_else a b) w) rest
step (some c) b b' w w' rest h h' ih e e' = refl
step none none none w w' rest h h' ih e e' = ih e e'
step none none (some c) w w' rest h h' ih e e' = absurd (true≢false (sym h' ∙ e'))
step none (some c) b' w w' rest h h' ih e e' = absurd (true≢false (sym h ∙ e))

module _ (n : NetRecord) (label lengths : List ℕ) where
  abbrev rest : Option ℕ
  rest = or_else (first_of ((Refusal.bad_size, empty (readable n).places) ∷ [])) (moves_fault n 0 n.transitions)

  abbrev numbers : ℕ → Option ℕ
  numbers p = first_of (place_tests p false (record { initial = get_or n.initial p 0; capacity = get_or n.capacity p 0 }))

  abbrev given : ℕ → ℕ → Option ℕ
  given p k = fault_from (place_fault n.initial n.capacity n.label n.lengths) p k

  abbrev other : ℕ → ℕ → Option ℕ
  other p k = fault_from (place_fault n.initial n.capacity label lengths) p k

  walks : (p k : ℕ) → by_label (or_else (given p k) rest) ≡ false → by_label (or_else (other p k) rest) ≡ false
      → or_else (other p k) rest ≡ or_else (given p k) rest
  walks p zero e e' = refl
  walks p (suc k) e e' =
      step (numbers p) (label_fault n.label n.lengths p) (label_fault label lengths p) (given (suc p) k) (other (suc p) k) rest
      (label_fault_only n.label n.lengths p)
      (label_fault_only label lengths p)
      (walks (suc p) k)
      e
      e'

  same_fault : by_label (fault n) ≡ false → by_label (fault (relabelled n label lengths)) ≡ false → fault (relabelled n label lengths) ≡ fault n
  unfolding fault
  same_fault e e' = walks 0 n.places e e'

  pub labels_apart : LabelsApart n label lengths
  labels_apart = record { same_net = refl; same_fault = same_fault }
