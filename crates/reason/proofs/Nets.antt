-- The theorems of specs/Same: the labels of an accepted net's bounded places are labels, so its text reads back as its parts (Same). Assumes nothing.
use Prim.Native.Nat.{ℕ, zero, suc, ◌+◌, ◌<◌}
use native.Mathlib.Omega.{arith}
use mathlib.Core.Path.{◌≡◌, refl, ap, ◌∙◌}
use mathlib.Core.Bool.{Bool, true, false, ◌||◌, not}
use mathlib.Core.List.{List, [], ◌∷◌, map}
use mathlib.Core.Option.{none}
use lib.Dec.{ltb}
use lib.ListN.{get_or}
use Rattle.text.specs.Text.{Bytes}
use Rattle.net.specs.declared.Net.{Net as NetRecord}
use Rattle.net.specs.Net.{Transition, pick}
use Rattle.net.specs.Labels.{label_fits, label_at}
use Rattle.net.specs.Readable.{readable, fault, places_from, transitions_from}
use Rattle.net.specs.Tests.{empty}
use Rattle.net.proofs.Sound.{labelled}
use Rattle.gates.specs.Gated.{Gates, bounded, bounded_from, gates}
use Rattle.reason.specs.Reasons.{Reasons, reason_text}
use Rattle.reason.specs.Call.{reasons_of}
use Rattle.reason.specs.Same.{EmptyText, SameParts, SameTexts}
use Rattle.reason.proofs.ReadBack.{Labels}
use Rattle.reason.proofs.Same.{same_text, no_text}

-- ---- "For a net that isn't gated the text is empty"

empty_map : (f : ℕ → Bytes) (ps : List ℕ) → empty (map f ps) ≡ empty ps
empty_map f [] = refl
empty_map f (p ∷ ps) = refl

pub empty_text : EmptyText
empty_text n =
    let g : Gates = gates (readable n) in
    no_text (reasons_of n)
    ∙ ap (λ (b : Bool). not (ltb 0 g.reads || ltb 0 g.inhibitors || ltb 0 g.non_kinetic || not b || g.delayed))
    (empty_map (label_at n.label n.lengths) g.bounded)

-- ---- "Two gated nets have equal texts exactly when …"

module _ (f : ℕ → Bytes) (ts : List Transition) (initial capacity : List ℕ) where
  one_place : (b : Bool) (p : ℕ) (ps : List ℕ) → label_fits (f p) ≡ true → Labels (map f ps) → Labels (map f (pick b (p ∷ ps) ps))
  one_place true p ps h r = (h, r)
  one_place false p ps h r = r

  bounded_labels : (p k : ℕ) → ((q : ℕ) → q < p + k → label_fits (f q) ≡ true) → Labels (map f (bounded_from ts p (places_from initial capacity p k)))
  bounded_labels p zero h = tt
  bounded_labels p (suc k) h =
      one_place (bounded ts p (record { initial = get_or initial p 0; capacity = get_or capacity p 0 })) p (bounded_from ts (suc p) (places_from initial capacity (suc p) k)) (h p (omega arith))
      (bounded_labels (suc p) k (λ q l. h q (omega arith)))

labels_of : (n : NetRecord) → fault n ≡ none → Labels (reasons_of n).bounded
unfolding gates
labels_of n e =
    bounded_labels (label_at n.label n.lengths) (transitions_from n 0 n.transitions) n.initial n.capacity 0 n.places
    (λ p h. (labelled n e).label p (omega arith))

all_same : (n m : NetRecord) → SameParts n m → reasons_of n ≡ reasons_of m
all_same n m e =
    λ i. record { reads = e.reads i; inhibitors = e.inhibitors i; non_kinetic = e.non_kinetic i; bounded = e.bounded i; delayed = e.delayed i }

parts : (n m : NetRecord) → reasons_of n ≡ reasons_of m → SameParts n m
parts n m e =
    record {
      reads = ap (λ (x : Reasons). x.reads) e;
      inhibitors = ap (λ (x : Reasons). x.inhibitors) e;
      non_kinetic = ap (λ (x : Reasons). x.non_kinetic) e;
      bounded = ap (λ (x : Reasons). x.bounded) e;
      delayed = ap (λ (x : Reasons). x.delayed) e;
    }

pub same_texts : SameTexts
same_texts n m e d _ _ = (
  λ t. parts n m ((same_text (reasons_of n) (reasons_of m) (labels_of n e) (labels_of m d)).0 t),
  λ p. ap reason_text (all_same n m p),
)
