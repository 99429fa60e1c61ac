-- A call that answers yes was given an accepted net, which takes from a place once, and weights that balance it: so the rules' promise is about it. Assumes
-- nothing.
use Prim.Native.Nat.{ℕ}
use mathlib.Core.Path.{◌≡◌, refl}
use mathlib.Core.List.{List}
use mathlib.Core.Option.{Option, none, some}
use Rattle.net.specs.declared.Net.{Net as NetRecord}
use Rattle.net.specs.Readable.{readable, fault}
use Rattle.rules.specs.Step.{given}
use Rattle.rules.specs.Balance.{balance}
use Rattle.rules.proofs.TakesOnce.{takes_once_lem}
use Rattle.rules.proofs.Allowing.{refused_given}
use Rattle.rules.proofs.Balancing.{conserved}
use Rattle.balance.specs.Call.{unless_fault, called}
use Rattle.balance.specs.Kept.{Kept}

-- what an answer says of the net, and of the weights
accepted : (a : Option ℕ) (n : NetRecord) (ws : List ℕ) → fault n ≡ a → {x : Option ℕ} → unless_fault a (balance (readable n) ws) ≡ given x
    → (fault n ≡ none) × (balance (readable n) ws ≡ given x)
accepted none n ws e p = (e, p)
accepted (some c) n ws e p = refused_given p

pub answered : (n : NetRecord) (ws : List ℕ) {x : Option ℕ} → called n ws ≡ given x → (fault n ≡ none) × (balance (readable n) ws ≡ given x)
unfolding called
answered n ws p = accepted (fault n) n ws refl p

pub kept : (n : NetRecord) (ws : List ℕ) → Kept n ws
kept n ws p =
    let w = answered n ws p in
    (w.1, conserved (readable n) (takes_once_lem n w.0))
