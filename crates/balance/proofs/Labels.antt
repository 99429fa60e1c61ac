-- A call is made of the net's fault and of the net that the rules see; the crate net has that neither depends on labels where 17 and 18 are not in
-- question. Assumes nothing.
use Prim.Native.Nat.{ℕ}
use mathlib.Core.List.{List}
use Rattle.net.specs.declared.Net.{Net as NetRecord}
use Rattle.net.proofs.Apart.{labels_apart}
use Rattle.rules.specs.Balance.{balance}
use Rattle.balance.specs.Call.{unless_fault, called}
use Rattle.balance.specs.Labels.{SameAnswer}

pub same_answer : (n : NetRecord) (label lengths : List ℕ) → SameAnswer n label lengths
unfolding called
same_answer n label lengths e e' ws =
    let apart = labels_apart n label lengths in
    λ i. unless_fault (apart.same_fault e e' i) (balance (apart.same_net i) ws)
