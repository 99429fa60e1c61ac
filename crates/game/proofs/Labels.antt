-- A call is made of the net's fault and of the net that the rules see; the crate net has that neither depends on labels where 17 and 18 are not in
-- question. Assumes nothing.
use Prim.Native.Nat.{ℕ}
use mathlib.Core.List.{List}
use Rattle.net.specs.declared.Net.{Net as NetRecord}
use Rattle.net.proofs.Apart.{labels_apart}
use Rattle.game.specs.Call.{after_net, unless_fault, called}
use Rattle.game.specs.Labels.{SameAnswer}

pub same_answer : (n : NetRecord) (label lengths : List ℕ) → SameAnswer n label lengths
unfolding called
same_answer n label lengths e e' sides p c turns =
    let apart = labels_apart n label lengths in
    λ i. unless_fault (apart.same_fault e e' i) (after_net (apart.same_net i) sides p c turns)
