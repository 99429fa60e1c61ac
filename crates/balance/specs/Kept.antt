-- What the answer yes stands for. Document 02, order 7: "If yes, … at every moment of any accepted path the weighted place counts plus the weighted inputs of
-- the running timers equal the weighted initial counts." The theorem is proofs/Kept, kept.
use Rattle.std.specs.Prelude.{ℕ, ◌≡◌, List}
use Rattle.std.proofs.Math.Option.{none}
use Rattle.net.specs.declared.Net.{Net as NetRecord}
use Rattle.net.specs.Readable.{readable}
use Rattle.rules.specs.Step.{given}
use Rattle.rules.specs.Balance.{balance, Conserved}
use Rattle.balance.specs.Call.{called}

-- The weights balance the net, and of this net everything holds that is promised of its runs (Balance of the crate rules; of path calls, Subscribers of the
-- crate ssa).
abbrev pub Kept : NetRecord → List ℕ → Type 0
Kept n ws = called n ws ≡ given none → (balance (readable n) ws ≡ given none) × Conserved (readable n)
