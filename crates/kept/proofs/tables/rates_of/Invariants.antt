-- The rates before j are filled. Assumes nothing.
use mathlib.Core.Path.{◌≡◌}
use Prim.Native.Nat.{ℕ}
use lib.Ieee.{Float, nan}
use Rattle.net.specs.declared.Net.{Net as NetRecord}
use Rattle.net.specs.Net.{rate_of}
use Rattle.net.specs.Readable.{readable}
use Rattle.net.specs.Record.{net_of}
use Rattle.rules.specs.Moves.{transition}
use Rattle.kept.proofs.Filling.{Filling}
use Rattle.kept.proofs.tables.rates_of.Given as goal

abbrev pub Rate : NetRecord → ℕ → Float → Type 0
Rate n i x = x ≡ rate_of (transition (readable n) i)

abbrev pub invariant-loop-j : goal.invariant-loop-j
invariant-loop-j l = Filling nan (Rate (net_of l.net)) l.rates l.j
