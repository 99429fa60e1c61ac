-- What is left is n * 2 ^ -53 for the whole number n, and its logarithm goes by the pattern of n (`at_rest`); n has the same value as an i64.
use mathlib.Core.Path.{◌≡◌, ◌∙◌}
use Prim.Native.Nat.{ℕ, ◌-◌, ◌/◌, ◌^◌}
use native.Mathlib.Omega.{arith}
use lib.IntN.{pos}
use mir.Syntax.{w64}
use mir.Val.{to_z}
use mir.Facts.{to_z_pos}
use Rattle.portable_log.proofs.Rest.{whole_is_no_nan, whole_lt, at_rest}
use Rattle.portable_log.proofs.plog_of_rest.Goals as goal

same : (x : ℕ) → to_z w64 (2 ^ 53 - x / 2 ^ 11) ≡ pos (2 ^ 53 - x / 2 ^ 11)
same x = to_z_pos w64 (omega arith)

pub float_to_bits-n : goal.float_to_bits-n
float_to_bits-n c = rw (same c.args.x) (whole_is_no_nan (2 ^ 53 - c.args.x / 2 ^ 11) (omega arith))

pub scaled_log-requires : goal.scaled_log-requires
scaled_log-requires c = (rw (same c.args.x) (whole_lt c.args.x (omega arith)), omega arith)

pub returns : goal.returns
returns c = rw (same c.args.x) at c.scaled_log.ensures ∙ at_rest c.args.x (omega arith)
