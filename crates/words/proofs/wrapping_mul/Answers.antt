-- `words::wrapping_mul` meets its contract. Products of halves fit, and `low_digits_lem` at the base 2 ^ 32 says what their sum is. Assumes nothing.
use Rattle.std.proofs.Common.{rules}
use Rattle.words.proofs.Mul.{below, low_digits_lem}
use Rattle.words.proofs.wrapping_mul.Goals as goal

pub overflow_mul-low : goal.overflow_mul-low
overflow_mul-low c = record { fits = below 32 (search rules) (search rules) }

pub overflow_mul-cross : goal.overflow_mul-cross
overflow_mul-cross c = record { fits = below 32 (search rules) (search rules) }

pub overflow_mul-cross-2 : goal.overflow_mul-cross-2
overflow_mul-cross-2 c = record { fits = below 32 (search rules) (search rules) }

pub returns : goal.returns
returns c = cc (low_digits_lem 0x1_0000_0000 c.args.a c.args.b)
