-- `slow_in` is `root_in`: m << (v % 2) shifts nothing out of the word, and `slow_root` finds what `placed` asks for. Assumes nothing.
use Rattle.std.proofs.Common.{arith}
use Rattle.root.proofs.Scaled.{word_range}
use Rattle.root.proofs.slow_in.Goals as goal

pub slow_root-requires : goal.slow_root-requires
slow_root-requires c = let r = word_range c.args.m c.args.v c.requires.0 c.requires.1 in (omega arith, omega arith)
