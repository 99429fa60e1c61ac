-- `slow_root` is nearest: n << 10 makes `whole_root` cut the root of 4 * (n * 2 ^ 52), and half of that, rounded, is nearest. Assumes nothing.
use Rattle.std.proofs.Common.{◌*◌, ◌^◌, arith}
use Rattle.root.proofs.Squares.{CutRoot, root_and_rest, root_pos, nearest_half}
use Rattle.root.proofs.slow_root.Goals as goal

pub returns : goal.returns
returns c =
    let w = c.whole_root-r in
    let n = c.args.n in
    let r = w.ensures in
    let g : CutRoot (4 * (n * 2 ^ 52)) w.result.root = root_and_rest {d = w.result.rem} (omega (arith, r.0)) r.1 in
    nearest_half (n * 2 ^ 52) w.result.root (root_pos g (omega arith)) g
