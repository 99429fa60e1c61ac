-- `reduced` halves m << 11 once where the exponent's field is odd, so the power of two that is left has the other parity. Assumes nothing.
use Rattle.std.proofs.Common.{◌≡◌, ℕ, ◌+◌, ◌*◌, ◌/◌, ◌%◌, ◌^◌, ◌<◌, ◌⊎◌, inl, inr, arith}
use Rattle.root.proofs.Scaled.{parity}
use Rattle.root.proofs.reduced.Goals as goal

halved : (m e : ℕ) → m < 2 ^ 53 → (m * 2 ^ 11) % 2 ^ 64 / 2 ^ (e % 2) ≡ m * 2 ^ ((e + 1021) % 2) * 2 ^ 10
halved m e l = go (parity e)
  where
    go : (e % 2 ≡ 0) ⊎ (e % 2 ≡ 1) → (m * 2 ^ 11) % 2 ^ 64 / 2 ^ (e % 2) ≡ m * 2 ^ ((e + 1021) % 2) * 2 ^ 10
    go (inl h) = let k : (e + 1021) % 2 ≡ 1 = omega arith in rw (h, k) (omega arith)
    go (inr h) = let k : (e + 1021) % 2 ≡ 0 = omega arith in rw (h, k) (omega arith)

pub returns : goal.returns
returns c = halved (c.args.b % 2 ^ 52 + 2 ^ 52) (c.args.b / 2 ^ 52) (omega arith)
