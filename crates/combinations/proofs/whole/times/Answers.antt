-- `times` keeps the number: its odd part times that of n, by columns, and the twos of both. Where the upper column outgrows a word, both sides have passed
-- 2 ^ 100, and it is no longer followed. Assumes nothing.
use native.Mathlib.Omega.{arith}
use mathlib.Core.Path.{◌≡◌, sym}
use Prim.Native.Nat.{◌*◌}
use Rattle.combinations.proofs.Parts.{times, fitting, outgrown, by_carry, by_upper}
use Rattle.combinations.proofs.whole.times.Goals as goal

pub returns-then-carry-above : goal.returns-then-carry-above
returns-then-carry-above c =
    let p = c.args.p in
    let o = c.stripped-f.result.low in
    let h : c.wrapping_mul-above.result ≡ p.high * o = omega (arith, c.if-high-eq0.true, c.high.ensures, c.wrapping_mul-above.ensures) in (
      λ N g.
          times N c.args.n p.high p.low p.twos o c.stripped-f.result.twos _ _ g (sym c.stripped-f.ensures.2) c.stripped-f.ensures.1
          (fitting p.high p.low o h c.high-carry.ensures c.wrapping_mul.ensures),
      omega arith,
    )

pub returns-else-carry-above : goal.returns-else-carry-above
returns-else-carry-above c =
    let p = c.args.p in
    let o = c.stripped-f.result.low in
    let h : c.wrapping_mul-above.result ≡ p.high * o = omega (arith, c.if-high-eq0.true, c.high.ensures, c.wrapping_mul-above.ensures) in (
      λ N g.
          times N c.args.n p.high p.low p.twos o c.stripped-f.result.twos _ _ g (sym c.stripped-f.ensures.2) c.stripped-f.ensures.1
          (outgrown p.high p.low o (by_carry h c.high-carry.ensures c.if-carry-above.false)),
      omega arith,
    )

pub returns-else-high-eq0 : goal.returns-else-high-eq0
returns-else-high-eq0 c =
    let p = c.args.p in
    let o = c.stripped-f.result.low in (
      λ N g.
          times N c.args.n p.high p.low p.twos o c.stripped-f.result.twos _ _ g (sym c.stripped-f.ensures.2) c.stripped-f.ensures.1
          (outgrown p.high p.low o (by_upper (p.high * o) _ c.high.ensures c.if-high-eq0.false)),
      omega arith,
    )
