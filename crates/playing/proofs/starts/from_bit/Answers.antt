-- The word shifted down and up again; from bit 64 on there is none. Assumes nothing.
use Prim.Native.Nat.{ℕ, ◌^◌, ◌≤◌, ◌<◌}
use mathlib.Core.Path.{◌≡◌, refl, sym, ap, ◌∙◌}
use mathlib.Core.Bool.{Bool, true, false, ◌&&◌}
use native.Mathlib.Omega.{arith}
use native.Mathlib.Decide.{dec_le}
use native.Mathlib.Nat.{mod-lt}
use lib.Dec.{leb}
use borrow.Author.Tests.{lt-leb}
use Rattle.words.specs.Bits.{bit}
use Rattle.words.proofs.Bits.{bit_none, bit_beyond}
use Rattle.playing.proofs.Ahead.{bit_from}
use Rattle.playing.proofs.starts.from_bit.Goals as goal

none : (w j : ℕ) → w < 2 ^ 64 → false ≡ (leb 64 j && bit w j)
none w j h = go (dec_le 64 j)
  where
    and_off : (b : Bool) → (b && false) ≡ false
    and_off true = refl
    and_off false = refl

    go : Dec (64 ≤ j) → false ≡ (leb 64 j && bit w j)
    go (yes l) = sym (ap (λ (b : Bool). leb 64 j && b) (bit_beyond 64 w j h l) ∙ and_off (leb 64 j))
    go (no l) = let e : leb 64 j ≡ false = lt-leb 64 j (omega arith) in rw e

pub returns-then-k-eq64 : goal.returns-then-k-eq64
returns-then-k-eq64 c =
    (λ j. bit_none j ∙ none c.args.word j c.ranges.word.fits ∙ ap (λ (k : ℕ). leb k j && bit c.args.word j) (sym c.if-k-eq64.true), omega arith)

pub returns : goal.returns
returns c = (λ j. bit_from c.args.k c.args.word j c.ranges.word.fits, mod-lt _ (omega arith))
