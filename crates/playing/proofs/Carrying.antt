-- What is carried over an event, and at the beginning. Assumes nothing.
use Prim.Native.Nat.{ℕ, ◌≤◌}
use mathlib.Core.Path.{◌≡◌, refl, sym, ap, ◌∙◌}
use mathlib.Core.List.{List}
use native.Mathlib.Omega.{arith}
use lib.Bits.{bit_or}
use lib.Dec.{ltb}
use lib.ListN.{length, replicate}
use lib.Ieee.{Float}
use Rattle.words.specs.Bits.{bit}
use Rattle.net.specs.declared.Net.{Net as NetRecord}
use Rattle.net.specs.Net.{Marking, zero64}
use Rattle.net.specs.Readable.{readable}
use Rattle.net.proofs.Lengths.{transitions_length}
use Rattle.engine.specs.Guards.{Quiet}
use Rattle.kept.proofs.Keeping.{kept_quiet, marked_quiet, kept_first, marked_first, summed_first}
use Rattle.playing.specs.Keeping.{Carried}
use Rattle.playing.specs.declared.step.Keeping.{Keeping}

-- nothing is owed before the event, and then what it has changed
pub carried_on : (n : NetRecord) (m m' : Marking) (k : Keeping) (props sums : List Float) (moved crossed : ℕ) → Carried n m k props sums → k.moved ≡ 0 → k.crossed ≡ 0
    → Quiet (readable n) m m' moved crossed → Carried n m' (record { moved = moved; crossed = crossed; able = k.able; marks = k.marks; a0 = k.a0 }) props sums
carried_on n m m' k props sums moved crossed c e f q =
    let a : bit_or k.moved moved ≡ moved = ap (λ (x : ℕ). bit_or x moved) e in
    let b : bit_or k.crossed crossed ≡ crossed = ap (λ (x : ℕ). bit_or x crossed) f in
    record {
      kept = rw (a, b) at (kept_quiet (readable n) m m' k.moved k.crossed moved crossed k.able q props c.kept);
      marked = rw (a, b) at (marked_quiet (readable n) m m' k.moved k.crossed moved crossed k.able q k.marks c.marked);
      summed = c.summed;
      long_props = c.long_props;
      long_sums = c.long_sums;
    }

-- at the beginning nothing is known of any transition
pub carried_first : (n : NetRecord) (m : Marking) (all : ℕ) → n.transitions ≤ 64 → ((j : ℕ) → bit all j ≡ ltb j n.transitions)
    → Carried n m (record { moved = 0; crossed = all; able = 0; marks = 0; a0 = zero64 }) (replicate 64 zero64) (replicate 64 zero64)
carried_first n m all h s =
    let t = transitions_length n in
    let w : (j : ℕ) → bit all j ≡ ltb j (length (readable n).transitions) = λ j. s j ∙ ap (ltb j) (sym t) in
    record {
      kept = kept_first (readable n) m all w (omega (arith, t));
      marked = marked_first (readable n) m all w;
      summed = summed_first n.transitions h;
      long_props = refl;
      long_sums = refl;
    }
