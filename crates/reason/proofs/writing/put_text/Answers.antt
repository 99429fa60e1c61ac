-- `put_text` meets its contract: the text fits the buffer that it is put together in (Bound), stands there in front (Told, Scratch), and goes from there
-- to the lent buffer.
use mathlib.Core.Path.{◌≡◌, ap, sym, ◌∙◌}
use Prim.Native.Nat.{ℕ, ◌^◌, ◌≤◌, ◌<◌}
use native.Mathlib.Omega.{arith}
use mathlib.Core.List.{List}
use lib.Seq.{length-take-le}
use Rattle.std.specs.Prelude.{Option, Some}
use lib.ListN.{length, replicate, length-replicate}
use Rattle.text.specs.Text.{Bytes}
use Rattle.text.specs.Buffer.{written}
use Rattle.text.proofs.Places.{fitted_not}
use Rattle.net.specs.Labels.{label_at}
use Rattle.gates.specs.Gated.{gates_of}
use Rattle.gates.specs.declared.Gates.{Gates}
use Rattle.reason.specs.Parts.{then_all}
use Rattle.reason.specs.Reasons.{Reasons, reason_text}
use Rattle.reason.specs.Call.{reasons}
use Rattle.reason.proofs.Bound.{labels_short, text_bound}
use Rattle.reason.proofs.Told.{all_told}
use Rattle.reason.proofs.Scratch.{inside, text_held}
use Rattle.reason.proofs.writing.put_text.Goals as goal

-- the buffer in which the text is put together
empty : Bytes
empty = replicate 2080 0

empty_length : length empty ≡ 2080
unfolding empty
empty_length = length-replicate {A = ℕ} 2080 0

module _ (label : Bytes) (lengths : List ℕ) (g : Gates) where
  abbrev said : Reasons
  said = reasons (label_at label lengths) (gates_of g)

  fits : g.reads < 2 ^ 64 → g.inhibitors < 2 ^ 64 → g.nonkinetic < 2 ^ 64 → length (reason_text said) ≤ length empty
  fits hr hi hn =
      let few = labels_short label lengths g.bounded in
      let bound : length (reason_text said) ≤ 2080 = text_bound said hr hi hn few.0 few.1 in
      omega (arith, empty_length)

  held : {s : Bytes × Option ℕ} → length (reason_text said) ≤ length empty → s ≡ then_all (empty, Some 0) said → s ≡ written empty 0 (reason_text said)
  held h e = e ∙ all_told empty said h

pub returns-in_err-n : goal.returns-in_err-n
unfolding empty
returns-in_err-n c =
    let n = c.args.net.now in
    let h = fits n.label.now n.lengths.now c.args.g (omega arith) (omega arith) (omega arith) in
    absurd (fitted_not empty 0 (reason_text (said n.label.now n.lengths.now c.args.g)) (omega (arith, h)) (held n.label.now n.lengths.now c.args.g h c.in_err-n.ensures))

pub slice_bounds-text-end : goal.slice_bounds-text-end
unfolding empty
slice_bounds-text-end c =
    let n = c.args.net.now in
    let h = fits n.label.now n.lengths.now c.args.g (omega arith) (omega arith) (omega arith) in
    inside empty _ _ _ h (held n.label.now n.lengths.now c.args.g h c.in_ok-n.ensures)

pub slice_bounds-put_bytes-end : goal.slice_bounds-put_bytes-end
unfolding empty
slice_bounds-put_bytes-end c =
    let n = c.args.net.now in
    let h = fits n.label.now n.lengths.now c.args.g (omega arith) (omega arith) (omega arith) in
    sym (length-take-le _ _ (inside empty _ _ _ h (held n.label.now n.lengths.now c.args.g h c.in_ok-n.ensures)))

pub returns : goal.returns
unfolding empty
returns c =
    let n = c.args.net.now in
    let h = fits n.label.now n.lengths.now c.args.g (omega arith) (omega arith) (omega arith) in
    c.put_bytes.ensures ∙ ap (written c.args.out.now 0) (text_held empty _ _ _ h (held n.label.now n.lengths.now c.args.g h c.in_ok-n.ensures))
