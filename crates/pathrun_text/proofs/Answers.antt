-- What the reader's answer prints, and what stands in a buffer that holds every output or could be too short for one.
use Prim.Native.Nat.{ℕ, ◌≤◌, ◌<◌}
use mathlib.Core.Path.{◌≡◌, sym, ap, subst, ◌∙◌}
use mathlib.Core.Bool.{Bool, cond}
use mathlib.Core.Option.{none}
use lib.ListN.{length}
use borrow.Author.Tests.{le-leb, lt-leb}
use Rattle.std.specs.Prelude.{Result, Ok, Err}
use Rattle.refusals.specs.Number.{number_of}
use Rattle.net.specs.Readable.{readable, labels, fault}
use Rattle.text.specs.Text.{Bytes}
use Rattle.text.specs.Buffer.{placed}
use Rattle.net_text.specs.Answered.{NetRead, meaning, AcceptedBy}
use Rattle.net_text.specs.Position.{run_of}
use Rattle.net_text.specs.declared.NetText.{NetText}
use Rattle.net_text.specs.declared.TurnedDown.{TurnedDown}
use Rattle.result_text.specs.Lines.{refused_line}
use Rattle.pathrun_text.specs.Pathrun.{request, ran, answered, output, longest, printed_into}
use Rattle.pathrun_text.specs.Printing.{in_front}

module _ (out w : Bytes) where
  pub long_enough : longest ≤ length out → in_front out w ≡ printed_into out w
  long_enough h = ap (λ (b : Bool). cond b (placed out 0 w, length w) (out, 0)) (sym (le-leb _ _ h))

  pub too_short : length out < longest → ◌≡◌ {A = Bytes × ℕ} (out, 0) (printed_into out w)
  too_short h = ap (λ (b : Bool). cond b (placed out 0 w, length w) (out, 0)) (sym (lt-leb _ _ h))

module _ (text : Bytes) (r : Result NetText TurnedDown) (is : NetRead text r) where
  prints : (q : Result NetText TurnedDown) → r ≡ q → answered (meaning q) ≡ output text
  unfolding output
  prints q e = ap (λ (p : Result NetText TurnedDown). answered (meaning p)) (sym e) ∙ ap answered is.is

  -- m is the refusal's number as the program computes it
  pub on_refused : (d : TurnedDown) → r ≡ Err d → {m : ℕ} → m ≡ number_of d.refusal → refused_line m d.line ≡ output text
  on_refused d e is_number = ap (λ (k : ℕ). refused_line k d.line) is_number ∙ prints (Err d) e

  pub on_given : (g : NetText) → r ≡ Ok g → ran (readable g.net) (labels g.net) (request (run_of g.run)) ≡ output text
  on_given g e = prints (Ok g) e

  pub given_accepted : (g : NetText) → r ≡ Ok g → fault g.net ≡ none
  given_accepted g e = subst AcceptedBy e is.passes
