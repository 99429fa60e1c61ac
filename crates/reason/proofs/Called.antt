-- The call's answer by the net's tests. Assumes nothing.
use Prim.Native.Nat.{ℕ}
use mathlib.Core.Path.{◌≡◌, sym, ap, ◌∙◌}
use mathlib.Core.Option.{Option, none, some}
use Rattle.text.specs.Text.{Bytes}
use Rattle.net.specs.declared.Net.{Net as NetRecord}
use Rattle.net.specs.Readable.{fault}
use Rattle.reason.specs.Call.{reason_of, answered, unless_fault, called}
use Rattle.std.specs.Prelude.{Result, Err}

module _ (n : NetRecord) (out : Bytes) where
  by_tests : {a : Option ℕ} → fault n ≡ a → called n out ≡ unless_fault a out (answered out (reason_of n))
  unfolding called
  by_tests e = ap (λ (x : Option ℕ). unless_fault x out (answered out (reason_of n))) e

  pub by_fault : {c : ℕ} → fault n ≡ some c → (out, Err c) ≡ called n out
  by_fault e = sym (by_tests e)

  pub by_text : fault n ≡ none → {x : Bytes × Result ℕ ℕ} → x ≡ answered out (reason_of n) → x ≡ called n out
  by_text e h = h ∙ sym (by_tests e)
