-- What the loops over an accepted net's transitions share, on top of the laws of its slots (crate engine, proofs/Arcs). Assumes nothing.
use Prim.Native.Nat.{ℕ, ◌+◌, ◌-◌, ◌*◌, ◌≤◌, ◌<◌}
use mathlib.Core.Path.{◌≡◌, sym, ap, ◌∙◌}
use mathlib.Core.Bool.{true, false}
use mathlib.Core.List.{List}
use native.Mathlib.Omega.{arith}
use lib.Dec.{ltb}
use lib.ListN.{get_or}
use Rattle.net.specs.declared.Net.{Net as NetRecord}
use Rattle.net.specs.Net.{moved, taken_by}
use Rattle.net.specs.Sound.{Sound}
use Rattle.net.specs.Readable.{Slot, takes_of, arcs_of, is_put, transition}
use borrow.Author.Tests.{lt-ltb, le-ltb}
use Rattle.engine.specs.Arcs.{Light}
use Rattle.engine.proofs.Arcs.{span, slots_of_lem}
use Rattle.gates.specs.Gated.{raises}

-- the slots of transition j of an accepted net
pub light : (n : NetRecord) → Sound n → (j : ℕ) → j < n.transitions → Light (16 * j) (16 * j + get_or n.arcs j 0) n.weight
light n s j h a low high =
    let d : 16 * j + (a - 16 * j) ≡ a = omega arith in
    let g = s.weight j (a - 16 * j) h (omega arith) in
    let e = ap (λ (b : ℕ). get_or n.weight b 0) d in
    omega arith

-- ---- the change of one transition

module _ (n : NetRecord) (j p : ℕ) {put taken : ℕ} (e : put ≡ moved (arcs_of is_put (span n j)) p) (d : taken ≡ taken_by (takes_of (span n j)) p) where
  raises_is : ltb taken put ≡ raises p (transition n j)
  raises_is =
      (λ i. ltb (d i) (e i))
      ∙ ap (λ (ls : List Slot). ltb (taken_by (takes_of ls) p) (moved (arcs_of is_put ls) p)) (slots_of_lem n j)

  pub raises_yes : taken < put → raises p (transition n j) ≡ true
  raises_yes h = sym raises_is ∙ lt-ltb taken put h

  pub raises_no : put ≤ taken → raises p (transition n j) ≡ false
  raises_no h = sym raises_is ∙ le-ltb taken put h
