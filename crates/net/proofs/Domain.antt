-- What refuses a transition by 4, slot by slot. Assumes nothing.
use mathlib.Core.Path.{◌≡◌, sym, ap, ◌∙◌}
use mathlib.Core.Bool.{Bool, true, false, ◌||◌, not}
use mathlib.Core.List.{List}
use lib.Dec.{ltb}
use lib.Ieee.{Float}
use Rattle.net.specs.Net.{Arc}
use Rattle.net.specs.Tests.{any, arcs, rate_fits, delay_fits, outside}
use Rattle.net.specs.Readable.{Slot, transition_of, strange}
use Rattle.net.proofs.Slots.{any_arcs, any_or}

module _ (s : Bool) (r d : Float) (ls : List Slot) where
  abbrev whole : Bool
  whole = s || strange ls || outside (transition_of r d ls)

  abbrev heavy : Bool
  heavy = any (λ (a : Arc). ltb 1_000_000 a.weight) (arcs (transition_of r d ls))

  pub by_arcs : s ≡ false → rate_fits r ≡ true → delay_fits d ≡ true → any (λ (l : Slot). ltb 4 l.kind || ltb 1_000_000 l.weight) ls ≡ whole
  by_arcs e f g =
      any_or (λ (l : Slot). ltb 4 l.kind) (λ (l : Slot). ltb 1_000_000 l.weight) ls
      ∙ ap (λ (b : Bool). strange ls || b) (sym (any_arcs (λ (a : Arc). ltb 1_000_000 a.weight) r d ls))
      ∙ sym
      (ap (λ (b : Bool). b || strange ls || outside (transition_of r d ls)) e
      ∙ ap (λ (b : Bool). strange ls || (not b || not (delay_fits d) || heavy)) f
      ∙ ap (λ (b : Bool). strange ls || (not b || heavy)) g)
