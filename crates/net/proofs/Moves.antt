-- The first fault of a transition, by what a walk over its slots says of each test: `true` at the first that applies, `false` before it.
-- Assumes nothing.
use Prim.Native.Nat.{ℕ, ◌+◌, ◌-◌, ◌*◌}
use mathlib.Core.Path.{◌≡◌, sym, ap, ◌∙◌}
use mathlib.Core.Bool.{Bool, true, false, ◌||◌, ◌&&◌}
use mathlib.Core.List.{List}
use mathlib.Core.Option.{Option, none, some}
use native.Mathlib.Omega.{arith}
use lib.Dec.{eqb, leb, ltb}
use lib.Ieee.{Float, lt}
use Rattle.net.specs.declared.Net.{Net as NetRecord}
use Rattle.net.specs.Net.{Arc, Transition, pick, zero64}
use Rattle.net.specs.Tests.{any, too_many, no_such_place, outside, taken_twice, delayed_for_nothing, empty, twice}
use Rattle.net.specs.Readable.{Slot, slots, takes_of, transition_of, strange, slots_fault}
use Rattle.net.proofs.Slots.{length_slots, length_arcs, any_arcs, taken, kinetic}
use Rattle.net.proofs.Faults.{stop, pass}

module _ (n : NetRecord) (before : ℕ) (odd : Bool) (rate delay : Float) (count : ℕ) where
  -- the slots of the transition, as the contract has them and as the functions that are called have them
  abbrev ls : List Slot
  ls = slots n.kind n.place n.weight (16 * before) count

  abbrev walked : List Slot
  walked = slots n.kind n.place n.weight (16 * before) (16 * before + count - 16 * before)

  same : walked ≡ ls
  same =
      let e : 16 * before + count - 16 * before ≡ count = omega arith in
      ap (slots n.kind n.place n.weight (16 * before)) e

  abbrev t : Transition
  t = transition_of rate delay ls

  -- ---- what is said of each test
  abbrev Said-2 : Bool → Type 0
  Said-2 b = b ≡ (eqb n.places 0 || leb 64 before || ltb 16 count)

  abbrev Said-3 : Bool → Type 0
  Said-3 b = b ≡ any (λ (l : Slot). leb n.places l.place) walked

  abbrev Said-4 : Bool → Type 0
  Said-4 b = b ≡ (odd || strange walked || outside (transition_of rate delay walked))

  abbrev Said-5 : Bool → Type 0
  Said-5 b = b ≡ twice (taken walked)

  abbrev Said-6 : Bool → Type 0
  Said-6 b = b ≡ (lt zero64 delay && empty (takes_of walked))

  abbrev Said-7 : Bool → Type 0
  Said-7 b = b ≡ ltb 16 (kinetic walked)

  is_2 : {b : Bool} → Said-2 b → too_many n.places before t ≡ b
  is_2 e =
      ap (λ (k : ℕ). eqb n.places 0 || leb 64 before || ltb 16 k)
      (length_arcs rate delay ls ∙ length_slots n.kind n.place n.weight (16 * before) count)
      ∙ sym e

  is_3 : {b : Bool} → Said-3 b → no_such_place n.places t ≡ b
  is_3 e =
      any_arcs (λ (a : Arc). leb n.places a.place) rate delay ls
      ∙ sym (e ∙ ap (any (λ (l : Slot). leb n.places l.place)) same)

  is_4 : {b : Bool} → Said-4 b → (odd || strange ls || outside t) ≡ b
  is_4 e = sym (e ∙ ap (λ (l : List Slot). odd || strange l || outside (transition_of rate delay l)) same)

  is_5 : {b : Bool} → Said-5 b → taken_twice t ≡ b
  is_5 e = sym (e ∙ ap (λ (l : List Slot). twice (taken l)) same)

  is_6 : {b : Bool} → Said-6 b → delayed_for_nothing t ≡ b
  is_6 e = sym (e ∙ ap (λ (l : List Slot). lt zero64 delay && empty (takes_of l)) same)

  is_7 : {b : Bool} → Said-7 b → ltb 16 (kinetic ls) ≡ b
  is_7 e = sym (e ∙ ap (λ (l : List Slot). ltb 16 (kinetic l)) same)

  -- ---- the first that applies
  abbrev fault : Option ℕ
  fault = slots_fault n.places before odd rate delay ls

  pub by_2 : Said-2 true → some 2 ≡ fault
  by_2 e = stop 2 _ (is_2 e)

  pub by_3 : Said-2 false → Said-3 true → some 3 ≡ fault
  by_3 a e = pass 2 (is_2 a) (stop 3 _ (is_3 e))

  pub by_4 : Said-2 false → Said-3 false → Said-4 true → some 4 ≡ fault
  by_4 a b e = pass 2 (is_2 a) (pass 3 (is_3 b) (stop 4 _ (is_4 e)))

  pub by_5 : Said-2 false → Said-3 false → Said-4 false → Said-5 true → some 5 ≡ fault
  by_5 a b c e = pass 2 (is_2 a) (pass 3 (is_3 b) (pass 4 (is_4 c) (stop 5 _ (is_5 e))))

  pub by_6 : Said-2 false → Said-3 false → Said-4 false → Said-5 false → Said-6 true → some 6 ≡ fault
  by_6 a b c d e = pass 2 (is_2 a) (pass 3 (is_3 b) (pass 4 (is_4 c) (pass 5 (is_5 d) (stop 6 _ (is_6 e)))))

  pub by_7 : Said-2 false → Said-3 false → Said-4 false → Said-5 false → Said-6 false → {b : Bool} → Said-7 b → pick b (some 7) none ≡ fault
  by_7 a b c d f e = pass 2 (is_2 a) (pass 3 (is_3 b) (pass 4 (is_4 c) (pass 5 (is_5 d) (pass 6 (is_6 f) (sym (ap (λ (y : Bool). pick y (some 7) none) (is_7 e)))))))
