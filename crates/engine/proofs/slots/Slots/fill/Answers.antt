-- The first j transitions are done (Tidying, Done); the bounds of a used slot come from the net having no fault. Assumes nothing.
use native.Mathlib.Omega.{arith}
use mathlib.Core.Path.{ap, ◌∙◌, subst⁻¹}
use mathlib.Core.List.{List}
use Prim.Native.Nat.{ℕ, ◌+◌}
use Rattle.net.specs.Record.{net_of}
use Rattle.net.proofs.Sound.{sound}
use Rattle.engine.specs.declared.slots.Slots.{Slots}
use Rattle.engine.proofs.Tidying.{Done, done_none, group_lengths, second_room, done_more, all_tidied}
use Rattle.engine.proofs.slots.Slots.fill.Goals as goal

pub loop-j-init : goal.loop-j-init
loop-j-init c =
    let n = net_of c.args.net.now in
    let s = sound n c.requires.0 in
    let e = c.requires.1 in (
      done_none n s (ap (λ (x : Slots). x.arcs) e) (ap (λ (x : Slots). x.kind) e) (ap (λ (x : Slots). x.place) e) (ap (λ (x : Slots). x.weight) e),
      s.transitions,
    )

pub copy_slots-to-requires : goal.copy_slots-to-requires
copy_slots-to-requires c =
    let n = net_of c.args.net.now in
    let s = sound n c.requires.0 in
    let j = c.loop-j.j in
    let t = c.loop-j-test.true in
    let d = c.loop-j.invariant.0 in
    (omega (arith, s.arcs j t, s.transitions), omega (arith, group_lengths n s j t, s.arcs j t, s.transitions), d.long_kind, d.long_place, d.long_weight)

pub copy_slots-requires : goal.copy_slots-requires
copy_slots-requires c =
    let n = net_of c.args.net.now in
    let s = sound n c.requires.0 in
    let j = c.loop-j.j in
    let t = c.loop-j-test.true in
    let d = c.loop-j.invariant.0 in
    let e = c.copy_slots-to.ensures.0 in (
      omega (arith, s.arcs j t, s.transitions),
      omega (arith, second_room n s j t e, s.arcs j t, s.transitions),
      e.long_kind ∙ d.long_kind,
      e.long_place ∙ d.long_place,
      e.long_weight ∙ d.long_weight,
    )

pub loop-j-preserved : goal.loop-j-preserved
loop-j-preserved c =
    let n = net_of c.args.net.now in
    let new = c.copy_slots.new.self in (
      subst⁻¹ (λ (arcs : List ℕ). Done n arcs new.kind new.place new.weight (c.loop-j.j + 1)) (c.copy_slots.ensures.1 ∙ c.copy_slots-to.ensures.1)
          (done_more n (sound n c.requires.0) c.loop-j.j c.loop-j-test.true c.copy_slots-to.ensures.0 c.copy_slots.ensures.0 c.loop-j.invariant.0),
      c.loop-j.invariant.1,
    )

pub returns : goal.returns
returns c = all_tidied (net_of c.args.net.now) _ _ _ _ c.loop-j.j c.loop-j.invariant.0 c.loop-j-test.false c.requires.0
