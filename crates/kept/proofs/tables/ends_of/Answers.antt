-- The ends before j are filled. Assumes nothing.
use native.Mathlib.Omega.{arith}
use mathlib.Core.Path.{◌≡◌}
use mathlib.Core.Bool.{true}
use mathlib.Core.Logic.{◌⊎◌, ⊎_elim}
use Prim.Native.Nat.{ℕ, ◌+◌, ◌*◌, ◌≤◌, ◌<◌}
use lib.ListN.{get_or}
use Rattle.net.specs.declared.Net.{Net as NetRecord}
use Rattle.net.specs.Record.{net_of}
use Rattle.kept.specs.Kept.{single}
use Rattle.kept.proofs.Filling.{filling_none, filling_more}
use Rattle.kept.proofs.tables.ends_of.Invariants.{End}
use Rattle.kept.proofs.tables.ends_of.Goals as goal

end_told : (n : NetRecord) (j e x : ℕ) → 16 * j + get_or n.arcs j 0 ≤ 1024 → e ≤ 16 * j + get_or n.arcs j 0
    → ((a : ℕ) → e ≤ a → 16 * j ≤ a → a < 16 * j + get_or n.arcs j 0 → get_or n.kind a 0 ≡ 0 → ⊥)
    → get_or n.place (16 * j) 0 < 32
    → (x ≡ e) ⊎ ((x ≡ 2048 + get_or n.place (16 * j) 0) × (e ≡ 16 * j + 1) × (single n.kind n.weight (16 * j) ≡ true))
    ⊎ ((x ≡ 4096) × (e ≡ 16 * j + 2) × (single n.kind n.weight (16 * j) ≡ true) × (single n.kind n.weight (16 * j + 1) ≡ true)) → End n j x
end_told n j e x low h f p s =
    ⊎_elim
    (λ z. record { inside = λ l. omega arith; behind = λ a l u v w k. f a (omega arith) v w k; alone = λ l. absurd (omega arith); two = λ l. absurd (omega arith) })
    (⊎_elim
    (λ z.
    record {
      inside = λ l. absurd (omega (arith, z.0));
      behind = λ a l. absurd (omega (arith, z.0));
      alone = λ l k. record { there = omega (arith, z.1); takes = z.2; from = omega (arith, z.0); behind = λ a u v k. f a (omega (arith, z.1)) (omega arith) v k };
      two = λ l. absurd (omega (arith, z.0));
    })
    (λ z.
    record {
      inside = λ l. absurd (omega (arith, z.0));
      behind = λ a l. absurd (omega (arith, z.0));
      alone = λ l k. absurd (omega (arith, z.0));
      two = λ l. record { there = omega (arith, z.1); takes = z.2; takes_too = z.3; behind = λ a u v k. f a (omega (arith, z.1)) (omega arith) v k };
    }))
    s

pub loop-j-init : goal.loop-j-init
loop-j-init c = filling_none 0 (End (net_of c.args.net.now)) c.args.ends.now c.requires.1

pub overflow_add-from : goal.overflow_add-from
overflow_add-from c = omega (arith, c.requires.0.transitions, c.requires.0.arcs c.loop-j.j)

pub end_of-end-requires : goal.end_of-end-requires
end_of-end-requires c = (omega arith, omega (arith, c.requires.0.transitions, c.requires.0.arcs c.loop-j.j))

pub told-requires : goal.told-requires
told-requires c =
    let t = c.requires.0 in
    (omega (arith, t.transitions), omega (arith, c.end_of-end.ensures.0, t.transitions, t.arcs c.loop-j.j), λ a. omega (arith, t.place a, t.places))

pub loop-j-preserved : goal.loop-j-preserved
loop-j-preserved c =
    let n = net_of c.args.net.now in
    let t = c.requires.0 in
    let e = c.end_of-end in
    let j = c.loop-j.j in
    filling_more 0 (End n) c.loop-j.ends j c.loop-j.invariant (omega (arith, t.transitions)) c.told.result
    (end_told n j e.result c.told.result (omega (arith, t.transitions, t.arcs j)) e.ensures.0 e.ensures.1
    (omega (arith, t.place (16 * j), t.places)) c.told.ensures)

pub returns : goal.returns
returns c = (
  record {
    inside = λ j h. (c.loop-j.invariant.each j (omega arith)).inside;
    behind = λ j a h. (c.loop-j.invariant.each j (omega arith)).behind a;
    alone = λ j h. (c.loop-j.invariant.each j (omega arith)).alone;
    two = λ j h. (c.loop-j.invariant.each j (omega arith)).two;
  },
  c.loop-j.invariant.long,
)
