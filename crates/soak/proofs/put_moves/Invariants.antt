-- `put_moves` meets its contract. The invariant: what is left of the transitions, written from here, is all of them written.
use mathlib.Core.Path.{◌≡◌}
use Prim.Native.Nat.{◌-◌}
use Rattle.std.specs.Prelude.{Some}
use Rattle.rng.specs.State.{words}
use Rattle.soak.specs.Words.{then_all, moves_words}
use Rattle.soak.proofs.put_moves.Given as goal

abbrev pub invariant-loop : goal.invariant-loop
invariant-loop l =
    then_all (l.out, Some l.end) (moves_words l.places (l.transitions - l.counter) (words l.rng.s)) ≡ then_all (l.initial.out, Some l.at) (moves_words l.places l.transitions (words l.initial.rng.s))
