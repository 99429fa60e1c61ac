-- `put_places` meets its contract. The invariant: what is left of the places, written from here, is all of them written; and the choices left from here
-- lead to the generator behind all of them.
use mathlib.Core.Path.{◌≡◌}
use Prim.Native.Nat.{◌-◌}
use Rattle.std.specs.Prelude.{Some}
use Rattle.rng.specs.State.{words}
use Rattle.soak.specs.Soak.{after}
use Rattle.soak.specs.Words.{then_all, places_words}
use Rattle.soak.proofs.put_places.Given as goal

abbrev pub invariant-loop-number : goal.invariant-loop-number
invariant-loop-number l =
    (then_all (l.out, Some l.end) (places_words l.number (l.places - l.number) (words l.rng.s)) ≡ then_all (l.initial.out, Some l.at) (places_words 0 l.places (words l.initial.rng.s)))
    × (after (l.places - l.number) (words l.rng.s) ≡ after l.places (words l.initial.rng.s))
