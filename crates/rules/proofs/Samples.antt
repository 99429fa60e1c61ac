-- Small nets worked by the definitions, at any generator state: nothing races in them, so nothing is drawn.
use Prim.Native.Nat.{ℕ}
use mathlib.Core.Path.{◌≡◌, refl}
use mathlib.Core.Bool.{true, false}
use mathlib.Core.List.{List, [], ◌∷◌}
use mathlib.Core.Option.{none, some}
use lib.Ieee.{Float, binary64, of_bits, of_int, add, sub, mul, div, neg, lt, le, eq}
use Rattle.net.specs.Net.{Transition, Net, Marking, zero64, one64}
use Rattle.rng.specs.State.{State as Generator}
use Rattle.rules.specs.Step.{Answer, refused, given}
use Rattle.rules.specs.Run.{End, quiet, spent, reached, halted, refuses, beginning, run}
use Rattle.rules.specs.Shown.{accepted_path}
use Rattle.rules.specs.Exact.{exact_ways, adds_rounded}
use Rattle.rules.specs.Balance.{balance}
use Rattle.rules.specs.Carried.{Onward, path_naming}
use Rattle.rules.specs.Change.{Pair, identity, carry}

-- a transition of delay 1 that takes from place p and puts into place q
abbrev delayed : ℕ → ℕ → ℕ → ℕ → Transition
delayed p takes q puts = record {
  rate = one64;
  delay = one64;
  takes = record { place = p; weight = takes; kinetic = true } ∷ [];
  puts = record { place = q; weight = puts } ∷ [];
  reads = [];
  blocks = [];
}

abbrev two : Float
two = of_bits binary64 0x4000_0000_0000_0000

abbrev to_two : List Float
to_two = zero64 ∷ one64 ∷ two ∷ []

-- ---- the sample of document 01: at instant 1 both subscribers are in timers, which the peak counts

abbrev sample : Net
sample = record {
  places = record { initial = 2; capacity = 0 } ∷ record { initial = 0; capacity = 0 } ∷ [];
  transitions = delayed 0 1 1 1 ∷ [];
}

sampled : (g : Generator) → accepted_path sample g to_two 1000 ≡ given (record {
  shown = (2 ∷ 0 ∷ []) ∷ (0 ∷ 0 ∷ []) ∷ (0 ∷ 2 ∷ []) ∷ [];
  end = quiet;
  steps = 3;
  settled = 3;
  peak = 2;
  rounded = 0;
  generator = g;
})
unfolding of_bits of_int add mul div lt le eq
sampled g = refl

-- "or with limit 2 is spent"
limited : (g : Generator) → accepted_path sample g to_two 2 ≡ given (record {
  shown = (2 ∷ 0 ∷ []) ∷ (0 ∷ 0 ∷ []) ∷ (0 ∷ 2 ∷ []) ∷ [];
  end = spent;
  steps = 2;
  settled = 2;
  peak = 2;
  rounded = 0;
  generator = g;
})
unfolding of_bits of_int add mul div lt le eq
limited g = refl

-- a second timer does not start where there is room for one
no_room : (g : Generator) → run 1 sample two 1000 (beginning sample g) ≡ refuses 15
unfolding of_bits of_int add mul div lt le eq
no_room g = refl

-- ---- a peak that no instant shows: five are put at 1, and start again before the clock moves on

abbrev brief : Net
brief = record {
  places = record { initial = 1; capacity = 0 } ∷ record { initial = 0; capacity = 0 } ∷ record { initial = 0; capacity = 0 } ∷ [];
  transitions = delayed 0 1 1 5 ∷ delayed 1 5 2 1 ∷ [];
}

peaked : (g : Generator) → accepted_path brief g to_two 1000 ≡ given (record {
  shown = (1 ∷ 0 ∷ 0 ∷ []) ∷ (0 ∷ 0 ∷ 0 ∷ []) ∷ (0 ∷ 0 ∷ 0 ∷ []) ∷ [];
  end = reached;
  steps = 2;
  settled = 3;
  peak = 5;
  rounded = 0;
  generator = g;
})
unfolding of_bits of_int add mul div lt le eq
peaked g = refl

-- the completion at the last instant is a moment, and the last of this run; no reading is as high
peaked_at_last : (g : Generator) → accepted_path brief g (zero64 ∷ one64 ∷ []) 1000 ≡ given (record {
  shown = (1 ∷ 0 ∷ 0 ∷ []) ∷ (0 ∷ 0 ∷ 0 ∷ []) ∷ [];
  end = reached;
  steps = 1;
  settled = 2;
  peak = 5;
  rounded = 0;
  generator = g;
})
unfolding of_bits of_int add mul div lt le eq
peaked_at_last g = refl

-- ---- order 7's answers

kept : balance brief (5 ∷ 1 ∷ 5 ∷ []) ≡ given none
kept = refl

not_kept : balance brief (5 ∷ 1 ∷ 1 ∷ []) ≡ given (some 1)
not_kept = refl

too_few : balance brief (5 ∷ 1001 ∷ []) ≡ refused 3
too_few = refl

too_heavy : balance brief (5 ∷ 1001 ∷ 5 ∷ []) ≡ refused 4
too_heavy = refl

-- ---- order 6: three of 2^53 can be chosen in more ways than a float says exactly, two of five in just 10

-- one transition of that delay that takes w from the only place
abbrev choosing : Float → ℕ → Net
choosing delay w = record {
  places = record { initial = 5; capacity = 0 } ∷ [];
  transitions = record {
    rate = one64;
    delay = delay;
    takes = record { place = 0; weight = w; kinetic = true } ∷ [];
    puts = [];
    reads = [];
    blocks = [];
  } ∷ [];
}

rounds : adds_rounded (choosing zero64 3) (9007199254740992 ∷ []) ≡ true
unfolding exact_ways of_bits of_int mul div lt eq
rounds = refl

does_not : adds_rounded (choosing zero64 2) (5 ∷ []) ≡ false
unfolding exact_ways of_bits of_int mul div lt eq
does_not = refl

-- a propensity of 0 is exact, whatever its binomial: a delayed transition has no other
zero_is_exact : adds_rounded (choosing one64 3) (9007199254740992 ∷ []) ≡ false
unfolding exact_ways of_bits of_int mul div lt eq
zero_is_exact = refl

-- ---- order 8: the sample, halted and carried; two steps and another would follow, three steps and nothing is left

-- end, steps, settled instants, peak, and the counts shown
record Seen : Type 0 where
  pub end : End
  pub steps : ℕ
  pub settled : ℕ
  pub peak : ℕ
  pub shown : List Marking

abbrev seen : Answer Onward → Answer Seen
seen (refused k) = refused k
seen (given o) = given (record { end = o.end; steps = o.left.steps; settled = o.settled; peak = o.left.peak; shown = o.shown })

abbrev called : Generator → List Float → ℕ → ℕ → Answer Onward
called g xs limit named = path_naming 256 sample g xs limit named

-- the state that a halted call leaves, and a carrying call from there
abbrev on_from : Answer Onward → ℕ → Answer Onward
on_from (refused k) named = refused k
on_from (given o) named = carry 256 sample sample false false o.left (identity sample) named

-- "once it has done that many and another would follow": another step finds that nothing is left
two_steps : (g : Generator) → seen (called g to_two 10 2)
    ≡ given (record { end = halted; steps = 2; settled = 2; peak = 2; shown = (2 ∷ 0 ∷ []) ∷ (0 ∷ 0 ∷ []) ∷ [] })
unfolding of_bits of_int add sub mul div neg lt le eq
two_steps g = refl

three_steps : (g : Generator) → seen (called g to_two 10 3)
    ≡ given (record { end = quiet; steps = 3; settled = 3; peak = 2; shown = (2 ∷ 0 ∷ []) ∷ (0 ∷ 0 ∷ []) ∷ (0 ∷ 2 ∷ []) ∷ [] })
unfolding of_bits of_int add sub mul div neg lt le eq
three_steps g = refl

-- two steps, and then one
two_and_one : (g : Generator) → seen (on_from (called g to_two 10 2) 1) ≡ seen (called g to_two 10 3)
unfolding of_bits of_int add sub mul div neg lt le eq
two_and_one g = refl

-- at the limit's last step it is spent, and with a last instant of 0 it is reached at once
limit_two : (g : Generator) → seen (called g to_two 2 2)
    ≡ given (record { end = spent; steps = 2; settled = 2; peak = 2; shown = (2 ∷ 0 ∷ []) ∷ (0 ∷ 0 ∷ []) ∷ (0 ∷ 2 ∷ []) ∷ [] })
unfolding of_bits of_int add sub mul div neg lt le eq
limit_two g = refl

no_steps : (g : Generator) → seen (called g to_two 10 0) ≡ given (record { end = halted; steps = 0; settled = 1; peak = 2; shown = (2 ∷ 0 ∷ []) ∷ [] })
unfolding of_bits of_int add sub mul div neg lt le eq
no_steps g = refl

at_once : (g : Generator) → seen (called g (zero64 ∷ []) 10 0) ≡ given (record { end = reached; steps = 0; settled = 1; peak = 2; shown = (2 ∷ 0 ∷ []) ∷ [] })
unfolding of_bits of_int add sub mul div neg lt le eq
at_once g = refl

-- ---- refusals: a timer runs after one step

abbrev changed : Net → List Pair → Answer Onward → Answer Onward
changed new ps (refused k) = refused k
changed new ps (given o) = carry 256 sample new false false o.left ps 1

-- the sample's transition behind one without delay
abbrev later : Net
later = record {
  places = sample.places;
  transitions = record {
    rate = one64;
    delay = zero64;
    takes = record { place = 1; weight = 2; kinetic = true } ∷ [];
    puts = record { place = 0; weight = 2 } ∷ [];
    reads = [];
    blocks = [];
  } ∷ sample.transitions;
}

abbrev refusal : Answer Onward → ℕ
refusal (refused k) = k
refusal (given o) = 0

unlisted : (g : Generator) → refusal (changed later [] (called g to_two 10 1)) ≡ 22
unfolding of_bits of_int add sub mul div neg lt le eq
unlisted g = refl

undelayed : (g : Generator) → refusal (changed later (record { old = 0; new = 0 } ∷ []) (called g to_two 10 1)) ≡ 22
unfolding of_bits of_int add sub mul div neg lt le eq
undelayed g = refl

out_of_range : (g : Generator) → refusal (changed later (record { old = 0; new = 2 } ∷ []) (called g to_two 10 1)) ≡ 21
unfolding of_bits of_int add sub mul div neg lt le eq
out_of_range g = refl

-- the second timer takes its new number, and puts by the new net
renamed_on : (g : Generator) → seen (changed later (record { old = 0; new = 1 } ∷ []) (called g to_two 10 1))
    ≡ given (record { end = halted; steps = 2; settled = 2; peak = 2; shown = (2 ∷ 0 ∷ []) ∷ (0 ∷ 0 ∷ []) ∷ [] })
unfolding of_bits of_int add sub mul div neg lt le eq
renamed_on g = refl
