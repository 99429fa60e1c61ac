-- The published soak load: its net, its text, and what a call leaves. Document 02, order 14.
use Rattle.std.specs.Prelude.{ℕ, zero, suc, ◌%◌, Bool, true, ◌&&◌, List, [], ◌∷◌, ◌++◌, eqb, leb, Float, Option, Some, None, Result, Ok, Err}
use Rattle.std.specs.Float.{binary64}
use Rattle.std.specs.Float.Ieee.{of_bits}
use Rattle.refusals.specs as Reason
use Rattle.refusals.specs.Number.{number_of}
use Rattle.refusals.specs.declared.Refusal.{Refusal}
use Rattle.net.specs.Net.{Place, Transition, Net, pick, numbered, zero64}
use Rattle.rng.specs.State.{State}
use Rattle.rng.specs.Splitmix.{seeded}
use Rattle.rng.specs.Xoshiro.{output, step}
use Rattle.text.specs.Text.{Bytes, bytes}
use Rattle.text.specs.Numbers.{decimal_text}
use Rattle.text.specs.Buffer.{written}
use Rattle.net_text.specs.Reading.{RunLine}
use Rattle.net_writing.specs.Writing.{net_text}

-- ---- the choices

-- "with seed 0 read as 1"
abbrev pub drawn_as : ℕ → ℕ
drawn_as seed = pick (eqb seed 0) 1 seed

abbrev pub start : ℕ → State
start seed = seeded (drawn_as seed)

-- "each choice is the next raw output modulo the number of options"; behind it the generator has made one step
abbrev pub choice : State → ℕ → ℕ
choice s options = output s % options

-- the generator behind k choices
abbrev pub after : ℕ → State → State
after zero s = s
after (suc k) s = after k (step s)

-- ---- the net

-- "First P initial counts from 0..9"; "no capacity"
abbrev pub places_from : ℕ → State → List Place
places_from zero s = []
places_from (suc k) s = record { initial = choice s 10; capacity = 0 } ∷ places_from k (step s)

-- "a rate from 1, 2, 4, 8"
abbrev pub rate_from : ℕ → Float
rate_from zero = of_bits binary64 0x3FF0_0000_0000_0000
rate_from (suc zero) = of_bits binary64 0x4000_0000_0000_0000
rate_from (suc (suc zero)) = of_bits binary64 0x4010_0000_0000_0000
rate_from (suc (suc (suc k))) = of_bits binary64 0x4020_0000_0000_0000

-- a transition with one take and one put: "weights 1, kinetic takes, no delay"
abbrev pub moving : ℕ → ℕ → ℕ → Transition
moving taken put rate =
    record {
      rate = rate_from rate;
      delay = zero64;
      takes = record { place = taken; weight = 1; kinetic = true } ∷ [];
      puts = record { place = put; weight = 1 } ∷ [];
      reads = [];
      blocks = [];
    }

-- "then per transition a take place, a put place, and a rate", over so many places
abbrev pub moves_from : ℕ → ℕ → State → List Transition
moves_from places zero s = []
moves_from places (suc k) s =
    moving (choice s places) (choice (step s) places) (choice (step (step s)) 4) ∷ moves_from places k (step (step (step s)))

unfoldable pub soak_net : ℕ → ℕ → ℕ → Net
soak_net seed places transitions =
    record { places = places_from places (start seed); transitions = moves_from places transitions (after places (start seed)) }

-- "labels are q0, q1 and so on"
abbrev pub soak_label : ℕ → Bytes
soak_label k = bytes "q" ++ decimal_text k

abbrev pub soak_labels : ℕ → List Bytes
soak_labels places = numbered soak_label 0 places

-- "11 samples, 1 path, the given seed as given, and horizon 10"
abbrev pub soak_run : ℕ → RunLine
soak_run seed = record { samples = 11; realizations = 1; seed = seed; horizon = 0x4024_0000_0000_0000 }

-- ---- the text, and the call

unfoldable pub soak_text : ℕ → ℕ → ℕ → Bytes
soak_text seed places transitions = net_text (soak_net seed places transitions) (soak_labels places) (soak_run seed)

-- "place count P in 1..32 and transition count T in 1..16"
abbrev pub sized : ℕ → ℕ → Bool
sized places transitions = leb 1 places && leb places 32 && leb 1 transitions && leb transitions 16

-- "a short buffer 19, …; otherwise the text's length is returned"
abbrev pub answer_of : Option ℕ → Result ℕ ℕ
answer_of (Some n) = Ok n
answer_of None = Err Reason.short_buffer

-- the program's answer, its refusal by its number, as order 14 gives it
abbrev pub told : Result ℕ Refusal → Result ℕ ℕ
told (Ok n) = Ok n
told (Err e) = Err (number_of e)

abbrev pub answered : Bytes × Option ℕ → Bytes × Result ℕ ℕ
answered s = (s.0, answer_of s.1)

-- The buffer that a call leaves, and its answer: "A wrong P or T is refusal 2 and a short buffer 19, in that order, nothing written". The text stands
-- at the buffer's front, and "the bytes after it stay".
unfoldable pub called : Bytes → ℕ → ℕ → ℕ → Bytes × Result ℕ ℕ
called out seed places transitions =
    pick (sized places transitions) (answered (written out 0 (soak_text seed places transitions))) (out, Err Reason.bad_size)
