-- Halting, carrying and changing: document 02, order 8's promises, sentence by sentence, of any nets, states, lists and numbers. A call that is not
-- refused is one that gives an answer. proofs/HaltingHeld.antt proves them.
use Rattle.std.specs.Prelude.{ℕ, ◌+◌, ◌≤◌, ◌<◌, ◌≡◌, Bool, true, false, ◌≢◌, List, [], ◌∷◌, ◌++◌, get_or, length, Float}
use Rattle.std.proofs.Math.Option.{none}
use Rattle.std.specs.Float.{binary64}
use Rattle.std.specs.Float.Ieee.{of_bits, sub, lt, le, eq, fits}
use Rattle.net.specs.Net.{Net, Marking, zero64, one64, held}
use Rattle.rng.specs.Xoshiro.{uniform}
use Rattle.portable_log.specs.Log.{plog}
use Rattle.rng.specs.State.{State as Generator}
use Rattle.rules.specs.Timers.{Timer}
use Rattle.rules.specs.Moves.{Entry, transition, weight_taken, initial_counts, taken_at, put_at}
use Rattle.rules.specs.Step.{given, counts_fit}
use Rattle.rules.specs.Moments.{moment, start, moment_after}
use Rattle.rules.specs.Run.{halted, entries}
use Rattle.rules.specs.Shown.{before, rising, accepted_path}
use Rattle.rules.specs.Demand3.{takes_once, EachAllowed, instant}
use Rattle.rules.specs.Carried.{Carried, run_onward, Onward, play_on, begun, path_naming, path_answer, then_call, calls, altogether, steps_given}
use Rattle.rules.specs.Change.{Pair, identity, renamed_timer, renamed, carry}
use Rattle.rules.specs.Balance.{takes_weigh, puts_weigh, balanced, balance, counts_weigh, weight_of}

-- the counts that an answer shows at instant i
abbrev pub counts_at : Onward → ℕ → Marking
counts_at a i = get_or a.shown i []

-- ---- a path call that names no number

-- naming none is naming any number not below the limit
abbrev pub NamesNone : Type 0
NamesNone = (n : Net) (g : Generator) (xs : List Float) (limit named : ℕ) → limit ≤ named → accepted_path n g xs limit ≡ path_answer (path_naming 256 n g xs limit named)

-- ---- halts, and calls that go on

-- playing h steps and then k, from any state whose instants rise, is playing h + k; and so for any calls in a row
abbrev pub TwoCalls : Type 0
TwoCalls = (room : ℕ) (n : Net) (c : Carried) → rising zero64 c.instants ≡ true → (h k : ℕ)
    → play_on room n c (h + k) ≡ then_call (play_on room n c h) (λ (d : Carried). play_on room n d k)

abbrev pub ManyCalls : Type 0
ManyCalls = (room : ℕ) (n : Net) (c : Carried) → rising zero64 c.instants ≡ true → (h : ℕ) (ks : List ℕ) → calls room n c h ks ≡ play_on room n c (h + altogether ks)

-- from a new path, halted at 0 steps, j calls of one step each give the answer of one call that names j (orders 10 and 11: "a path run alone to the
-- same step")
abbrev pub StepByStep : Type 0
StepByStep = (room : ℕ) (n : Net) (c : Carried) → rising zero64 c.instants ≡ true → (j : ℕ) → steps_given room n j (play_on room n c 0) ≡ play_on room n c j

-- What the tests of a net give: "Initial … 0..2^53", "delay 0..2^30", "Weights 0..1,000,000" of at most 16 arcs
pub record Bounded (n : Net) : Type 0 where
  pub initial : counts_fit (initial_counts n) ≡ true
  pub delays : (j : ℕ) → j < length n.transitions → le (transition n j).delay (of_bits binary64 0x41D0_0000_0000_0000) ≡ true
  pub weights : (j : ℕ) → j < length n.transitions → weight_taken (transition n j).takes ≤ 16_000_000

-- waiting times are not negative, so that the clock does not fall: the logarithm of 1 − x1 is not above 0
abbrev pub Waits : Type 0
Waits = (g : Generator) → lt zero64 (plog (sub binary64 one64 (uniform g))) ≡ false

-- "Changing to the same net with the identity list gives the unhalted path": where a path call that named h is halted, what it leaves passes the
-- tests, and the call that carries it and names k answers as one path call that names h + k ("save that a later 14 or 15 gives the generator back as
-- carried": Change, handed_back)
abbrev pub Unhalted : Type 0
Unhalted = (room : ℕ) (n : Net) → Bounded n → (g : Generator) (xs : List Float) (limit h k : ℕ) (a : Onward) → path_naming room n g xs limit h ≡ given a → a.end ≡ halted
    → carry room n n false false a.left (identity n) k ≡ path_naming room n g xs limit (h + k)

-- … and so gives the path that names no number, once the steps named are not fewer than the limit
abbrev pub UnhaltedPath : Type 0
UnhaltedPath = (n : Net) → Bounded n → (g : Generator) (xs : List Float) (limit h k : ℕ) (a : Onward) → path_naming 256 n g xs limit h ≡ given a → a.end ≡ halted
    → limit ≤ h + k → path_answer (carry 256 n n false false a.left (identity n) k) ≡ accepted_path n g xs limit

-- the carried times are binary64's, as a program's are
abbrev pub EachTime : (Float → Type 0) → List Timer → Type 0
EachTime P [] = Unit
EachTime P (x ∷ xs) = P x.at × EachTime P xs

pub record TimesFit (c : Carried) : Type 0 where
  pub clock : fits binary64 c.now.clock ≡ true
  pub timers : EachTime (λ (t : Float). fits binary64 t ≡ true) c.now.timers

-- … of a path that was carried before, too
abbrev pub UnhaltedAgain : Type 0
UnhaltedAgain = (room : ℕ) (old n : Net) → Bounded n → (short strange : Bool) (c : Carried) (ps : List Pair) → TimesFit c → (h k : ℕ) (a : Onward)
    → carry room old n short strange c ps h ≡ given a → a.end ≡ halted
    → carry room n n false false a.left (identity n) k ≡ carry room old n short strange c ps (h + k)

-- ---- "The same-counts property is wanted on each side"

-- "the first for the instants that two halted calls recorded": one net, one generator state, any lists, limits and numbers
abbrev pub FirstSide : Type 0
FirstSide = (room : ℕ) (n : Net) (g : Generator) (xs ys : List Float) (limit limit' h k : ℕ) (a b : Onward)
    → path_naming room n g xs limit h ≡ given a → path_naming room n g ys limit' k ≡ given b → a.end ≡ halted → b.end ≡ halted
    → (i j : ℕ) → i < length a.left.recorded → j < length b.left.recorded → eq (instant xs i) (instant ys j) ≡ true
    → counts_at a i ≡ counts_at b j

-- "two carried states alike once renamed, but for instants and records"
pub record Alike (c d : Carried) : Type 0 where
  pub now : c.now ≡ d.now
  pub steps : c.steps ≡ d.steps
  pub limit : c.limit ≡ d.limit
  pub peak : c.peak ≡ d.peak
  pub rounded : c.rounded ≡ d.rounded

-- "an instant of both lists is recorded at each of its positions in both, with the same counts, or at none in either": of its positions, i in one and
-- j in the other
pub data Matched (c d : Carried) (i j : ℕ) : Type 0 where
  in_both : i < length c.recorded → j < length d.recorded → get_or c.recorded i [] ≡ get_or d.recorded j [] → Matched c d i j
  in_none : length c.recorded ≤ i → length d.recorded ≤ j → Matched c d i j

abbrev pub AllMatched : Carried → Carried → Type 0
AllMatched c d = (i j : ℕ) → i < length c.instants → j < length d.instants → eq (instant c.instants i) (instant d.instants j) ≡ true → Matched c d i j

-- "the second for two carried states alike once renamed, but for instants and records, and played to an end": over one new net, from any old ones
abbrev pub SecondSide : Type 0
SecondSide = (room : ℕ) (new old old' : Net) (short short' strange strange' : Bool) (c d : Carried) (ps qs : List Pair) (h k : ℕ) (a b : Onward)
    → carry room old new short strange c ps h ≡ given a → carry room old' new short' strange' d qs k ≡ given b → a.end ≢ halted → b.end ≢ halted
    → Alike (renamed ps c) (renamed qs d) → AllMatched c d
    → (i j : ℕ) → i < length c.instants → j < length d.instants → eq (instant c.instants i) (instant d.instants j) ≡ true
    → counts_at a i ≡ counts_at b j

-- ---- "From the change the new net's rules apply"

-- what happens after the change, in the call that carries the path
abbrev pub after_change : ℕ → Net → Carried → List Pair → ℕ → List Entry
after_change room new c ps named = entries (run_onward room new (renamed ps c) named)

-- each transition that starts or fires after the change is enabled just then, in the new net
abbrev pub EnabledAfter : Type 0
EnabledAfter = (room : ℕ) (old new : Net) (short strange : Bool) (c : Carried) (ps : List Pair) (h : ℕ) (a : Onward) → carry room old new short strange c ps h ≡ given a
    → EachAllowed new c.now.counts (after_change room new c ps h)

-- the count of a place at an instant that the call shows anew is the carried count plus all that was put there and less all that was taken there
-- since the change, before the clock first reached that instant, or in the whole call if it never did
abbrev pub CountsAfter : Type 0
CountsAfter = (room : ℕ) (old new : Net) (short strange : Bool) (c : Carried) (ps : List Pair) (h : ℕ) (a : Onward) → carry room old new short strange c ps h ≡ given a
    → takes_once new.transitions ≡ true
    → (i : ℕ) → length c.recorded ≤ i → i < length a.shown → (p : ℕ) → p < length c.now.counts
    → held c.now.counts p + put_at new p (before (instant c.instants i) (after_change room new c ps h))
    ≡ held (counts_at a i) p + taken_at new p (before (instant c.instants i) (after_change room new c ps h))

-- recorded cells stand
abbrev pub RecordsStand : Type 0
RecordsStand = (room : ℕ) (old new : Net) (short strange : Bool) (c : Carried) (ps : List Pair) (h : ℕ) (a : Onward) → carry room old new short strange c ps h ≡ given a
    → (i : ℕ) → i < length c.recorded → counts_at a i ≡ get_or c.recorded i []

-- ---- "The weighted total of order 7"

-- order 7: "at every moment of any accepted path the weighted place counts plus the weighted inputs of the running timers equal the weighted initial
-- counts"; of a path call that names any number
abbrev pub WeightKept : Type 0
WeightKept = (ws : List ℕ) (n : Net) → takes_once n.transitions ≡ true → balance n ws ≡ given none
    → (room : ℕ) (g : Generator) (xs : List Float) (limit named : ℕ)
    → (past later : List Entry) → entries (run_onward room n (begun n g xs limit) named) ≡ past ++ later
    → weight_of n ws (moment_after n (start n) past) ≡ counts_weigh ws (initial_counts n)

-- "each carried timer's new outputs weigh what its old inputs do"
abbrev pub TimersMatch : List ℕ → Net → Net → List Pair → List Timer → Type 0
TimersMatch ws old new ps [] = Unit
TimersMatch ws old new ps (x ∷ xs) =
    (puts_weigh ws (transition new (renamed_timer ps x).who).puts ≡ takes_weigh ws (transition old x.who).takes) × TimersMatch ws old new ps xs

-- "promised across the change only where both nets balance, the carried state holds that total and each carried timer's new outputs weigh what its
-- old inputs do": then the state holds it once renamed, and so does every moment of the call. (That the old net balances is how the state came to
-- hold the total.)
abbrev pub WeightAfter : Type 0
WeightAfter = (room : ℕ) (ws : List ℕ) (old new : Net) (short strange : Bool) (c : Carried) (ps : List Pair) (h : ℕ) (a : Onward) → carry room old new short strange c ps h ≡ given a
    → takes_once new.transitions ≡ true → length ws ≡ length c.now.counts → balanced new ws ≡ true
    → TimersMatch ws old new ps c.now.timers
    → (whole : ℕ) → weight_of old ws (moment c.now) ≡ whole
    → (past later : List Entry) → after_change room new c ps h ≡ past ++ later
    → weight_of new ws (moment_after new (moment (renamed ps c).now) past) ≡ whole

-- ---- all of it

pub record Order8 : Type 0 where
  pub names_none : NamesNone
  pub two_calls : TwoCalls
  pub many_calls : ManyCalls
  pub step_by_step : StepByStep
  pub unhalted : Unhalted
  pub unhalted_path : UnhaltedPath
  pub unhalted_again : UnhaltedAgain
  pub first_side : FirstSide
  pub second_side : SecondSide
  pub records_stand : RecordsStand
  pub enabled_after : EnabledAfter
  pub counts_after : CountsAfter
  pub weight_kept : WeightKept
  pub weight_after : WeightAfter
