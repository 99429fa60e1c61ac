-- A path that is halted between two steps and played on: the path call that names a number of steps, and the call that carries a path to another net. What they
-- answer, the state they give back and what they leave in the table. Document 02, order 8; the rules are in the crate rules (Carried, Change).
use Rattle.std.specs.Prelude.{ℕ, ◌*◌, ◌≤◌, ◌≡◌, not, List, [], length, drop, replicate, Float}
use Rattle.std.proofs.Math.Option.{Option, none, some}
use Rattle.refusals.specs as Refusal
use Rattle.net.specs.declared.Net.{Net as NetRecord}
use Rattle.net.specs.Net.{Net, pick, zero64}
use Rattle.net.specs.Readable.{readable, fault}
use Rattle.net.specs.Tests.{first_of, or_else}
use Rattle.rng.specs.State.{State as Generator, words}
use Rattle.rules.specs.Step.{State, state, Answer, refused, given}
use Rattle.rules.specs.Run.{End}
use Rattle.rules.specs.Shown.{instants_fit, limit_fits}
use Rattle.rules.specs.Carried.{Carried, Onward, play_on, begun}
use Rattle.rules.specs.Change.{Pair, carried_tests, renaming_tests, renamed, carry_fault}
use Rattle.engine.specs.Engine.{marking}
use Rattle.carried.specs.Timers.{timers_in}
use Rattle.carried.specs.Records.{record_strange, recorded_in}
use Rattle.ssa.specs.declared.Halted.{Halted}
use Rattle.ssa.specs.declared.Onward.{Onward as OnwardAnswer}
use Rattle.playing.specs.Cells.{table_with, cleared}
use Rattle.ssa.specs.Path as Path
use Rattle.ssa.specs.Path.{end_of, table_fits}

-- ---- a path between two steps

-- "clock, counts, generator, step count, step limit, peak, order 6's count, the instants with what is recorded of them, and running timers go over": all but
-- the instants and the recorded cells, which are lent beside it
pub record Standing : Type 0 where
  -- clock, counts, running timers and generator
  pub now : State
  pub steps : ℕ
  pub limit : ℕ
  pub peak : ℕ
  pub rounded : ℕ
  -- how many instants are recorded
  pub recorded : ℕ

-- as the struct says it, over so many places
abbrev pub standing_of : ℕ → Halted → Standing
standing_of places h =
    record {
      now = state h.clock (marking places h.counts) (timers_in h.timers.ats h.timers.whos h.timers.takens h.timers.len) (words h.generator.s);
      steps = h.steps;
      limit = h.limit;
      peak = h.peak;
      rounded = h.rounded;
      recorded = h.recorded;
    }

-- of a path of the rules
abbrev pub standing : Carried → Standing
standing c =
    record { now = c.now; steps = c.steps; limit = c.limit; peak = c.peak; rounded = c.rounded; recorded = length c.recorded }

-- the path of the rules, with its instants and with what a table of so many places has recorded of them
abbrev pub carried_from : ℕ → Standing → List Float → List Float → Carried
carried_from places s xs table =
    record {
      now = s.now;
      steps = s.steps;
      limit = s.limit;
      peak = s.peak;
      rounded = s.rounded;
      instants = xs;
      recorded = recorded_in places (length xs) table s.recorded;
    }

-- ---- what a call answers and leaves

pub record Call : Type 0 where
  pub end : Answer End
  pub settled : ℕ
  pub state : Standing
  pub table : List Float

-- a refusal, with this state given back and this table left
abbrev pub turned_down : ℕ → Standing → List Float → Call
turned_down c s table = record { end = refused c; settled = 0; state = s; table = table }

abbrev pub unless_fault : Option ℕ → Standing → List Float → Call → Call
unless_fault none s table call = call
unless_fault (some c) s table call = turned_down c s table

-- The answer of a run from a path with so many instants recorded, over n instants. Recorded cells stand, and those of a halted path that it has not recorded
-- are left. Refused on the way, "every cell of the answer +0, recorded ones too", and the state s is given back.
abbrev pub played : ℕ → ℕ → ℕ → Standing → List Float → Answer Onward → Call
played places n recorded s table (refused c) = turned_down c s (cleared (places * n) table)
played places n recorded s table (given o) =
    record {
      end = given o.end;
      settled = o.settled;
      state = standing o.left;
      table = table_with places n recorded (drop recorded o.shown) table;
    }

-- ---- "A path call may name a number of steps"

-- what a call that is refused gives for a state: no count, no timer, no step, and the generator as it came
abbrev pub unbegun : ℕ → Generator → Standing
unbegun places g = record { now = state zero64 (marking places (replicate 32 0)) [] g; steps = 0; limit = 0; peak = 0; rounded = 0; recorded = 0 }

-- 12, 13, 11, as of a path call that names none
abbrev pub naming_after_net : ℕ → Net → Generator → List Float → ℕ → ℕ → List Float → Call
naming_after_net all n g xs limit named table =
    let places = length n.places in
    let nothing = unbegun all g in
    let answer = played places (length xs) 0 nothing table (play_on 256 n (begun n g xs limit) named) in
    pick (instants_fit xs)
    (pick (limit_fits limit)
    (pick (table_fits places (length xs) table) answer (turned_down Refusal.short_table nothing table))
    (turned_down Refusal.bad_limit nothing table))
    (turned_down Refusal.bad_instants nothing table)

unfoldable pub naming : NetRecord → Generator → List Float → ℕ → ℕ → List Float → Call
naming n g xs limit named table =
    unless_fault (fault n) (unbegun n.places g) table (naming_after_net n.places (readable n) g xs limit named table)

-- ---- "The call that carries a path"

-- the tests of the state, of its records and of the renaming list (rules, Change), then the run over the new net
abbrev pub after_nets : Net → Net → List Pair → Standing → List Float → ℕ → List Float → Call
after_nets old new ps s xs named table =
    let places = length old.places in
    let c = carried_from places s xs table in
    let short = not (table_fits places (length xs) table) in
    let strange = record_strange places (length xs) s.recorded table in
    let answer = played places (length xs) s.recorded s table (play_on 256 new (renamed ps c) named) in
    unless_fault (carry_fault 256 old new short strange c ps) s table answer

-- the first test that a carrying call meets, over so many places: the old net, then the new one, then the tests of order 8 in its order
abbrev pub carrying_fault : ℕ → NetRecord → NetRecord → List Pair → Standing → List Float → List Float → Option ℕ
carrying_fault places old new ps s xs table =
    let c = carried_from places s xs table in
    let short = not (table_fits places (length xs) table) in
    let strange = record_strange places (length xs) s.recorded table in
    or_else (fault old) (or_else (fault new) (carry_fault 256 (readable old) (readable new) short strange c ps))

-- "after the old net and then the new one"
unfoldable pub carrying : NetRecord → NetRecord → List Pair → Standing → List Float → ℕ → List Float → Call
carrying old new ps s xs named table =
    unless_fault (fault old) s table (unless_fault (fault new) s table (after_nets (readable old) (readable new) ps s xs named table))

-- a carried path that no test turns down, once the nets are accepted, over so many places
abbrev pub Passes : ℕ → Net → List Pair → Halted → List Float → List Float → Type 0
Passes places new ps h xs table =
    let c = carried_from places (standing_of places h) xs table in
    (first_of (carried_tests 256 (not (table_fits places (length xs) table)) (record_strange places (length xs) h.recorded table) c) ≡ none)
    × ((old : Net) × (length old.places ≡ places) × (length old.transitions ≤ 64) × (first_of (renaming_tests old new c ps) ≡ none))

-- ---- what the program's answer and table say, over so many places

abbrev pub call_of : ℕ → OnwardAnswer → List Float → Call
call_of places r table = record { end = end_of r.end; settled = r.settled; state = standing_of places r.state; table = table }

-- what a path call answers of it
abbrev pub path_call : Call → Path.Call
path_call c =
    record {
      end = c.end;
      steps = c.state.steps;
      settled = c.settled;
      peak = c.state.peak;
      rounded = c.state.rounded;
      generator = c.state.now.generator;
      table = c.table;
    }
