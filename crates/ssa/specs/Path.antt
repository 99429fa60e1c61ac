-- The path call: its answer and what it leaves in the table. Document 01, "000", "Added" and "Each operation's turn-downs: Path".
use Rattle.std.specs.Prelude.{ℕ, ◌*◌, Bool, List, leb, length, Float}
use Rattle.std.proofs.Math.Option.{Option, none, some}
use Rattle.refusals.specs as Refusal
use Rattle.net.specs.declared.Net.{Net as NetRecord}
use Rattle.net.specs.Net.{Net, pick}
use Rattle.net.specs.Readable.{readable, fault}
use Rattle.net.specs.Tests.{or_else}
use Rattle.rng.specs.State.{State as Generator, words}
use Rattle.playing.specs.Cells.{table_of, cleared}
use Rattle.rules.specs.Step.{Answer, refused, given}
use Rattle.rules.specs.Run.{End}
use Rattle.rules.specs.Shown.{Path, instants_fit, limit_fits, worked}
pub use Rattle.playing.specs.Ends.{end_of}
use Rattle.ssa.specs.declared.PathAnswer.{PathAnswer}

-- ---- the answer

-- what the call answers and leaves in the table
pub record Call : Type 0 where
  pub end : Answer End
  pub steps : ℕ
  pub settled : ℕ
  pub peak : ℕ
  pub rounded : ℕ
  pub generator : Generator
  pub table : List Float

-- a refusal gives the generator back as lent, and 0 for steps, settled instants, peak and rounded steps
abbrev pub turned_down : ℕ → Generator → List Float → Call
turned_down c g table = record { end = refused c; steps = 0; settled = 0; peak = 0; rounded = 0; generator = g; table = table }

-- the answer of the run, or its refusal: then the cells of the answer are +0
abbrev pub played : ℕ → ℕ → Generator → List Float → Answer Path → Call
played places n g table (refused c) = turned_down c g (cleared (places * n) table)
played places n g table (given a) =
    record { end = given a.end; steps = a.steps; settled = a.settled; peak = a.peak; rounded = a.rounded; generator = a.generator; table = table_of places a.shown table }

-- "11 table too short"
abbrev pub table_fits : ℕ → ℕ → List Float → Bool
table_fits places n table = leb (places * n) (length table)

-- the first test that a call meets: "Where several apply, the one listed first is given"
abbrev pub call_fault : NetRecord → List Float → ℕ → List Float → Option ℕ
call_fault n xs k table =
    or_else (fault n)
    (pick (instants_fit xs)
    (pick (limit_fits k)
    (pick (table_fits n.places (length xs) table) none (some Refusal.short_table))
    (some Refusal.bad_limit))
    (some Refusal.bad_instants))

-- "12 …; 13 …; 11 …; these touch nothing"
abbrev pub after_net : Net → Generator → List Float → ℕ → List Float → Call
after_net n g xs k table =
    let places = length n.places in
    let answer = played places (length xs) g table (worked n g xs k) in
    pick (instants_fit xs)
    (pick (limit_fits k)
    (pick (table_fits places (length xs) table) answer (turned_down Refusal.short_table g table))
    (turned_down Refusal.bad_limit g table))
    (turned_down Refusal.bad_instants g table)

-- "tests it first by 2 to 7, in the text's order, touching nothing", and its labels by 17 and 18 (document 02, order 1)
abbrev pub unless_fault : Option ℕ → Generator → List Float → Call → Call
unless_fault none g table call = call
unless_fault (some c) g table call = turned_down c g table

unfoldable pub called : NetRecord → Generator → List Float → ℕ → List Float → Call
called n g xs k table = unless_fault (fault n) g table (after_net (readable n) g xs k table)

-- what the program's answer and table say
abbrev pub call_of : PathAnswer → List Float → Call
call_of r table =
    record { end = end_of r.end; steps = r.steps; settled = r.settled; peak = r.peak; rounded = r.rounded; generator = words r.generator.s; table = table }
