-- Which event it is stands in the definition as it does in the program.
use Rattle.net.specs.Record.{net_of}
use Rattle.rules.specs.Step.{State}
use Rattle.playing.specs.Stepping.{state_of}
use Rattle.playing.proofs.Steps.{event_completes, event_races}
use Rattle.playing.proofs.firing.happen.Goals as goal
use Rattle.playing.proofs.firing.happen.Goals.{Start}

abbrev from : Start → State
from s = state_of (net_of s.args.net.now) s.args.counts.now s.args.ats.now s.args.owners.now s.args.ring s.args.clock s.args.rng.s

pub returns-then-completes : goal.returns-then-completes
returns-then-completes c =
    record {
      is = event_completes (net_of c.args.net.now) (from (goal.at.returns-then-completes c).Start) c.args.a0 c.args.props.now _ _ c.if-completes.true c.complete.ensures.is;
      ready = c.complete.ensures.ready;
      quiet = c.complete.ensures.quiet;
    }

pub returns : goal.returns
returns c =
    record {
      is = event_races (net_of c.args.net.now) (from (goal.at.returns c).Start) c.args.a0 c.args.props.now _ _ c.if-completes.false c.race.ensures.is;
      ready = c.race.ensures.ready;
      quiet = c.race.ensures.quiet;
    }
