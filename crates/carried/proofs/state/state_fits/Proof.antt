-- Each refusal is the definition's by the test that gives it. The last answer is given where no other test was met, so that the weights decide.
use Rattle.std.proofs.Common.{ℕ, List, take, sym, ◌∙◌, arith, rules}
use lib.Ieee.{Float}
use Rattle.net.specs.Net.{Marking}
use Rattle.rng.specs.State.{State as Generator}
use Rattle.rules.specs.Step.{state}
use Rattle.rules.specs.Carried.{Carried}
use Rattle.timers.proofs.Places.{length_from}
use Rattle.carried.specs.Timers.{timers_in}
use Rattle.carried.proofs.Tested.{by_room, by_counts, by_limit, by_rounded, by_clock, by_times, by_weights}
use Rattle.carried.proofs.state.state_fits.Statement.{statement}
use Rattle.carried.proofs.state.state_fits.Tie as tie

abbrev carried : tie.Start → List ℕ → Generator → ℕ → List Float → List Marking → Carried
carried s whos g peak xs shown =
    let a = s.args in
    record {
      now = state a.clock (take a.places a.counts.now) (timers_in a.ats.now whos a.takens.now a.n) g;
      steps = a.steps;
      limit = a.limit;
      peak = peak;
      rounded = a.rounded;
      instants = xs;
      recorded = shown;
    }

returns : tie.Need-returns-then-n-gt256
returns c = λ whos g peak xs shown. by_room (carried c.before whos g peak xs shown) (rw length_from c.if-n-gt256.true)

counts-fit-requires : tie.Need-counts_fit-requires
counts-fit-requires c κs = search rules

returns-2 : tie.Need-returns-then-not-counts_fit
returns-2 c =
    let s = c.before.before.before in
    λ whos g peak xs shown. by_counts (carried s whos g peak xs shown) (sym c.counts_fit.ensures ∙ c.if-not-counts_fit.true)

returns-3 : tie.Need-returns-then-limit-steps
returns-3 c = λ whos g peak xs shown. by_limit (carried c.before.before.before.before whos g peak xs shown) c.if-limit-steps.true

returns-4 : tie.Need-returns-then-steps-rounded
returns-4 c = λ whos g peak xs shown. by_rounded (carried c.before.before.before.before.before whos g peak xs shown) c.if-steps-rounded.true

time-fits-requires : tie.Need-time_fits-requires
time-fits-requires c κs = search rules

returns-5 : tie.Need-returns-then-not-time_fits
returns-5 c =
    let s = c.before.before.before.before.before.before.before in
    λ whos g peak xs shown. by_clock (carried s whos g peak xs shown) (sym c.time_fits.ensures ∙ c.if-not-time_fits.true)

completions-fit-requires : tie.Need-completions_fit-requires
completions-fit-requires c κs = search rules

returns-6 : tie.Need-returns-then-not-completions_fit
returns-6 c =
    let s = c.before.before.before.before.before.before.before.before.before in
    λ whos g peak xs shown.
    by_times (carried s whos g peak xs shown)
    (sym (c.completions_fit.ensures whos s.args.takens.now) ∙ c.if-not-completions_fit.true)

weights-fit-requires : tie.Need-weights_fit-requires
weights-fit-requires c κs = search rules

returns-7 : tie.Need-returns
returns-7 c =
    let i = c.before in
    let k = i.before.before in
    let j = k.before.before.before.before in
    let s = j.before.before.before in
    λ whos g peak xs shown.
    c.weights_fit.ensures s.args.ats.now whos
    ∙ by_weights (carried s whos g peak xs shown)
    (rw length_from (omega arith))
    (sym j.counts_fit.ensures ∙ j.if-not-counts_fit.false)
    (omega arith)
    (omega arith)
    (sym k.time_fits.ensures ∙ k.if-not-time_fits.false)
    (sym (i.completions_fit.ensures whos s.args.takens.now) ∙ i.if-not-completions_fit.false)

pub state_fits_spec : {M : Type 1} → statement M
state_fits_spec =
    tie.close
    (tie.spec
    returns
    counts-fit-requires
    returns-2
    returns-3
    returns-4
    time-fits-requires
    returns-5
    completions-fit-requires
    returns-6
    weights-fit-requires
    returns-7)
