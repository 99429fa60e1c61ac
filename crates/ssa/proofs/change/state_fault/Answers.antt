-- Each refusal is the definition's by the tests that led to it (Changed). The table holds counts for as many instants as are recorded, so 12 goes by their
-- number.
use Rattle.std.proofs.Common.{ℕ, Bool, not, List, length, sym, ap, ◌∙◌, le-leb, leb-true}
use borrow.Author.Tests.{lt-leb, not-true, not-false}
use lib.Ieee.{Float}
use Rattle.rng.specs.State.{words}
use Rattle.rules.specs.Carried.{Carried}
use Rattle.rules.proofs.Order.{both}
use Rattle.carried.specs.Records.{recorded_in, record_strange}
use Rattle.ssa.specs.declared.Halted.{Halted}
use Rattle.ssa.specs.Path.{table_fits}
use Rattle.ssa.specs.Halted.{standing_of, carried_from}
use Rattle.ssa.proofs.Accepted.{fitting, cells_fit}
use Rattle.ssa.proofs.Changed.{by_state, by_instants, by_records, by_limit, by_table, by_cells, by_none, records_by_number}
use Rattle.ssa.proofs.change.state_fault.Goals as goal

-- the path that is tested, and the two marks of its table
module _ (places : ℕ) (h : Halted) (xs table : List Float) where
  abbrev path : Carried
  path = carried_from places (standing_of places h) xs table

  abbrev short : Bool
  short = not (table_fits places (length xs) table)

  abbrev strange : Bool
  strange = record_strange places (length xs) h.recorded table

pub returns-then-not-state_fits : goal.returns-then-not-state_fits
returns-then-not-state_fits c =
    let a = c.args in
    let h = a.path.now in
    let xs = a.instants.now in
    let t = a.table.now in
    let fits = c.state_fits.ensures h.timers.whos (words h.generator.s) h.peak xs (recorded_in a.places (length xs) t h.recorded) in
    by_state (short a.places h xs t) (strange a.places h xs t) (path a.places h xs t) (not-false _ (sym fits ∙ c.if-not-state_fits.true))

pub returns-then-not-instants_fit : goal.returns-then-not-instants_fit
returns-then-not-instants_fit c =
    let a = c.args in
    let h = a.path.now in
    let xs = a.instants.now in
    let t = a.table.now in
    let fits = c.state_fits.ensures h.timers.whos (words h.generator.s) h.peak xs (recorded_in a.places (length xs) t h.recorded) in
    let plain = not-true _ (sym fits ∙ c.if-not-state_fits.false) in
    by_instants (short a.places h xs t) (strange a.places h xs t) (path a.places h xs t) plain (sym c.instants_fit.ensures ∙ c.if-not-instants_fit.true)

pub returns-then-not-records_fit : goal.returns-then-not-records_fit
returns-then-not-records_fit c =
    let a = c.args in
    let h = a.path.now in
    let xs = a.instants.now in
    let t = a.table.now in
    let fits = c.state_fits.ensures h.timers.whos (words h.generator.s) h.peak xs (recorded_in a.places (length xs) t h.recorded) in
    let plain = not-true _ (sym fits ∙ c.if-not-state_fits.false) in
    let timely = sym c.instants_fit.ensures ∙ c.if-not-instants_fit.false in
    let by_number = c.records_fit.ensures ∙ sym (records_by_number a.places (standing_of a.places h) xs t) in
    by_records (short a.places h xs t) (strange a.places h xs t) (path a.places h xs t) plain timely (sym by_number ∙ c.if-not-records_fit.true)

pub returns-then-not-limit_fits : goal.returns-then-not-limit_fits
returns-then-not-limit_fits c =
    let a = c.args in
    let h = a.path.now in
    let xs = a.instants.now in
    let t = a.table.now in
    let fits = c.state_fits.ensures h.timers.whos (words h.generator.s) h.peak xs (recorded_in a.places (length xs) t h.recorded) in
    let plain = not-true _ (sym fits ∙ c.if-not-state_fits.false) in
    let timely = sym c.instants_fit.ensures ∙ c.if-not-instants_fit.false in
    let by_number = c.records_fit.ensures ∙ sym (records_by_number a.places (standing_of a.places h) xs t) in
    let noted = sym by_number ∙ c.if-not-records_fit.false in
    by_limit (short a.places h xs t) (strange a.places h xs t) (path a.places h xs t) plain timely noted (sym c.limit_fits.ensures ∙ c.if-not-limit_fits.true)

pub overflow_mul-places : goal.overflow_mul-places
overflow_mul-places c =
    record { fits = cells_fit _ _ c.requires (fitting c.args.instants.now (sym c.instants_fit.ensures ∙ c.if-not-instants_fit.false)).few }

pub returns-then-table-places : goal.returns-then-table-places
returns-then-table-places c =
    let a = c.args in
    let h = a.path.now in
    let xs = a.instants.now in
    let t = a.table.now in
    let fits = c.state_fits.ensures h.timers.whos (words h.generator.s) h.peak xs (recorded_in a.places (length xs) t h.recorded) in
    let plain = not-true _ (sym fits ∙ c.if-not-state_fits.false) in
    let timely = sym c.instants_fit.ensures ∙ c.if-not-instants_fit.false in
    let by_number = c.records_fit.ensures ∙ sym (records_by_number a.places (standing_of a.places h) xs t) in
    let noted = sym by_number ∙ c.if-not-records_fit.false in
    let limited = sym c.limit_fits.ensures ∙ c.if-not-limit_fits.false in
    by_table (short a.places h xs t) (strange a.places h xs t) (path a.places h xs t) plain timely noted limited (ap not (lt-leb _ _ c.if-table-places.true))

pub cells_fit-requires : goal.cells_fit-requires
cells_fit-requires c = (
  leb-true _ _ (both _ _ (sym c.records_fit.ensures ∙ c.if-not-records_fit.false)).0,
  c.requires,
  (fitting c.args.instants.now (sym c.instants_fit.ensures ∙ c.if-not-instants_fit.false)).few,
  c.if-table-places.false,
)

pub returns-then-not-cells_fit : goal.returns-then-not-cells_fit
returns-then-not-cells_fit c =
    let a = c.args in
    let h = a.path.now in
    let xs = a.instants.now in
    let t = a.table.now in
    let fits = c.state_fits.ensures h.timers.whos (words h.generator.s) h.peak xs (recorded_in a.places (length xs) t h.recorded) in
    let plain = not-true _ (sym fits ∙ c.if-not-state_fits.false) in
    let timely = sym c.instants_fit.ensures ∙ c.if-not-instants_fit.false in
    let by_number = c.records_fit.ensures ∙ sym (records_by_number a.places (standing_of a.places h) xs t) in
    let noted = sym by_number ∙ c.if-not-records_fit.false in
    let limited = sym c.limit_fits.ensures ∙ c.if-not-limit_fits.false in
    by_cells (short a.places h xs t) (strange a.places h xs t) (path a.places h xs t) plain timely noted limited (ap not (le-leb _ _ c.if-table-places.false))
    (not-false _ (sym c.cells_fit.ensures ∙ c.if-not-cells_fit.true))

pub returns : goal.returns
returns c =
    let a = c.args in
    let h = a.path.now in
    let xs = a.instants.now in
    let t = a.table.now in
    let fits = c.state_fits.ensures h.timers.whos (words h.generator.s) h.peak xs (recorded_in a.places (length xs) t h.recorded) in
    let plain = not-true _ (sym fits ∙ c.if-not-state_fits.false) in
    let timely = sym c.instants_fit.ensures ∙ c.if-not-instants_fit.false in
    let by_number = c.records_fit.ensures ∙ sym (records_by_number a.places (standing_of a.places h) xs t) in
    let noted = sym by_number ∙ c.if-not-records_fit.false in
    let limited = sym c.limit_fits.ensures ∙ c.if-not-limit_fits.false in
    by_none (short a.places h xs t) (strange a.places h xs t) (path a.places h xs t) plain timely noted limited (ap not (le-leb _ _ c.if-table-places.false))
    (not-true _ (sym c.cells_fit.ensures ∙ c.if-not-cells_fit.false))
