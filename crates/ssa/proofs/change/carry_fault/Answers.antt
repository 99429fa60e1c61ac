-- The tests in their order: each that is met is the first of all, since those before it are not. Assumes nothing.
use Rattle.std.proofs.Common.{◌≡◌, ℕ, Bool, not, List, length, refl, sym}
use Rattle.std.proofs.Math.Option.{Option}
use Rattle.std.proofs.lemmas.Result.{err_from_is_err_and}
use lib.Ieee.{Float}
use Rattle.net.specs.declared.Net.{Net as NetRecord}
use Rattle.net.specs.Tests.{first_of, or_else}
use Rattle.net.specs.Readable.{readable, fault}
use Rattle.net.specs.Record.{net_of}
use Rattle.net.proofs.Sound.{sound}
use Rattle.rules.specs.Change.{Pair, carried_tests, renaming_tests}
use Rattle.carried.specs.Pairs.{pairs_of}
use Rattle.carried.specs.Records.{record_strange}
use Rattle.ssa.specs.Path.{table_fits}
use Rattle.ssa.specs.Halted.{Standing, standing_of, carried_from, carrying_fault}
use Rattle.ssa.proofs.Brought.{carries}
use Rattle.ssa.proofs.change.carry_fault.Goals as goal

module _ (places : ℕ) (old new : NetRecord) (ps : List Pair) (s : Standing) (xs table : List Float) where
  abbrev on_state : Option ℕ
  on_state = first_of (carried_tests 256 (not (table_fits places (length xs) table)) (record_strange places (length xs) s.recorded table) (carried_from places s xs table))

  abbrev on_list : Option ℕ
  on_list = first_of (renaming_tests (readable old) (readable new) (carried_from places s xs table) ps)

  fault_by : {a b f l : Option ℕ} → fault old ≡ a → fault new ≡ b → on_state ≡ f → on_list ≡ l
      → carrying_fault places old new ps s xs table ≡ or_else a (or_else b (or_else f l))
  fault_by x y z v = λ i. or_else (x i) (or_else (y i) (or_else (z i) (v i)))

pub returns-in_err-test_net : goal.returns-in_err-test_net
returns-in_err-test_net c =
    let a = c.args in
    let old = net_of a.old.now in
    let new = net_of a.net.now in
    let s = standing_of a.old.now.places a.path.now in
    let xs = a.instants.now in
    let p = err_from_is_err_and c.from_residual.result c.from_residual.ensures.1 in
    rw (p.1, p.2) (sym (fault_by a.old.now.places old new (pairs_of a.pairs.now) s xs a.table.now (sym c.in_err-test_net.ensures) refl refl refl))

pub returns-in_err-test_net-2 : goal.returns-in_err-test_net-2
returns-in_err-test_net-2 c =
    let a = c.args in
    let old = net_of a.old.now in
    let new = net_of a.net.now in
    let s = standing_of a.old.now.places a.path.now in
    let xs = a.instants.now in
    let p = err_from_is_err_and c.from_residual-in_err-test_net-2.result c.from_residual-in_err-test_net-2.ensures.1 in
    rw (p.1, p.2) (sym (fault_by a.old.now.places old new (pairs_of a.pairs.now) s xs a.table.now (sym c.in_ok-test_net.ensures) (sym c.in_err-test_net-2.ensures) refl refl))

pub state_fault-requires : goal.state_fault-requires
state_fault-requires c = (sound (net_of c.args.old.now) (sym c.in_ok-test_net.ensures)).places

pub returns-in_err-state_fault : goal.returns-in_err-state_fault
returns-in_err-state_fault c =
    let a = c.args in
    let old = net_of a.old.now in
    let new = net_of a.net.now in
    let s = standing_of a.old.now.places a.path.now in
    let xs = a.instants.now in
    let p = err_from_is_err_and c.from_residual-in_err-state_fault.result c.from_residual-in_err-state_fault.ensures.1 in
    rw (p.1, p.2) (sym (fault_by a.old.now.places old new (pairs_of a.pairs.now) s xs a.table.now (sym c.in_ok-test_net.ensures) (sym c.in_ok-test_net-2.ensures) (sym c.in_err-state_fault.ensures) refl))

pub list_fault-requires : goal.list_fault-requires
list_fault-requires c =
    let a = c.args in (
      sym c.in_ok-test_net-2.ensures,
      (sound (net_of a.old.now) (sym c.in_ok-test_net.ensures)).transitions,
      (carries a.old.now.places a.path.now a.instants.now a.table.now (sym c.in_ok-state_fault.ensures)).few,
    )

pub returns : goal.returns
returns c =
    let a = c.args in
    let old = net_of a.old.now in
    let new = net_of a.net.now in
    let s = standing_of a.old.now.places a.path.now in
    let xs = a.instants.now in
    sym (fault_by a.old.now.places old new (pairs_of a.pairs.now) s xs a.table.now (sym c.in_ok-test_net.ensures) (sym c.in_ok-test_net-2.ensures) (sym c.in_ok-state_fault.ensures)
    (sym (c.list_fault.ensures (carried_from a.old.now.places s xs a.table.now) refl)))
