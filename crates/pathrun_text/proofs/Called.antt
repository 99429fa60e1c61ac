-- The ensemble call on a net that a text gives is the one that Pathrun speaks of: the net has no fault, its places are as many as the readable net's,
-- and the tables are 2,048 cells of +0. What its answer prints, case by case; and a call that is not turned down keeps to the bounds of "Domain".
use Prim.Native.Nat.{ℕ, ◌*◌, ◌≤◌}
use native.Mathlib.Omega.{arith}
use mathlib.Core.Path.{◌≡◌, refl, sym, ap, ◌∙◌}
use mathlib.Core.Bool.{Bool, true, false, ◌&&◌, not}
use mathlib.Core.List.{List}
use mathlib.Core.Option.{Option, none, some}
use lib.Dec.{leb}
use lib.ListN.{length, length-replicate}
use lib.Ieee.{Float, binary64, of_bits}
use borrow.Author.Tests.{leb-true}
use Rattle.refusals.specs as Refusal
use Rattle.refusals.specs.Number.{number_of}
use Rattle.refusals.specs.declared.Refusal.{Refusal as RefusalEnum}
use Rattle.net.specs.Net.{pick, zero64}
use Rattle.net.specs.Tests.{or_else}
use Rattle.net.specs.Readable.{readable, labels, fault}
use Rattle.net.specs.declared.Net.{Net as NetRecord}
use Rattle.net.proofs.Sound.{sound}
use Rattle.net.proofs.Lengths.{places_length}
use Rattle.text.specs.Text.{Bytes}
use Rattle.net_text.specs.Position.{run_of}
use Rattle.net_text.specs.declared.RunLine.{RunLine as RunRecord}
use Rattle.result_text.specs.Lines.{refused_line, printed}
use Rattle.averages.specs.Request.{Request, request_fault, tables_fault, samples_fit}
use Rattle.averages.specs.Tables.{Tables, call_fault}
use Rattle.ssa.specs.Ensemble.{averaged, Call, call_of, called, unless_fault, tabulated, members_from}
use Rattle.ssa.specs.declared.EnsembleAnswer.{EnsembleAnswer}
use Rattle.ssa.specs.declared.EnsembleAnswer.TheVariants.{Averaged, TurnedDown, Stopped}
use Rattle.pathrun_text.specs.Printing.{in_front}
use Rattle.pathrun_text.specs.Pathrun.{table_cells, table, tables, request, ensemble_of, rows, shown, ran}

-- ---- the call

table_long : length table ≡ table_cells
unfolding table
table_long = length-replicate table_cells zero64

module _ (n : NetRecord) (q : Request) (accepted : fault n ≡ none) where
  places_are : n.places ≡ length (readable n).places
  places_are = sym (places_length n)

  -- of k places, with tables of so many cells
  with_cells : ℕ → ℕ → Call
  with_cells k cells =
      unless_fault (or_else (request_fault q) (tables_fault (k * q.samples) cells cells cells)) tables (tabulated k q.samples tables (members_from (readable n) q 0 q.realizations))

  called_is : called n q tables ≡ ensemble_of (readable n) q
  unfolding called with_cells
  called_is =
      ap (λ (f : Option ℕ). unless_fault (or_else f (or_else (request_fault q) (tables_fault (n.places * q.samples) (length table) (length table) (length table)))) tables
      (tabulated n.places q.samples tables (members_from (readable n) q 0 q.realizations))) accepted
      ∙ ap (λ (cells : ℕ). with_cells n.places cells) table_long
      ∙ ap (λ (k : ℕ). with_cells k table_cells) places_are

-- ---- what no fault means

-- of two tests, neither applies
pick_none : (b : Bool) (c : ℕ) (later : Option ℕ) → pick b (some c) later ≡ none → (b ≡ false) × (later ≡ none)
pick_none true c later e = let z : ◌≡◌ {A = ℕ} 0 1 = cc in absurd (omega arith)
pick_none false c later e = (refl, e)

else_none : (a b : Option ℕ) → or_else a b ≡ none → (a ≡ none) × (b ≡ none)
else_none none b e = (refl, e)
else_none (some c) b e = let z : ◌≡◌ {A = ℕ} 0 1 = cc in absurd (omega arith)

both : (a b : Bool) → not (a && b) ≡ false → (a ≡ true) × (b ≡ true)
both true true e = (refl, refl)
both true false e = let z : ◌≡◌ {A = ℕ} 0 1 = cc in absurd (omega arith)
both false b e = let z : ◌≡◌ {A = ℕ} 0 1 = cc in absurd (omega arith)

samples_few : (q : Request) → request_fault q ≡ none → q.samples ≤ 1024
samples_few q e = leb-true q.samples 1024 (both (leb 2 q.samples) (leb q.samples 1024) (pick_none (not (samples_fit q.samples)) Refusal.bad_samples _ e).0).1

cells_few : (cells mean deviation path : ℕ) → tables_fault cells mean deviation path ≡ none → cells ≤ mean
cells_few cells mean deviation path e =
    let all = both (leb cells mean && leb cells deviation) (leb cells path) (pick_none (not (leb cells mean && leb cells deviation && leb cells path)) Refusal.short_table none e).0 in
    leb-true cells mean (both (leb cells mean) (leb cells deviation) (ap not all.0)).0

-- an average comes of a call without fault
outcome_none : (f : Option ℕ) (t : Tables) (call : Call) {k : ℕ} {b : Bool} → (unless_fault f t call).outcome ≡ averaged k b → f ≡ none
outcome_none none t call e = refl
outcome_none (some c) t call e = let z : ◌≡◌ {A = ℕ} 0 1 = cc in absurd (omega arith)

-- ---- the answer

-- the horizon by its bits, and the tables as they are made
pub as_lent : (n : NetRecord) (asked : RunRecord) {horizon : Float} {m d p : List Float} {call : Call} → horizon ≡ of_bits binary64 asked.horizon → m ≡ table → d ≡ table → p ≡ table
    → call ≡ called n (record { samples = asked.samples; realizations = asked.realizations; seed = asked.seed; horizon = horizon }) (record { mean = m; deviation = d; path = p })
    → call ≡ called n (request (run_of asked)) tables
as_lent n asked eh em ed ep is = rw (eh, em, ed, ep) at is

module _ (n : NetRecord) (asked : RunRecord) (answer : EnsembleAnswer) (mean deviation path : List Float) (accepted : fault n ≡ none)
    (is : call_of answer mean deviation path ≡ called n (request (run_of asked)) tables) where
  abbrev q : Request
  q = request (run_of asked)

  prints : (a : EnsembleAnswer) → answer ≡ a
      → shown n.places (labels n) q (call_of a mean deviation path).outcome (call_of a mean deviation path).tables ≡ ran (readable n) (labels n) q
  prints a e =
      ap (λ (b : EnsembleAnswer). shown n.places (labels n) q (call_of b mean deviation path).outcome (call_of b mean deviation path).tables) (sym e)
      ∙ ap (λ (call : Call). shown n.places (labels n) q call.outcome call.tables) (is ∙ called_is n q accepted)
      ∙ ap (λ (k : ℕ). shown k (labels n) q (ensemble_of (readable n) q).outcome (ensemble_of (readable n) q).tables) (places_are n q accepted)

  -- what the cases leave in front of a buffer is what the definition prints; m is the refusal's number as the program computes it
  pub turned_down : (c : RefusalEnum) → answer ≡ TurnedDown c → (out : Bytes) {m : ℕ} → m ≡ number_of c → {s : Bytes × ℕ} → s ≡ in_front out (refused_line m 0)
      → s ≡ in_front out (ran (readable n) (labels n) q)
  turned_down c e out {m} is_number h = h ∙ ap (λ (k : ℕ). in_front out (refused_line k 0)) is_number ∙ ap (in_front out) (prints (TurnedDown c) e)

  pub stopped_run : (c : RefusalEnum) (k : ℕ) → answer ≡ Stopped c k → (out : Bytes) {m : ℕ} → m ≡ number_of c → {s : Bytes × ℕ} → s ≡ in_front out (refused_line m 0)
      → s ≡ in_front out (ran (readable n) (labels n) q)
  stopped_run c k e out {m} is_number h = h ∙ ap (λ (j : ℕ). in_front out (refused_line j 0)) is_number ∙ ap (in_front out) (prints (Stopped c k) e)

  module _ (k : ℕ) (b : Bool) (e : answer ≡ Averaged k b) where
    pub averaged_run : (out : Bytes) {s : Bytes × ℕ}
        → s ≡ in_front out (printed n.places asked.samples asked.realizations (labels n) (rows n.places asked.samples mean) (rows n.places asked.samples deviation))
        → s ≡ in_front out (ran (readable n) (labels n) q)
    averaged_run out h = h ∙ ap (in_front out) (prints (Averaged k b) e)

    no_fault : call_fault n q tables ≡ none
    unfolding called
    no_fault =
        outcome_none (call_fault n q tables) tables (tabulated n.places q.samples tables (members_from (readable n) q 0 q.realizations))
        (ap (λ (call : Call). call.outcome) (sym is) ∙ ap (λ (a : EnsembleAnswer). (call_of a mean deviation path).outcome) e)

    request_none : (request_fault q ≡ none) × (tables_fault (n.places * q.samples) (length table) (length table) (length table) ≡ none)
    request_none = else_none (request_fault q) _ (else_none (fault n) _ no_fault).1

    -- the bounds of "Domain", and that the cells fit the tables
    pub bounds : (n.places ≤ 32) × (asked.samples ≤ 1024) × (n.places * asked.samples ≤ table_cells)
    bounds =
        let fit : n.places * asked.samples ≤ length table = cells_few (n.places * q.samples) (length table) (length table) (length table) request_none.1 in
        ((sound n accepted).places, samples_few q request_none.0, omega (arith, table_long))
