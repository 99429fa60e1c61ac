-- The tests of an ensemble call in their order, and what the accepted call makes once: a request that passes has a grid of instants that fit, and the
-- first cells of the table that is filled for it are that grid. Each answer of the call is the definition's by the tests that led to it.
-- Assumes nothing.
use Prim.Native.Nat.{ℕ, zero, suc, ◌*◌, ◌≤◌}
use mathlib.Core.Path.{◌≡◌, refl, sym, ap, ◌∙◌}
use mathlib.Core.Bool.{true}
use mathlib.Core.List.{List}
use mathlib.Core.Option.{Option, none}
use native.Mathlib.Omega.{arith}
use lib.ListN.{length, take}
use lib.Ieee.{Float}
use Rattle.net.specs.declared.Net.{Net as NetRecord}
use Rattle.net.specs.Net.{Net}
use Rattle.net.specs.Readable.{readable, fault}
use Rattle.rules.specs.Shown.{instants_fit}
use Rattle.rules.proofs.TakesOnce.{neither_fault}
use Rattle.averages.specs.Front.{by_number}
use Rattle.averages.specs.Request.{Request, request_fault, tables_fault, interval, instant, instants_from, grid}
use Rattle.averages.specs.Members.{unless_refused, paths_from}
use Rattle.averages.specs.Tables.{Tables, call_fault}
use Rattle.averages.proofs.Fronts.{by_number_length}
use Rattle.averages.proofs.Grid.{take_instants, grid_length, grid_fits}
use Rattle.averages.proofs.Passes.{Passing}
use Rattle.ssa.specs.Ensemble.{Call, members_from, tabulated, unless_fault, called}
use Rattle.ssa.specs.Summing.{drawn}

-- ---- its instants and paths

module _ (q : Request) (w : Float) (t g : List Float) (width : w ≡ interval q.samples q.horizon) (filled : g ≡ by_number (instant w) 0 q.samples t)
    (long : q.samples ≤ length t) where
  pub grid_room : q.samples ≤ length g
  grid_room = omega (arith, ap length filled, by_number_length (instant w) 0 q.samples t)

  pub grid_is : take q.samples g ≡ grid q
  grid_is = ap (take q.samples) filled ∙ take_instants w 0 q.samples t long ∙ ap (λ (v : Float). instants_from v 0 q.samples) width

  pub grid_many : length (take q.samples g) ≡ q.samples
  grid_many = ap length grid_is ∙ grid_length q

  pub grid_passes : Passing q → instants_fit (take q.samples g) ≡ true
  grid_passes f = ap instants_fit grid_is ∙ grid_fits q f.sampled f.timely

paths_are : (n : Net) (q : Request) (xs : List Float) → xs ≡ grid q → (k r : ℕ) → paths_from (drawn n q.seed xs 1_000_000) k r ≡ members_from n q k r
unfolding drawn
paths_are n q xs e k zero = refl
paths_are n q xs e k (suc r) = λ i. unless_refused k (drawn n q.seed (e i) 1_000_000 k) (paths_are n q xs e (suc k) r i)

-- what the paths at the grid make is what the request asks for
pub asked : {x : Call} (n : Net) (q : Request) (xs : List Float) (places : ℕ) (t : Tables) → xs ≡ grid q
    → x ≡ tabulated places (length xs) t (paths_from (drawn n q.seed xs 1_000_000) 0 q.realizations) → x ≡ tabulated places q.samples t (members_from n q 0 q.realizations)
asked n q xs places t e h =
    h
    ∙ ap (λ (k : ℕ). tabulated places k t (paths_from (drawn n q.seed xs 1_000_000) 0 q.realizations)) (ap length e ∙ grid_length q)
    ∙ ap (tabulated places q.samples t) (paths_are n q xs e 0 q.realizations)

-- the tidied net r of n: the same places and reading
pub same_ensemble : {x : Call} (r n : NetRecord) (q : Request) (t : Tables) → r.places ≡ n.places → readable r ≡ readable n
    → x ≡ tabulated r.places q.samples t (members_from (readable r) q 0 q.realizations) → x ≡ tabulated n.places q.samples t (members_from (readable n) q 0 q.realizations)
same_ensemble r n q t e f h =
    h
    ∙ ap (λ (p : ℕ). tabulated p q.samples t (members_from (readable r) q 0 q.realizations)) e
    ∙ ap (λ (m : Net). tabulated n.places q.samples t (members_from m q 0 q.realizations)) f

-- ---- the call

module _ (n : NetRecord) (q : Request) (t : Tables) where
  -- by the first test that it meets
  pub called_by : {o : Option ℕ} → o ≡ call_fault n q t → unless_fault o t (tabulated n.places q.samples t (members_from (readable n) q 0 q.realizations)) ≡ called n q t
  unfolding called
  called_by e = ap (λ (o : Option ℕ). unless_fault o t (tabulated n.places q.samples t (members_from (readable n) q 0 q.realizations))) e

  -- what is known where it meets none
  pub passed : none ≡ call_fault n q t
      → (fault n ≡ none) × (request_fault q ≡ none) × (tables_fault (n.places * q.samples) (length t.mean) (length t.deviation) (length t.path) ≡ none)
  passed e =
      let outer = neither_fault (fault n) _ (sym e) in
      let inner = neither_fault (request_fault q) _ outer.1 in
      (outer.0, inner.0, inner.1)
