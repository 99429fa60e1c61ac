-- The tests of a diffusion call in their order: each answer is the definition's by the tests that led to it. Assumes nothing.
use Prim.Native.Nat.{ℕ, ◌*◌, ◌^◌, ◌≤◌, ◌<◌}
use Prim.{⊥}
use mathlib.Core.Path.{◌≡◌, refl, sym, ap, ◌∙◌}
use mathlib.Core.Bool.{Bool, true, false}
use mathlib.Core.Option.{Option, none, some}
use native.Mathlib.Omega.{arith}
use native.Mathlib.Nat.{mul-le-mul}
use lib.ListN.{length}
use Rattle.net.specs.declared.Net.{Net as NetRecord}
use Rattle.net.specs.Tests.{or_else}
use Rattle.net.specs.Readable.{readable, fault}
use Rattle.averages.specs.Request.{Request, request_fault, tables_fault}
use Rattle.averages.specs.Tables.{Tables}
use Rattle.averages.proofs.Passes.{Passing, passing, Room, room}
use Rattle.gates.specs.declared.Gates.{Gates as GatesStruct}
use Rattle.gates.specs.Gated.{Gates, gates, gated, gates_of}
use Rattle.sde.specs.Call.{gated_by, Call, members_from, tabulated, unless_fault, unless_gated, called}

pub cells_fit : (p n : ℕ) → p ≤ 32 → n ≤ 1024 → p * n < 2 ^ 64
cells_fit p n h l = omega (arith, mul-le-mul h l)

-- ---- gated, or not

module _ (g : GatesStruct) (all : Gates) (e : gates_of g ≡ all) (r : Bool) (y : r ≡ gated (gates_of g)) (t : Tables) (run : Call) where
  said : r ≡ gated all
  said = y ∙ ap gated e

  pub by_gated : r ≡ true → ◌≡◌ {A = Call} (record { outcome = gated_by (gates_of g); tables = t }) (unless_gated (gated all) all t run)
  by_gated h =
      ap (λ (x : Gates). record { outcome = gated_by x; tables = t }) e ∙ ap (λ (b : Bool). unless_gated b all t run) (sym h ∙ said)

  pub by_free : {x : Call} → r ≡ false → x ≡ run → x ≡ unless_gated (gated all) all t run
  by_free h z = z ∙ ap (λ (b : Bool). unless_gated b all t run) (sym h ∙ said)

-- ---- the call

abbrev pub played : NetRecord → Request → Tables → Call
played n q t =
    unless_gated (gated (gates (readable n))) (gates (readable n)) t (tabulated (n.places * q.samples) t (members_from (readable n) q 0 q.realizations))

pub by_tests : (n : NetRecord) (q : Request) (t : Tables) {o : Option ℕ}
    → o ≡ or_else (fault n) (or_else (request_fault q) (tables_fault (n.places * q.samples) (length t.mean) (length t.deviation) (length t.path)))
    → unless_fault o t (played n q t) ≡ called n q t
unfolding called
by_tests n q t e = ap (λ (o : Option ℕ). unless_fault o t (played n q t)) e

-- no refusal of two tests is none of either
both_none : (a b : Option ℕ) → none ≡ or_else a b → (a ≡ none) × (b ≡ none)
both_none none b e = (refl, sym e)
both_none (some c) b e = absurd (no_refusal e)
  where
    no_refusal : ◌≡◌ {A = Option ℕ} none (some c) → ⊥
    no_refusal e = cc

-- what is known once all tests are passed
pub record Accepted (n : NetRecord) (q : Request) (mean deviation path : ℕ) : Type 0 where
  pub no_fault : fault n ≡ none
  pub passes : Passing q
  pub fits : Room (n.places * q.samples) mean deviation path

pub accepting : (n : NetRecord) (q : Request) (mean deviation path : ℕ)
    → none ≡ or_else (fault n) (or_else (request_fault q) (tables_fault (n.places * q.samples) mean deviation path)) → Accepted n q mean deviation path
accepting n q mean deviation path e =
    let f = both_none (fault n) (or_else (request_fault q) (tables_fault (n.places * q.samples) mean deviation path)) e in
    let g = both_none (request_fault q) (tables_fault (n.places * q.samples) mean deviation path) (sym f.1) in
    record { no_fault = f.0; passes = passing q g.0; fits = room _ _ _ _ g.1 }
