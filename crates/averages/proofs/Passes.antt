-- The tests of a request and its tables: a request that passes is within its bounds, and tables that pass have room. Assumes nothing.
use Rattle.std.proofs.Common.{◌≡◌, ℕ, ◌≤◌, Bool, true, false, not, ◌&&◌, leb, [], ◌∷◌, refl, arith, leb-true}
use mathlib.Core.Option.{none}
use Rattle.refusals.specs as Refusal
use Rattle.net.specs.Tests.{first_of}
use Rattle.rules.proofs.Order.{both}
use Rattle.averages.specs.Request.{Request, samples_fit, realizations_fit, horizon_fits, request_fault, tables_fault}

pub record Passing (q : Request) : Type 0 where
  pub sampled : samples_fit q.samples ≡ true
  pub timely : horizon_fits q.horizon ≡ true
  pub two : 2 ≤ q.samples
  pub few : q.samples ≤ 1024
  pub one : 1 ≤ q.realizations
  pub repeated : q.realizations ≤ 65_535

pub passing : (q : Request) → request_fault q ≡ none → Passing q
passing q e = go (samples_fit q.samples) (realizations_fit q.realizations) (horizon_fits q.horizon) refl refl refl e
  where
    go : (a b c : Bool) → samples_fit q.samples ≡ a → realizations_fit q.realizations ≡ b → horizon_fits q.horizon ≡ c
        → first_of ((Refusal.bad_samples, not a) ∷ (Refusal.bad_realizations, not b) ∷ (Refusal.bad_horizon, not c) ∷ []) ≡ none → Passing q
    go true true true e₁ e₂ e₃ h =
        let s = both (leb 2 q.samples) (leb q.samples 1024) e₁ in
        let r = both (leb 1 q.realizations) (leb q.realizations 65_535) e₂ in
        record {
          sampled = e₁;
          timely = e₃;
          two = leb-true 2 q.samples s.0;
          few = leb-true q.samples 1024 s.1;
          one = leb-true 1 q.realizations r.0;
          repeated = leb-true q.realizations 65_535 r.1;
        }
    go true true false e₁ e₂ e₃ h = let z : ◌≡◌ {A = ℕ} 0 1 = cc in absurd (omega arith)
    go true false c e₁ e₂ e₃ h = let z : ◌≡◌ {A = ℕ} 0 1 = cc in absurd (omega arith)
    go false b c e₁ e₂ e₃ h = let z : ◌≡◌ {A = ℕ} 0 1 = cc in absurd (omega arith)

-- tables that are long enough
pub record Room (cells mean deviation path : ℕ) : Type 0 where
  pub in_mean : cells ≤ mean
  pub in_deviation : cells ≤ deviation
  pub in_path : cells ≤ path

pub room : (cells m d p : ℕ) → tables_fault cells m d p ≡ none → Room cells m d p
room cells m d p e = go (leb cells m && leb cells d && leb cells p) refl e
  where
    go : (b : Bool) → (leb cells m && leb cells d && leb cells p) ≡ b → first_of ((Refusal.short_table, not b) ∷ []) ≡ none → Room cells m d p
    go false f h = let z : ◌≡◌ {A = ℕ} 0 1 = cc in absurd (omega arith)
    go true f h =
        let outer = both (leb cells m && leb cells d) (leb cells p) f in
        let inner = both (leb cells m) (leb cells d) outer.0 in
        record { in_mean = leb-true cells m inner.0; in_deviation = leb-true cells d inner.1; in_path = leb-true cells p outer.1 }
