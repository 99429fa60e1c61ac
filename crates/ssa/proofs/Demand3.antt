-- Demand 3 holds. A call that is not refused has an accepted net, and its answer and table are those of the rules' path; the rules' demand 3
-- (crate rules, Demand3Held) then speaks of the counts, and a cell of the table is the count there as a float.
use Prim.Native.Nat.{ℕ, suc, ◌+◌, ◌*◌, ◌≤◌, ◌<◌}
use mathlib.Core.Path.{◌≡◌, refl, sym, ap, ◌∙◌}
use mathlib.Core.Bool.{Bool, true, false}
use mathlib.Core.List.{List, [], ◌∷◌}
use mathlib.Core.Option.{Option, none, some}
use native.Mathlib.Omega.{arith}
use lib.ListN.{get_or, length, drop, length-map, get_or-append}
use lib.Ieee.{Float, nan}
use Rattle.refusals.specs as Refusal
use Rattle.net.specs.declared.Net.{Net as NetRecord}
use Rattle.net.specs.Net.{pick, held}
use Rattle.net.specs.Readable.{readable, fault}
use Rattle.net.proofs.Lengths.{places_length}
use Rattle.rng.specs.State.{State as Generator}
use Rattle.rules.specs.Propensity.{float}
use Rattle.rules.specs.Moves.{Entry}
use Rattle.rules.specs.Step.{Answer, refused, given}
use Rattle.rules.specs.Run.{End, quiet, spent, reached, halted, trace}
use Rattle.rules.specs.Shown.{Path, reaches, reached_from, settled_of, instants_fit, limit_fits, worked, accepted_path, run_of}
use Rattle.rules.specs.Demand3 as Rule
use Rattle.rules.proofs.Demand3Held as Held
use Rattle.rules.proofs.TakesOnce.{takes_once_lem}
use Rattle.rules.proofs.Shows.{shown_fits}
use Rattle.playing.specs.Cells.{rows_from, table_of}
use Rattle.ssa.specs.Path.{Call, turned_down, played, table_fits, unless_fault, called}
use Rattle.ssa.specs.Demand3.{Answered, cell, Demand3}
use Rattle.playing.proofs.Cells.{cell_in, rows_at, rows_long}

-- what a call that is not refused is
pub record Whole (n : NetRecord) (g : Generator) (xs : List Float) (k : ℕ) (t : List Float) : Type 0 where
  pub sound : fault n ≡ none
  pub answer : Path
  pub works : accepted_path (readable n) g xs k ≡ given answer
  pub settles : (called n g xs k t).settled ≡ answer.settled
  pub table : (called n g xs k t).table ≡ table_of (length (readable n).places) answer.shown t

clash : {P : Type 0} {c : ℕ} {e : End} → ◌≡◌ {A = Answer End} (refused c) (given e) → P
clash h = let z : ◌≡◌ {A = ℕ} 0 1 = cc in absurd (omega arith)

module _ (n : NetRecord) (g : Generator) (xs : List Float) (k : ℕ) (t : List Float) where
  -- by the tests in their order, and the run's own answer
  decided : (f : Option ℕ) (b c d : Bool) (w : Answer Path) (how : End) → fault n ≡ f → instants_fit xs ≡ b → limit_fits k ≡ c
      → table_fits (length (readable n).places) (length xs) t ≡ d → worked (readable n) g xs k ≡ w
      → (unless_fault f g t (pick b (pick c (pick d (played (length (readable n).places) (length xs) g t w) (turned_down Refusal.short_table g t)) (turned_down Refusal.bad_limit g t))
      (turned_down Refusal.bad_instants g t))).end ≡ given how → Whole n g xs k t
  unfolding called
  decided none true true true (given a) how e₁ e₂ e₃ e₄ e₅ h =
      let is : called n g xs k t ≡ played (length (readable n).places) (length xs) g t (given a) =
      λ i. unless_fault (e₁ i) g t (pick (e₂ i) (pick (e₃ i) (pick (e₄ i) (played (length (readable n).places) (length xs) g t (e₅ i)) (turned_down Refusal.short_table g t))
      (turned_down Refusal.bad_limit g t)) (turned_down Refusal.bad_instants g t)) in
      record {
        sound = e₁;
        answer = a;
        works = λ i. pick (e₂ i) (pick (e₃ i) (e₅ i) (refused Refusal.bad_limit)) (refused Refusal.bad_instants);
        settles = ap (λ (c : Call). c.settled) is;
        table = ap (λ (c : Call). c.table) is;
      }
  decided none true true true (refused c) how e₁ e₂ e₃ e₄ e₅ h = clash h
  decided none true true false w how e₁ e₂ e₃ e₄ e₅ h = clash h
  decided none true false d w how e₁ e₂ e₃ e₄ e₅ h = clash h
  decided none false c d w how e₁ e₂ e₃ e₄ e₅ h = clash h
  decided (some c) b₁ c₁ d₁ w how e₁ e₂ e₃ e₄ e₅ h = clash h

  pub whole : Answered (called n g xs k t) → Whole n g xs k t
  unfolding called
  whole a =
      decided (fault n) (instants_fit xs) (limit_fits k) (table_fits (length (readable n).places) (length xs) t) (worked (readable n) g xs k) a.how
      refl refl refl refl refl a.ends

-- ---- cells

few : (es : List Entry) (xs : List Float) → reached_from es xs ≤ length xs
few es [] = omega arith
few es (x ∷ xs) = go (reaches x es) (few es xs)
  where
    go : (b : Bool) → reached_from es xs ≤ length xs → pick b (suc (reached_from es xs)) 0 ≤ suc (length xs)
    go true h = omega arith
    go false h = omega arith

settled_few : (e : End) (es : List Entry) (xs : List Float) → settled_of e es xs ≤ length xs
settled_few quiet es xs = omega arith
settled_few spent es xs = few es xs
settled_few reached es xs = omega arith
settled_few halted es xs = few es xs

module _ (n : NetRecord) (g : Generator) (xs : List Float) (k : ℕ) (t : List Float) (w : Whole n g xs k t) where
  shown_long : length w.answer.shown ≡ length xs
  shown_long =
      let a = Held.answered (readable n) g xs k w.answer w.works in
      ap length a.shows ∙ length-map xs _

  -- a cell of the table is the count that the rules show there
  pub cell_is : (p i : ℕ) → p < n.places → i < length xs → cell (length xs) (called n g xs k t) p i ≡ float (Rule.count w.answer i p)
  cell_is p i h l =
      let shown = w.answer.shown in
      let places = length (readable n).places in
      let many : places ≡ n.places = places_length n in
      let inside : p < places = omega arith in
      let at : p * length shown + i < places * length shown = cell_in p i places (length shown) inside (omega (arith, shown_long)) in
      ap (λ (c : List Float). get_or c (p * length xs + i) nan) w.table
      ∙ ap (λ (m : ℕ). get_or (table_of places shown t) (p * m + i) nan) (sym shown_long)
      ∙ get_or-append (rows_from shown 0 places) (drop (places * length shown) t) nan (p * length shown + i) (omega (arith, rows_long shown 0 places))
      ∙ rows_at shown 0 places p i inside (omega (arith, shown_long))
      ∙ ap (λ (q : ℕ). float (held (get_or shown i []) q)) (omega arith)

  settled_in_lem : (i : ℕ) → i < (called n g xs k t).settled → (i < w.answer.settled) × (i < length xs)
  settled_in_lem i h =
      let a = Held.answered (readable n) g xs k w.answer w.works in
      let e = w.settles in
      let f = a.settles in
      (omega arith, omega (arith, settled_few a.ending.end (trace (run_of (readable n) g xs k)) xs))

-- ---- the demand

pub demand3 : (n : NetRecord) (g : Generator) → Demand3 n g
demand3 n g =
    record {
      two_lists = λ xs ys k t u a b i j h l same p q.
          let v = whole n g xs k t a in
          let w = whole n g ys k u b in
          cell_is n g xs k t v p i q h
          ∙ ap float ((rule v).two_lists xs ys k v.answer w.answer v.works w.works i j h l same p)
          ∙ sym (cell_is n g ys k u w p j q l);
      two_limits = λ xs k l t u a b less i h p q.
          let v = whole n g xs k t a in
          let w = whole n g xs l u b in
          let s = settled_in_lem n g xs k t v i h in
          cell_is n g xs k t v p i q s.1
          ∙ ap float ((rule v).two_limits xs k l v.answer w.answer v.works w.works less i s.0 p)
          ∙ sym (cell_is n g xs l u w p i q s.1);
      counts = λ xs k t a i h p q.
          let v = whole n g xs k t a in
          let many = places_length n in
          record {
            count = Rule.count v.answer i p;
            exact = shown_fits n v.sound g xs k v.answer v.works i p;
            shows = cell_is n g xs k t v p i q h;
            balance = (rule v).counts xs k v.answer v.works i h p (omega arith);
          };
      allowed = λ xs k t a. let v = whole n g xs k t a in (rule v).allowed xs k v.answer v.works;
    }
  where
    rule : {xs : List Float} {k : ℕ} {t : List Float} → Whole n g xs k t → Rule.Demand3 (readable n) g
    rule w = Held.demand3 (readable n) g (takes_once_lem n w.sound)
