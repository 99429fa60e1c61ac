-- What the answers of the lines' forms stand for. The rules are in Forms; nothing here adds to them.
use Rattle.std.specs.Prelude.{ℕ, ◌≡◌, ◌||◌, List, length, Option, Some, None}
use Rattle.std.specs.Borrow.{Bor}
use Rattle.net.specs.Tests.{any}
use Rattle.net.specs.declared.Net.{Net as NetRecord}
use Rattle.text.specs.Text.{Bytes}
use Rattle.net_text.specs.Forms.{Met, wrong, met, behind, Decimal, RawArc, raw_place, raw_move, raw_run, exactly, decimal, hexadecimal, place_form, move_form, run_form}
use Rattle.net_text.specs.Reading.{badly, bad_arc}
use Rattle.net_text.specs.Scanned.{through, held, seen, SlotsKept, Filled}
use Rattle.net_text.specs.declared.scan.Number.{Number}
use Rattle.net_text.specs.declared.form.PlaceSeen.{PlaceSeen}
use Rattle.net_text.specs.declared.form.RunSeen.{RunSeen}
use Rattle.net_text.specs.declared.form.MoveSeen.{MoveSeen}

-- a word and behind it a decimal
abbrev pub number_after : Bytes → Bytes → Met Number
number_after w line = through seen (behind (exactly w line) (λ u. decimal))

-- a word and behind it a float
abbrev pub pattern_after : Bytes → Bytes → Met ℕ
pattern_after w line = behind (exactly w line) (λ u. hexadecimal)

-- the label behind the capacity, and what is left behind it
abbrev pub found_label : Option (Bor Bytes × Bor Bytes) → Met Bytes
found_label None = wrong
found_label (Some r) = met r.0.now r.1.now

-- a place line: its decimals as 64 bits hold them, whether one is badly written, and its label
pub record PlaceMet (line : Bytes) (p : PlaceSeen) (left : Bytes) : Type 0 where
  pub initial : Decimal
  pub capacity : Decimal
  pub is : place_form line ≡ met (raw_place initial capacity p.label.now) left
  pub held_initial : p.initial ≡ held initial.value
  pub held_capacity : p.capacity ≡ held capacity.value
  pub strange : p.strange ≡ (badly initial || badly capacity)

abbrev pub PlaceRead : Bytes → Option (PlaceSeen × Bor Bytes) → Type 0
PlaceRead line None = place_form line ≡ wrong
PlaceRead line (Some r) = PlaceMet line r.0 r.1.now

-- a run line
pub record RunMet (line : Bytes) (r : RunSeen) (left : Bytes) : Type 0 where
  pub samples : Decimal
  pub realizations : Decimal
  pub seed : Decimal
  pub is : run_form line ≡ met (raw_run samples realizations seed r.run.horizon) left
  pub held_samples : r.run.samples ≡ held samples.value
  pub held_realizations : r.run.realizations ≡ held realizations.value
  pub held_seed : r.run.seed ≡ held seed.value
  pub strange : r.strange ≡ (badly samples || badly realizations || badly seed)

abbrev pub RunRead : Bytes → Option (RunSeen × Bor Bytes) → Type 0
RunRead line None = run_form line ≡ wrong
RunRead line (Some r) = RunMet line r.0 r.1.now

-- A move line: its floats by their bits, how many arcs, whether one is badly written, and how they fill the slots from base on. Even where the
-- form is wrong, nothing but slots changed, and none before base.
pub record MoveMet (line : Bytes) (base : ℕ) (n₀ n : NetRecord) (m : MoveSeen) (left : Bytes) : Type 0 where
  pub arcs : List RawArc
  pub is : move_form line ≡ met (raw_move m.rate m.delay arcs) left
  pub count : m.count ≡ length arcs
  pub strange : m.strange ≡ any bad_arc arcs
  pub filled : Filled base arcs n₀ n

abbrev pub MoveIs : Bytes → ℕ → NetRecord → NetRecord → Option (MoveSeen × Bor Bytes) → Type 0
MoveIs line base n₀ n None = move_form line ≡ wrong
MoveIs line base n₀ n (Some r) = MoveMet line base n₀ n r.0 r.1.now

pub record MoveRead (line : Bytes) (base : ℕ) (n₀ n : NetRecord) (r : Option (MoveSeen × Bor Bytes)) : Type 0 where
  pub is : MoveIs line base n₀ n r
  pub kept : SlotsKept base n₀ n
