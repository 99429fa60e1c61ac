-- Changing edition during a path, of calls. Document 02, order 8. `path_until` and `carry` (src/lib.rt) promise for every input that answer, state and
-- table are those of `naming` and `carrying` (Halted); these are the order's promises about them, for any net records, generator states, instants,
-- limits, numbers and tables. What the order says of one call by itself (what is enabled, put and taken after the change, the weighted total) is said of
-- the rules' calls (rules, Halting), one of which stands behind every answered call (Behind). The theorem is proofs/Edition, edition.
use Rattle.std.specs.Prelude.{ℕ, ◌+◌, ◌*◌, ◌^◌, ◌≤◌, ◌<◌, ◌≡◌, true, false, List, [], ◌∷◌, ◌≢◌, length, get_or, drop, Float}
use Rattle.std.proofs.Math.Option.{none}
use Rattle.std.specs.Float.{nan}
use Rattle.std.specs.Float.Ieee.{eq}
use Rattle.net.specs.declared.Net.{Net as NetRecord}
use Rattle.net.specs.Net.{held}
use Rattle.net.specs.Readable.{readable, fault}
use Rattle.rng.specs.State.{State as Generator}
use Rattle.rules.specs.Step.{Answer, refused, given}
use Rattle.rules.specs.Run.{End, halted}
use Rattle.rules.specs.Demand3.{instant}
use Rattle.rules.specs.Carried.{Carried, Onward, path_naming, altogether}
use Rattle.rules.specs.Change.{Pair, identity, renamed, carry}
use Rattle.rules.specs.Halting.{counts_at, TimesFit, Alike, AllMatched}
use Rattle.carried.specs.Records.{count_in}
use Rattle.playing.specs.Cells.{table_with}
use Rattle.ssa.specs.Path.{called}
use Rattle.ssa.specs.Halted.{Standing, standing, carried_from, Call, naming, carrying, path_call}

-- the path that a carrying call is handed: a state, with the instants and what the table has recorded of them
abbrev pub carried_by : NetRecord → Standing → List Float → List Float → Carried
carried_by old s xs t = carried_from old.places s xs t

-- ---- the rules' call behind an answered one

abbrev pub naming_rule : NetRecord → Generator → List Float → ℕ → ℕ → Answer Onward
naming_rule n g xs limit h = path_naming 256 (readable n) g xs limit h

-- with neither 11 nor the last 4 met
abbrev pub carrying_rule : NetRecord → NetRecord → List Pair → Standing → List Float → ℕ → List Float → Answer Onward
carrying_rule old new ps s xs h t = carry 256 (readable old) (readable new) false false (carried_by old s xs t) ps h

-- A call c over so many places and n instants, with so many recorded in its table t, tells what the rules' call answers: its end, what is settled and where
-- the path stands. Recorded cells stand, and those of the other instants shown have its counts.
pub record Behind (places n recorded : ℕ) (t : List Float) (rule : Answer Onward) (c : Call) : Type 0 where
  pub answer : Onward
  pub gives : rule ≡ given answer
  pub end : c.end ≡ given answer.end
  pub settled : c.settled ≡ answer.settled
  pub state : c.state ≡ standing answer.left
  pub table : c.table ≡ table_with places n recorded (drop recorded answer.shown) t
  -- each count is at most 2^53, so that its float is the count itself
  pub exact : (i p : ℕ) → p < places → held (counts_at answer i) p ≤ 2 ^ 53

-- ---- a call after another

-- what the call c left is carried on k steps, over the same net with the identity list
abbrev pub carried_on : NetRecord → List Float → ℕ → Call → Call
carried_on n xs k c = carrying n n (identity (readable n)) c.state xs k c.table

-- call after call, by these numbers; and each call before the last is halted
abbrev pub carried_on_by : NetRecord → List Float → List ℕ → Call → Call
carried_on_by n xs [] c = c
carried_on_by n xs (k ∷ ks) c = carried_on_by n xs ks (carried_on n xs k c)

abbrev pub EachHalted : NetRecord → List Float → List ℕ → Call → Type 0
EachHalted n xs [] c = Unit
EachHalted n xs (k ∷ ks) c = (c.end ≡ given halted) × EachHalted n xs ks (carried_on n xs k c)

-- Two calls answer alike. "… save that a later 14 or 15 gives the generator back as carried": so states are compared where the call is not refused.
pub record Same (a b : Call) : Type 0 where
  pub end : a.end ≡ b.end
  pub settled : a.settled ≡ b.settled
  pub table : a.table ≡ b.table
  pub state : (e : End) → a.end ≡ given e → a.state ≡ b.state

-- cell p × n + i of the table that a call leaves, over n instants
abbrev pub cell : ℕ → Call → ℕ → ℕ → Float
cell n c p i = get_or c.table (p * n + i) nan

-- ---- the promises

pub record Edition : Type 0 where
  -- "A path call may name a number of steps": one that names none is one that names a number not below its limit, refusals included
  pub names_none : (n : NetRecord) (g : Generator) (xs : List Float) (limit named : ℕ) (t : List Float) → limit ≤ named
      → path_call (naming n g xs limit named t) ≡ called n g xs limit t
  -- an answered call has accepted nets, and the rules' call stands behind it
  pub named : (n : NetRecord) (g : Generator) (xs : List Float) (limit h : ℕ) (t : List Float) (e : End) → (naming n g xs limit h t).end ≡ given e
      → (fault n ≡ none) × Behind n.places (length xs) 0 t (naming_rule n g xs limit h) (naming n g xs limit h t)
  pub carried : (old new : NetRecord) (ps : List Pair) (s : Standing) (xs : List Float) (h : ℕ) (t : List Float) (e : End)
      → (carrying old new ps s xs h t).end ≡ given e
      → (fault old ≡ none) × (fault new ≡ none)
      × Behind old.places (length xs) s.recorded t (carrying_rule old new ps s xs h t) (carrying old new ps s xs h t)
  -- "clock, counts, generator, step count, step limit, peak, order 6's count, the instants with what is recorded of them, and running timers go over":
  -- the path that is handed on with the state and the table of a halted call is the one that the rules' call leaves
  pub goes_over : (n : NetRecord) (g : Generator) (xs : List Float) (limit h : ℕ) (t : List Float) → (naming n g xs limit h t).end ≡ given halted
      → (o : Onward) → naming_rule n g xs limit h ≡ given o
      → carried_by n (naming n g xs limit h t).state xs (naming n g xs limit h t).table ≡ o.left
  -- … and from a carried state that has a count for each place
  pub goes_over_again : (old n : NetRecord) (ps : List Pair) (s : Standing) (xs : List Float) (h : ℕ) (t : List Float)
      → length s.now.counts ≡ n.places → (carrying old n ps s xs h t).end ≡ given halted
      → (o : Onward) → carrying_rule old n ps s xs h t ≡ given o
      → carried_by n (carrying old n ps s xs h t).state xs (carrying old n ps s xs h t).table ≡ o.left
  -- "Changing to the same net with the identity list gives the unhalted path": the path that named h and was halted, carried on k steps, is the one that
  -- names h + k; and so after several halts
  pub unhalted : (n : NetRecord) (g : Generator) (xs : List Float) (limit h k : ℕ) (t : List Float) → (naming n g xs limit h t).end ≡ given halted
      → Same (carried_on n xs k (naming n g xs limit h t)) (naming n g xs limit (h + k) t)
  pub unhalted_through : (n : NetRecord) (g : Generator) (xs : List Float) (limit h : ℕ) (ks : List ℕ) (t : List Float)
      → EachHalted n xs ks (naming n g xs limit h t)
      → Same (carried_on_by n xs ks (naming n g xs limit h t)) (naming n g xs limit (h + altogether ks) t)
  -- … of a path that was carried before, too
  pub unhalted_again : (old n : NetRecord) (ps : List Pair) (s : Standing) (xs : List Float) (h k : ℕ) (t : List Float)
      → TimesFit (carried_by old s xs t) → (carrying old n ps s xs h t).end ≡ given halted
      → Same (carried_on n xs k (carrying old n ps s xs h t)) (carrying old n ps s xs (h + k) t)
  pub unhalted_again_through : (old n : NetRecord) (ps : List Pair) (s : Standing) (xs : List Float) (h : ℕ) (ks : List ℕ) (t : List Float)
      → TimesFit (carried_by old s xs t) → EachHalted n xs ks (carrying old n ps s xs h t)
      → Same (carried_on_by n xs ks (carrying old n ps s xs h t)) (carrying old n ps s xs (h + altogether ks) t)
  -- "… gives the generator back as carried": a carrying call that is refused gives the whole state back
  pub given_back : (old new : NetRecord) (ps : List Pair) (s : Standing) (xs : List Float) (h : ℕ) (t : List Float) (c : ℕ)
      → (carrying old new ps s xs h t).end ≡ refused c → (carrying old new ps s xs h t).state ≡ s
  -- "The same-counts property is wanted on each side, the first for the instants that two halted calls recorded": any lists, limits and numbers
  pub first_side : (n : NetRecord) (g : Generator) (xs ys : List Float) (limit limit' h k : ℕ) (t u : List Float)
      → (naming n g xs limit h t).end ≡ given halted → (naming n g ys limit' k u).end ≡ given halted
      → (i j : ℕ) → i < (naming n g xs limit h t).state.recorded → j < (naming n g ys limit' k u).state.recorded
      → eq (instant xs i) (instant ys j) ≡ true
      → (p : ℕ) → p < n.places → cell (length xs) (naming n g xs limit h t) p i ≡ cell (length ys) (naming n g ys limit' k u) p j
  -- "the second for two carried states alike once renamed, but for instants and records, and played to an end, where an instant of both lists is recorded
  -- at each of its positions in both, with the same counts, or at none in either": over one new net, from any old ones. A recorded −0 stands, as count 0.
  pub second_side : (old old' new : NetRecord) (ps qs : List Pair) (s s' : Standing) (xs ys : List Float) (h k : ℕ) (t u : List Float) (e e' : End)
      → (carrying old new ps s xs h t).end ≡ given e → (carrying old' new qs s' ys k u).end ≡ given e' → e ≢ halted → e' ≢ halted
      → Alike (renamed ps (carried_by old s xs t)) (renamed qs (carried_by old' s' ys u)) → AllMatched (carried_by old s xs t) (carried_by old' s' ys u)
      → (i j : ℕ) → i < length xs → j < length ys → eq (instant xs i) (instant ys j) ≡ true
      → (p : ℕ) → p < new.places
      → count_in (cell (length xs) (carrying old new ps s xs h t) p i) ≡ count_in (cell (length ys) (carrying old' new qs s' ys k u) p j)
