-- Which propensities have to be worked out again. Document 02, order 5: an index lists "for each place, the transitions with an input, read or inhibitor on
-- it, or a net change above 0 on it where its capacity is above 0. After a firing, start or completion only the listed transitions of changed places are
-- worked out again." The statements at the end are proved in proofs/Index.antt.
use Rattle.std.specs.Prelude.{ℕ, zero, suc, ◌≤◌, ◌<◌, ◌≡◌, Bool, true, false, ◌&&◌, ◌||◌, not, List, [], ◌∷◌, eqb, ltb, length, get_or, take, Float}
use Rattle.std.specs.Float.{nan}
use Rattle.net.specs.Net.{Arc, Transition, Net, Marking, held, timed, moved, taken_by}
use Rattle.rules.specs.Enabled.{enabled}
use Rattle.rules.specs.Propensity.{propensity, propensities}
use Rattle.rules.specs.Exact.{rounded, adds_rounded}
use Rattle.rules.specs.Moves.{Entry, transition, move, after, taken_at, put_at}
use Rattle.rules.specs.Demand3.{takes_from, takes_once, Allowed, EachAllowed}

-- ---- the index

-- whether one of these arcs is on place p
abbrev pub on : ℕ → List Arc → Bool
on p [] = false
on p (a ∷ rest) = eqb a.place p || on p rest

-- the capacity of place p; 0, no bound, where the net has no such place
abbrev pub capacity_of : Net → ℕ → ℕ
capacity_of n p = (get_or n.places p (record { initial = 0; capacity = 0 })).capacity

-- "a net change above 0" on place p: more is put there than taken
abbrev pub raises : ℕ → Transition → Bool
raises p t = ltb (taken_by t.takes p) (moved t.puts p)

-- "with an input, read or inhibitor on it, or a net change above 0 on it where its capacity is above 0", of place p
abbrev pub depends_on : Net → ℕ → Transition → Bool
depends_on n p t = takes_from p t.takes || on p t.reads || on p t.blocks || (ltb 0 (capacity_of n p) && raises p t)

-- transition j is listed for place p
abbrev pub listed : Net → ℕ → ℕ → Bool
listed n p j = depends_on n p (transition n j)

-- ---- what is worked out again

-- "changed places": the entry puts more or less into place p than it takes from it
abbrev pub changes : Net → Entry → ℕ → Bool
changes n e p = not (eqb (taken_at n p (e ∷ [])) (put_at n p (e ∷ [])))

-- whether f holds of some number below k
abbrev pub any_below : (ℕ → Bool) → ℕ → Bool
any_below f zero = false
any_below f (suc k) = any_below f k || f k

-- "the listed transitions of changed places": transition j is one of them, after the entry e
abbrev pub again : Net → Entry → ℕ → Bool
again n e j = any_below (λ (p : ℕ). changes n e p && listed n p j) (length n.places)

-- after one of several entries
abbrev pub again_after : Net → List Entry → ℕ → Bool
again_after n [] j = false
again_after n (e ∷ es) j = again n e j || again_after n es j

-- ---- what is kept of transition j, good at the counts m except where f holds: there it may be anything

-- its propensity, at position j
abbrev pub KeptBut : (ℕ → Bool) → Net → Marking → List Float → Type 0
KeptBut f n m kept = (j : ℕ) → j < length n.transitions → f j ≡ false → get_or kept j nan ≡ propensity n m (transition n j)

abbrev pub Kept : Net → Marking → List Float → Type 0
Kept n m kept = KeptBut (λ (j : ℕ). false) n m kept

-- the mark of a rounded propensity, "whether worked out in the step or kept" (order 6)
abbrev pub MarkedBut : (ℕ → Bool) → Net → Marking → (ℕ → Bool) → Type 0
MarkedBut f n m marks = (j : ℕ) → j < length n.transitions → f j ≡ false → marks j ≡ rounded n m (transition n j)

-- that it does not start: a delayed transition which is not enabled
abbrev pub ShutBut : (ℕ → Bool) → Net → Marking → Type 0
ShutBut f n m = (j : ℕ) → j < length n.transitions → timed (transition n j) ≡ true → f j ≡ false → enabled n m (transition n j) ≡ false

-- The propensities of which f holds are worked out again, and every other one is "as handed in, whatever it holds".
pub record Reworked (f : ℕ → Bool) (worked : ℕ → Float) (before after : List Float) : Type 0 where
  pub long : length after ≡ length before
  pub these : (j : ℕ) → j < length before → f j ≡ true → get_or after j nan ≡ worked j
  pub others : (j : ℕ) → f j ≡ false → get_or after j nan ≡ get_or before j nan

-- ---- statements: the index

-- Only transitions of the net are worked out again.
abbrev pub OnlyOfTheNet : Type 0
OnlyOfTheNet = (n : Net) (e : Entry) (j : ℕ) → again n e j ≡ true → j < length n.transitions

-- Where two markings agree at every place for which a transition is listed, it is enabled at both or at neither, its propensity is the same, and so is
-- whether that is rounded.
abbrev pub Untouched : Type 0
Untouched = (n : Net) (j : ℕ) (m m' : Marking) → ((p : ℕ) → listed n p j ≡ true → held m p ≡ held m' p)
    → (enabled n m (transition n j) ≡ enabled n m' (transition n j))
    × (propensity n m (transition n j) ≡ propensity n m' (transition n j))
    × (rounded n m (transition n j) ≡ rounded n m' (transition n j))

-- An entry that is allowed leaves the count of every place that it does not change ...
abbrev pub Unchanged : Type 0
Unchanged = (n : Net) → takes_once n.transitions ≡ true → (m : Marking) (e : Entry) → Allowed n m e
    → (p : ℕ) → changes n e p ≡ false → held (move n m e) p ≡ held m p

-- ... and all three of every transition that is not listed for a place that it changes.
abbrev pub Stays : Type 0
Stays = (n : Net) → takes_once n.transitions ≡ true → (m : Marking) → length m ≤ length n.places → (e : Entry) → Allowed n m e
    → (j : ℕ) → again n e j ≡ false
    → (enabled n (move n m e) (transition n j) ≡ enabled n m (transition n j))
    × (propensity n (move n m e) (transition n j) ≡ propensity n m (transition n j))
    × (rounded n (move n m e) (transition n j) ≡ rounded n m (transition n j))

-- ---- statements: what is kept

-- Where P f holds at the counts before an entry, P g holds at those after it: g has the transitions that f has, and those that the entry lists.
abbrev pub GoodOn : ((ℕ → Bool) → Net → Marking → Type 0) → Type 0
GoodOn P = (n : Net) → takes_once n.transitions ≡ true → (m : Marking) → length m ≤ length n.places → (e : Entry) → Allowed n m e
    → (f g : ℕ → Bool) → ((j : ℕ) → g j ≡ (f j || again n e j)) → P f n m → P g n (move n m e)

-- What is kept stays good through an entry, except for the transitions that it lists.
abbrev pub KeptOn : Type 0
KeptOn = (kept : List Float) → GoodOn (λ (f : ℕ → Bool) (n : Net) (m : Marking). KeptBut f n m kept)

abbrev pub MarkedOn : Type 0
MarkedOn = (marks : ℕ → Bool) → GoodOn (λ (f : ℕ → Bool) (n : Net) (m : Marking). MarkedBut f n m marks)

abbrev pub ShutOn : Type 0
ShutOn = GoodOn ShutBut

-- Once those of which f holds are worked out again, all that is kept is a full working.
abbrev pub KeptWhole : Type 0
KeptWhole = (n : Net) (m : Marking) (f : ℕ → Bool) (before after : List Float) → length n.transitions ≤ length before
    → KeptBut f n m before → Reworked f (λ (j : ℕ). propensity n m (transition n j)) before after
    → take (length n.transitions) after ≡ propensities n m

-- A full working is kept whole.
abbrev pub WorkedKept : Type 0
WorkedKept = (n : Net) (m : Marking) (kept : List Float) → take (length n.transitions) kept ≡ propensities n m → Kept n m kept

-- So "the kept propensities equal a full working at each step": after any entries that are allowed, as those of a run are (Demand3), where only the
-- transitions that these list were worked out again.
abbrev pub KeptThroughout : Type 0
KeptThroughout = (n : Net) → takes_once n.transitions ≡ true → (m : Marking) → length m ≤ length n.places → (es : List Entry) → EachAllowed n m es
    → (kept kept' : List Float) → length n.transitions ≤ length kept → Kept n m kept
    → Reworked (again_after n es) (λ (j : ℕ). propensity n (after n m es) (transition n j)) kept kept'
    → take (length n.transitions) kept' ≡ propensities n (after n m es)

-- Where every mark is good, some transition is marked exactly where a0 adds a rounded propensity.
abbrev pub MarksWhole : Type 0
MarksWhole = (n : Net) (m : Marking) (marks : ℕ → Bool) → MarkedBut (λ (j : ℕ). false) n m marks → any_below marks (length n.transitions) ≡ adds_rounded n m
