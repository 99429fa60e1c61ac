-- The index of a net as a path uses it: order 5's list of each place, and beside it what lets a change of the place's count pass most of the list over. A
-- slot is open on one side of a threshold and shut on the other (specs/Limits), so a change that crosses no threshold opens and shuts nothing; and what a
-- transition's ways multiply to asks for the counts of its kinetic inputs alone. Document 02, order 5: "for each place, the transitions with an input, read or
-- inhibitor on it, or a net change above 0 on it where its capacity is above 0".
use Rattle.std.specs.Prelude.{ℕ, ◌+◌, ◌-◌, ◌*◌, ◌^◌, ◌≤◌, ◌<◌, ◌≡◌, Bool, true, false, ◌&&◌, ◌||◌, List, [], ◌∷◌, eqb, leb, ltb, length, get_or, Float}
use Rattle.words.specs.Bits.{bit}
use Rattle.net.specs.declared.Net.{Net as NetRecord}
use Rattle.net.specs.Net.{Take, Transition, Net, Marking, pick}
use Rattle.net.specs.Readable as Record
use Rattle.net.specs.Readable.{readable}
use Rattle.net.specs.Record.{labelled}
use Rattle.rules.specs.Enabled.{enabled}
use Rattle.rules.specs.Propensity.{factored}
use Rattle.rules.specs.Exact.{some_inexact}
use Rattle.rules.specs.Moves.{transition}
use Rattle.rules.specs.Demand3.{takes_from}
use Rattle.rules.specs.Index.{on, listed, any_below}
use Rattle.engine.specs.Engine.{Tidy, marking}
use Rattle.engine.specs.Limits.{limit_at}

-- a slot of that limit is open at the counts on one side of this one, and shut on the other: an upper limit itself, or the smallest count of a lower one
abbrev pub threshold : ℕ → ℕ
threshold limit = pick (ltb limit 0x8000_0000_0000_0000) limit (0x1_0000_0000_0000_0000 - limit)

-- whether one of these takes is a kinetic input on place p
abbrev pub kinetic_on : ℕ → List Take → Bool
kinetic_on p [] = false
kinetic_on p (k ∷ ks) = (k.kinetic && eqb k.place p) || kinetic_on p ks

-- A table of 160 words: for place p, at p the transitions with a kinetic input on it, at 32 + p listed ones, and among them all with a slot there whose threshold
-- is 1, at 64 + p all that are listed for it, and at 96 + p and 128 + p numbers between which all other thresholds lie that a count can cross.
pub record Guards (n : NetRecord) (guards : List ℕ) : Type 0 where
  pub long : length guards ≡ 160
  pub kinetic : (p j : ℕ) → p < 32 → bit (get_or guards p 0) j ≡ kinetic_on p (transition (readable n) j).takes
  pub lists : (p j : ℕ) → p < 32 → bit (get_or guards (64 + p) 0) j ≡ listed (readable n) p j
  pub among : (p j : ℕ) → p < 32 → bit (get_or guards (32 + p) 0) j ≡ true → listed (readable n) p j ≡ true
  pub edge : (j i : ℕ) → j < n.transitions → i < get_or n.arcs j 0 → threshold (limit_at n (16 * j + i)) ≡ 1
      → bit (get_or guards (32 + get_or n.place (16 * j + i) 0) 0) j ≡ true
  pub range : (j i : ℕ) → j < n.transitions → i < get_or n.arcs j 0 → 2 ≤ threshold (limit_at n (16 * j + i)) → threshold (limit_at n (16 * j + i)) ≤ 2 ^ 53
      → (get_or guards (96 + get_or n.place (16 * j + i) 0) 0 ≤ threshold (limit_at n (16 * j + i)))
      × (threshold (limit_at n (16 * j + i)) ≤ get_or guards (128 + get_or n.place (16 * j + i) 0) 0)

-- From the counts m to m' no transition outside the word `crossed` changes whether it is enabled, and none outside the word `moved` what its ways multiply to,
-- or whether one of them is inexact; both are words of transitions of the net.
pub record Quiet (n : Net) (m m' : Marking) (moved crossed : ℕ) : Type 0 where
  pub gates : (j : ℕ) → j < length n.transitions → bit crossed j ≡ false → enabled n m' (transition n j) ≡ enabled n m (transition n j)
  pub ways : (j : ℕ) → j < length n.transitions → bit moved j ≡ false → (x : Float) → factored m' x (transition n j).takes ≡ factored m x (transition n j).takes
  pub exact : (j : ℕ) → j < length n.transitions → bit moved j ≡ false → some_inexact m' (transition n j).takes ≡ some_inexact m (transition n j).takes
  pub moves : (j : ℕ) → bit moved j ≡ true → j < length n.transitions
  pub crosses : (j : ℕ) → bit crossed j ≡ true → j < length n.transitions

-- whether transition j is one of those for which a change of place p's count from `low` up to `high`, or back, may cross a threshold
abbrev pub crossing : List ℕ → ℕ → ℕ → ℕ → ℕ → Bool
crossing guards p low high j =
    (eqb low 0 && bit (get_or guards (32 + p) 0) j)
    || (leb (get_or guards (96 + p) 0) high && ltb low (get_or guards (128 + p) 0) && bit (get_or guards (64 + p) 0) j)

-- Order 5: "After a firing, start or completion only the listed transitions of changed places are worked out again." By ruling 11 "changed places" may be all
-- places with a take or put of the transition: with a take where it starts, with a put where it completes, with either where it fires.
abbrev pub takes_on : ℕ → Transition → Bool
takes_on p t = takes_from p t.takes

abbrev pub puts_on : ℕ → Transition → Bool
puts_on p t = on p t.puts

abbrev pub moves_on : ℕ → Transition → Bool
moves_on p t = takes_on p t || puts_on p t

-- every transition of the word is listed for a place of the net that is touched
abbrev pub Listed : Net → (ℕ → Bool) → ℕ → Type 0
Listed n touched word = (i : ℕ) → bit word i ≡ true → any_below (λ (p : ℕ). touched p && listed n p i) (length n.places) ≡ true

-- What is told of transition j of the net n, which moves tokens from the counts m to m': outside the words nothing changes, and in them are only transitions
-- that are listed for a place which j touches.
abbrev pub Tells : (ℕ → Transition → Bool) → NetRecord → ℕ → Marking → Marking → ℕ → ℕ → Type 0
Tells touches n j m m' moved crossed =
    Quiet (readable n) m m' moved crossed
    × Listed (readable n) (λ (p : ℕ). touches p (Record.transition n j)) moved
    × Listed (readable n) (λ (p : ℕ). touches p (Record.transition n j)) crossed

-- the net m with the places and the arcs of n, so that tokens move in it as in n
abbrev pub moving_as : NetRecord → NetRecord → NetRecord
moving_as n m = labelled n.places m.transitions m.initial m.capacity m.label m.lengths m.rate m.delay n.arcs n.kind n.place n.weight

-- A function that moves tokens tells it of every net with the places and the arcs of the one that it is lent, whatever else the net has, if it is tidy and the
-- table is its.
abbrev pub Told : (ℕ → Transition → Bool) → NetRecord → ℕ → List ℕ → List ℕ → List ℕ → ℕ → ℕ → Type 0
Told touches n j guards before after moved crossed =
    (m : NetRecord) → Tidy (moving_as n m) → Guards (moving_as n m) guards
    → Tells touches (moving_as n m) j (marking n.places before) (marking n.places after) moved crossed
