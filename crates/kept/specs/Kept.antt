-- What a path keeps from step to step beside the counts: which transitions are enabled, the propensities, and which of these are rounded; each a word of
-- transitions or a table by transition. Document 02, order 5: "the kept propensities equal a full working at each step". Of a transition
-- in the word `crossed` it is not known whether it is enabled, and of one in `moved` not what its ways multiply to. The plain working is in the crate rules (Propensity, Exact); nothing here
-- adds to it.
use Rattle.std.specs.Prelude.{ℕ, ◌+◌, ◌-◌, ◌*◌, ◌≤◌, ◌<◌, ◌≡◌, Bool, true, false, ◌&&◌, List, eqb, leb, length, get_or, replicate, Float}
use Rattle.std.specs.Float.{nan}
use Rattle.words.specs.Bits.{bit}
use Rattle.net.specs.declared.Net.{Net as NetRecord}
use Rattle.kept.specs.declared.tables.Tables.{Tables}
use Rattle.net.specs.Net.{Net, Marking, zero64, rate_of, timed}
use Rattle.net.specs.Readable.{readable}
use Rattle.rules.specs.Enabled.{enabled}
use Rattle.rules.specs.Propensity.{factored}
use Rattle.rules.specs.Exact.{rounded}
use Rattle.rules.specs.Moves.{transition}

-- ---- at the counts m

pub record Kept (n : Net) (m : Marking) (moved crossed able : ℕ) (props : List Float) : Type 0 where
  pub gates : (j : ℕ) → j < length n.transitions → bit crossed j ≡ false → bit able j ≡ enabled n m (transition n j)
  pub shut : (j : ℕ) → j < length n.transitions → bit crossed j ≡ false → bit able j ≡ false → get_or props j nan ≡ zero64
  pub runs : (j : ℕ) → j < length n.transitions → bit crossed j ≡ false → bit moved j ≡ false → bit able j ≡ true
      → get_or props j nan ≡ factored m (rate_of (transition n j)) (transition n j).takes
  -- a delayed transition starts as soon as it is enabled: it never races
  pub waits : (j : ℕ) → j < length n.transitions → timed (transition n j) ≡ true → (bit able j ≡ false) × (get_or props j nan ≡ zero64)
  pub moves : (j : ℕ) → bit moved j ≡ true → j < length n.transitions
  pub crosses : (j : ℕ) → bit crossed j ≡ true → j < length n.transitions

-- the rounded ones among them: none that is not enabled
pub record Marked (n : Net) (m : Marking) (moved crossed able marks : ℕ) : Type 0 where
  pub shut : (j : ℕ) → j < length n.transitions → bit crossed j ≡ false → bit able j ≡ false → bit marks j ≡ false
  pub told : (j : ℕ) → j < length n.transitions → bit crossed j ≡ false → bit moved j ≡ false → bit marks j ≡ rounded n m (transition n j)
  pub inside : (j : ℕ) → bit marks j ≡ true → j < length n.transitions

-- no delayed transition is enabled: so it is once a step's starts are done
abbrev pub AllShut : Net → Marking → Type 0
AllShut n m = (j : ℕ) → j < length n.transitions → timed (transition n j) ≡ true → enabled n m (transition n j) ≡ false

-- ---- made once a call

-- tables that nothing has filled
abbrev pub blank : Tables
blank = record { limit = replicate 1024 0; rates = replicate 64 zero64; ends = replicate 64 0; guards = replicate 160 0; timed = 0; heavy = 0 }

-- the rate of each transition: 0 where it runs by a timer, and 1 where none is given
abbrev pub Rates : NetRecord → List Float → Type 0
Rates n rates = (j : ℕ) → j < n.transitions → get_or rates j nan ≡ rate_of (transition (readable n) j)

-- whether slot a is a kinetic take of one token
abbrev pub single : List ℕ → List ℕ → ℕ → Bool
single kind weight a = eqb (get_or kind a 0) 0 && leb (get_or weight a 0) 1

-- the first slot of transition j is its one kinetic take, of one token, from place p
pub record Alone (n : NetRecord) (j p : ℕ) : Type 0 where
  pub there : 0 < get_or n.arcs j 0
  pub takes : single n.kind n.weight (16 * j) ≡ true
  pub from : get_or n.place (16 * j) 0 ≡ p
  pub behind : (a : ℕ) → 16 * j + 1 ≤ a → a < 16 * j + get_or n.arcs j 0 → get_or n.kind a 0 ≡ 0 → ⊥

-- the first two slots of transition j are its kinetic takes, of one token each
pub record Two (n : NetRecord) (j : ℕ) : Type 0 where
  pub there : 1 < get_or n.arcs j 0
  pub takes : single n.kind n.weight (16 * j) ≡ true
  pub takes_too : single n.kind n.weight (16 * j + 1) ≡ true
  pub behind : (a : ℕ) → 16 * j + 2 ≤ a → a < 16 * j + get_or n.arcs j 0 → get_or n.kind a 0 ≡ 0 → ⊥

-- for each transition an end of its slots behind which none is a kinetic take; or, where its ways are the count of one place, 2,048 and that place; or, where
-- they are the counts of the places of its first two slots, 4,096
pub record Ends (n : NetRecord) (ends : List ℕ) : Type 0 where
  pub inside : (j : ℕ) → j < n.transitions → get_or ends j 0 < 2048 → get_or ends j 0 ≤ 16 * j + get_or n.arcs j 0
  pub behind : (j a : ℕ) → j < n.transitions → get_or ends j 0 < 2048 → get_or ends j 0 ≤ a → 16 * j ≤ a → a < 16 * j + get_or n.arcs j 0 → get_or n.kind a 0 ≡ 0 → ⊥
  pub alone : (j : ℕ) → j < n.transitions → 2048 ≤ get_or ends j 0 → get_or ends j 0 < 4096 → Alone n j (get_or ends j 0 - 2048)
  pub two : (j : ℕ) → j < n.transitions → 4096 ≤ get_or ends j 0 → Two n j
