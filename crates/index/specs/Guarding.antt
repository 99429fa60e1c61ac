-- How the table that passes transitions over (Guards of the crate engine) is filled, slot by slot; nothing here adds to it.
use Rattle.std.specs.Prelude.{ℕ, ◌+◌, ◌*◌, ◌^◌, ◌≤◌, ◌<◌, ◌≡◌, Bool, true, ◌&&◌, ◌||◌, List, eqb, length, get_or}
use Rattle.words.specs.Bits.{bit}
use Rattle.net.specs.declared.Net.{Net as NetRecord}
use Rattle.net.specs.Readable.{readable}
use Rattle.rules.specs.Moves.{transition}
use Rattle.rules.specs.Index.{listed}
use Rattle.engine.specs.Limits.{limit_at}
use Rattle.engine.specs.Guards.{threshold, kinetic_on}

-- a threshold that a count can cross, and that has no word of its own
abbrev pub Crossed : ℕ → Type 0
Crossed x = (2 ≤ x) × (x ≤ 2 ^ 53)

-- the table before any slot: the listed transitions of each place, and no others
pub record Begun (words guards : List ℕ) : Type 0 where
  pub long : length guards ≡ 160
  pub kinetic : (p : ℕ) → p < 32 → get_or guards p 0 ≡ 0
  pub edge : (p : ℕ) → p < 32 → get_or guards (32 + p) 0 ≡ 0
  pub lists : (p : ℕ) → p < 32 → get_or guards (64 + p) 0 ≡ get_or words p 0

-- among the words at these numbers, one for each place, transition j is added to that of place p, if so, and nothing else is
abbrev pub Adds : (ℕ → ℕ) → Bool → ℕ → ℕ → List ℕ → List ℕ → Type 0
Adds at on p j before after = (q i : ℕ) → q < 32 → bit (get_or after (at q) 0) i ≡ (bit (get_or before (at q) 0) i || ((on && eqb q p) && eqb i j))

-- with a slot of transition j at place p, of threshold x, that is a kinetic take or none
pub record Guarded (kinetic : Bool) (x p j : ℕ) (before after : List ℕ) : Type 0 where
  pub long : length after ≡ 160
  pub takes : Adds (λ (q : ℕ). q) kinetic p j before after
  pub edges : Adds (λ (q : ℕ). 32 + q) (eqb x 1) p j before after
  pub lists : (q : ℕ) → q < 32 → get_or after (64 + q) 0 ≡ get_or before (64 + q) 0
  pub lower : (q : ℕ) → q < 32 → get_or after (96 + q) 0 ≤ get_or before (96 + q) 0
  pub first : Crossed x → get_or after (96 + p) 0 ≤ x
  pub higher : (q : ℕ) → q < 32 → get_or before (128 + q) 0 ≤ get_or after (128 + q) 0
  pub last : Crossed x → x ≤ get_or after (128 + p) 0

-- slot a is one of those of transition j
pub record Used (n : NetRecord) (j a : ℕ) : Type 0 where
  pub real : j < n.transitions
  pub from : 16 * j ≤ a
  pub to : a < 16 * j + get_or n.arcs j 0

-- the table once the slots below `done` are told of: what it says is so, and it says all of these
pub record Guarding (n : NetRecord) (guards : List ℕ) (done : ℕ) : Type 0 where
  pub long : length guards ≡ 160
  pub takes : (j a : ℕ) → Used n j a → a < done → get_or n.kind a 0 ≡ 0 → bit (get_or guards (get_or n.place a 0) 0) j ≡ true
  pub kinetic : (p j : ℕ) → p < 32 → bit (get_or guards p 0) j ≡ true → kinetic_on p (transition (readable n) j).takes ≡ true
  pub edges : (j a : ℕ) → Used n j a → a < done → threshold (limit_at n a) ≡ 1 → bit (get_or guards (32 + get_or n.place a 0) 0) j ≡ true
  pub among : (p j : ℕ) → p < 32 → bit (get_or guards (32 + p) 0) j ≡ true → listed (readable n) p j ≡ true
  pub lists : (p j : ℕ) → p < 32 → bit (get_or guards (64 + p) 0) j ≡ listed (readable n) p j
  pub range : (j a : ℕ) → Used n j a → a < done → Crossed (threshold (limit_at n a))
      → (get_or guards (96 + get_or n.place a 0) 0 ≤ threshold (limit_at n a)) × (threshold (limit_at n a) ≤ get_or guards (128 + get_or n.place a 0) 0)
