-- What the program's tables and answers stand for. Nothing here adds to the game or to the search.
use Rattle.std.specs.Prelude.{ℕ, suc, ◌≤◌, ◌<◌, ◌≡◌, Bool, true, false, List, [], ◌∷◌, eqb, length, Option, Some, None}
use Rattle.net.specs.declared.Net.{Net as NetRecord}
use Rattle.net.specs.Net.{Net, Marking, pick}
use Rattle.net.specs.Readable.{readable}
use Rattle.net.specs.Record.{net_of}
use Rattle.engine.specs.Engine as Engine
use Rattle.engine.specs.Limits as Limits
use Rattle.game.specs.Game.{Side, fault, recovery, Game, firing, may_fire, Answer, already, fire_first, pass_first, never}
use Rattle.game.specs.Search.{Counted, counted}
use Rattle.game.specs.declared.First.{First}
use Rattle.game.specs.declared.First.TheVariants.{Already, Fires, Passes}
use Rattle.game.specs.declared.FaultFound.{FaultFound}
use Rattle.game.specs.declared.search.Game.{Game as Tables}
use Rattle.game.specs.declared.search.RecoveryFound.{RecoveryFound}

-- ---- the game

-- 0: the fault side; 1: recovery (24 turns any other number down)
abbrev pub side_of : ℕ → Side
side_of x = pick (eqb x 0) fault recovery

abbrev pub sides_of : List ℕ → List Side
sides_of [] = []
sides_of (x ∷ xs) = side_of x ∷ sides_of xs

abbrev pub game_of : Net → List ℕ → ℕ → ℕ → Game
game_of n sides p c = record { net = n; sides = sides_of sides; place = p; count = c }

abbrev pub same : Side → Side → Bool
same fault fault = true
same fault recovery = false
same recovery fault = false
same recovery recovery = true

-- how many transitions a side has
abbrev pub owned : Side → List Side → ℕ
owned s [] = 0
owned s (x ∷ xs) = pick (same s x) (suc (owned s xs)) (owned s xs)

-- what 24 asks of a list of sides: one for each of n transitions, with at most 8 on each
pub record Sided (n : ℕ) (sides : List ℕ) : Type 0 where
  pub long : length sides ≡ n
  pub fault : owned fault (sides_of sides) ≤ 8
  pub recovery : owned recovery (sides_of sides) ≤ 8

-- what the tables satisfy while a game is searched
pub record Table (n : NetRecord) (limit sides : List ℕ) (p : ℕ) : Type 0 where
  pub tidy : Engine.Tidy n
  pub limits : Limits.Limits n limit
  pub sided : Sided n.transitions sides
  pub place : p < n.places

abbrev pub Ready : Tables → Type 0
Ready t = Table (net_of t.net.now) t.limit.now t.sides.now t.wanted

abbrev pub game_in : Tables → Game
game_in t = game_of (readable (net_of t.net.now)) t.sides.now t.wanted t.count

-- ---- answers

abbrev pub first_of : Option First → Answer
first_of (Some Already) = already
first_of (Some (Fires j)) = fire_first j
first_of (Some Passes) = pass_first
first_of None = never

abbrev pub fault_of : FaultFound → Counted Answer
fault_of r = counted (first_of r.first) r.examined

abbrev pub recovery_of : RecoveryFound → Counted Bool
recovery_of r = counted r.won r.examined

-- a firing over so many places: whether it may, and where it may, that these are the counts after it
abbrev pub FiredBy : Net → Marking → ℕ → ℕ → Option (List ℕ) → Type 0
FiredBy n m places j None = may_fire n m j ≡ false
FiredBy n m places j (Some after) = (may_fire n m j ≡ true) × (Engine.marking places after ≡ firing n m j) × Engine.Counts after
