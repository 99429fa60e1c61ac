-- The call of a game: its refusals in their order, and else what the search finds from the initial counts. Document 02, order 13: "Answers: 23 a delayed
-- transition, 24 an ownership list that doesn't give each transition one side with at most 8 on each, or a turn number out of range, 25 no such place; in
-- this order."
use Rattle.std.specs.Prelude.{ℕ, ◌-◌, ◌≤◌, ◌≡◌, Bool, true, false, ◌&&◌, ◌||◌, List, [], ◌∷◌, eqb, leb, ltb, length, Result, Ok, Err}
use Rattle.refusals.specs.Number.{number_of}
use Rattle.refusals.specs.declared.Refusal.{Refusal as RefusalEnum}
use Rattle.std.proofs.Math.Option.{Option, none, some}
use Rattle.refusals.specs as Refusal
use Rattle.net.specs.declared.Net.{Net as NetRecord}
use Rattle.net.specs.Net.{Transition, Net, pick, timed}
use Rattle.net.specs.Readable.{readable, fault as net_fault}
use Rattle.rules.specs.Moves.{initial_counts}
use Rattle.game.specs.Game.{fault, recovery, Answer, Exactly}
use Rattle.game.specs.Search.{Counted, fault_move}
use Rattle.game.specs.Play.{sides_of, owned, game_of, fault_of}
use Rattle.game.specs.declared.FaultFound.{FaultFound}

-- one of them is delayed
abbrev pub delayed : List Transition → Bool
delayed [] = false
delayed (t ∷ ts) = timed t || delayed ts

-- each number is a side's: 0 or 1
abbrev pub each_side : List ℕ → Bool
each_side [] = true
each_side (x ∷ xs) = leb x 1 && each_side xs

-- the list gives each of n transitions one side, with at most 8 on each
abbrev pub sides_fit : ℕ → List ℕ → Bool
sides_fit n sides = eqb (length sides) n && each_side sides && leb (owned fault (sides_of sides)) 8 && leb (owned recovery (sides_of sides)) 8

-- "1 to 8 turns"
abbrev pub turns_fit : ℕ → Bool
turns_fit k = leb 1 k && leb k 8

-- a number by which the call is turned down, or an answer with the positions examined
pub data Called : Type 0 where
  refused : ℕ → Called
  found : Counted Answer → Called

-- the answer for a net that is accepted
abbrev pub after_net : Net → List ℕ → ℕ → ℕ → ℕ → Called
after_net n sides p c turns =
    let searched = found (fault_move turns (game_of n sides p c) (initial_counts n)) in
    let placed = pick (ltb p (length n.places)) searched (refused Refusal.no_such_goal) in
    let sided = pick (sides_fit (length n.transitions) sides && turns_fit turns) placed (refused Refusal.bad_sides) in
    pick (delayed n.transitions) (refused Refusal.delayed_transition) sided

abbrev pub unless_fault : Option ℕ → Called → Called
unless_fault none r = r
unless_fault (some c) r = refused c

-- the refusals of the net first, with their numbers
unfoldable pub called : NetRecord → List ℕ → ℕ → ℕ → ℕ → Called
called n sides p c turns = unless_fault (net_fault n) (after_net (readable n) sides p c turns)

-- what the program answers
abbrev pub call_of : Result FaultFound RefusalEnum → Called
call_of (Ok r) = found (fault_of r)
call_of (Err c) = refused (number_of c)

-- "each exactly when the game's definition says so": an answer that a call gives is right by the rules of the game, and no other is; and it examines at
-- most the positions of a tree of 8 turns with 8 moves at each.
abbrev pub Exact : NetRecord → List ℕ → ℕ → ℕ → ℕ → Called → Type 0
Exact n sides p c turns r =
    (x : Counted Answer) → r ≡ found x
    → Exactly (game_of (readable n) sides p c) (turns - 1) (initial_counts (readable n)) x.answer × (x.examined ≤ 19_173_961)
