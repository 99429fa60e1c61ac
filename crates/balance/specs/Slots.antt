-- What the slots of a transition weigh. Summed over them these are the rules' words (Balance of the crate rules; proofs/Weights); nothing here adds to them.
use Rattle.std.specs.Prelude.{ℕ, ◌*◌, ◌≤◌, ◌<◌, Bool, List, eqb, leb, get_or}
use Rattle.net.specs.Net.{pick, amount}
use Rattle.net.specs.Readable.{Slot, takes_of, arcs_of, is_put}
use Rattle.rules.specs.Balance.{takes_weigh, puts_weigh}

-- what a slot takes and puts, its place weighing w
abbrev pub taken_weight : ℕ → ℕ → ℕ → ℕ
taken_weight kind weight w = pick (leb kind 1) (w * amount weight) 0

abbrev pub put_weight : ℕ → ℕ → ℕ → ℕ
put_weight kind weight w = pick (is_put kind) (w * amount weight) 0

-- the slots put as much as they take
abbrev pub slots_even : List ℕ → List Slot → Bool
slots_even ws ls = eqb (puts_weigh ws (arcs_of is_put ls)) (takes_weigh ws (takes_of ls))

-- each slot from `from` to before `end` names one of n places
abbrev pub Placed : ℕ → ℕ → List ℕ → ℕ → Type 0
Placed from end place n = (a : ℕ) → from ≤ a → a < end → get_or place a 0 < n

-- "from 0 to 1,000"
abbrev pub Small : List ℕ → Type 0
Small ws = (p : ℕ) → get_or ws p 0 ≤ 1_000
