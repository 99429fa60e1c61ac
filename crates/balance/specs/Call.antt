-- The call that asks whether weights balance a net. Document 02, order 7: "For a list of whole weights from 0 to 1,000, one per place, say whether every
-- transition puts exactly as much weight as it takes. … If no, the lowest unbalanced transition is given. A list with another length than the place count is
-- refused by 3, then a weight above 1,000 by 4." What is asked is Balance of the crate rules; a net that is given is tested first.
use Rattle.std.specs.Prelude.{ℕ, List, Result, Ok, Err, Option as Answered, Some, None}
use Rattle.refusals.specs.Number.{number_of}
use Rattle.refusals.specs.declared.Refusal.{Refusal}
use Rattle.std.proofs.Math.Option.{Option, none, some}
use Rattle.net.specs.declared.Net.{Net as NetRecord}
use Rattle.net.specs.Net.{Net}
use Rattle.net.specs.Readable.{readable, fault}
use Rattle.rules.specs.Step.{Answer, refused, given}
use Rattle.rules.specs.Balance.{unbalanced, balance}

-- a refusal's number; none where the weights balance the net; or the lowest unbalanced transition
abbrev pub Called : Type 0
Called = Answer (Option ℕ)

-- a net that is turned down, by 2 to 7, 17 or 18, is so before its weights
abbrev pub unless_fault : Option ℕ → Called → Called
unless_fault none answer = answer
unless_fault (some c) answer = refused c

unfoldable pub called : NetRecord → List ℕ → Called
called n ws = unless_fault (fault n) (balance (readable n) ws)

-- the answer where neither the net nor the weights are turned down
abbrev pub weighed : Net → List ℕ → Called
weighed n ws = given (unbalanced n ws)

-- what the program answers: the lowest unbalanced transition, if there is one, or a refusal
abbrev pub lowest : Answered ℕ → Option ℕ
lowest None = none
lowest (Some j) = some j

abbrev pub call_of : Result (Answered ℕ) Refusal → Called
call_of (Ok j) = given (lowest j)
call_of (Err c) = refused (number_of c)
