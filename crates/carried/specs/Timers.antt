-- Timers in three arrays, the first to leave first, as a carried path has them. Document 02, order 8.
use Rattle.std.specs.Prelude.{ℕ, List, slice_index, slice_index_or, Float}
use Rattle.std.specs.Float.{nan}
use Rattle.rules.specs.Timers.{Timer}
use Rattle.timers.specs.Turning.{from}

-- timer k
abbrev pub slot : List Float → List ℕ → List ℕ → ℕ → Timer
slot ats whos takens k = record { at = slice_index_or ats k nan; who = slice_index whos k; taken = slice_index takens k }

-- the first n of them; more than 256 are refused by 4 whatever they are
abbrev pub timers_in : List Float → List ℕ → List ℕ → ℕ → List Timer
timers_in ats whos takens n = from (slot ats whos takens) 0 n
