-- Lists of timers in order. Document 02, order 9, asks for the list of the rules (Timers, insert) however it is held; in a list in order the place of a new
-- timer can be looked for from the end.
use Rattle.std.specs.Prelude.{Bool, true, ◌&&◌, List, [], ◌∷◌, Float}
use Rattle.std.specs.Float.{inf}
use Rattle.std.specs.Float.Ieee.{lt, le}
use Rattle.net.specs.Net.{pick}
use Rattle.rules.specs.Timers.{Timer}

-- from the time a on, the completion times are numbers and do not fall
abbrev pub rises_from : Float → List Timer → Bool
rises_from a [] = true
rises_from a (x ∷ xs) = le a x.at && rises_from x.at xs

-- the completion times are numbers and do not fall
abbrev pub in_order : List Timer → Bool
in_order xs = rises_from (inf true) xs

-- every timer completes later than a
abbrev pub all_later : Float → List Timer → Bool
all_later a [] = true
all_later a (x ∷ xs) = lt a x.at && all_later a xs

-- a new timer goes behind the last one that does not complete later: in a list in order the place that the rules' insert gives it (proofs/Ordered, same-place)
abbrev pub insert_last : Timer → List Timer → List Timer
insert_last x [] = x ∷ []
insert_last x (y ∷ ys) = pick (all_later x.at (y ∷ ys)) (x ∷ y ∷ ys) (y ∷ insert_last x ys)
