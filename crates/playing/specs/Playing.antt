-- What the loop of a path leaves, in the words of the run that is worked step by step (rules, proofs/Play): nothing here adds to the rules.
use Rattle.std.specs.Prelude.{ℕ, ◌+◌, ◌*◌, ◌≤◌, ◌<◌, ◌≡◌, Bool, List, [], ◌++◌, length, drop, get_or, Float}
use Rattle.refusals.specs.Number.{number_of}
use Rattle.refusals.specs.declared.Refusal.{Refusal as RefusalEnum}
use Rattle.std.specs.Float.{nan}
use Rattle.net.specs.Net.{Marking, pick, held}
use Rattle.rules.specs.Propensity.{float}
use Rattle.rules.specs.Step.{State, Answer, refused, given}
use Rattle.rules.specs.Run.{End, spent, halted}
use Rattle.rules.specs.Carried.{filled_by}
use Rattle.rules.proofs.Play.{Played, alike, over}
use Rattle.rules.proofs.PlayLaws.{add_done}
use Rattle.playing.specs.declared.PathEnd.{PathEnd}
use Rattle.playing.specs.declared.PathEnd.TheVariants.{Refused}
use Rattle.playing.specs.declared.run.Walked.{Walked}
use Rattle.playing.specs.Cells.{cleared, table_with, Stay}
use Rattle.playing.specs.Ends.{end_of}

-- the instants from `from` to before `to` show these counts, one an instant
pub record Listed (places n from to : ℕ) (shown : List Marking) (before after : List Float) : Type 0 where
  pub count : to ≡ from + length shown
  pub long : length after ≡ length before
  pub cells : (p j : ℕ) → p < places → j < length shown → get_or after (p * n + (from + j)) nan ≡ float (held (get_or shown j []) p)
  pub earlier : (p i : ℕ) → p < places → i < from → get_or after (p * n + i) nan ≡ get_or before (p * n + i) nan
  -- the cells of later instants stand
  pub later : (p i : ℕ) → p < places → to ≤ i → i < n → get_or after (p * n + i) nan ≡ get_or before (p * n + i) nan
  pub further : Stay places n before after

-- the end where the steps are done and another would follow
abbrev pub out_of : Bool → End
out_of halts = pick halts halted spent

-- The loop, where `whole` is what is to come: refused, or it ends in the state `left`, after these counts were shown.
pub data WalkBy (whole : Answer Played) (xs : List Float) (left : State) (shows : List Marking → Type 0) (w : Walked) : PathEnd → Type 0 where
  refuses : (c : RefusalEnum) → whole ≡ refused (number_of c) → WalkBy whole xs left shows w (Refused c)
  ends : (end : PathEnd) (e : End) (sh : List Marking) → end_of end ≡ given e → w.next ≤ length xs → shows sh
      → whole ≡ add_done sh (length sh) w.peak w.rounded w.steps (given (over e left (drop w.next xs))) → WalkBy whole xs left shows w end

-- The run with its cells, from instant `from` on: where it is refused every cell of the answer is +0; else these counts were shown, and where it is not halted
-- the instants that are left show the last ones.
pub data PlayedBy (whole : Answer Played) (places : ℕ) (xs : List Float) (from : ℕ) (before after : List Float) (left : State) (w : Walked) : PathEnd → Type 0 where
  refuses : (c : RefusalEnum) → whole ≡ refused (number_of c) → after ≡ cleared (places * length xs) before → PlayedBy whole places xs from before after left w (Refused c)
  ends : (end : PathEnd) (e : End) (sh : List Marking) → end_of end ≡ given e → w.next ≡ from + length sh → w.next ≤ length xs
      → after ≡ table_with places (length xs) from (sh ++ alike left.counts (filled_by e (drop w.next xs))) before
      → whole ≡ add_done sh (length sh) w.peak w.rounded w.steps (given (over e left (drop w.next xs)))
      → PlayedBy whole places xs from before after left w end
