-- The test says which of the two the definition picks.
use Rattle.playing.proofs.firing.after_event.Goals as goal

pub returns-then-completes : goal.returns-then-completes
returns-then-completes c = simp c.if-completes.true

pub returns : goal.returns
returns c = simp (c.if-completes.false, c.next_u64-d.ensures.1)
