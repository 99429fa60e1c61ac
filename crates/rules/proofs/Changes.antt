-- An accepted net takes from no place twice and puts into places that there are, and so the laws of Peaks hold of it.
use Rattle.net.specs.Readable.{readable}
use Rattle.rules.specs.Tokens.{EveryChange}
use Rattle.rules.proofs.Counts.{once_each}
use Rattle.rules.proofs.Peaks.{start_tokens, completion_tokens, firing_tokens}
use Rattle.rules.proofs.TakesOnce.{takes_once_lem, puts_inside}

pub every_change : EveryChange
every_change n e x l = record {
  start = λ j r. start_tokens (readable n) x j (once_each (readable n) (takes_once_lem n e) j) r;
  completion = λ j z rest q. completion_tokens (readable n) x j z rest q (rw l (puts_inside n e j));
  firing = λ j r. firing_tokens (readable n) x j (once_each (readable n) (takes_once_lem n e) j) r (rw l (puts_inside n e j));
}
