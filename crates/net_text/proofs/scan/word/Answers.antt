-- A word stands in front of the line, or it does not.
use Rattle.std.proofs.lemmas.Bool.Decides.{Decides-eqb}
use Rattle.std.proofs.lemmas.Slice.Eq.{strip_prefix_is}
use Rattle.net_text.proofs.Forms.{word_is}
use Rattle.net_text.proofs.scan.word.Goals as goal

pub returns : goal.returns
returns c = word_is c.args.w.now c.args.line.now _ (strip_prefix_is Decides-eqb _ _ _ c.strip_prefix.ensures.cases)
