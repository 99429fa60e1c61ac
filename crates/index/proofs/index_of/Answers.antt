-- By what the test says. The net with its slots in order reads as the net, so the words of its places are those of the net. Assumes nothing.
use mathlib.Core.Path.{sym, ap, subst, subst⁻¹, ◌∙◌}
use Rattle.net.specs.Net.{Net}
use Rattle.net.specs.declared.Net.{Net as NetRecord}
use Rattle.net.specs.Readable.{meaning}
use Rattle.engine.specs.Engine.{Tidy}
use Rattle.index.proofs.index_of.Goals as goal

pub listed_words-requires : goal.listed_words-requires
listed_words-requires c = subst⁻¹ Tidy c.of.ensures c.fill.ensures.tidy
