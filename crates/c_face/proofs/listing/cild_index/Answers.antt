-- What `index_of` ensures of the fields lent, by its verdict, told as a number. Assumes nothing.
use Prim.Native.Nat.{ℕ}
use mathlib.Core.Path.{◌≡◌, sym, subst}
use mathlib.Core.List.{List}
use mathlib.Core.Option.{Option}
use Rattle.net.specs.Net.{Net}
use Rattle.std.specs.Prelude.{Result, Ok, Err}
use Rattle.refusals.specs.declared.Refusal.{Refusal}
use Rattle.index.specs.Table.{Answered}
use Rattle.c_face.specs.Indexed.{number_of, Left}
use Rattle.c_face.proofs.listing.cild_index.Goals as goal

-- what a verdict says is what its call leaves
left : (fault : Option ℕ) (n : Net) (before after : List ℕ) (v : Result Unit Refusal) (told : ℕ) → Answered fault n before after v → told ≡ number_of v
    → Left fault n before after told
left fault n before after (Ok u) told h e = subst (λ (f : Option ℕ). Left f n before after told) (sym h.0) (e, h.1)
left fault n before after (Err c) told h e = subst (λ (f : Option ℕ). Left f n before after told) (sym h.0) (e, h.1)

pub returns : goal.returns
returns c = left _ _ _ _ c.index_of-verdict.result _ c.index_of-verdict.ensures c.verdict_number.ensures
