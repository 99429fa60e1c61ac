-- What the net alone decides of a transition, and words that mark transitions by it. The rules of a run are in the crate rules; nothing here adds to them.
use Rattle.std.specs.Prelude.{ℕ, ◌≡◌, Bool, ◌&&◌, ltb}
use Rattle.words.specs.Bits.{bit}
use Rattle.net.specs.declared.Net.{Net as NetRecord}
use Rattle.net.specs.Net.{Take, Transition, amount}
use Rattle.net.specs.Readable.{readable}
use Rattle.net.specs.Tests.{any}
use Rattle.rules.specs.Moves.{transition}

-- a kinetic take of several tokens: no other has an inexact binomial (proofs/Settling of the crate kept)
abbrev pub heavy : Take → Bool
heavy k = k.kinetic && ltb 1 (amount k.weight)

-- a transition with such a take
abbrev pub takes_several : Transition → Bool
takes_several t = any heavy t.takes

-- of any number j, bit j of the word is set exactly where the net has a transition j, and f holds of it
abbrev pub Marks : NetRecord → (Transition → Bool) → ℕ → Type 0
Marks n f word = (j : ℕ) → bit word j ≡ (ltb j n.transitions && f (transition (readable n) j))
