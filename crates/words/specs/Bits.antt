-- A word as a set of small numbers: j is in it where bit j is set. Definitions only.
use Rattle.std.specs.Prelude.{ℕ, Bool, ◌==◌}
use Rattle.words.specs.Rotation as Rotation

-- whether bit j of a word is set
unfoldable pub bit : ℕ → ℕ → Bool
bit word j = Rotation.bit j word == 1
