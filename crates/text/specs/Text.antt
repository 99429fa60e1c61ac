-- What a text is: a list of bytes. Document 01, "Net text (added, house format)".
use Rattle.std.specs.Prelude.{ℕ, Bool, true, false, ◌&&◌, List, [], ◌∷◌, eqb}
use Prim.Native.Char.{code}
use Prim.Native.String as Quoted
use Prim.Native.String.{String}

-- a byte is a number below 256
abbrev pub Bytes : Type 0
Bytes = List ℕ

-- the bytes of a quoted text; all texts quoted here are ASCII, a byte to a character
abbrev pub bytes : String → Bytes
bytes Quoted.[] = []
bytes (Quoted.◌∷◌ c s) = code c ∷ bytes s

-- whether two lists of bytes are the same
abbrev pub same : Bytes → Bytes → Bool
same [] [] = true
same [] (c ∷ t) = false
same (b ∷ s) [] = false
same (b ∷ s) (c ∷ t) = eqb b c && same s t

-- the byte that ends a line
abbrev pub newline : ℕ
newline = 10
