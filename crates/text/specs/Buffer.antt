-- What a writer leaves in a lent buffer, and what it answers.
use Rattle.std.specs.Prelude.{ℕ, ◌+◌, cond, ◌++◌, leb, length, take, drop, Option, Some, None}
use Rattle.text.specs.Text.{Bytes}

-- the buffer with w at position i, and every other byte as it was
abbrev pub placed : Bytes → ℕ → Bytes → Bytes
placed out i w = take i out ++ w ++ drop (i + length w) out

-- Buffer and answer once w is written at position i: where w fits it stands there, and the answer is the position behind it;
-- else no byte has changed, and the answer is none: the buffer is too short.
abbrev pub written : Bytes → ℕ → Bytes → Bytes × Option ℕ
written out i w = cond (leb (i + length w) (length out)) (placed out i w, Some (i + length w)) (out, None)

-- The same behind what was written before: there, or nowhere if that found too little room.
abbrev pub and_then : Bytes × Option ℕ → Bytes → Bytes × Option ℕ
and_then (out, Some i) w = written out i w
and_then (out, None) w = (out, None)
