-- Laws of the state change of xoshiro256**, as statements. Document 02, order 12: it is linear, and it can be undone. `proofs/Linear.antt` proves the first and
-- `proofs/Reversed.antt` the others. A state is any four 64-bit words, zero included; the output and its two multiplications have no part in these laws.
use Rattle.std.specs.Prelude.{◌≡◌, ℕ, ◌*◌, ◌%◌, ◌^◌, ◌<◌, bit_xor}
use Rattle.words.specs.Rotation.{rotl}
use Rattle.rng.specs.State.{State}
use Rattle.rng.specs.Xoshiro.{step}

-- the four words are numbers below 2 ^ 64, as a uint64_t is
pub record InRange (s : State) : Type 0 where
  pub in0 : s.s0 < 2 ^ 64
  pub in1 : s.s1 < 2 ^ 64
  pub in2 : s.s2 < 2 ^ 64
  pub in3 : s.s3 < 2 ^ 64

-- the exclusive-or of two states, word by word
abbrev pub xored : State → State → State
xored s t = record { s0 = bit_xor s.s0 t.s0; s1 = bit_xor s.s1 t.s1; s2 = bit_xor s.s2 t.s2; s3 = bit_xor s.s3 t.s3 }

-- u ^ (u << 17) ^ (u << 34) ^ (u << 51): the x with x ^ (x << 17) = u
abbrev pub unsheared : ℕ → ℕ
unsheared u = bit_xor (bit_xor (bit_xor u ((u * 2 ^ 17) % 2 ^ 64)) ((u * 2 ^ 34) % 2 ^ 64)) ((u * 2 ^ 51) % 2 ^ 64)

-- "a step back". Of the words that a step leaves, s[3] is rotl(b[3] ^ b[1], 45), where b are the words before it, which a rotation by 64 - 45 = 19 undoes; and
-- s[1] ^ s[2] is b[1] ^ (b[1] << 17). So v = rotl(s[3], 19); u = s[1] ^ s[2]; b[0] = s[0] ^ v; b[1] = unsheared(u); b[2] = s[1] ^ b[0] ^ b[1]; b[3] = v ^ b[1]
abbrev pub step_back : State → State
step_back s =
    let v = rotl s.s3 19 in
    let b0 = bit_xor s.s0 v in
    let b1 = unsheared (bit_xor s.s1 s.s2) in
    record { s0 = b0; s1 = b1; s2 = bit_xor (bit_xor s.s1 b0) b1; s3 = bit_xor v b1 }

-- "stepping the exclusive-or of two states gives the exclusive-or of the two stepped states"
abbrev pub Linear : Type 0
Linear = (s t : State) → InRange s → InRange t → step (xored s t) ≡ xored (step s) (step t)

-- "step and step back, in either order, give the first state again for every state, zero included"
abbrev pub BackAfterStep : Type 0
BackAfterStep = (s : State) → InRange s → step_back (step s) ≡ s

abbrev pub StepAfterBack : Type 0
StepAfterBack = (s : State) → InRange s → step (step_back s) ≡ s

-- neither leaves the states
abbrev pub StepStays : Type 0
StepStays = (s : State) → InRange s → InRange (step s)

abbrev pub BackStays : Type 0
BackStays = (s : State) → InRange s → InRange (step_back s)
