-- What the call for a net's objections to diffusion answers, and what it leaves in the lent buffer. Document 02, order 3: "Write into a lent byte buffer the
-- whole `reason` text that document 001 gives for a net, labels standing for place ids, and return its length. … the bytes after the text stay. … Answers: 19
-- buffer too short, tested after the net and before any byte is written."
use Rattle.std.specs.Prelude.{ℕ, cond, ◌++◌, map, leb, length, drop, Result, Ok, Err}
use Rattle.std.proofs.Math.Option.{Option, none, some}
use Rattle.refusals.specs as Reason
use Rattle.refusals.specs.Number.{number_of}
use Rattle.refusals.specs.declared.Refusal.{Refusal}
use Rattle.text.specs.Text.{Bytes}
use Rattle.net.specs.declared.Net.{Net as NetRecord}
use Rattle.net.specs.Labels.{label_at}
use Rattle.net.specs.Readable.{readable, fault}
use Rattle.gates.specs.Gated.{Gates, gates}
use Rattle.reason.specs.Reasons.{Reasons, reason_text}

-- ---- the text of a net

-- what gates it, "labels standing for place ids"; the bounded places in place order
abbrev pub reasons : (ℕ → Bytes) → Gates → Reasons
reasons label g =
    record { reads = g.reads; inhibitors = g.inhibitors; non_kinetic = g.non_kinetic; bounded = map label g.bounded; delayed = g.delayed }

abbrev pub reasons_of : NetRecord → Reasons
reasons_of n = reasons (label_at n.label n.lengths) (gates (readable n))

-- where nothing gates, it is empty (Same)
abbrev pub reason_of : NetRecord → Bytes
reason_of n = reason_text (reasons_of n)

-- ---- the call

-- the program's answer, its refusal by its number, as order 3 gives it
abbrev pub told : Result ℕ Refusal → Result ℕ ℕ
told (Ok n) = Ok n
told (Err e) = Err (number_of e)

-- a text that fits stands in front, the bytes behind it stay, and the answer is its length; else 19, and no byte has changed
abbrev pub answered : Bytes → Bytes → Bytes × Result ℕ ℕ
answered out text =
    cond (leb (length text) (length out)) (text ++ drop (length text) out, Ok (length text)) (out, Err Reason.short_buffer)

-- a net that is turned down, by 2 to 7, 17 or 18, changes no byte
abbrev pub unless_fault : Option ℕ → Bytes → Bytes × Result ℕ ℕ → Bytes × Result ℕ ℕ
unless_fault none out answer = answer
unless_fault (some c) out answer = (out, Err c)

-- the buffer and the answer of the call that is lent this buffer
unfoldable pub called : NetRecord → Bytes → Bytes × Result ℕ ℕ
called n out = unless_fault (fault n) out (answered out (reason_of n))
