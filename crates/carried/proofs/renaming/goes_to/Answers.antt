-- By the arm taken: past the transitions, past the numbers, or at a bit of the word. The table, seen as a slice, is 64 long. Assumes nothing.
use Rattle.std.proofs.Common.{◌≡◌, length, get_or, arith, rules, le-ltb, lt-ltb}
use Rattle.words.proofs.Bits.{bit_tested}
use Rattle.carried.proofs.Named.{same_read}
use Rattle.carried.proofs.renaming.goes_to.Goals as goal

pub returns-then-k-lt64 : goal.returns-then-k-lt64
returns-then-k-lt64 c =
    let s = c.args in
    let long : length s.names.now ≡ 64 = search rules in
    let k : get_or s.names.now s.who 64 ≡ get_or s.names.now s.who 0 = same_read s.names.now s.who 64 0 (omega arith) in
    rw (lt-ltb s.who 64 c.if-who-lt64.true, k, lt-ltb _ 64 c.if-k-lt64.true) (bit_tested _ _)

pub returns-else-k-lt64 : goal.returns-else-k-lt64
returns-else-k-lt64 c =
    let s = c.args in
    let long : length s.names.now ≡ 64 = search rules in
    let k : get_or s.names.now s.who 64 ≡ get_or s.names.now s.who 0 = same_read s.names.now s.who 64 0 (omega arith) in
    rw (lt-ltb s.who 64 c.if-who-lt64.true, k, le-ltb _ 64 c.if-k-lt64.false)

pub returns-else-who-lt64 : goal.returns-else-who-lt64
returns-else-who-lt64 c = rw (le-ltb c.args.who 64 c.if-who-lt64.false)
