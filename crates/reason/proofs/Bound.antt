-- How long the text can be: the buffer that it is put together in holds every text of 64 labels of 16 bytes and three counts of 64 bits. Assumes nothing.
use Prim.Native.Nat.{ℕ, zero, suc, ◌+◌, ◌*◌, ◌/◌, ◌%◌, ◌^◌, ◌≤◌, ◌<◌}
use native.Mathlib.Omega.{arith}
use mathlib.Core.Path.{◌≡◌, refl}
use mathlib.Core.Bool.{Bool, true, false}
use mathlib.Core.List.{List, [], ◌∷◌, ◌++◌, map}
use lib.Dec.{eqb}
use lib.ListN.{length, length-append}
use Rattle.net.specs.Net.{pick}
use Rattle.text.specs.Text.{Bytes, bytes}
use Rattle.text.specs.Numbers.{decimal_text}
use Rattle.text.proofs.Digits.{decimal_short}
use Rattle.net.specs.Labels.{label_at}
use Rattle.net.proofs.Naming.{label_short}
use Rattle.gates.specs.Gated.{bits_from}
use Rattle.reason.specs.Reasons.{Reasons, opening, read_words, inhibitor_words, non_kinetic_words, capacity_words, bound_words, dash, delay_words, counted, behind, joined, bracketed, timed, sentences, told, reason_text}

-- ---- labels

-- labels of at most 16 bytes
abbrev pub Short : List Bytes → Type 0
Short [] = Unit {0}
Short (l ∷ ls) = (length l ≤ 16) × Short ls

labels_by : (x : Bool) (f : ℕ → Bytes) (p : ℕ) (ps : List ℕ) (k : ℕ) → length (f p) ≤ 16 → Short (map f ps) × (length (map f ps) ≤ k)
    → Short (map f (pick x (p ∷ ps) ps)) × (length (map f (pick x (p ∷ ps) ps)) ≤ suc k)
labels_by true f p ps k h r = ((h, r.0), omega arith)
labels_by false f p ps k h r = (r.0, omega arith)

-- of k bits at most k
labels_from : (f : ℕ → Bytes) → ((p : ℕ) → length (f p) ≤ 16) → (p k x : ℕ) → Short (map f (bits_from p k x)) × (length (map f (bits_from p k x)) ≤ k)
unfolding bits_from
labels_from f h p zero x = (tt, omega arith)
labels_from f h p (suc k) x = labels_by (eqb (x % 2) 1) f p (bits_from (suc p) k (x / 2)) k (h p) (labels_from f h (suc p) k (x / 2))

abbrev bits : Bytes → List ℕ → ℕ → List Bytes
bits label lengths mask = map (label_at label lengths) (bits_from 0 64 mask)

pub labels_short : (label : Bytes) (lengths : List ℕ) (mask : ℕ) → Short (bits label lengths mask) × (length (bits label lengths mask) ≤ 64)
labels_short label lengths mask = labels_from (label_at label lengths) (label_short label lengths) 0 64 mask

spaced_short : (ls : List Bytes) → Short ls → length (behind (bytes " ") ls) ≤ 17 * length ls
spaced_short [] h = omega arith
spaced_short (l ∷ ls) h =
    let later : length (behind (bytes " ") ls) ≤ 17 * length ls = spaced_short ls h.1 in
    let first : length l ≤ 16 = h.0 in
    omega (arith, length-append (bytes " ") (l ++ behind (bytes " ") ls), length-append l (behind (bytes " ") ls))

-- ---- sentences

-- each with two bytes in front
abbrev total : List Bytes → ℕ
total [] = 0
total (s ∷ ss) = length s + 2 + total ss

total_append : (ss ts : List Bytes) → total (ss ++ ts) ≡ total ss + total ts
total_append [] ts = omega arith
total_append (s ∷ ss) ts = omega (arith, total_append ss ts)

behind_total : (ss : List Bytes) → length (behind (bytes "; ") ss) ≡ total ss
behind_total [] = refl
behind_total (s ∷ ss) =
    omega (arith, behind_total ss, length-append (bytes "; ") (s ++ behind (bytes "; ") ss), length-append s (behind (bytes "; ") ss))

told_total : (ss : List Bytes) → length (told ss) ≤ 181 + total ss
unfolding opening
told_total [] = omega arith
told_total (s ∷ ss) = omega (arith, behind_total ss, length-append opening (joined (bytes "; ") (s ∷ ss)), length-append s (behind (bytes "; ") ss))

counted_total : (n : ℕ) (words : Bytes) → n < 2 ^ 64 → total (counted n words) ≤ 22 + length words
counted_total zero words h = omega arith
counted_total (suc n) words h = omega (arith, length-append (decimal_text (suc n)) words, decimal_short (suc n) h)

bracketed_total : (ls : List Bytes) → Short ls → length ls ≤ 64 → total (bracketed ls) ≤ 1177
unfolding capacity_words bound_words
bracketed_total [] h few = omega arith
bracketed_total (l ∷ ls) h few =
    let b : Bytes = behind (bytes " ") ls in
    let spaced : length b ≤ 17 * length ls = spaced_short ls h.1 in
    let first : length l ≤ 16 = h.0 in
    omega (arith, length-append capacity_words (l ++ b ++ bound_words), length-append (l ++ b) bound_words, length-append l b)

timed_total : (d : Bool) → total (timed d) ≤ 150
unfolding dash delay_words
timed_total true = omega arith
timed_total false = omega arith

-- ---- the text

words_short : (length read_words ≤ 140) × (length inhibitor_words ≤ 140) × (length non_kinetic_words ≤ 140)
unfolding read_words inhibitor_words non_kinetic_words
words_short = (omega arith, omega arith, omega arith)

pub text_bound : (r : Reasons) → r.reads < 2 ^ 64 → r.inhibitors < 2 ^ 64 → r.non_kinetic < 2 ^ 64 → Short r.bounded → length r.bounded ≤ 64
    → length (reason_text r) ≤ 2080
unfolding reason_text
text_bound r ha hb hc hs few =
    let a : List Bytes = counted r.reads read_words in
    let b : List Bytes = counted r.inhibitors inhibitor_words in
    let c : List Bytes = counted r.non_kinetic non_kinetic_words in
    let d : List Bytes = bracketed r.bounded in
    let e : List Bytes = timed r.delayed in
    omega (
      arith,
      told_total (sentences r),
      total_append a (b ++ (c ++ (d ++ e))),
      total_append b (c ++ (d ++ e)),
      total_append c (d ++ e),
      total_append d e,
      counted_total r.reads read_words ha,
      counted_total r.inhibitors inhibitor_words hb,
      counted_total r.non_kinetic non_kinetic_words hc,
      bracketed_total r.bounded hs few,
      timed_total r.delayed,
      words_short,
    )
