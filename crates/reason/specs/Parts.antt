-- What the private writers of the text's parts leave in the buffer.
use Rattle.std.specs.Prelude.{ℕ, zero, suc, Bool, true, false, List, [], ◌∷◌, Option, Some, None}
use Rattle.text.specs.Text.{Bytes, bytes}
use Rattle.text.specs.Numbers.{decimal_text}
use Rattle.text.specs.Buffer.{written, and_then}
use Rattle.reason.specs.Reasons.{Reasons, opening, read_words, inhibitor_words, non_kinetic_words, capacity_words, bound_words, delay_words}

-- in front of a sentence: the opening where no byte is written yet
abbrev pub lead : ℕ → Bytes
lead zero = opening
lead (suc i) = bytes "; "

abbrev pub then_lead : Bytes × Option ℕ → Bytes × Option ℕ
then_lead (out, Some i) = written out i (lead i)
then_lead (out, None) = (out, None)

-- a sentence with a count, none for 0
abbrev pub then_counted : Bytes × Option ℕ → ℕ → Bytes → Bytes × Option ℕ
then_counted s zero words = s
then_counted s (suc n) words = and_then (and_then (then_lead s) (decimal_text (suc n))) words

-- in front of a label: the sentence's beginning where it is the first
abbrev pub then_front : Bytes × Option ℕ → Bool → Bytes × Option ℕ
then_front s true = and_then (then_lead s) capacity_words
then_front s false = and_then s (bytes " ")

-- the label of a place, if it is bounded
abbrev pub then_place : Bytes × Option ℕ → Bool → Bool → Bytes → Bytes × Option ℕ
then_place s true first l = and_then (then_front s first) l
then_place s false first l = s

-- is the next label still the first?
abbrev pub still_first : Bool → Bool → Bool
still_first first true = false
still_first first false = first

-- the sentence's end, if it was begun
abbrev pub then_bound : Bytes × Option ℕ → Bool → Bytes × Option ℕ
then_bound s true = s
then_bound s false = and_then s bound_words

-- the labels, and the end
abbrev pub then_labels : Bytes × Option ℕ → Bool → List Bytes → Bytes × Option ℕ
then_labels s first [] = then_bound s first
then_labels s first (l ∷ ls) = then_labels (and_then (then_front s first) l) false ls

-- the sentence on delays
abbrev pub then_timed : Bytes × Option ℕ → Bool → Bytes × Option ℕ
then_timed s true = and_then (then_lead s) delay_words
then_timed s false = s

-- all sentences
abbrev pub then_all : Bytes × Option ℕ → Reasons → Bytes × Option ℕ
then_all s r =
    then_timed
    (then_labels
    (then_counted (then_counted (then_counted s r.reads read_words) r.inhibitors inhibitor_words) r.non_kinetic non_kinetic_words)
    true
    r.bounded)
    r.delayed
