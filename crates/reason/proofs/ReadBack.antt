-- The text read back into its parts: a form for each sentence, in the order of writing, and the law that it gives the very parts that were written.
-- A count is read back from its digits; sentences are told apart by their words; a label ends at a space or a bracket, which no label holds.
-- Assumes nothing.
use Prim.Native.Nat.{ℕ, zero, suc}
use native.Mathlib.Omega.{arith}
use mathlib.Core.Path.{◌≡◌, refl, ap, ◌∙◌}
use mathlib.Core.Bool.{Bool, true, false, cond, ◌&&◌}
use mathlib.Core.List.{List, [], ◌∷◌, ◌++◌, append_assoc}
use lib.Dec.{eqb, leb}
use lib.ListN.{length, drop}
use lib.Seq.{drop-nil, drop-append_seam}
use borrow.Author.Tests.{eq-eqb, ne_eqb}
use Rattle.text.specs.Text.{Bytes, bytes}
use Rattle.text.specs.Numbers.{decimal_text}
use Rattle.net_text.specs.Forms.{Met, wrong, met, Form, say, ◌>>=◌, ◌>>◌, ◌or◌, exactly, decimal}
use Rattle.net_text.proofs.Written.{NoDigit, decimal_reads}
use Rattle.net.specs.Labels.{label_byte, every, label_fits}
use Rattle.reason.specs.Reasons.{Reasons, opening, read_words, inhibitor_words, non_kinetic_words, capacity_words, bound_words, delay_words, counted, behind, joined, bracketed, timed, sentences, told, reason_text}

-- labels that 17 does not turn down
abbrev pub Labels : List Bytes → Type 0
Labels [] = Unit {0}
Labels (l ∷ ls) = (label_fits l ≡ true) × Labels ls

-- ---- the forms

-- a count and its words
abbrev count_form : Bytes → Form ℕ
count_form words = do
  n ← decimal
  exactly words
  say n.value

-- labels with a space between them, up to a closing bracket, which is left
abbrev next_label : Met (List Bytes) → Met (List Bytes)
next_label wrong = wrong
next_label (met ls t) = met ([] ∷ ls) t

abbrev longer : ℕ → Met (List Bytes) → Met (List Bytes)
longer b wrong = wrong
longer b (met [] t) = wrong
longer b (met (l ∷ ls) t) = met ((b ∷ l) ∷ ls) t

abbrev labels_form : Form (List Bytes)
labels_form [] = wrong
labels_form (b ∷ t) =
    let further = labels_form t in
    cond (eqb b 93) (met ([] ∷ []) (b ∷ t)) (cond (eqb b 32) (next_label further) (longer b further))

abbrev bounded_form : Form (List Bytes)
bounded_form = do
  exactly capacity_words
  ls ← labels_form
  exactly bound_words
  say ls

abbrev delay_form : Form Bool
delay_form = do
  exactly delay_words
  say true

-- a sentence that may be absent, and the separator behind it, if there is one
abbrev part : {A : Type 0} → Form A → A → Form A
part f absent = (do
  a ← f
  (exactly (bytes "; ") or say tt)
  say a) or say absent

abbrev reasons_form : Form Reasons
reasons_form = do
  reads ← part (count_form read_words) 0
  inhibitors ← part (count_form inhibitor_words) 0
  non_kinetic ← part (count_form non_kinetic_words) 0
  bounded ← part bounded_form []
  delayed ← part delay_form false
  say (record { reads = reads; inhibitors = inhibitors; non_kinetic = non_kinetic; bounded = bounded; delayed = delayed })

-- the parts of a text, behind the opening
pub reads_back : Bytes → Met Reasons
reads_back t = reasons_form (drop (length opening) t)

-- ---- in general

itself : (w t : Bytes) → exactly w (w ++ t) ≡ met tt t
itself [] t = refl
itself (b ∷ w) t = rw (eq-eqb b b refl, itself w t)

-- a sentence that is there
there : {A : Type 0} (f : Form A) (absent a : A) (s : Bytes) (ss : List Bytes)
    → f (s ++ behind (bytes "; ") ss) ≡ met a (behind (bytes "; ") ss)
    → part f absent (joined (bytes "; ") (s ∷ ss)) ≡ met a (joined (bytes "; ") ss)
there f absent a s [] e = rw e
there f absent a s (t ∷ ss) e = rw e

-- a sentence that is not
missing : {A : Type 0} (f : Form A) (absent : A) (t : Bytes) → f t ≡ wrong → part f absent t ≡ met absent t
missing f absent t e = rw e

-- ---- counts

no_count : (words t : Bytes) → NoDigit t → count_form words t ≡ wrong
no_count words [] e = refl
no_count words (b ∷ t) e = rw e

-- words behind a count, and other words
module _ (n : ℕ) (words t : Bytes) (e : NoDigit (words ++ t)) where
  count_there : count_form words ((decimal_text n ++ words) ++ t) ≡ met n t
  count_there = rw (append_assoc (decimal_text n) words t, decimal_reads n (words ++ t) e, itself words t)

  count_other : (others : Bytes) → exactly others (words ++ t) ≡ wrong → count_form others ((decimal_text n ++ words) ++ t) ≡ wrong
  count_other others h = rw (append_assoc (decimal_text n) words t, decimal_reads n (words ++ t) e, h)

-- words that stand behind a count begin with no digit
abbrev Words : Bytes → Type 0
Words w = (t : Bytes) → NoDigit (w ++ t)

abbrev Apart : Bytes → Bytes → Type 0
Apart others w = (t : Bytes) → exactly others (w ++ t) ≡ wrong

count_first : (n : ℕ) (words : Bytes) (later : List Bytes) → Words words → count_form words (joined (bytes "; ") later) ≡ wrong
    → part (count_form words) 0 (joined (bytes "; ") (counted n words ++ later)) ≡ met n (joined (bytes "; ") later)
count_first zero words later hw e = missing (count_form words) 0 (joined (bytes "; ") later) e
count_first (suc n) words later hw e =
    there (count_form words) 0 (suc n) (decimal_text (suc n) ++ words) later
    (count_there (suc n) words (behind (bytes "; ") later) (hw (behind (bytes "; ") later)))

count_later : (others : Bytes) (n : ℕ) (words : Bytes) (later : List Bytes) → Words words → Apart others words
    → count_form others (joined (bytes "; ") later) ≡ wrong → count_form others (joined (bytes "; ") (counted n words ++ later)) ≡ wrong
count_later others zero words later hw ha e = e
count_later others (suc n) words later hw ha e =
    count_other (suc n) words (behind (bytes "; ") later) (hw (behind (bytes "; ") later)) others (ha (behind (bytes "; ") later))

-- ---- labels

both : (x y : Bool) → x && y ≡ true → (x ≡ true) × (y ≡ true)
both true y h = (refl, h)
both false y h = (h, cc)

never : false ≡ true → ⊥
never h = let z : ◌≡◌ {A = ℕ} 0 1 = cc in omega arith

-- no label holds a bracket or a space
no_stop : (b : ℕ) → label_byte b ≡ true → (eqb b 93 ≡ false) × (eqb b 32 ≡ false)
no_stop b h = (ne_eqb b 93 (λ e. never (rw e at h)), ne_eqb b 32 (λ e. never (rw e at h)))

letters : (l : Bytes) → label_fits l ≡ true → every label_byte l ≡ true
letters l h = (both (leb 1 (length l) && leb (length l) 16) (every label_byte l) h).1

label_run : (l : Bytes) (ls : List Bytes) (u v : Bytes) → every label_byte l ≡ true → labels_form u ≡ met ([] ∷ ls) v → labels_form (l ++ u) ≡ met (l ∷ ls) v
label_run [] ls u v h e = e
label_run (b ∷ l) ls u v h e =
    let apart = both (label_byte b) (every label_byte l) h in
    let stops = no_stop b apart.0 in
    rw (stops.0, stops.1, label_run l ls u v apart.1 e)

module _ (t : Bytes) where
  labels_more : (ls : List Bytes) → Labels ls → labels_form (behind (bytes " ") ls ++ (bound_words ++ t)) ≡ met ([] ∷ ls) (bound_words ++ t)
  unfolding bound_words
  labels_more [] h = refl
  labels_more (l ∷ ls) h =
      rw (append_assoc l (behind (bytes " ") ls) (bound_words ++ t), label_run l ls (behind (bytes " ") ls ++ (bound_words ++ t)) (bound_words ++ t) (letters l h.0) (labels_more ls h.1))

  labels_all : (l : Bytes) (ls : List Bytes) → Labels (l ∷ ls) → labels_form (joined (bytes " ") (l ∷ ls) ++ (bound_words ++ t)) ≡ met (l ∷ ls) (bound_words ++ t)
  labels_all l ls h =
      rw (append_assoc l (behind (bytes " ") ls) (bound_words ++ t))
      (label_run l ls (behind (bytes " ") ls ++ (bound_words ++ t)) (bound_words ++ t) (letters l h.0) (labels_more ls h.1))

  bounded_there : (l : Bytes) (ls : List Bytes) → Labels (l ∷ ls)
      → bounded_form ((capacity_words ++ (joined (bytes " ") (l ∷ ls) ++ bound_words)) ++ t) ≡ met (l ∷ ls) t
  bounded_there l ls h =
      rw (append_assoc capacity_words (joined (bytes " ") (l ∷ ls) ++ bound_words) t, itself capacity_words ((joined (bytes " ") (l ∷ ls) ++ bound_words) ++ t), append_assoc (joined (bytes " ") (l ∷ ls)) bound_words t, labels_all l ls h, itself bound_words t)

bounded_first : (ls : List Bytes) (later : List Bytes) → Labels ls → bounded_form (joined (bytes "; ") later) ≡ wrong
    → part bounded_form [] (joined (bytes "; ") (bracketed ls ++ later)) ≡ met ls (joined (bytes "; ") later)
bounded_first [] later h e = missing bounded_form [] (joined (bytes "; ") later) e
bounded_first (l ∷ ls) later h e =
    there bounded_form [] (l ∷ ls) (capacity_words ++ (joined (bytes " ") (l ∷ ls) ++ bound_words)) later
    (bounded_there (behind (bytes "; ") later) l ls h)

-- ---- the five sentences

read_words_lem : Words read_words
unfolding read_words
read_words_lem t = refl

inhibitor_words_lem : Words inhibitor_words
unfolding inhibitor_words
inhibitor_words_lem t = refl

non_kinetic_words_lem : Words non_kinetic_words
unfolding non_kinetic_words
non_kinetic_words_lem t = refl

read_inhibitor : Apart read_words inhibitor_words
unfolding read_words inhibitor_words
read_inhibitor t = refl

read_non_kinetic : Apart read_words non_kinetic_words
unfolding read_words non_kinetic_words
read_non_kinetic t = refl

inhibitor_non_kinetic : Apart inhibitor_words non_kinetic_words
unfolding inhibitor_words non_kinetic_words
inhibitor_non_kinetic t = refl

-- neither a bounded place nor a delay begins with a digit, or with a count
no_digit : (ls : List Bytes) (d : Bool) → NoDigit (joined (bytes "; ") (bracketed ls ++ timed d))
unfolding capacity_words delay_words
no_digit [] true = refl
no_digit [] false = tt
no_digit (l ∷ ls) d = refl

not_bounded : (d : Bool) → bounded_form (joined (bytes "; ") (timed d)) ≡ wrong
unfolding capacity_words delay_words
not_bounded true = refl
not_bounded false = refl

delay_first : (d : Bool) → part delay_form false (joined (bytes "; ") (timed d)) ≡ met d []
unfolding delay_words
delay_first true = there delay_form false true delay_words [] (rw (itself delay_words []))
delay_first false = refl

-- ---- the whole text

-- the sentences from the fourth on, and from the third
abbrev fourth : Reasons → List Bytes
fourth r = bracketed r.bounded ++ timed r.delayed

abbrev third : Reasons → List Bytes
third r = counted r.non_kinetic non_kinetic_words ++ fourth r

abbrev second : Reasons → List Bytes
second r = counted r.inhibitors inhibitor_words ++ third r

module _ (r : Reasons) where
  not_non_kinetic : count_form non_kinetic_words (joined (bytes "; ") (fourth r)) ≡ wrong
  not_non_kinetic = no_count non_kinetic_words (joined (bytes "; ") (fourth r)) (no_digit r.bounded r.delayed)

  not_inhibitor : count_form inhibitor_words (joined (bytes "; ") (third r)) ≡ wrong
  not_inhibitor =
      count_later inhibitor_words r.non_kinetic non_kinetic_words (fourth r) non_kinetic_words_lem inhibitor_non_kinetic
      (no_count inhibitor_words (joined (bytes "; ") (fourth r)) (no_digit r.bounded r.delayed))

  not_read : count_form read_words (joined (bytes "; ") (second r)) ≡ wrong
  not_read =
      count_later read_words r.inhibitors inhibitor_words (third r) inhibitor_words_lem read_inhibitor
      (count_later read_words r.non_kinetic non_kinetic_words (fourth r) non_kinetic_words_lem read_non_kinetic
      (no_count read_words (joined (bytes "; ") (fourth r)) (no_digit r.bounded r.delayed)))

  sentences_read : Labels r.bounded → reasons_form (joined (bytes "; ") (sentences r)) ≡ met r []
  sentences_read h =
      rw (
        count_first r.reads read_words (second r) read_words_lem not_read,
        count_first r.inhibitors inhibitor_words (third r) inhibitor_words_lem not_inhibitor,
        count_first r.non_kinetic non_kinetic_words (fourth r) non_kinetic_words_lem not_non_kinetic,
        bounded_first r.bounded (timed r.delayed) h (not_bounded r.delayed),
        delay_first r.delayed,
      )

behind_opening : (ss : List Bytes) → drop (length opening) (told ss) ≡ joined (bytes "; ") ss
behind_opening [] = drop-nil (length opening)
behind_opening (s ∷ ss) = drop-append_seam opening (joined (bytes "; ") (s ∷ ss))

-- the text reads back as its parts, gated or not
pub read_back : (r : Reasons) → Labels r.bounded → reads_back (reason_text r) ≡ met r []
unfolding reads_back reason_text
read_back r h = ap reasons_form (behind_opening (sentences r)) ∙ sentences_read r h
