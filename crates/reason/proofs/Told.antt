-- The sentences are written one behind the other: where the text fits, what the private writers leave is the text, and its length is the answer.
-- Assumes nothing.
use Prim.Native.Nat.{ℕ, zero, suc, ◌+◌, ◌≤◌}
use native.Mathlib.Omega.{arith}
use mathlib.Core.Path.{◌≡◌, refl, sym, ap, ◌∙◌}
use mathlib.Core.Bool.{Bool, true, false}
use mathlib.Core.List.{List, [], ◌∷◌, ◌++◌, append_assoc, append-nil}
use lib.ListN.{length, length-append}
use Rattle.text.specs.Text.{Bytes, bytes}
use Rattle.text.specs.Numbers.{decimal_text}
use Rattle.text.specs.Buffer.{placed, written, and_then}
use Rattle.std.specs.Prelude.{Option, Some}
use Rattle.text.proofs.Places.{placed_none, fitted, then_joined}
use Rattle.reason.specs.Reasons.{Reasons, opening, read_words, inhibitor_words, non_kinetic_words, capacity_words, bound_words, delay_words, counted, behind, joined, bracketed, timed, sentences, told, reason_text}
use Rattle.reason.specs.Parts.{lead, then_lead, then_counted, then_labels, then_timed, then_all}
use Rattle.reason.proofs.Cases.{lead_later}

-- ---- texts behind texts

behind_append : (sep : Bytes) (ss ts : List Bytes) → behind sep (ss ++ ts) ≡ behind sep ss ++ behind sep ts
behind_append sep [] ts = refl
behind_append sep (s ∷ ss) ts = rw (behind_append sep ss ts) (simp append_assoc)

-- what stands in front of the sentence behind these
abbrev lead_of : List Bytes → Bytes
lead_of [] = opening
lead_of (s ∷ ss) = bytes "; "

-- what further sentences add to the text
abbrev further : List Bytes → List Bytes → Bytes
further [] ts = told ts
further (s ∷ ss) ts = behind (bytes "; ") ts

told_append : (ss ts : List Bytes) → told (ss ++ ts) ≡ told ss ++ further ss ts
told_append [] ts = refl
told_append (s ∷ ss) ts = rw (behind_append (bytes "; ") ss ts) (simp append_assoc)

told_one : (ss : List Bytes) (q : Bytes) → told (ss ++ (q ∷ [])) ≡ (told ss ++ lead_of ss) ++ q
told_one [] q = rw (append-nil q)
told_one (s ∷ ss) q = rw (told_append (s ∷ ss) (q ∷ []), append-nil q) (simp append_assoc)

-- the text of the sentences in front fits where all fits
pub front : (ss ts : List Bytes) {n : ℕ} → length (told (ss ++ ts)) ≤ n → length (told ss) ≤ n
front ss ts h = omega (arith, ap length (told_append ss ts), length-append (told ss) (further ss ts))

-- ---- the buffer

module _ (out : Bytes) where
  abbrev at : Bytes → Bytes × Option ℕ
  at w = written out 0 w

  abbrev Fits : Bytes → Type 0
  Fits w = length w ≤ length out

  -- bytes behind bytes
  more : {s : Bytes × Option ℕ} (v w : Bytes) → s ≡ at v → Fits (v ++ w) → and_then s w ≡ at (v ++ w)
  more v w e h = ap (λ (s : Bytes × Option ℕ). and_then s w) e ∙ then_joined out 0 v w (omega arith)

  fits_front : (v w : Bytes) → Fits (v ++ w) → Fits v
  fits_front v w h = omega (arith, length-append v w)

  nothing : (out, Some 0) ≡ at []
  nothing = fitted out 0 0 [] out refl (omega arith) (sym (placed_none out 0))

  -- ---- in front of a sentence

  lead_is : (ss : List Bytes) → lead (0 + length (told ss)) ≡ lead_of ss
  unfolding opening
  lead_is [] = refl
  lead_is (s ∷ ss) =
      sym (lead_later (0 + length (told (s ∷ ss))) (λ e. omega (arith, length-append opening (joined (bytes "; ") (s ∷ ss)))))

  lead_told : (ss : List Bytes) {s : Bytes × Option ℕ} → s ≡ at (told ss) → Fits (told ss ++ lead_of ss) → then_lead s ≡ at (told ss ++ lead_of ss)
  lead_told ss e h =
      let w : Bytes = told ss in
      let here : (placed out 0 w, Some (0 + length w)) ≡ at w = fitted out 0 (length w) w (placed out 0 w) refl (omega (arith, length-append w (lead_of ss))) refl in
      ap then_lead (e ∙ sym here) ∙ ap (λ (v : Bytes). written (placed out 0 w) (0 + length w) v) (lead_is ss) ∙ more w (lead_of ss) here h

  -- no sentence more
  none_told : (ss : List Bytes) {s : Bytes × Option ℕ} → s ≡ at (told ss) → s ≡ at (told (ss ++ []))
  none_told ss e = rw (append-nil ss) e

  -- ---- the sentences

  counted_told : (ss : List Bytes) (n : ℕ) (words : Bytes) {s : Bytes × Option ℕ} → s ≡ at (told ss) → Fits (told (ss ++ counted n words))
      → then_counted s n words ≡ at (told (ss ++ counted n words))
  counted_told ss zero words e h = none_told ss e
  counted_told ss (suc n) words e h =
      let v : Bytes = told ss ++ lead_of ss in
      let d : Bytes = decimal_text (suc n) in
      let same : told (ss ++ ((d ++ words) ∷ [])) ≡ v ++ d ++ words = told_one ss (d ++ words) ∙ sym (append_assoc v d words) in
      let all : Fits (v ++ d ++ words) = rw same at h in
      let fore : Fits (v ++ d) = fits_front (v ++ d) words all in
      more (v ++ d) words (more v d (lead_told ss e (fits_front v d fore)) fore) all ∙ ap at (sym same)

  timed_told : (ss : List Bytes) (d : Bool) {s : Bytes × Option ℕ} → s ≡ at (told ss) → Fits (told (ss ++ timed d))
      → then_timed s d ≡ at (told (ss ++ timed d))
  timed_told ss false e h = none_told ss e
  timed_told ss true e h =
      let v : Bytes = told ss ++ lead_of ss in
      let same : told (ss ++ (delay_words ∷ [])) ≡ v ++ delay_words = told_one ss delay_words in
      let all : Fits (v ++ delay_words) = rw same at h in
      more v delay_words (lead_told ss e (fits_front v delay_words all)) all ∙ ap at (sym same)

  -- the labels behind the first, and the end
  labels_told : (v : Bytes) (ls : List Bytes) {s : Bytes × Option ℕ} → s ≡ at v → Fits (v ++ (behind (bytes " ") ls ++ bound_words))
      → then_labels s false ls ≡ at (v ++ (behind (bytes " ") ls ++ bound_words))
  labels_told v [] e h = more v bound_words e h
  labels_told v (l ∷ ls) e h =
      let b : Bytes = behind (bytes " ") ls in
      let spaced : Bytes = v ++ bytes " " in
      let same : v ++ (behind (bytes " ") (l ∷ ls) ++ bound_words) ≡ spaced ++ l ++ (b ++ bound_words) = regroup v (bytes " ") l b bound_words in
      let all : Fits (spaced ++ l ++ (b ++ bound_words)) = rw same at h in
      let fore : Fits (spaced ++ l) = fits_front (spaced ++ l) (b ++ bound_words) all in
      labels_told (spaced ++ l) ls (more spaced l (more v (bytes " ") e (fits_front spaced l fore)) fore) all ∙ ap at (sym same)
    where
      regroup : (v a l b w : Bytes) → v ++ ((a ++ (l ++ b)) ++ w) ≡ v ++ a ++ l ++ (b ++ w)
      regroup v a l b w = simp append_assoc

  bracketed_told : (ss : List Bytes) (ls : List Bytes) {s : Bytes × Option ℕ} → s ≡ at (told ss) → Fits (told (ss ++ bracketed ls))
      → then_labels s true ls ≡ at (told (ss ++ bracketed ls))
  bracketed_told ss [] e h = none_told ss e
  bracketed_told ss (l ∷ ls) e h =
      let v : Bytes = told ss ++ lead_of ss in
      let b : Bytes = behind (bytes " ") ls in
      let named : Bytes = v ++ capacity_words in
      let same : told (ss ++ bracketed (l ∷ ls)) ≡ named ++ l ++ (b ++ bound_words) =
      told_one ss (capacity_words ++ (l ++ b ++ bound_words)) ∙ regroup v capacity_words l b bound_words in
      let all : Fits (named ++ l ++ (b ++ bound_words)) = rw same at h in
      let fore : Fits (named ++ l) = fits_front (named ++ l) (b ++ bound_words) all in
      let begun : Fits named = fits_front named l fore in
      labels_told (named ++ l) ls (more named l (more v capacity_words (lead_told ss e (fits_front v capacity_words begun)) begun) fore) all ∙ ap at (sym same)
    where
      regroup : (v a l b w : Bytes) → v ++ (a ++ (l ++ b ++ w)) ≡ v ++ a ++ l ++ (b ++ w)
      regroup v a l b w = simp append_assoc

  -- ---- all of them

  pub all_told : (r : Reasons) → Fits (reason_text r)
      → then_all (out, Some 0) r ≡ at (reason_text r)
  unfolding reason_text
  all_told r h =
      let a : List Bytes = counted r.reads read_words in
      let b : List Bytes = a ++ counted r.inhibitors inhibitor_words in
      let c : List Bytes = b ++ counted r.non_kinetic non_kinetic_words in
      let d : List Bytes = c ++ bracketed r.bounded in
      let e : List Bytes = d ++ timed r.delayed in
      let same : sentences r ≡ e = simp append_assoc in
      let fe : Fits (told e) = rw same at h in
      let fd : Fits (told d) = front d (timed r.delayed) fe in
      let fc : Fits (told c) = front c (bracketed r.bounded) fd in
      let fb : Fits (told b) = front b (counted r.non_kinetic non_kinetic_words) fc in
      let fa : Fits (told a) = front a (counted r.inhibitors inhibitor_words) fb in
      timed_told d r.delayed
      (bracketed_told c r.bounded
      (counted_told b r.non_kinetic non_kinetic_words
      (counted_told a r.inhibitors inhibitor_words (counted_told [] r.reads read_words nothing fa) fb)
      fc)
      fd)
      fe
      ∙ ap (λ (l : List Bytes). at (told l)) (sym same)
