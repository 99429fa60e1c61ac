-- The label of a place line: its form, by the byte that ends the line, and its slots, where it reads as written and leaves the labels before it
-- as they were. Assumes nothing.
use Prim.Native.Nat.{ℕ, zero, suc, ◌+◌, ◌-◌, ◌*◌, ◌≤◌, ◌<◌}
use mathlib.Core.Path.{◌≡◌, refl, sym, ap, ap₂, ◌∙◌}
use mathlib.Core.Bool.{Bool, true, false, ◌&&◌}
use mathlib.Core.List.{List, [], ◌∷◌, ◌++◌, append_assoc}
use mathlib.Core.Option.{some}
use native.Mathlib.Omega.{arith}
use native.Mathlib.Numerals.{add-one}
use lib.Dec.{eqb, leb}
use lib.ListN.{length, get_or, take, drop, set, length-drop, take-append-drop}
use lib.Seq.{get_or-set_same, get_or-set_other, length-take-le, take-append-le, drop-append-le, take_at, drop_at}
use borrow.Author.Tests.{le-leb, lt-leb, leb-true, eqb-true}
use Rattle.std.proofs.Common.{◌≢◌, Option}
use Rattle.net.specs.Net.{pick, numbered}
use Rattle.net.specs.Tests.{first_of}
use Rattle.net.specs.Labels.{label_byte, every, label_tests, label_at, labels_from, label_fault}
use Rattle.text.specs.Text.{Bytes, bytes}
use Rattle.text.specs.Buffer.{placed, written}
use Rattle.text.proofs.Places.{fitted}
use Rattle.net_text.specs.Forms.{Met, wrong, met, say, exactly, up_to_last, label_form}
use Rattle.net_text.proofs.Forms.{behind_wrong}

-- ---- the byte that ends the line

last_met : (l : Bytes) → up_to_last (l ++ (41 ∷ [])) ≡ met l []
last_met [] = refl
last_met (b ∷ []) = refl
last_met (b ∷ c ∷ l) = rw (last_met (c ∷ l))

last_wrong : (t : Bytes) → ((l : Bytes) → t ≢ l ++ (41 ∷ [])) → up_to_last t ≡ wrong
last_wrong [] n = refl
last_wrong (b ∷ []) n = go (eqb b 41) refl
  where
    go : (x : Bool) → eqb b 41 ≡ x → ◌≡◌ {A = Met Bytes} (pick x (met [] []) wrong) wrong
    go true e =
        let is : b ≡ 41 = eqb-true b 41 e in
        absurd (n [] (ap (λ (a : ℕ). a ∷ []) is))
    go false e = refl
last_wrong (b ∷ c ∷ t) n =
    behind_wrong (up_to_last (c ∷ t)) (λ l. say (b ∷ l)) (last_wrong (c ∷ t) (λ l e. n (b ∷ l) (ap (λ (u : Bytes). b ∷ u) e)))

-- ---- the form

-- where a space stands no bracket does
space_only : (t rest : Bytes) → exactly (bytes " ") t ≡ met tt rest → exactly (bytes ")") t ≡ wrong
space_only [] rest e = refl
space_only (b ∷ t) rest e = go (eqb 32 b) refl e
  where
    go : (x : Bool) → eqb 32 b ≡ x → pick x (met (tt {0}) t) wrong ≡ met tt rest → pick (eqb 41 b) (met (tt {0}) t) wrong ≡ wrong
    go true f g = let is : 32 ≡ b = eqb-true 32 b f in rw (sym is)
    go false f g = let z : ◌≡◌ {A = ℕ} 0 1 = cc in absurd (omega arith)

module _ (t rest : Bytes) (space : exactly (bytes " ") t ≡ met tt rest) where
  pub no_label : ((l : Bytes) → rest ≢ l ++ (41 ∷ [])) → label_form t ≡ wrong
  no_label n = rw (space, last_wrong rest n, space_only t rest space)

  pub a_label : (l : Bytes) → rest ≡ l ++ (41 ∷ []) → label_form t ≡ met l (take (length rest - length rest) (drop (length rest) rest))
  a_label l e =
      let none : length rest - length rest ≡ 0 = omega arith in
      let up_to : up_to_last rest ≡ met l [] = ap up_to_last e ∙ last_met l in
      rw (none, space, up_to)

-- ---- numbered things

pub numbered_same : {A : Type 0} (f g : ℕ → A) (j k : ℕ) → ((i : ℕ) → i < j + k → f i ≡ g i) → numbered f j k ≡ numbered g j k
numbered_same f g j zero h = refl
numbered_same f g j (suc k) h =
    ap₂ ◌∷◌ (h j (omega arith)) (numbered_same f g (suc j) k (λ i l. h i (omega arith)))

pub numbered_last : {A : Type 0} (f : ℕ → A) (j k : ℕ) → numbered f j (suc k) ≡ numbered f j k ++ (f (j + k) ∷ [])
numbered_last f j zero = let e : j + 0 ≡ j = omega arith in ap (λ (i : ℕ). f i ∷ []) (sym e)
numbered_last f j (suc k) =
    let e : suc j + k ≡ j + suc k = omega arith in
    ap (λ (ts : List _). f j ∷ ts) (numbered_last f (suc j) k ∙ ap (λ (i : ℕ). numbered f (suc j) k ++ (f i ∷ [])) e)

-- ---- the slots of a label

-- n bytes in front of position i, whatever is placed there
front : (out : Bytes) (i : ℕ) (w : Bytes) (a n : ℕ) → i ≤ length out → a + n ≤ i → take n (drop a (placed out i w)) ≡ take n (drop a out)
front out i w a n h k =
    ap (λ (s : Bytes). take n (drop a s)) (append_assoc (take i out) w (drop (i + length w) out))
    ∙ kept (w ++ drop (i + length w) out)
    ∙ sym (kept (drop i out))
    ∙ ap (λ (s : Bytes). take n (drop a s)) (take-append-drop i out)
  where
    kept : (s : Bytes) → take n (drop a (take i out ++ s)) ≡ take n (drop a (take i out))
    kept s =
        let long : length (take i out) ≡ i = length-take-le i out h in
        ap (take n) (drop-append-le a (take i out) s (omega arith)) ∙ take-append-le n (drop a (take i out)) s (omega (arith, length-drop a (take i out)))

-- what is placed
there : (out : Bytes) (i : ℕ) (w : Bytes) → i ≤ length out → take (length w) (drop i (placed out i w)) ≡ w
there out i w h =
    ap (λ (s : Bytes). take (length w) (drop i s)) (append_assoc (take i out) w (drop (i + length w) out))
    ∙ ap (take (length w)) (drop_at (take i out) (w ++ drop (i + length w) out) i (length-take-le i out h))
    ∙ take_at w (drop (i + length w) out) (length w) refl

module _ (label lengths : List ℕ) (p : ℕ) (l : Bytes) (room : length label ≡ 512) (sizes : length lengths ≡ 32) (small : p < 32) (short : length l ≤ 16) where
  abbrev label' : List ℕ
  label' = placed label (16 * p) l

  abbrev lengths' : List ℕ
  lengths' = set lengths p (length l)

  -- the label reads as written
  pub label_own : label_at label' lengths' p ≡ l
  label_own =
      let n : get_or lengths' p 0 ≡ length l = get_or-set_same lengths p (length l) 0 (omega arith) in
      ap (λ (k : ℕ). pick (leb k 16) (take k (drop (16 * p) label')) []) n
      ∙ ap (λ (b : Bool). pick b (take (length l) (drop (16 * p) label')) []) (le-leb (length l) 16 short)
      ∙ there label (16 * p) l (omega arith)

  -- and so do those before it
  pub label_other : (q : ℕ) → q < p → label_at label' lengths' q ≡ label_at label lengths q
  label_other q h =
      ap (λ (k : ℕ). pick (leb k 16) (take k (drop (16 * q) label')) []) (get_or-set_other lengths p q (length l) 0 (λ e. omega arith))
      ∙ by (leb (get_or lengths q 0) 16) refl
    where
      by : (b : Bool) → leb (get_or lengths q 0) 16 ≡ b
          → pick b (take (get_or lengths q 0) (drop (16 * q) label')) [] ≡ pick b (take (get_or lengths q 0) (drop (16 * q) label)) []
      by true e = front label (16 * p) l (16 * q) (get_or lengths q 0) (omega arith) (omega (arith, leb-true (get_or lengths q 0) 16 e))
      by false e = refl

  pub labels_before : (k : ℕ) → k ≤ p → labels_from label' lengths' 0 k ≡ labels_from label lengths 0 k
  labels_before k h = numbered_same (label_at label' lengths') (label_at label lengths) 0 k (λ q m. label_other q (omega arith))

  -- all labels, one more at the end
  pub labels_stored : labels_from label' lengths' 0 (p + 1) ≡ labels_from label lengths 0 p ++ (l ∷ [])
  labels_stored =
      let at : 0 + p ≡ p = omega arith in
      ap (labels_from label' lengths' 0) (add-one p)
      ∙ numbered_last (label_at label' lengths') 0 p
      ∙ ap (λ (i : ℕ). labels_from label' lengths' 0 p ++ (label_at label' lengths' i ∷ [])) at
      ∙ ap₂ (λ (ls : List Bytes) (m : Bytes). ls ++ (m ∷ [])) (labels_before p (omega arith)) label_own

  -- 17 and 18 by the slots
  pub label_judged : label_fault label' lengths' p ≡ first_of (label_tests (labels_from label lengths 0 p) l)
  label_judged = ap₂ (λ (ls : List Bytes) (m : Bytes). first_of (label_tests ls m)) (labels_before p (omega arith)) label_own

-- a label with no room is 17
pub label_long : (earlier : List Bytes) (l : Bytes) → 16 < length l → some 17 ≡ first_of (label_tests earlier l)
label_long earlier l h = rw (lt-leb (length l) 16 h, middle (leb 1 (length l)) (every label_byte l))
  where
    middle : (a b : Bool) → (a && false && b) ≡ false
    middle true b = refl
    middle false b = refl

-- the writer had room
pub label_put : (label : List ℕ) (p : ℕ) (l : Bytes) (out : List ℕ) (r : Option ℕ) → length label ≡ 512 → p < 32 → length l ≤ 16
    → (out, r) ≡ written label (16 * p) l → out ≡ placed label (16 * p) l
label_put label p l out r room small short e =
    ap (λ (s : Bytes × Option ℕ). s.0)
    (e ∙ sym (fitted label (16 * p) (length l) l (placed label (16 * p) l) refl (omega arith) refl))
