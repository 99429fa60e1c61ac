-- A walk over the bits of a word, the lowest first, that sets some of another word's or works out some of a table's. Assumes nothing.
use Prim.Native.Nat.{ℕ, zero, suc, ◌-◌, ◌^◌, ◌<◌}
use mathlib.Core.Path.{◌≡◌, refl, sym, ap, ◌∙◌}
use mathlib.Core.Bool.{Bool, true, false, ◌&&◌, ◌||◌, not, and-true, and-false}
use mathlib.Core.List.{List}
use native.Mathlib.Omega.{arith}
use lib.Dec.{eqb}
use lib.Bits.{bit_and, and_le_r}
use lib.Count.{count_trailing_zeros}
use lib.ListN.{length, get_or, set, length-set}
use lib.Seq.{get_or-set_same, get_or-set_other}
use lib.Ieee.{Float, nan}
use borrow.Author.Tests.{eqb-true, eqb-false, eq-eqb, ne_eqb}
use Rattle.words.specs.Bits.{bit}
use Rattle.words.proofs.Bits.{bit_none, lowest_small, lowest_set, without_lowest}
use Rattle.net.specs.Net.{pick}
use Rattle.rules.specs.Index.{Reworked}
use Rattle.engine.proofs.Arcs.{on_bool}

pub both_first : (a b : Bool) → (a && b) ≡ true → a ≡ true
both_first true b p = refl
both_first false b p = p

-- ---- a store where a test holds

module _ (xs : List Float) (j : ℕ) (x : Float) where
  pub stored : j < 64 → length xs ≡ 64 → (on : Bool) → on ≡ true → (i : ℕ) → get_or (set xs j x) i nan ≡ pick (eqb i j && on) x (get_or xs i nan)
  stored h l on e i =
      on_bool (eqb i j)
      (λ q. ap (λ (z : ℕ). get_or (set xs j x) z nan) (eqb-true i j q) ∙ get_or-set_same xs j x nan (omega arith) ∙ sym (λ k. pick (q k && e k) x (get_or xs i nan)))
      (λ q. get_or-set_other xs j i x nan (eqb-false i j q) ∙ sym (ap (λ (b : Bool). pick (b && on) x (get_or xs i nan)) q))

  pub none_stored : (on : Bool) → on ≡ false → (i : ℕ) → get_or xs i nan ≡ pick (eqb i j && on) x (get_or xs i nan)
  none_stored on e i = sym (ap (λ (b : Bool). pick (eqb i j && b) x (get_or xs i nan)) e ∙ ap (λ (b : Bool). pick b x (get_or xs i nan)) (and-false (eqb i j)))

-- ---- a walk over the bits of a word: what is left of it

pub record Walk (word left : ℕ) : Type 0 where
  pub fits : left < 2 ^ 64
  pub inside : (j : ℕ) → bit left j ≡ true → bit word j ≡ true

pub walk_all : (word : ℕ) → word < 2 ^ 64 → Walk word word
walk_all word h = record { fits = h; inside = λ j e. e }

module _ (word left : ℕ) (w : Walk word left) (some : left ≡ 0 → ⊥) where
  above : 0 < left
  above = pos left some
    where
      pos : (x : ℕ) → (x ≡ 0 → ⊥) → 0 < x
      pos zero h = absurd (h refl)
      pos (suc x) h = omega arith

  abbrev t : ℕ
  t = count_trailing_zeros 64 left

  pub lowest_left : bit left (count_trailing_zeros 64 left) ≡ true
  lowest_left = lowest_set 64 left above w.fits

  pub lowest_in : bit word (count_trailing_zeros 64 left) ≡ true
  lowest_in = w.inside t lowest_left

  pub lowest_low : count_trailing_zeros 64 left < 64
  lowest_low = lowest_small 64 left above w.fits

  pub falls : bit_and left (left - 1) < left
  falls = omega (arith, and_le_r left (left - 1), above)

  now : (j : ℕ) → bit (bit_and left (left - 1)) j ≡ (bit left j && not (eqb j t))
  now j = without_lowest 64 left j above w.fits

  pub walk_more : Walk word (bit_and left (left - 1))
  walk_more = record { fits = omega (arith, falls, w.fits); inside = λ j h. w.inside j (both_first (bit left j) (not (eqb j t)) (sym (now j) ∙ h)) }

  -- a transition is the lowest, or nothing changes for it
  at_lowest : (P : ℕ → Type 0) (j : ℕ) → P t → ((j ≡ t → ⊥) → bit (bit_and left (left - 1)) j ≡ bit left j → P j) → P j
  at_lowest P j here there = go (eqb j t) refl
    where
      go : (b : Bool) → eqb j t ≡ b → P j
      go true q = rw (eqb-true j t q) here
      go false q = there (eqb-false j t q) (now j ∙ ap (λ (b : Bool). bit left j && not b) q ∙ and-true (bit left j))

  gone : bit (bit_and left (left - 1)) t ≡ false
  gone = now t ∙ ap (λ (b : Bool). bit left t && not b) (eq-eqb t t refl) ∙ and-false (bit left t)

-- ---- it sets bits of another word, by a test

module _ (f : ℕ → Bool) (word first : ℕ) where
  pub record Setting (out left : ℕ) : Type 0 where
    pub walk : Walk word left
    pub says : (j : ℕ) → bit out j ≡ pick (bit word j) (not (bit left j) && f j) (bit first j)

  pub setting_none : (out : ℕ) → word < 2 ^ 64 → ((j : ℕ) → bit out j ≡ (bit first j && not (bit word j))) → Setting out word
  setting_none out h e = record { walk = walk_all word h; says = λ j. e j ∙ go (bit word j) (bit first j) (f j) }
    where
      go : (w a b : Bool) → (a && not w) ≡ pick w (not w && b) a
      go true true b = refl
      go true false b = refl
      go false true b = refl
      go false false b = refl

  pub setting_more : (out left : ℕ) → Setting out left → (left ≡ 0 → ⊥) → (on : Bool) → on ≡ f (count_trailing_zeros 64 left)
      → (out' : ℕ) → ((i : ℕ) → bit out' i ≡ (bit out i || (on && eqb i (count_trailing_zeros 64 left)))) → Setting out' (bit_and left (left - 1))
  setting_more out left s some on e out' step = record { walk = walk_more word left s.walk some; says = at }
    where
      t : ℕ
      t = count_trailing_zeros 64 left

      next : ℕ
      next = bit_and left (left - 1)

      -- at the lowest nothing is set yet
      none : bit out t ≡ false
      none = s.says t ∙ (λ i. pick (lowest_in word left s.walk some i) (not (lowest_left word left s.walk some i) && f t) (bit first t))

      here : bit out' t ≡ pick (bit word t) (not (bit next t) && f t) (bit first t)
      here =
          step t
          ∙ (λ i. none i || (e i && eq-eqb t t refl i))
          ∙ and-true (f t)
          ∙ sym (λ i. pick (lowest_in word left s.walk some i) (not (gone word left s.walk some i) && f t) (bit first t))

      or_no : (a b : Bool) → (a || (b && false)) ≡ a
      or_no true b = refl
      or_no false b = and-false b

      at : (j : ℕ) → bit out' j ≡ pick (bit word j) (not (bit next j) && f j) (bit first j)
      at j =
          at_lowest word left s.walk some (λ (j : ℕ). bit out' j ≡ pick (bit word j) (not (bit next j) && f j) (bit first j)) j here
          (λ n q.
          step j
          ∙ ap (λ (b : Bool). bit out j || (on && b)) (ne_eqb j t n)
          ∙ or_no (bit out j) on
          ∙ s.says j
          ∙ ap (λ (b : Bool). pick (bit word j) (not b && f j) (bit first j)) (sym q))

  pub setting_all : (out left : ℕ) → Setting out left → left ≡ 0 → (j : ℕ) → bit out j ≡ pick (bit word j) (f j) (bit first j)
  setting_all out left s e j =
      s.says j ∙ ap (λ (b : Bool). pick (bit word j) (not b && f j) (bit first j)) (ap (λ (w : ℕ). bit w j) e ∙ bit_none j)

-- ---- it works out those of a table of which g holds

module _ (g : ℕ → Bool) (worked : ℕ → Float) (before : List Float) where
  pub record Working (props : List Float) (left : ℕ) : Type 0 where
    pub long : length props ≡ 64
    pub same_long : length before ≡ 64
    pub says : (j : ℕ) → get_or props j nan ≡ pick (g j && not (bit left j)) (worked j) (get_or before j nan)

  pub working_none : (word : ℕ) → length before ≡ 64 → ((j : ℕ) → g j ≡ true → bit word j ≡ true) → Working before word
  working_none word l h = record { long = l; same_long = l; says = λ j. on_bool (g j) (λ e. sym (ap (λ (b : Bool). pick b (worked j) (get_or before j nan)) (go (g j) (bit word j) (h j e)))) (λ e. sym (ap (λ (b : Bool). pick (b && not (bit word j)) (worked j) (get_or before j nan)) e)) }
    where
      go : (a b : Bool) → b ≡ true → (a && not b) ≡ false
      go true b e = ap not e
      go false b e = refl

  pub working_more : (word : ℕ) (props : List Float) (left : ℕ) → Working props left → Walk word left → (left ≡ 0 → ⊥)
      → (props' : List Float) → length props' ≡ 64
      → ((i : ℕ) → get_or props' i nan ≡ pick (eqb i (count_trailing_zeros 64 left) && g (count_trailing_zeros 64 left)) (worked (count_trailing_zeros 64 left)) (get_or props i nan))
      → Working props' (bit_and left (left - 1))
  working_more word props left s w some props' l step = record { long = l; same_long = s.same_long; says = at }
    where
      t : ℕ
      t = count_trailing_zeros 64 left

      next : ℕ
      next = bit_and left (left - 1)

      as_before : get_or props t nan ≡ get_or before t nan
      as_before =
          s.says t
          ∙ ap (λ (b : Bool). pick b (worked t) (get_or before t nan)) (ap (λ (b : Bool). g t && not b) (lowest_left word left w some) ∙ and-false (g t))

      here : get_or props' t nan ≡ pick (g t && not (bit next t)) (worked t) (get_or before t nan)
      here =
          step t
          ∙ ap (λ (b : Bool). pick (b && g t) (worked t) (get_or props t nan)) (eq-eqb t t refl)
          ∙ ap (pick (g t) (worked t)) as_before
          ∙ sym (ap (λ (b : Bool). pick b (worked t) (get_or before t nan)) (ap (λ (b : Bool). g t && not b) (gone word left w some) ∙ and-true (g t)))

      at : (j : ℕ) → get_or props' j nan ≡ pick (g j && not (bit next j)) (worked j) (get_or before j nan)
      at j =
          at_lowest word left w some (λ (j : ℕ). get_or props' j nan ≡ pick (g j && not (bit next j)) (worked j) (get_or before j nan)) j here
          (λ n q.
          step j
          ∙ ap (λ (b : Bool). pick (b && g t) (worked t) (get_or props j nan)) (ne_eqb j t n)
          ∙ s.says j
          ∙ ap (λ (b : Bool). pick (g j && not b) (worked j) (get_or before j nan)) (sym q))

  -- by a store
  pub working_set : (word : ℕ) (props : List Float) (left : ℕ) → Working props left → Walk word left → (left ≡ 0 → ⊥) → g (count_trailing_zeros 64 left) ≡ true
      → (x : Float) → x ≡ worked (count_trailing_zeros 64 left) → Working (set props (count_trailing_zeros 64 left) x) (bit_and left (left - 1))
  working_set word props left s w some e x d =
      working_more word props left s w some (set props t x) (length-set props t x ∙ s.long)
      (λ i. ap (λ (y : Float). get_or (set props t y) i nan) d ∙ stored props t (worked t) (lowest_low word left w some) s.long (g t) e i)
    where
      t : ℕ
      t = count_trailing_zeros 64 left

  pub working_all : (props : List Float) (left : ℕ) → Working props left → left ≡ 0 → Reworked g worked before props
  working_all props left s e =
      record {
        long = s.long ∙ sym s.same_long;
        these = λ j h y. whole j ∙ ap (λ (b : Bool). pick b (worked j) (get_or before j nan)) y;
        others = λ j y. whole j ∙ ap (λ (b : Bool). pick b (worked j) (get_or before j nan)) y;
      }
    where
      whole : (j : ℕ) → get_or props j nan ≡ pick (g j) (worked j) (get_or before j nan)
      whole j =
          s.says j
          ∙ ap (λ (b : Bool). pick b (worked j) (get_or before j nan))
          (ap (λ (b : Bool). g j && not b) (ap (λ (w : ℕ). bit w j) e ∙ bit_none j) ∙ and-true (g j))
