-- Values that are put into a list from one cell on, one by one; and the words of a path, once its counts, its numbers, and the transitions and taken
-- weights of its timers are put among zeros. Assumes nothing.
use Prim.Native.Nat.{ℕ, ◌+◌, ◌-◌, ◌≤◌, ◌<◌, min}
use mathlib.Core.Path.{◌≡◌, refl, sym, ap, ◌∙◌}
use mathlib.Core.Bool.{Bool, true, false}
use mathlib.Core.Logic.{◌⊎◌, inl, inr}
use mathlib.Core.List.{List}
use native.Mathlib.Omega.{arith}
use native.Mathlib.Nat.{ne_of_lt, ne_of_gt, min-le_left, min-le_right, min-eq_left, le-min}
use borrow.Author.Count.{below_none, below_more}
use borrow.Author.Tests.{lt-ltb, le-ltb, ltb-true, ltb-false}
use lib.Dec.{ltb}
use lib.Ieee.{Float}
use lib.ListN.{length, get_or, take, set, length-set, length-take, get_or-eq_default}
use lib.Seq.{get_or-set_same, get_or-set_other, get_or-take}
use Rattle.rules.specs.Timers.{Timer}
use Rattle.engine.specs.Engine.{marking}
use Rattle.carried.specs.Timers.{timers_in}
use Rattle.c_face.specs.Layout.{Put, timer_at, word_in}
use Rattle.c_face.proofs.Running.{timer_at_lem, timer_past}

pub put_none : (xs : List ℕ) (a : ℕ) (vs : List ℕ) → Put xs a vs 0 xs
put_none xs a vs =
    record { long = refl; before = λ i h. refl; inside = below_none (λ k. get_or xs (a + k) 0 ≡ get_or vs k 0); behind = λ i h. refl }

pub put_more : {xs : List ℕ} {a : ℕ} {vs : List ℕ} {n : ℕ} {ys : List ℕ} → Put xs a vs n ys → a + n < length xs →
    Put xs a vs (n + 1) (set ys (a + n) (get_or vs n 0))
put_more {xs} {a} {vs} {n} {ys} m h =
    let v = get_or vs n 0 in
    record {
      long = length-set ys (a + n) v ∙ m.long;
      before = λ i l. get_or-set_other ys (a + n) i v 0 (ne_of_lt (omega arith)) ∙ m.before i l;
      inside =
          below_more (λ k. get_or (set ys (a + n) v) (a + k) 0 ≡ get_or vs k 0) n
          (λ k l. get_or-set_other ys (a + n) (a + k) v 0 (ne_of_lt (omega arith)) ∙ m.inside k l)
          (get_or-set_same ys (a + n) v 0 (omega (arith, m.long)));
      behind = λ i l. get_or-set_other ys (a + n) i v 0 (ne_of_gt (omega arith)) ∙ m.behind i (omega arith);
    }

pub put_all : {xs : List ℕ} {a : ℕ} {vs : List ℕ} {k n : ℕ} {ys : List ℕ} → Put xs a vs k ys → k ≤ n → n ≤ k → Put xs a vs n ys
put_all {k = k} {n} m h l = let e : k ≡ n = omega arith in rw e at m

-- the value in a cell
put_at_lem : {xs : List ℕ} {a : ℕ} {vs : List ℕ} {n : ℕ} {ys : List ℕ} → Put xs a vs n ys → (i : ℕ) → a ≤ i → i < a + n → get_or ys i 0 ≡ get_or vs (i - a) 0
put_at_lem {a = a} {ys = ys} m i l h =
    let e : i ≡ a + (i - a) = omega arith in
    ap (λ (k : ℕ). get_or ys k 0) e ∙ m.inside (i - a) (omega arith)

split : (a b : ℕ) → (a < b) ⊎ (b ≤ a)
split a b = go (ltb a b) refl
  where
    go : (t : Bool) → ltb a b ≡ t → (a < b) ⊎ (b ≤ a)
    go true e = inl (ltb-true a b e)
    go false e = inr (ltb-false a b e)

-- r is the smaller of a and b
pub record Least (a b r : ℕ) : Type 0 where
  pub low : r ≤ a
  pub high : r ≤ b
  pub one : r < b → r ≡ a

pub least_min : (a b r : ℕ) → r ≡ min a b → Least a b r
least_min a b r e = go (split a b)
  where
    go : (a < b) ⊎ (b ≤ a) → Least a b r
    go (inl l) = let f : r ≡ a = e ∙ min-eq_left (omega arith) in record { low = omega arith; high = omega arith; one = λ h. f }
    go (inr l) = let f : b ≤ min a b = le-min l (omega arith) in record { low = rw e (min-le_left a b); high = rw e (min-le_right a b); one = λ h. omega arith }

-- past the smaller of two numbers and not past the second, past the first
least_past : {a b r : ℕ} → Least a b r → (i : ℕ) → r ≤ i → i < b → a ≤ i
least_past m i l h = omega (arith, m.one (omega arith))

-- counts, numbers, transitions and taken weights put into a list of zeros
module _ (places : ℕ) (counts numbers whos takens : List ℕ) (n p m : ℕ) (few : Least places 32 p) (some : Least n 256 m) {v w x y z : List ℕ}
    (puts : Put v 0 counts p w) (puts-numbers : Put w 32 numbers 10 x) (puts-whos : Put x 48 whos m y) (puts-takens : Put y 304 takens m z)
    (clear : (i : ℕ) → i < 816 → get_or v i 0 ≡ 0) where
  count_word : (i : ℕ) → i < 32 → get_or z i 0 ≡ get_or (take places counts) i 0
  count_word i h =
      puts-takens.before i (omega arith) ∙ puts-whos.before i (omega arith) ∙ puts-numbers.before i h ∙ go (split i p)
    where
      go : (i < p) ⊎ (p ≤ i) → get_or w i 0 ≡ get_or (take places counts) i 0
      go (inl l) =
          let e : i - 0 ≡ i = omega arith in
          put_at_lem puts i (omega arith) (omega arith)
          ∙ ap (λ (k : ℕ). get_or counts k 0) e
          ∙ sym (get_or-take places counts i 0 (omega (arith, few.low)))
      go (inr l) =
          let past : length (take places counts) ≤ i = omega (arith, length-take places counts, least_past few i l h) in
          puts.behind i (omega arith) ∙ clear i (omega arith) ∙ sym (get_or-eq_default (take places counts) 0 past)

  -- a word past the numbers that no timer has
  clear_word : (i : ℕ) → 42 ≤ i → i < 816 → get_or x i 0 ≡ 0
  clear_word i l h = puts-numbers.behind i l ∙ puts.behind i (omega (arith, few.high)) ∙ clear i h

  module _ (ats : List Float) where
    who_word : (i : ℕ) → 48 ≤ i → i < 304 → get_or z i 0 ≡ (timer_at (timers_in ats whos takens n) (i - 48)).who
    who_word i l h = puts-takens.before i h ∙ go (split i (48 + m))
      where
        go : (i < 48 + m) ⊎ (48 + m ≤ i) → get_or y i 0 ≡ (timer_at (timers_in ats whos takens n) (i - 48)).who
        go (inl u) =
            let t = timer_at_lem ats whos takens n (i - 48) (omega arith) (omega (arith, some.low)) in
            put_at_lem puts-whos i l u ∙ sym (ap (λ (k : Timer). k.who) t)
        go (inr u) =
            let t = timer_past ats whos takens n (i - 48) (least_past some (i - 48) (omega arith) (omega arith)) in
            puts-whos.behind i u ∙ clear_word i (omega arith) (omega arith) ∙ sym (ap (λ (k : Timer). k.who) t)

    taken_word : (i : ℕ) → 304 ≤ i → i < 560 → get_or z i 0 ≡ (timer_at (timers_in ats whos takens n) (i - 304)).taken
    taken_word i l h = go (split i (304 + m))
      where
        go : (i < 304 + m) ⊎ (304 + m ≤ i) → get_or z i 0 ≡ (timer_at (timers_in ats whos takens n) (i - 304)).taken
        go (inl u) =
            let t = timer_at_lem ats whos takens n (i - 304) (omega arith) (omega (arith, some.low)) in
            put_at_lem puts-takens i l u ∙ sym (ap (λ (k : Timer). k.taken) t)
        go (inr u) =
            let t = timer_past ats whos takens n (i - 304) (least_past some (i - 304) (omega arith) (omega arith)) in
            puts-takens.behind i u
            ∙ puts-whos.behind i (omega (arith, some.high))
            ∙ clear_word i (omega arith) (omega arith)
            ∙ sym (ap (λ (k : Timer). k.taken) t)

    -- every word, by the part that it stands in
    pub words_put : (i : ℕ) → i < 816 → get_or z i 0 ≡ word_in (marking places counts) numbers (timers_in ats whos takens n) i
    words_put i h = go (split i 32) (split i 42) (split i 48) (split i 304) (split i 560)
      where
        go : (i < 32) ⊎ (32 ≤ i) → (i < 42) ⊎ (42 ≤ i) → (i < 48) ⊎ (48 ≤ i) → (i < 304) ⊎ (304 ≤ i) → (i < 560) ⊎ (560 ≤ i) →
            get_or z i 0 ≡ word_in (marking places counts) numbers (timers_in ats whos takens n) i
        go (inl a) b c d e = rw (lt-ltb i 32 a) (count_word i a)
        go (inr a) (inl b) c d e =
            rw (le-ltb i 32 a, lt-ltb i 42 b)
            (puts-takens.before i (omega arith) ∙ puts-whos.before i (omega arith) ∙ put_at_lem puts-numbers i a b)
        go (inr a) (inr b) (inl c) d e =
            rw (le-ltb i 32 a, le-ltb i 42 b, lt-ltb i 48 c) (puts-takens.before i (omega arith) ∙ puts-whos.before i c ∙ clear_word i b h)
        go (inr a) (inr b) (inr c) (inl d) e = rw (le-ltb i 32 a, le-ltb i 42 b, le-ltb i 48 c, lt-ltb i 304 d) (who_word i c d)
        go (inr a) (inr b) (inr c) (inr d) (inl e) =
            rw (le-ltb i 32 a, le-ltb i 42 b, le-ltb i 48 c, le-ltb i 304 d, lt-ltb i 560 e) (taken_word i d e)
        go (inr a) (inr b) (inr c) (inr d) (inr e) =
            rw (le-ltb i 32 a, le-ltb i 42 b, le-ltb i 48 c, le-ltb i 304 d, le-ltb i 560 e)
            (puts-takens.behind i (omega (arith, some.high)) ∙ puts-whos.behind i (omega (arith, some.high)) ∙ clear_word i b h)
