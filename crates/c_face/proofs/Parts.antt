-- A loop that fills a list cell by cell: the first i cells hold what they shall, a store at i leaves them and puts the next in its place. A list
-- that is filled with the cells of another, from one of them on, is a part of it. Assumes nothing.
use Prim.Native.Nat.{ℕ, ◌+◌, ◌≤◌, ◌<◌}
use mathlib.Core.Path.{◌≡◌, sym, ◌∙◌}
use mathlib.Core.List.{List}
use native.Mathlib.Omega.{arith}
use native.Mathlib.Nat.{ne_of_lt}
use borrow.Author.Count.{below_none, below_more}
use lib.ListN.{length, get_or, take, drop, set, length-set, length-take, length-drop}
use lib.Seq.{ext_get_or, get_or-set_same, get_or-set_other, get_or-take, get_or-drop}

module _ {A : Type 0} (d : A) where
  -- of n cells the first i hold what f says
  pub record Holds (f : ℕ → A) (n : ℕ) (xs : List A) (i : ℕ) : Type 0 where
    pub long : length xs ≡ n
    pub each : (k : ℕ) → k < i → get_or xs k d ≡ f k

  pub holds_none : (f : ℕ → A) {n : ℕ} (xs : List A) → length xs ≡ n → Holds f n xs 0
  holds_none f xs e = record { long = e; each = below_none (λ k. get_or xs k d ≡ f k) }

  pub holds_more : {f : ℕ → A} {n : ℕ} {xs : List A} {i : ℕ} {v : A} → Holds f n xs i → i < n → v ≡ f i → Holds f n (set xs i v) (i + 1)
  holds_more {f} {n} {xs} {i} {v} m h e =
      record {
        long = length-set xs i v ∙ m.long;
        each =
            below_more (λ k. get_or (set xs i v) k d ≡ f k) i
            (λ k l. get_or-set_other xs i k v d (ne_of_lt l) ∙ m.each k l)
            (get_or-set_same xs i v d (omega (arith, m.long)) ∙ e);
      }

  -- all of them, with the cells of ys from number b on
  pub holds_part : {n : ℕ} {xs : List A} {i : ℕ} (ys : List A) (b : ℕ) → Holds (λ (k : ℕ). get_or ys (b + k) d) n xs i → n ≤ i → b + n ≤ length ys →
      xs ≡ take n (drop b ys)
  holds_part {n} {xs} {i} ys b m h l =
      ext_get_or d xs (take n (drop b ys))
      (omega (arith, m.long, length-take n (drop b ys), length-drop b ys))
      (λ k u. m.each k (omega (arith, m.long)) ∙ sym (get_or-take n (drop b ys) k d (omega (arith, m.long)) ∙ get_or-drop b ys k d))
