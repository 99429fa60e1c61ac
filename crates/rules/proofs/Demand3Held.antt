-- Demand 3 holds of every net in which no transition takes from one place twice (refusal 5), at every generator state.
use Prim.Native.Nat.{ℕ, zero, suc, ◌+◌, ◌≤◌, ◌<◌}
use native.Mathlib.Nat.{le_of_suc-le-suc}
use mathlib.Core.Path.{◌≡◌, refl, sym, ap, ◌∙◌, subst}
use mathlib.Core.Bool.{Bool, true, false, ◌&&◌}
use mathlib.Core.Logic.{◌⊎◌, inl, inr}
use mathlib.Core.List.{List, [], ◌∷◌, map}
use native.Mathlib.Omega.{arith}
use lib.Dec.{leb}
use lib.ListN.{get_or, length, length-map}
use lib.Ieee.{Float, binary64, of_bits, le, eq, is_nan}
use Rattle.net.specs.Net.{Place, Net, Marking, pick, zero64, held}
use Rattle.rng.specs.State.{State as Generator}
use Rattle.rules.specs.Moves.{Entry, reading, after, initial_counts, taken_at, put_at}
use Rattle.rules.specs.Step.{Answer, refused, given}
use Rattle.rules.specs.Run.{End, quiet, spent, reached, halted, Run, beginning, Outcome, outcome, entries, trace}
use Rattle.rules.specs.Shown.{before, reaches, shown_at, reached_from, settled_of, rising, instants_fit, limit_fits, last_of, Path, reported, run_of, accepted_path}
use Rattle.rules.proofs.Order.{both, le_refl, le_trans, le_nan_r, eq_le}
use Rattle.rules.specs.Demand3.{takes_once, EachAllowed, instant, count, earlier, Demand3}
use Rattle.rules.proofs.Counts.{counted, once_each, allowed_before}
use Rattle.rules.proofs.Allowing.{given_same, refused_given}
use Rattle.rules.proofs.Runs.{run_allowed, Longer, grows}
use Rattle.rules.proofs.Agree.{before_equal, before_reached, same}

-- ---- lists of instants

abbrev bound : Float
bound = of_bits binary64 0x41E0_0000_0000_0000

-- the first instant of a rising list, and the list after it
pub rising_first : (low x : Float) (xs : List Float) → rising low (x ∷ xs) ≡ true → (le low x ≡ true) × (rising x xs ≡ true)
rising_first low x xs h =
    let a : (le low x && le x bound ≡ true) × (rising x xs ≡ true) = both (le low x && le x bound) (rising x xs) h in
    ((both (le low x) (le x bound) a.0).0, a.1)

below_last : (low x : Float) (xs : List Float) → rising low (x ∷ xs) ≡ true → le x (last_of (x ∷ xs)) ≡ true
below_last low x [] h = le_refl x (le_nan_r low x (rising_first low x [] h).0)
below_last low x (y ∷ ys) h =
    let r : rising x (y ∷ ys) ≡ true = (rising_first low x (y ∷ ys) h).1 in
    le_trans x y _ (rising_first x y ys r).0 (below_last x y ys r)

-- each instant is a number, and at most the last
pub instant_fits : (low : Float) (xs : List Float) → rising low xs ≡ true → (i : ℕ) → i < length xs
    → (is_nan (instant xs i) ≡ false) × (le (instant xs i) (last_of xs) ≡ true)
instant_fits low [] h i l = absurd (omega arith)
instant_fits low (x ∷ xs) h zero l = (le_nan_r low x (rising_first low x xs h).0, below_last low x xs h)
instant_fits low (x ∷ []) h (suc i) l = absurd (omega arith)
instant_fits low (x ∷ (y ∷ ys)) h (suc i) l = instant_fits x (y ∷ ys) (rising_first low x (y ∷ ys) h).1 i (le_of_suc-le-suc l)

-- ---- what an answer is

pub record Answered (n : Net) (g : Generator) (xs : List Float) (k : ℕ) (a : Path) : Type 0 where
  pub fits : rising zero64 xs ≡ true
  pub ending : Outcome
  pub ended : outcome (run_of n g xs k) ≡ given ending
  pub shows : a.shown ≡ map (shown_at n (trace (run_of n g xs k))) xs
  pub settles : a.settled ≡ settled_of ending.end (trace (run_of n g xs k)) xs

pub answered : (n : Net) (g : Generator) (xs : List Float) (k : ℕ) (a : Path) → accepted_path n g xs k ≡ given a → Answered n g xs k a
answered n g xs k a p = listed (instants_fit xs) refl p
  where
    ran : instants_fit xs ≡ true → (o : Answer Outcome) → outcome (run_of n g xs k) ≡ o → reported n xs (run_of n g xs k) o ≡ given a → Answered n g xs k a
    ran f (refused c) e q = refused_given q
    ran f (given o) e q = record {
      fits = (both (leb 1 (length xs) && leb (length xs) 1024) (rising zero64 xs) f).1;
      ending = o;
      ended = e;
      shows = ap (λ (b : Path). b.shown) (sym (given_same q));
      settles = ap (λ (b : Path). b.settled) (sym (given_same q));
    }

    limited : (d : Bool) → instants_fit xs ≡ true
        → pick d (reported n xs (run_of n g xs k) (outcome (run_of n g xs k))) (refused 13) ≡ given a → Answered n g xs k a
    limited true f q = ran f (outcome (run_of n g xs k)) refl q
    limited false f q = refused_given q

    listed : (c : Bool) → instants_fit xs ≡ c
        → pick c (pick (limit_fits k) (reported n xs (run_of n g xs k) (outcome (run_of n g xs k))) (refused 13)) (refused 12) ≡ given a → Answered n g xs k a
    listed true f q = limited (limit_fits k) f q
    listed false f q = refused_given q

pub at_instant : (f : Float → Marking) (xs : List Float) (i : ℕ) → i < length xs → get_or (map f xs) i [] ≡ f (instant xs i)
at_instant f [] i h = absurd (omega arith)
at_instant f (x ∷ xs) zero h = refl
at_instant f (x ∷ xs) (suc i) h = at_instant f xs i (le_of_suc-le-suc h)

pub settled_reached : (es : List Entry) (xs : List Float) (i : ℕ) → i < reached_from es xs → reaches (instant xs i) es ≡ true
settled_reached es [] i h = absurd (omega arith)
settled_reached es (x ∷ xs) i h = go (reaches x es) refl i h (settled_reached es xs)
  where
    go : (c : Bool) → reaches x es ≡ c → (i : ℕ) → i < pick c (suc (reached_from es xs)) 0
        → ((j : ℕ) → j < reached_from es xs → reaches (instant xs j) es ≡ true) → reaches (instant (x ∷ xs) i) es ≡ true
    go false e i l ih = absurd (omega arith)
    go true e zero l ih = e
    go true e (suc i) l ih = ih i (le_of_suc-le-suc l)

pub reached_few : (es : List Entry) (xs : List Float) → reached_from es xs ≤ length xs
reached_few es [] = omega arith
reached_few es (x ∷ xs) = go (reaches x es) (reached_few es xs)
  where
    go : (c : Bool) → reached_from es xs ≤ length xs → pick c (suc (reached_from es xs)) 0 ≤ suc (length xs)
    go true h = omega arith
    go false h = omega arith

settled_few : (e : End) (es : List Entry) (xs : List Float) → settled_of e es xs ≤ length xs
settled_few quiet es xs = omega arith
settled_few spent es xs = reached_few es xs
settled_few reached es xs = omega arith
settled_few halted es xs = reached_few es xs

-- ---- the demand

module _ (n : Net) (g : Generator) where
  -- the counts that an answer shows, from the run
  shown : (xs : List Float) (k : ℕ) (a : Path) → accepted_path n g xs k ≡ given a → (i : ℕ) → i < length xs
      → (p : ℕ) → count a i p ≡ held (after n (initial_counts n) (earlier n g xs k i)) p
  shown xs k a h i l p =
      ap (λ (ms : List Marking). held (get_or ms i []) p) (answered n g xs k a h).shows
      ∙ ap (λ (m : Marking). held m p) (at_instant (shown_at n (trace (run_of n g xs k))) xs i l)

  lists : (xs ys : List Float) (k : ℕ) (a b : Path) → accepted_path n g xs k ≡ given a → accepted_path n g ys k ≡ given b
      → (i j : ℕ) → i < length xs → j < length ys → eq (instant xs i) (instant ys j) ≡ true
      → (p : ℕ) → count a i p ≡ count b j p
  lists xs ys k a b ha hb i j li lj e p =
      shown xs k a ha i li p
      ∙ ap (λ (es : List Entry). held (after n (initial_counts n) es) p) (runs ∙ before_equal x y (λ t. eq_le x y t e) (trace (run_of n g ys k)))
      ∙ sym (shown ys k b hb j lj p)
    where
      x : Float
      x = instant xs i

      y : Float
      y = instant ys j

      fx : (is_nan (instant xs i) ≡ false) × (le (instant xs i) (last_of xs) ≡ true)
      fx = instant_fits zero64 xs (answered n g xs k a ha).fits i li

      fy : (is_nan (instant ys j) ≡ false) × (le (instant ys j) (last_of ys) ≡ true)
      fy = instant_fits zero64 ys (answered n g ys k b hb).fits j lj

      runs : before (instant xs i) (trace (run_of n g xs k)) ≡ before (instant xs i) (trace (run_of n g ys k))
      runs = go (le (instant xs i) zero64) refl
        where
          go : (c : Bool) → le (instant xs i) zero64 ≡ c
              → pick c [] (reading zero64 ∷ before (instant xs i) (entries (run_of n g xs k))) ≡ pick c [] (reading zero64 ∷ before (instant xs i) (entries (run_of n g ys k)))
          go true q = refl
          go false q =
              ap (λ (es : List Entry). reading zero64 ∷ es)
              (same spent 256 n (instant xs i) (last_of xs) (last_of ys) fx.0 fx.1 (eq_le (instant xs i) (instant ys j) (last_of ys) e ∙ fy.1) k (beginning n g) q).0

  limits : (xs : List Float) (k l : ℕ) (a b : Path) → accepted_path n g xs k ≡ given a → accepted_path n g xs l ≡ given b → k ≤ l
      → (i : ℕ) → i < a.settled
      → (p : ℕ) → count a i p ≡ count b i p
  limits xs k l a b ha hb le i s p =
      shown xs k a ha i inside p
      ∙ ap (λ (es : List Entry). held (after n (initial_counts n) es) p) (go (grows spent 256 n (last_of xs) k l le (beginning n g)))
      ∙ sym (shown xs l b hb i inside p)
    where
      inside : i < length xs
      inside = omega (arith, (answered n g xs k a ha).settles, settled_few (answered n g xs k a ha).ending.end (trace (run_of n g xs k)) xs)

      go : (run_of n g xs l ≡ run_of n g xs k) ⊎ Longer spent (run_of n g xs k) (run_of n g xs l) → earlier n g xs k i ≡ earlier n g xs l i
      go (inl q) = ap (λ (r : Run). before (instant xs i) (trace r)) (sym q)
      go (inr m) =
          let o : Outcome = (answered n g xs k a ha).ending in
          let e : o.end ≡ spent = m.left_out o (answered n g xs k a ha).ended in
          let c : a.settled ≡ reached_from (trace (run_of n g xs k)) xs =
          (answered n g xs k a ha).settles ∙ ap (λ (x : End). settled_of x (trace (run_of n g xs k)) xs) e in
          let r : reaches (instant xs i) (trace (run_of n g xs k)) ≡ true = settled_reached (trace (run_of n g xs k)) xs i (subst (λ (z : ℕ). i < z) c s) in
          sym (ap (λ (es : List Entry). before (instant xs i) (reading zero64 ∷ es)) m.joined
          ∙ before_reached (instant xs i) (trace (run_of n g xs k)) m.more r)

  all_allowed : (xs : List Float) (k : ℕ) → EachAllowed n (initial_counts n) (trace (run_of n g xs k))
  all_allowed xs k = (tt, run_allowed spent 256 n (last_of xs) k (beginning n g))

  pub demand3 : takes_once n.transitions ≡ true → Demand3 n g
  demand3 once = record {
    two_lists = lists;
    two_limits = limits;
    counts = λ xs k a h i l p q.
        subst (λ (c : ℕ). held (initial_counts n) p + put_at n p (earlier n g xs k i) ≡ c + taken_at n p (earlier n g xs k i))
        (sym (shown xs k a h i l p))
        (counted n (once_each n once) (earlier n g xs k i) (initial_counts n) p (omega (arith, length-map n.places (λ (q : Place). q.initial)))
        (allowed_before n (instant xs i) (trace (run_of n g xs k)) (initial_counts n) (all_allowed xs k)));
    allowed = λ xs k a h. all_allowed xs k;
  }
