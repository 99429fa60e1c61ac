-- A queue, filled from a ring place by place, and slots filled from a queue.
use Prim.Native.Nat.{ℕ, zero, suc, ◌+◌, ◌-◌, ◌%◌, ◌≤◌, ◌<◌, min}
use mathlib.Core.Path.{◌≡◌, refl, ap, ap₂, ◌∙◌}
use mathlib.Core.Bool.{Bool, true, false, ◌&&◌}
use mathlib.Core.List.{List, ◌∷◌}
use native.Mathlib.Omega.{arith}
use native.Mathlib.Nat.{mod-eq_of_lt}
use lib.Dec.{eqb}
use lib.ListN.{length, get_or, replicate, get_or-replicate}
use lib.Ieee.{Float, nan, inf, le}
use Rattle.timers.specs.declared.queue.Queue.{Queue}
use Rattle.net.specs.Net.{pick, zero64}
use Rattle.rules.specs.Timers.{Timer}
use Rattle.timers.specs.InOrder.{rises_from, in_order}
use Rattle.timers.specs.Turning.{from}
use Rattle.timers.specs.Queues.{waiting, queue_of, blank}
use Rattle.timers.proofs.Stores.{timer_is}
use Rattle.timers.proofs.Places.{from_same}

no_less : {k : ℕ} → k < 0 → ⊥
no_less h = omega arith

-- ---- from a ring

-- what stands at number k of three arrays
abbrev row : List Float → List ℕ → List ℕ → ℕ → Timer
row times whos takens k = record { at = get_or times k nan; who = get_or whos k 0; taken = get_or takens k 0 }

-- the first i numbers hold the timers of the places from s on
pub record Queued (f : ℕ → Timer) (s i : ℕ) (times : List Float) (whos takens : List ℕ) : Type 0 where
  pub times_long : length times ≡ 256
  pub whos_long : length whos ≡ 256
  pub takens_long : length takens ≡ 256
  pub each : (k : ℕ) → k < i → row times whos takens k ≡ f ((s + k) % 256)
  pub beyond : (k : ℕ) → i ≤ k → k < 256 → row times whos takens k ≡ blank

pub queued_none : (f : ℕ → Timer) (s : ℕ) → Queued f s 0 (replicate 256 zero64) (replicate 256 0) (replicate 256 0)
queued_none f s =
    record {
      times_long = refl;
      whos_long = refl;
      takens_long = refl;
      each = λ k h. absurd (no_less h);
      beyond = λ k h l. timer_is _ _ _ _ _ _ (get_or-replicate 256 k zero64 nan l) (get_or-replicate 256 k 0 0 l) (get_or-replicate 256 k 0 0 l);
    }

-- places from s on, and numbers from 0 on
turn : (f g : ℕ → Timer) (s i n : ℕ) → i + n ≤ 256 → ((k : ℕ) → i ≤ k → k < i + n → g k ≡ f ((s + k) % 256)) → from g i n ≡ from f (s + i) n
turn f g s i zero h q = refl
turn f g s i (suc n) h q =
    let low : i % 256 ≡ i = mod-eq_of_lt (omega arith) in
    let next : s + suc i ≡ suc (s + i) = omega arith in
    ap₂ ◌∷◌ (ap g low ∙ q i (omega arith) (omega arith)) (turn f g s (suc i) n (omega arith) (λ k l u. q k (omega arith) (omega arith)) ∙ ap (λ (p : ℕ). from f p n) next)

pub queued_all : (f : ℕ → Timer) (s i n m : ℕ) (times : List Float) (whos takens : List ℕ) → i ≡ n → m ≡ n → n ≤ 256 → Queued f s i times whos takens
    → from (row times whos takens) 0 m ≡ from f s n
queued_all f s i n m times whos takens e d h q =
    let none : s + 0 ≡ s = omega arith in
    ap (from (row times whos takens) 0) d ∙ turn f (row times whos takens) s 0 n (omega arith) (λ k l u. q.each k (omega arith)) ∙ ap (λ (p : ℕ). from f p n) none

-- ---- from a queue

-- the first i slots hold the first i timers of a queue, and the others what they held
pub record Loaded (q : Queue) (i : ℕ) (before f : ℕ → Timer) : Type 0 where
  pub each : (k : ℕ) → k < i → f k ≡ waiting q k
  pub beyond : (k : ℕ) → i ≤ k → f k ≡ before k

pub loaded_none : (q : Queue) (f : ℕ → Timer) → Loaded q 0 f f
loaded_none q f = record { each = λ k h. absurd (no_less h); beyond = λ k h. refl }

pub loaded_all : (q : Queue) (i n m : ℕ) (before f : ℕ → Timer) → i ≡ n → m ≡ n → n ≡ min q.len 256 → Loaded q i before f → from f 0 m ≡ queue_of q
loaded_all q i n m before f e d c l =
    ap (from f 0) d ∙ from_same (waiting q) f 0 n (λ k h u. l.each (k % 256) (omega arith)) ∙ ap (from (waiting q) 0) c

-- ---- whether a queue is in order

-- a flag told as a number
pub one_if_lem : (b : Bool) → eqb (pick b 1 0) 1 ≡ true → b ≡ true
one_if_lem true e = refl
one_if_lem false e = e

-- the first n slots, of which those from number i on are left
module _ (f : ℕ → Timer) (n : ℕ) where
  pub rises_start : in_order (from f 0 n) ≡ rises_from (inf true) (from f 0 (n - 0))
  rises_start = let all : n - 0 ≡ n = omega arith in rw all refl

  module _ (i : ℕ) (a : Float) where
    left : n ≤ 256 → i < n → rises_from a (from f i (n - i)) ≡ (le a (f i).at && rises_from (f i).at (from f (i + 1) (n - (i + 1))))
    left few h =
        let count : n - i ≡ suc (n - (i + 1)) = omega arith in
        let next : suc i ≡ i + 1 = omega arith in
        ap (λ (k : ℕ). rises_from a (from f i k)) count
        ∙ ap (λ (k : ℕ). le a (f k).at && rises_from (f k).at (from f (suc i) (n - (i + 1)))) (mod-eq_of_lt (omega arith))
        ∙ ap (λ (k : ℕ). le a (f i).at && rises_from (f i).at (from f k (n - (i + 1)))) next

    pub rises_step : n ≤ 256 → i < n → le a (f i).at ≡ true → rises_from a (from f i (n - i)) ≡ rises_from (f i).at (from f (i + 1) (n - (i + 1)))
    rises_step few h t = left few h ∙ ap (λ (b : Bool). b && rises_from (f i).at (from f (i + 1) (n - (i + 1)))) t

    pub rises_stop : n ≤ 256 → i < n → le a (f i).at ≡ false → rises_from a (from f i (n - i)) ≡ false
    rises_stop few h t = left few h ∙ ap (λ (b : Bool). b && rises_from (f i).at (from f (i + 1) (n - (i + 1)))) t
