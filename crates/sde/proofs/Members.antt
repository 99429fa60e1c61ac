-- The paths of a call, path by path: those walked so far stand in front of those that are left, their sums and the last of them in the tables.
-- Assumes nothing.
use Prim.Native.Nat.{ℕ, zero, suc, ◌+◌, ◌-◌, ◌≤◌, ◌<◌}
use mathlib.Core.Path.{◌≡◌, refl, sym, ap, ◌∙◌}
use mathlib.Core.Bool.{Bool, not}
use mathlib.Core.List.{List, [], ◌∷◌, ◌++◌}
use native.Mathlib.Omega.{arith}
use lib.Dec.{eqb}
use lib.ListN.{length, take, drop, replicate, length-append, take-append-drop}
use lib.Seq.{drop_at, length-take-le}
use lib.Ieee.{Float, binary64, of_bits, of_int}
use borrow.Author.Tests.{eqb-true, eqb-false}
use Prim.{⊥}
use Rattle.std.specs.Prelude.{Result, Ok, Err}
use Rattle.refusals.specs.Number.{number_of}
use Rattle.refusals.specs.declared.Refusal.{Refusal as RefusalEnum}
use Rattle.net.specs.declared.Net.{Net as NetRecord}
use Rattle.net.specs.Net.{pick, zero64}
use Rattle.net.specs.Readable.{readable}
use Rattle.net.proofs.Lengths.{places_length}
use Rattle.rules.specs.Propensity.{float}
use Rattle.rules.specs.Step.{Answer}
use Rattle.averages.specs.Request.{seed_of}
use Rattle.averages.specs.Front.{on_front, with_front}
use Rattle.averages.specs.Moments.{plus, plus_square, summed_up, mean_of, mean_at, deviation_of, deviation_at, cells_from, table_by}
use Rattle.averages.specs.Members.{Members, refused_at, unless_refused, paths_from, last_of}
use Rattle.averages.specs.Tables.{Tables, cleared}
use Rattle.averages.proofs.Members.{with_all, with_more, with_refused, with_none, one_more, last_more}
use Rattle.averages.proofs.Sums.{cells_from_length, table_by_length, on_front_const, sums_none, sums_more, means_made, deviations_made, deviations_none}
use Rattle.sde.specs.declared.paths.Halt.{Halt}
use Rattle.sde.specs.Diffusion.{walked, cells_of}
use Rattle.sde.specs.Call.{Outcome, averaged, stopped, Call, tabulated}
use Rattle.sde.specs.Arrays.{answered, Beyond}
use Rattle.sde.specs.Summed.{SummedBy, all, halted, path_of}
use Rattle.engine.proofs.Arcs.{on_bool}

-- ---- one path

pub path_is : (n : NetRecord) (samples : ℕ) (dt : Float) (seed k : ℕ) {own : ℕ} → own ≡ seed_of seed k
    → cells_of n.places (walked (readable n) dt samples own) ≡ path_of (readable n) samples dt seed k
path_is n samples dt seed k d =
    ap (λ (o : ℕ). cells_of n.places (walked (readable n) dt samples o)) d
    ∙ ap (λ (m : ℕ). cells_of m (walked (readable n) dt samples (seed_of seed k))) (sym (places_length n))

-- ---- the tables

-- only the first cells of the path count
front_take : (f : Float → Float → Float) (k : ℕ) (v xs : List Float) → with_front f k v xs ≡ with_front f k (take k v) xs
front_take f zero v xs = refl
front_take f (suc k) [] xs = refl
front_take f (suc k) (v ∷ vs) [] = refl
front_take f (suc k) (v ∷ vs) (x ∷ xs) = ap (λ (l : List Float). f x v ∷ l) (front_take f k vs xs)

pub table_beyond : (g : ℕ → Float) (k : ℕ) (xs ys : List Float) → k ≤ length xs → ys ≡ table_by g k xs → Beyond k xs ys
table_beyond g k xs ys h e =
    record {
      long = ap length e ∙ table_by_length g k xs h;
      stays = ap (drop k) e ∙ drop_at (cells_from g 0 k) (drop k xs) k (cells_from_length g 0 k);
    }

pub beyond_cleared : (k : ℕ) (xs ys zs : List Float) → k ≤ length xs → Beyond k xs ys → zs ≡ on_front (λ (x : Float). zero64) k ys → zs ≡ cleared k xs
beyond_cleared k xs ys zs h b e =
    e ∙ on_front_const zero64 k ys (omega (arith, b.long)) ∙ ap (λ (l : List Float). replicate k zero64 ++ l) b.stays

-- ---- path by path

-- w gives the paths, of which there are r
pub record Sums (w : ℕ → Answer (List Float)) (r cells k : ℕ) (m₀ d₀ p₀ m d p : List Float) : Type 0 where
  pub done : List (List Float)
  pub count : length done ≡ k
  pub goes_on : with_all done (paths_from w k (r - k)) ≡ paths_from w 0 r
  pub means : m ≡ table_by (λ (c : ℕ). summed_up plus c zero64 done) cells m₀
  pub squares : d ≡ table_by (λ (c : ℕ). summed_up plus_square c zero64 done) cells d₀
  pub beyond : Beyond cells p₀ p
  pub last : 0 < k → take cells p ≡ last_of done

-- a cleared table holds the sums over no path, on top of itself
pub none_yet : (f : Float → Float → Float) (cells : ℕ) (before m : List Float) → cells ≤ length before → m ≡ on_front (λ (x : Float). zero64) cells before
    → (m ≡ table_by (λ (c : ℕ). summed_up f c zero64 []) cells m) × Beyond cells before m
none_yet f cells before m h e =
    let b = table_beyond (λ (c : ℕ). summed_up f c zero64 []) cells before m h (e ∙ sums_none f cells before h) in
    (e ∙ sums_none f cells before h ∙ ap (λ (l : List Float). cells_from (λ (c : ℕ). summed_up f c zero64 []) 0 cells ++ l) (sym b.stays), b)

pub sums_first : (w : ℕ → Answer (List Float)) (r cells : ℕ) (m d p : List Float) → m ≡ table_by (λ (c : ℕ). summed_up plus c zero64 []) cells m
    → d ≡ table_by (λ (c : ℕ). summed_up plus_square c zero64 []) cells d → Sums w r cells 0 m d p m d p
sums_first w r cells m d p e f =
    let z : r - 0 ≡ r = omega arith in
    record {
      done = [];
      count = refl;
      goes_on = ap (paths_from w 0) z;
      means = e;
      squares = f;
      beyond = record { long = refl; stays = refl };
      last = λ a. absurd (omega arith);
    }

-- the tables before they were cleared
pub summed_from : {cells r : ℕ} {paths : Members (List Float)} {a m b d p x y z : List Float} {answer : Result Unit Halt} → Beyond cells a m → Beyond cells b d
    → SummedBy cells r paths (record { mean = m; deviation = d; path = p }) x y z answer
    → SummedBy cells r paths (record { mean = a; deviation = b; path = p }) x y z answer
summed_from {cells} g h (all done o l e f s t) =
    all done o l e
    (f ∙ ap (λ (x : List Float). cells_from (λ (c : ℕ). summed_up plus c zero64 done) 0 cells ++ x) g.stays)
    (s ∙ ap (λ (x : List Float). cells_from (λ (c : ℕ). summed_up plus_square c zero64 done) 0 cells ++ x) h.stays) t
summed_from g h (halted at o e f s t) =
    halted at o e (record { long = f.long ∙ g.long; stays = f.stays ∙ g.stays }) (record { long = s.long ∙ h.long; stays = s.stays ∙ h.stays }) t

-- one turn: path k is p', or refused
module _ (w : ℕ → Answer (List Float)) (r cells k : ℕ) {m₀ d₀ p₀ m d p : List Float} (u : Sums w r cells k m₀ d₀ p₀ m d p) (h : k < r)
    (s : Result Unit RefusalEnum) (p' : List Float) (e : answered s (take cells p') ≡ w k) (b : Beyond cells p p') where
  now_beyond : Beyond cells p₀ p'
  now_beyond = record { long = b.long ∙ u.beyond.long; stays = b.stays ∙ u.beyond.stays }

  abbrev later : Answer (List Float) → Members (List Float)
  later a = unless_refused k a (paths_from w (k + 1) (r - (k + 1)))

  pub sums_stop : (c : RefusalEnum) → s ≡ Err c → cells ≤ length m₀ → cells ≤ length d₀
      → SummedBy cells r (paths_from w 0 r) (record { mean = m₀; deviation = d₀; path = p₀ }) m d p' (Err (record { refusal = c; path = k }))
  sums_stop c y hm hd =
      halted (record { refusal = c; path = k }) refl
      (sym u.goes_on
      ∙ ap (with_all u.done)
      (one_more w r k h ∙ ap later (sym e ∙ ap (λ (t : Result Unit RefusalEnum). answered t (take cells p')) y))
      ∙ with_refused u.done (number_of c) k)
      (table_beyond _ cells m₀ m hm u.means)
      (table_beyond _ cells d₀ d hd u.squares)
      now_beyond

  pub sums_next : (o : Unit) → s ≡ Ok o → cells ≤ length p₀ → (m' d' : List Float) → m' ≡ with_front plus cells p' m → d' ≡ with_front plus_square cells p' d
      → Sums w r cells (k + 1) m₀ d₀ p₀ m' d' p'
  sums_next o y hp m' d' f g =
      let a = take cells p' in
      let l : cells ≤ length a = omega (arith, length-take-le cells p' (omega (arith, now_beyond.long))) in
      record {
        done = u.done ++ (a ∷ []);
        count = length-append u.done (a ∷ []) ∙ omega (arith, u.count);
        goes_on = with_more u.done a (paths_from w (k + 1) (r - (k + 1)))
            ∙ ap (with_all u.done) (sym (one_more w r k h ∙ ap later (sym e ∙ ap (λ (t : Result Unit RefusalEnum). answered t a) y)))
            ∙ u.goes_on;
        means = f ∙ front_take plus cells p' m ∙ ap (with_front plus cells a) u.means ∙ sums_more plus zero64 cells u.done a (drop cells m₀) l;
        squares = g ∙ front_take plus_square cells p' d ∙ ap (with_front plus_square cells a) u.squares ∙ sums_more plus_square zero64 cells u.done a (drop cells d₀) l;
        beyond = now_beyond;
        last = λ z. sym (last_more u.done a);
      }

pub sums_all : (w : ℕ → Answer (List Float)) (r cells k : ℕ) {m₀ d₀ p₀ m d p : List Float} → Sums w r cells k m₀ d₀ p₀ m d p → 1 ≤ r → k ≤ r → r ≤ k
    → SummedBy cells r (paths_from w 0 r) (record { mean = m₀; deviation = d₀; path = p₀ }) m d p (Ok tt)
sums_all w r cells k {m₀} {d₀} {p₀} {m} {d} {p} u one a b =
    let z : r - k ≡ 0 = omega arith in
    all u.done refl (u.count ∙ omega arith)
    (sym u.goes_on ∙ ap (λ (j : ℕ). with_all u.done (paths_from w k j)) z ∙ with_none u.done)
    u.means u.squares
    (sym (take-append-drop cells p) ∙ ap (λ (l : List Float). l ++ drop cells p) (u.last (omega arith)) ∙ ap (λ (l : List Float). last_of u.done ++ l) u.beyond.stays)

-- ---- the numbers of the width

pub twenty : of_bits binary64 0x4034_0000_0000_0000 ≡ float 20
unfolding of_bits of_int
twenty = refl

pub nought : zero64 ≡ float 0
unfolding of_bits of_int
nought = refl

-- ---- the answer

other_answer : {h : Halt} {o : Unit} → ◌≡◌ {A = Result Unit Halt} (Ok o) (Err h) → ⊥
other_answer e = cc

same_halt : {g h : Halt} → ◌≡◌ {A = Result Unit Halt} (Err g) (Err h) → g ≡ h
same_halt e = cc

module _ (cells r : ℕ) (paths : Members (List Float)) (t : Tables) (m d p : List Float) (hm : cells ≤ length t.mean) (hd : cells ≤ length t.deviation) (hp : cells ≤ length t.path) where
  -- a path was refused
  pub call_stopped : (h : Halt) → SummedBy cells r paths t m d p (Err h) → (m' d' p' : List Float)
      → m' ≡ on_front (λ (x : Float). zero64) cells m → d' ≡ on_front (λ (x : Float). zero64) cells d → p' ≡ on_front (λ (x : Float). zero64) cells p
      → ◌≡◌ {A = Call} (record { outcome = stopped (number_of h.refusal) h.path; tables = record { mean = m'; deviation = d'; path = p' } }) (tabulated cells t paths)
  call_stopped h (all done o l u v w x) m' d' p' f g y = absurd (other_answer (sym o))
  call_stopped h (halted k o u v w x) m' d' p' f g y =
      (λ i. record {
        outcome = stopped (number_of h.refusal) h.path;
        tables = record {
          mean = beyond_cleared cells t.mean m m' hm v f i;
          deviation = beyond_cleared cells t.deviation d d' hd w g i;
          path = beyond_cleared cells t.path p p' hp x y i;
        };
      })
      ∙ ap (λ (q : Halt). tabulated cells t (refused_at (number_of q.refusal) q.path)) (same_halt o)
      ∙ sym (ap (tabulated cells t) u)

  -- all were walked
  pub call_averaged : (u : Unit) → SummedBy cells r paths t m d p (Ok u) → (o : Outcome) (m' d' : List Float) → o ≡ averaged (not (eqb r 1))
      → m' ≡ on_front (mean_of (float r)) cells m
      → d' ≡ pick (eqb r 1) (on_front (λ (x : Float). zero64) cells d) (with_front (deviation_of (float r)) cells m' d)
      → ◌≡◌ {A = Call} (record { outcome = o; tables = record { mean = m'; deviation = d'; path = p } }) (tabulated cells t paths)
  call_averaged c (halted k e u v w x) o m' d' z f g = absurd (other_answer e)
  call_averaged c (all done e l u v w x) o m' d' z f g =
      (λ i. record {
        outcome = (z ∙ ap (λ (c : ℕ). averaged (not (eqb c 1))) (sym l)) i;
        tables = record { mean = means i; deviation = deviations i; path = x i };
      })
      ∙ sym (ap (tabulated cells t) u)
    where
      number : float r ≡ float (length done)
      number = ap float (sym l)

      means : m' ≡ table_by (mean_at done) cells t.mean
      means = f ∙ ap (on_front (mean_of (float r)) cells) v ∙ means_made (float r) done number cells t.mean

      beyond : Beyond cells t.deviation d
      beyond = table_beyond (λ (c : ℕ). summed_up plus_square c zero64 done) cells t.deviation d hd w

      deviations : d' ≡ table_by (deviation_at done) cells t.deviation
      deviations =
          on_bool (eqb r 1)
          (λ b.
          g
          ∙ ap (λ (c : Bool). pick c (on_front (λ (x : Float). zero64) cells d) (with_front (deviation_of (float r)) cells m' d)) b
          ∙ deviations_none done cells d (l ∙ eqb-true r 1 b) (omega (arith, hd, beyond.long))
          ∙ ap (λ (q : List Float). cells_from (deviation_at done) 0 cells ++ q) beyond.stays)
          (λ b.
          g
          ∙ ap (λ (c : Bool). pick c (on_front (λ (x : Float). zero64) cells d) (with_front (deviation_of (float r)) cells m' d)) b
          ∙ (λ i. with_front (deviation_of (float r)) cells (means i) (w i))
          ∙ deviations_made (float r) done number cells (λ y. eqb-false r 1 b (sym l ∙ y)) t.mean t.deviation)
