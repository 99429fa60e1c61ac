-- The sums over an ensemble's paths. The loop keeps the list of the paths that it has added: what is left to do, put behind them, is the whole; the mean
-- and deviation tables hold the sums over them (crate averages, Sums), the path table the last of them, and the cells behind are as they were.
-- What is made of the sums at the end is the call's answer. Assumes nothing.
use Prim.Native.Nat.{ℕ, zero, suc, ◌+◌, ◌-◌, ◌*◌, ◌≤◌, ◌<◌}
use mathlib.Core.Path.{◌≡◌, refl, sym, ap, ◌∙◌}
use mathlib.Core.Bool.{Bool, true, false, not}
use mathlib.Core.List.{List, [], ◌∷◌, ◌++◌, map, map-append}
use native.Mathlib.Omega.{arith}
use native.Mathlib.Nat.{mul-zero, le_of_suc-le-suc, not-suc-le-zero}
use borrow.Author.Tests.{eqb-true, eqb-false}
use lib.Dec.{eqb}
use lib.ListN.{length, drop, replicate, length-append, length-drop, length-map, length-replicate}
use lib.Seq.{drop_at}
use lib.Ieee.{Float}
use Rattle.std.proofs.Common.{Result, Ok, Err}
use Rattle.refusals.specs.Number.{number_of}
use Rattle.refusals.specs.declared.Refusal.{Refusal}
use Rattle.net.specs.Net.{Net, Marking, pick, zero64}
use Rattle.rng.specs.State.{State as Generator}
use Rattle.rng.specs.Splitmix.{seeded}
use Rattle.rules.specs.Propensity.{float}
use Rattle.rules.specs.Step.{Answer, refused, given}
use Rattle.rules.specs.Run.{End, Outcome, quiet, spent, reached, halted, outcome}
use Rattle.rules.specs.Shown.{Path, worked, reported, run_of}
use Rattle.averages.specs.Front.{on_front, with_front}
use Rattle.averages.specs.Moments.{plus, plus_square, summed_up, mean_of, mean_at, deviation_of, deviation_at, cells_from, table_by}
use Rattle.averages.specs.Request.{seed_of}
use Rattle.averages.specs.Members.{Members, unless_refused, paths_from, last_of}
use Rattle.averages.specs.Tables.{Tables}
use Rattle.averages.proofs.Fronts.{with_front_length}
use Rattle.averages.proofs.Members.{with_all, with_more, with_refused, with_none, one_more, last_more}
use Rattle.averages.proofs.Sums as Sums
use Rattle.ssa.specs.declared.EnsembleAnswer.TheVariants.{Averaged, Stopped}
use Rattle.playing.specs.declared.PathEnd.{PathEnd}
use Rattle.playing.specs.declared.PathEnd.TheVariants.{Quiet, Spent, Reached, Halted, Refused}
use Rattle.ssa.specs.declared.PathAnswer.{PathAnswer}
use Rattle.playing.specs.Cells.{rows_from, table_of, cleared}
use Rattle.ssa.specs.Path as Path
use Rattle.ssa.specs.Path.{end_of, call_of, played}
use Rattle.ssa.specs.Ensemble as Ensemble
use Rattle.ssa.specs.Ensemble.{one_if_spent, spent_of, cells_of, last_shown, tabulated}
use Rattle.ssa.specs.Summing as Summing
use Rattle.ssa.specs.Summing.{drawn, one_by_spent, TurnBy, sum_at, SummedBy}
use Rattle.playing.proofs.Cells.{rows_long}
use Rattle.ssa.proofs.Answered.{NotRefused}

-- ---- tables and the cells behind

cleared_further : (k : ℕ) (t : List Float) → drop k (cleared k t) ≡ drop k t
cleared_further k t = drop_at (replicate k zero64) (drop k t) k (length-replicate k zero64)

by_further : (f : ℕ → Float) (k : ℕ) (t : List Float) → drop k (table_by f k t) ≡ drop k t
by_further f k t = drop_at (cells_from f 0 k) (drop k t) k (Sums.cells_from_length f 0 k)

cleared_alike : (k : ℕ) (t t' : List Float) → drop k t' ≡ drop k t → cleared k t' ≡ cleared k t
cleared_alike k t t' e = ap (λ (l : List Float). replicate k zero64 ++ l) e

by_alike : (f : ℕ → Float) (k : ℕ) (t t' : List Float) → drop k t' ≡ drop k t → table_by f k t' ≡ table_by f k t
by_alike f k t t' e = ap (λ (l : List Float). cells_from f 0 k ++ l) e

-- cells set to +0 stay so when they are set again
pub cleared_once : (k : ℕ) (t t' : List Float) → t' ≡ cleared k t → t' ≡ cleared k t'
cleared_once k t t' e = e ∙ sym (cleared_alike k t t' (ap (drop k) e ∙ cleared_further k t))

-- they are the sums over no path
cleared_sums : (f : Float → Float → Float) (k : ℕ) (t : List Float) → cleared k t ≡ table_by (λ (c : ℕ). summed_up f c zero64 []) k t
cleared_sums f k t = ap (λ (l : List Float). l ++ drop k t) (Sums.sums_start f zero64 0 k)

-- only the first cells of the other table count
with_first : (f : Float → Float → Float) (k : ℕ) (v u xs : List Float) → k ≤ length v → with_front f k (v ++ u) xs ≡ with_front f k v xs
with_first f zero v u xs h = refl
with_first f (suc k) [] u xs h = absurd (not-suc-le-zero h)
with_first f (suc k) (x ∷ v) u [] h = refl
with_first f (suc k) (x ∷ v) u (y ∷ xs) h = ap (λ (l : List Float). f y x ∷ l) (with_first f k v u xs (le_of_suc-le-suc h))

-- ---- the table of a path that shows n instants

module _ (places n : ℕ) (shown : List Marking) (count : length shown ≡ n) where
  cells_count : length (rows_from shown 0 places) ≡ places * n
  cells_count = rows_long shown 0 places ∙ ap (λ (k : ℕ). places * k) count

  shown_is : (t : List Float) → table_of places shown t ≡ rows_from shown 0 places ++ drop (places * n) t
  shown_is t = ap (λ (k : ℕ). rows_from shown 0 places ++ drop (places * k) t) count

  shown_further : (t : List Float) → drop (places * n) (table_of places shown t) ≡ drop (places * n) t
  shown_further t = ap (drop (places * n)) (shown_is t) ∙ drop_at (rows_from shown 0 places) (drop (places * n) t) (places * n) cells_count

  shown_alike : (t t' : List Float) → drop (places * n) t' ≡ drop (places * n) t → table_of places shown t' ≡ table_of places shown t
  shown_alike t t' e = shown_is t' ∙ ap (λ (l : List Float). rows_from shown 0 places ++ l) e ∙ sym (shown_is t)

  shown_length : (t : List Float) → places * n ≤ length t → length (table_of places shown t) ≡ length t
  shown_length t h =
      ap length (shown_is t)
      ∙ length-append (rows_from shown 0 places) (drop (places * n) t)
      ∙ omega (arith, cells_count, length-drop (places * n) t)

  -- its cells, put on top of sums
  added : (f : Float → Float → Float) (paths : List (List Float)) (t sums : List Float)
      → with_front f (places * n) (table_of places shown t) (table_by (λ (c : ℕ). summed_up f c zero64 paths) (places * n) sums)
      ≡ table_by (λ (c : ℕ). summed_up f c zero64 (paths ++ (rows_from shown 0 places ∷ []))) (places * n) sums
  added f paths t sums =
      let so_far = table_by (λ (c : ℕ). summed_up f c zero64 paths) (places * n) sums in
      ap (λ (l : List Float). with_front f (places * n) l so_far) (shown_is t)
      ∙ with_first f (places * n) (rows_from shown 0 places) (drop (places * n) t) so_far (omega (arith, cells_count))
      ∙ Sums.sums_more f zero64 (places * n) paths (rows_from shown 0 places) (drop (places * n) sums) (omega (arith, cells_count))

no_rows : (p k : ℕ) → rows_from [] p k ≡ []
no_rows p zero = refl
no_rows p (suc k) = no_rows (suc p) k

nothing_shown : (places : ℕ) (t : List Float) → table_of places [] t ≡ t
nothing_shown places t = λ j. no_rows 0 places j ++ drop (mul-zero places j) t

-- ---- one path

-- what a path shows: as many counts as there are instants
shown_count : (n : Net) (g : Generator) (xs : List Float) (k : ℕ) (a : Path) → worked n g xs k ≡ given a → length a.shown ≡ length xs
shown_count n g xs k a e = go (outcome (run_of n g xs k)) e
  where
    go : (o : Answer Outcome) → reported n xs (run_of n g xs k) o ≡ given a → length a.shown ≡ length xs
    go (refused c) q = let z : ◌≡◌ {A = ℕ} 0 1 = cc in absurd (omega arith)
    go (given o) q = sym (ap many q) ∙ length-map xs _
      where
        many : Answer Path → ℕ
        many (refused c) = 0
        many (given b) = length b.shown

pub drawn_count : (n : Net) (seed : ℕ) (xs : List Float) (steps k : ℕ) (a : Path) → drawn n seed xs steps k ≡ given a → length a.shown ≡ length xs
unfolding drawn
drawn_count n seed xs steps k a e = shown_count n (seeded (seed_of seed k)) xs steps a e

-- a path from path k's seed is path k
pub own_path : {x : Path.Call} (n : Net) (seed k places : ℕ) (xs path : List Float) (g : Generator) (steps : ℕ)
    → x ≡ played places (length xs) g path (worked n g xs steps) → g ≡ seeded (seed_of seed k)
    → x ≡ played places (length xs) (seeded (seed_of seed k)) path (drawn n seed xs steps k)
unfolding drawn
own_path n seed k places xs path g steps h e = h ∙ ap (λ (o : Generator). played places (length xs) o path (worked n o xs steps)) e

abbrev spent_in : Answer End → ℕ
spent_in (refused c) = 0
spent_in (given e) = one_if_spent e

spent_by : (end : PathEnd) → one_by_spent end ≡ spent_in (end_of end)
spent_by Quiet = refl
spent_by Spent = refl
spent_by Reached = refl
spent_by Halted = refl
spent_by (Refused c) = refl

pub one_by_spent_lem : (end : PathEnd) → one_by_spent end ≤ 1
one_by_spent_lem Quiet = omega arith
one_by_spent_lem Spent = omega arith
one_by_spent_lem Reached = omega arith
one_by_spent_lem Halted = omega arith
one_by_spent_lem (Refused c) = omega arith

-- A path's answer r, and what is done with it.
module _ (places n many : ℕ) (g : Generator) (mean mean' deviation deviation' path path' : List Float) (r : PathAnswer) where
  pub turn_stops : (c : Refusal) (w : Answer Path) → call_of r path' ≡ played places n g path w → r.end ≡ Refused c
      → mean' ≡ mean → deviation' ≡ deviation → TurnBy w places n many mean mean' deviation deviation' path path' (Err c)
  turn_stops c (refused d) e f m s =
      let i : refused (number_of c) ≡ refused d = sym (ap end_of f) ∙ ap (λ (x : Path.Call). x.end) e in
      let b : d ≡ number_of c = cc in
      Summing.stops c (ap refused b) m s (ap (λ (x : Path.Call). x.table) e)
  turn_stops c (given a) e f m s =
      let i : refused (number_of c) ≡ given a.end = sym (ap end_of f) ∙ ap (λ (x : Path.Call). x.end) e in
      let z : ◌≡◌ {A = ℕ} 0 1 = cc in
      absurd (omega arith)

  pub turn_goes : (one s : ℕ) (w : Answer Path) → call_of r path' ≡ played places n g path w → NotRefused r.end → one ≡ one_by_spent r.end
      → s ≡ many + one → mean' ≡ with_front plus (places * n) path' mean → deviation' ≡ with_front plus_square (places * n) path' deviation
      → TurnBy w places n many mean mean' deviation deviation' path path' (Ok s)
  turn_goes one s (refused d) e nr o q m v = absurd (none r.end nr (ap (λ (x : Path.Call). x.end) e))
    where
      none : (end : PathEnd) → NotRefused end → end_of end ≡ refused d → ⊥
      none Quiet t i = let z : ◌≡◌ {A = ℕ} 0 1 = cc in omega arith
      none Spent t i = let z : ◌≡◌ {A = ℕ} 0 1 = cc in omega arith
      none Reached t i = let z : ◌≡◌ {A = ℕ} 0 1 = cc in omega arith
      none Halted t i = let z : ◌≡◌ {A = ℕ} 0 1 = cc in omega arith
      none (Refused c) t i = t
  turn_goes one s (given a) e nr o q m v =
      Summing.goes a s refl
      (q ∙ ap (λ (j : ℕ). many + j) (o ∙ spent_by r.end ∙ ap spent_in (ap (λ (x : Path.Call). x.end) e)))
      m v (ap (λ (x : Path.Call). x.table) e)

-- ---- a path more at the end of the list

spent_more : (ps : List Path) (a : Path) → spent_of ps + one_if_spent a.end ≡ spent_of (ps ++ (a ∷ []))
spent_more [] a = omega arith
spent_more (b ∷ ps) a = let e = spent_more ps a in omega arith

last_shown_lem : (ps : List Path) (a : Path) → last_shown (ps ++ (a ∷ [])) ≡ a.shown
last_shown_lem ps a = ap last_of (map-append (λ (b : Path). b.shown) ps (a ∷ [])) ∙ last_more (map (λ (b : Path). b.shown) ps) a.shown

-- ---- the paths as they are worked off

-- the first k of r paths are added
pub record SumsAt (w : ℕ → Answer Path) (places n r k many : ℕ) (mean mean' deviation deviation' path path' : List Float) : Type 0 where
  pub paths : List Path
  pub left : with_all paths (paths_from w k (r - k)) ≡ paths_from w 0 r
  pub count : length paths ≡ k
  pub number : many ≡ spent_of paths
  pub few : many ≤ k
  pub within : k ≤ r
  pub sums : Summing.Sums places n paths mean mean' deviation deviation' path path'
  pub long_mean : length mean' ≡ length mean
  pub long_deviation : length deviation' ≡ length deviation
  pub long_path : length path' ≡ length path

one_at_most : (e : End) → one_if_spent e ≤ 1
one_at_most quiet = omega arith
one_at_most spent = omega arith
one_at_most reached = omega arith
one_at_most halted = omega arith

module _ (w : ℕ → Answer Path) (places n r : ℕ) (mean deviation path : List Float) where
  pub none_added : mean ≡ cleared (places * n) mean → deviation ≡ cleared (places * n) deviation
      → SumsAt w places n r 0 0 mean mean deviation deviation path path
  none_added m d =
      let z : r - 0 ≡ r = omega arith in
      record {
        paths = [];
        left = ap (paths_from w 0) z;
        count = refl;
        number = refl;
        few = omega arith;
        within = omega arith;
        sums = record {
          sum = m ∙ cleared_sums plus (places * n) mean;
          squares = d ∙ cleared_sums plus_square (places * n) deviation;
          last = sym (nothing_shown places path);
          further = refl;
        };
        long_mean = refl;
        long_deviation = refl;
        long_path = refl;
      }

  module _ (k many : ℕ) (mean' deviation' path' : List Float) (s : SumsAt w places n r k many mean mean' deviation deviation' path path') (h : k < r) where
    turned : (x : Answer Path) → w k ≡ x → with_all s.paths (unless_refused k x (paths_from w (k + 1) (r - (k + 1)))) ≡ paths_from w 0 r
    turned x e =
        sym (ap (with_all s.paths) (one_more w r k h ∙ ap (λ (y : Answer Path). unless_refused k y (paths_from w (k + 1) (r - (k + 1)))) e)) ∙ s.left

    -- path k is added
    pub one_added : (many' : ℕ) (mean'' deviation'' path'' : List Float) → places * n ≤ length path → ((a : Path) → w k ≡ given a → length a.shown ≡ n)
        → (t : Result ℕ Refusal) → t ≡ Ok many' → TurnBy (w k) places n many mean' mean'' deviation' deviation'' path' path'' t
        → SumsAt w places n r (k + 1) many' mean mean'' deviation deviation'' path path''
    one_added many' mean'' deviation'' path'' room long t q (Summing.stops c e m d p) =
        let z : ◌≡◌ {A = ℕ} 0 1 = cc in absurd (omega arith)
    one_added many' mean'' deviation'' path'' room long t q (Summing.goes a u e number sum squares last) =
        let ps = s.paths in
        let cells = places * n in
        let count = long a e in
        let same : many' ≡ u = cc in
        record {
          paths = ps ++ (a ∷ []);
          left = with_more ps a (paths_from w (k + 1) (r - (k + 1))) ∙ turned (given a) e;
          count = length-append ps (a ∷ []) ∙ ap (λ (j : ℕ). j + 1) s.count;
          number = same ∙ number ∙ ap (λ (j : ℕ). j + one_if_spent a.end) s.number ∙ spent_more ps a;
          few = omega (arith, s.few, one_at_most a.end);
          within = omega arith;
          sums = record {
            sum = more a count plus mean mean' mean'' s.sums.sum (sum ∙ ap (λ (l : List Float). with_front plus cells l mean') last);
            squares = more a count plus_square deviation deviation' deviation'' s.sums.squares (squares ∙ ap (λ (l : List Float). with_front plus_square cells l deviation') last);
            last = last ∙ shown_alike places n a.shown count path path' s.sums.further ∙ sym (ap (λ (m : List Marking). table_of places m path) (last_shown_lem ps a));
            further = ap (drop cells) last ∙ shown_further places n a.shown count path' ∙ s.sums.further;
          };
          long_mean = ap length sum ∙ with_front_length plus cells path'' mean' ∙ s.long_mean;
          long_deviation = ap length squares ∙ with_front_length plus_square cells path'' deviation' ∙ s.long_deviation;
          long_path = ap length last ∙ shown_length places n a.shown count path' (omega (arith, room, s.long_path)) ∙ s.long_path;
        }
      where
        more : (a : Path) → length a.shown ≡ n → (f : Float → Float → Float) (base sums sums' : List Float) → sums ≡ table_by (sum_at f places s.paths) (places * n) base
            → sums' ≡ with_front f (places * n) (table_of places a.shown path') sums → sums' ≡ table_by (sum_at f places (s.paths ++ (a ∷ []))) (places * n) base
        more a count f base sums sums' x y =
            y
            ∙ ap (with_front f (places * n) (table_of places a.shown path')) x
            ∙ added places n a.shown count f (map (cells_of places) s.paths) path' base
            ∙ sym (ap (λ (l : List (List Float)). table_by (λ (c : ℕ). summed_up f c zero64 l) (places * n) base) (map-append (cells_of places) s.paths (a ∷ [])))

    -- path k is refused
    pub one_refused : (c : Refusal) (mean'' deviation'' path'' : List Float)
        → (t : Result ℕ Refusal) → t ≡ Err c → TurnBy (w k) places n many mean' mean'' deviation' deviation'' path' path'' t
        → SummedBy (paths_from w 0 r) places n r mean mean'' deviation deviation'' path path'' (Err (c, k))
    one_refused c mean'' deviation'' path'' t q (Summing.goes a u e number sum squares last) =
        let z : ◌≡◌ {A = ℕ} 0 1 = cc in absurd (omega arith)
    one_refused c mean'' deviation'' path'' t q (Summing.stops b e m d p) =
        let cells = places * n in
        let same : b ≡ c = cc in
        Summing.stops c k
        (sym (turned (refused (number_of c)) (e ∙ ap (λ (x : Refusal). refused (number_of x)) same)) ∙ with_refused s.paths (number_of c) k)
        (ap (drop cells) (m ∙ s.sums.sum) ∙ by_further (sum_at plus places s.paths) cells mean)
        (ap (drop cells) (d ∙ s.sums.squares) ∙ by_further (sum_at plus_square places s.paths) cells deviation)
        (p ∙ cleared_alike cells path path' s.sums.further)

  pub all_added : (k many : ℕ) (mean' deviation' path' : List Float) → SumsAt w places n r k many mean mean' deviation deviation' path path' → r ≤ k
      → SummedBy (paths_from w 0 r) places n r mean mean' deviation deviation' path path' (Ok many)
  all_added k many mean' deviation' path' s h =
      let z : r - k ≡ 0 = omega arith in
      let e : k ≡ r = omega (arith, s.within) in
      Summing.done s.paths many
      (sym s.left ∙ ap (λ (j : ℕ). with_all s.paths (paths_from w k j)) z ∙ with_none s.paths)
      (s.count ∙ e)
      s.number
      s.sums

-- ---- the answer

same_call : {o o' : Ensemble.Outcome} {m m' d d' p p' : List Float} → o ≡ o' → m ≡ m' → d ≡ d' → p ≡ p'
    → ◌≡◌ {A = Ensemble.Call} (record { outcome = o; tables = record { mean = m; deviation = d; path = p } })
    (record { outcome = o'; tables = record { mean = m'; deviation = d'; path = p' } })
same_call e f g h = λ i. record { outcome = e i; tables = record { mean = f i; deviation = g i; path = h i } }

-- mean and deviation as they were lent, then cleared, then with the sums; path as it was lent, then after the paths
module _ (whole : Members Path) (places n r : ℕ) (mean deviation path : List Float) (mean₁ deviation₁ mean₂ deviation₂ path₂ : List Float)
    (m₁ : mean₁ ≡ cleared (places * n) mean) (d₁ : deviation₁ ≡ cleared (places * n) deviation) where
  abbrev lent : Tables
  lent = record { mean = mean; deviation = deviation; path = path }

  abbrev cells : ℕ
  cells = places * n

  mean_further : drop cells mean₁ ≡ drop cells mean
  mean_further = ap (drop cells) m₁ ∙ cleared_further cells mean

  deviation_further : drop cells deviation₁ ≡ drop cells deviation
  deviation_further = ap (drop cells) d₁ ∙ cleared_further cells deviation

  pub stopped_call : (c : Refusal) (k : ℕ) (mean₃ deviation₃ : List Float) (x : Result ℕ (Refusal × ℕ)) → x ≡ Err (c, k)
      → SummedBy whole places n r mean₁ mean₂ deviation₁ deviation₂ path path₂ x → mean₃ ≡ cleared cells mean₂ → deviation₃ ≡ cleared cells deviation₂
      → Ensemble.call_of (Stopped c k) mean₃ deviation₃ path₂ ≡ tabulated places n lent whole
  stopped_call c k mean₃ deviation₃ x e (Summing.done ps s w l q f) m d = let z : ◌≡◌ {A = ℕ} 0 1 = cc in absurd (omega arith)
  stopped_call c k mean₃ deviation₃ x e (Summing.stops b j w f g p) m d =
      let u : ◌≡◌ {A = Refusal × ℕ} (c, k) (b, j) = cc in
      same_call (λ i. Ensemble.stopped (number_of (u i).0) (u i).1)
      (m ∙ cleared_alike cells mean mean₂ (f ∙ mean_further))
      (d ∙ cleared_alike cells deviation deviation₂ (g ∙ deviation_further))
      p
      ∙ sym (ap (tabulated places n lent) w)

  deviations : (ps : List Path) → length ps ≡ r → cells ≤ length deviation → (mean₃ deviation₃ : List Float)
      → mean₃ ≡ table_by (mean_at (map (cells_of places) ps)) cells mean → deviation₂ ≡ table_by (sum_at plus_square places ps) cells deviation
      → deviation₃ ≡ pick (eqb r 1) (cleared cells deviation₂) (with_front (deviation_of (float r)) cells mean₃ deviation₂)
      → deviation₃ ≡ table_by (deviation_at (map (cells_of places) ps)) cells deviation
  deviations ps l room mean₃ deviation₃ m s d = go (eqb r 1) refl d
    where
      each : List (List Float)
      each = map (cells_of places) ps

      number : length each ≡ r
      number = length-map ps (cells_of places) ∙ l

      go : (b : Bool) → eqb r 1 ≡ b → deviation₃ ≡ pick b (cleared cells deviation₂) (with_front (deviation_of (float r)) cells mean₃ deviation₂)
          → deviation₃ ≡ table_by (deviation_at (map (cells_of places) ps)) cells deviation
      go true e y =
          y
          ∙ cleared_alike cells deviation deviation₂ (ap (drop cells) s ∙ by_further (sum_at plus_square places ps) cells deviation)
          ∙ sym (Sums.on_front_const zero64 cells deviation room)
          ∙ Sums.deviations_none each cells deviation (number ∙ eqb-true r 1 e) room
      go false e y =
          y
          ∙ ap (λ (t : List Float). with_front (deviation_of (float r)) cells t deviation₂) m
          ∙ ap (with_front (deviation_of (float r)) cells (table_by (mean_at each) cells mean)) s
          ∙ Sums.deviations_made (float r) each (ap float (sym number)) cells (λ h. eqb-false r 1 e (sym number ∙ h)) mean deviation

  pub finished_call : (s : ℕ) (deviates : Bool) (mean₃ deviation₃ : List Float) (x : Result ℕ (Refusal × ℕ)) → x ≡ Ok s → cells ≤ length deviation
      → SummedBy whole places n r mean₁ mean₂ deviation₁ deviation₂ path path₂ x → deviates ≡ not (eqb r 1)
      → mean₃ ≡ on_front (mean_of (float r)) cells mean₂
      → deviation₃ ≡ pick (eqb r 1) (cleared cells deviation₂) (with_front (deviation_of (float r)) cells mean₃ deviation₂)
      → Ensemble.call_of (Averaged s deviates) mean₃ deviation₃ path₂ ≡ tabulated places n lent whole
  finished_call s deviates mean₃ deviation₃ x e room (Summing.stops b j w f g p) v m d = let z : ◌≡◌ {A = ℕ} 0 1 = cc in absurd (omega arith)
  finished_call s deviates mean₃ deviation₃ x e room (Summing.done ps u w l q f) v m d =
      let z : s ≡ spent_of ps = cc in
      same_call (λ i. Ensemble.averaged (z i) ((v ∙ ap (λ (k : ℕ). not (eqb k 1)) (sym l)) i))
      means
      (deviations ps l room mean₃ deviation₃ means (f.squares ∙ by_alike (sum_at plus_square places ps) cells deviation deviation₁ deviation_further) d)
      f.last
      ∙ sym (ap (tabulated places n lent) w)
    where
      means : mean₃ ≡ table_by (mean_at (map (cells_of places) ps)) cells mean
      means =
          m
          ∙ ap (on_front (mean_of (float r)) cells) (f.sum ∙ by_alike (sum_at plus places ps) cells mean mean₁ mean_further)
          ∙ Sums.means_made (float r) (map (cells_of places) ps) (ap float (sym (length-map ps (cells_of places) ∙ l))) cells mean
