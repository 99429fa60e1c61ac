-- Order 8, the same counts: at instants that two halted calls recorded, and at those of two carried states, alike but for instants and records, that
-- are played to an end.
use Prim.Native.Nat.{ℕ, zero, suc, ◌+◌, ◌-◌, min, ◌≤◌, ◌<◌}
use mathlib.Core.Path.{◌≡◌, refl, sym, ap, ap₂, ◌∙◌}
use mathlib.Core.Bool.{Bool, true, false, ◌&&◌, ◌||◌, not}
use mathlib.Core.Logic.{◌⊎◌, inl, inr, ◌≢◌}
use mathlib.Core.List.{List, [], ◌∷◌, ◌++◌, map}
use native.Mathlib.Omega.{arith}
use native.Mathlib.Decide.{dec_lt, dec_le}
use lib.Dec.{leb}
use lib.ListN.{length, take, get_or, length-append, length-take, length-drop, length-map, get_or-append}
use lib.Seq.{get_or-append-add, get_or-drop, get_or-take, take-length}
use lib.Ieee.{Float, le, eq, is_nan}
use Rattle.net.specs.Net.{Net, Marking, pick, zero64}
use Rattle.net.specs.Tests.{any}
use Rattle.rng.specs.State.{State as Generator}
use Rattle.rules.specs.Moves.{Entry, reading, after, initial_counts}
use Rattle.rules.specs.Step.{State, refused, given}
use Rattle.rules.specs.Run.{End, quiet, spent, reached, halted, Run, beginning, run_within, Outcome, outcome, entries, trace}
use Rattle.rules.specs.Shown.{before, reaches, shown_from, shown_at, reached_from, last_of, rising, instants_fit, limit_fits}
use Rattle.rules.specs.Demand3.{instant}
use Rattle.rules.specs.Carried.{Carried, unrecorded, run_onward, met_by, leaving, Onward, play_on, begun, path_naming}
use Rattle.rules.specs.Change.{records_fit}
use Rattle.rules.specs.Halting.{Matched, in_both, in_none}
use Rattle.rules.proofs.Order.{both, neither, eq_le}
use Rattle.rules.proofs.Counts.{not_true}
use Rattle.rules.proofs.Runs.{quiet_halted, spent_halted, reached_halted, spent_unhalted, Longer, grows, unhalted, run_on}
use Rattle.rules.proofs.Agree.{before_equal, reaches_equal, before_reached, SameTo, same}
use Rattle.rules.proofs.PlayingOn.{run_halting, run_to_limit, Answered, answered, shows_recorded, shows_all}
use Rattle.rules.proofs.Allowing.{given_same, refused_given}
use Rattle.rules.proofs.Demand3Held.{instant_fits, at_instant, settled_reached, reached_few}
use Rattle.rules.proofs.Play.{Rises, rises}
use Rattle.rules.proofs.Recording.{met_length, rises_drop}
use Rattle.rules.proofs.Naming.{begun_recorded}

-- ---- two runs from one state

module _ (out : End) (room : ℕ) (n : Net) (s : State) where
  -- x is reached by the run of fewer steps
  shorter_same : (x a b : Float) → is_nan x ≡ false → le x a ≡ true → le x b ≡ true → le x s.clock ≡ false
      → (h k : ℕ) → h ≤ k → reaches x (entries (run_within out room n a h s)) ≡ true
      → before x (entries (run_within out room n a h s)) ≡ before x (entries (run_within out room n b k s))
  shorter_same x a b z ha hb l h k e p =
      let w : SameTo x (run_within out room n a h s) (run_within out room n b h s) = same out room n x a b z ha hb h s l in
      w.0 ∙ go (grows out room n b h k e s) (sym w.1 ∙ p)
    where
      go : (run_within out room n b k s ≡ run_within out room n b h s) ⊎ Longer out (run_within out room n b h s) (run_within out room n b k s)
          → reaches x (entries (run_within out room n b h s)) ≡ true
          → before x (entries (run_within out room n b h s)) ≡ before x (entries (run_within out room n b k s))
      go (inl q) p = ap (λ (r : Run). before x (entries r)) (sym q)
      go (inr m) p = sym (ap (before x) m.joined ∙ before_reached x (entries (run_within out room n b h s)) m.more p)

  -- x is reached by both
  pub both_reach : (x a b : Float) → is_nan x ≡ false → le x a ≡ true → le x b ≡ true → le x s.clock ≡ false
      → (h k : ℕ) → reaches x (entries (run_within out room n a h s)) ≡ true → reaches x (entries (run_within out room n b k s)) ≡ true
      → before x (entries (run_within out room n a h s)) ≡ before x (entries (run_within out room n b k s))
  both_reach x a b z ha hb l h k p q = go (dec_le h k)
    where
      go : Dec (h ≤ k) → before x (entries (run_within out room n a h s)) ≡ before x (entries (run_within out room n b k s))
      go (yes e) = shorter_same x a b z ha hb l h k e p
      go (no e) = sym (shorter_same x b a z hb ha l k h (omega arith) q)

-- ---- the run of a halted call, and of one that is not

module _ (room : ℕ) (n : Net) (c : Carried) (named : ℕ) (o : Outcome) (p : outcome (run_onward room n c named) ≡ given o) where
  pub halted_run_lem : o.end ≡ halted → run_onward room n c named ≡ run_within halted room n (last_of c.instants) named c.now
  halted_run_lem q = go (dec_lt named (c.limit - c.steps))
    where
      go : Dec (named < c.limit - c.steps) → run_onward room n c named ≡ run_within halted room n (last_of c.instants) named c.now
      go (yes l) = run_halting room n c named l
      go (no l) =
          absurd (spent_unhalted room n (last_of c.instants) (c.limit - c.steps) c.now o (ap outcome (sym (run_to_limit room n c named (omega arith))) ∙ p) q)

  pub unhalted_run : o.end ≢ halted → run_onward room n c named ≡ run_within spent room n (last_of c.instants) (c.limit - c.steps) c.now
  unhalted_run q = go (dec_lt named (c.limit - c.steps))
    where
      go : Dec (named < c.limit - c.steps) → run_onward room n c named ≡ run_within spent room n (last_of c.instants) (c.limit - c.steps) c.now
      go (no l) = run_to_limit room n c named (omega arith)
      go (yes l) =
          let e : run_onward room n c named ≡ run_within halted room n (last_of c.instants) named c.now = run_halting room n c named l in
          let f : named + (c.limit - c.steps - named) ≡ c.limit - c.steps = omega arith in
          e ∙ sym (run_on spent room n (last_of c.instants) named (c.limit - c.steps - named) (c.limit - c.steps) f c.now
          ∙ unhalted (run_within halted room n (last_of c.instants) named c.now)
          (λ u w. q (ap (λ (o : Outcome). o.end) (given_same (sym p ∙ ap outcome e ∙ w)))) _)

-- ---- two halted calls

-- a path call that is not refused
pub path_accepted : (room : ℕ) (n : Net) (g : Generator) (xs : List Float) (limit named : ℕ) (a : Onward) → path_naming room n g xs limit named ≡ given a
    → (instants_fit xs ≡ true) × (limit_fits limit ≡ true) × (play_on room n (begun n g xs limit) named ≡ given a)
path_accepted room n g xs limit named a p = listed (instants_fit xs) (limit_fits limit) refl refl p
  where
    listed : (c d : Bool) → instants_fit xs ≡ c → limit_fits limit ≡ d → pick c (pick d (play_on room n (begun n g xs limit) named) (refused 13)) (refused 12) ≡ given a
        → (instants_fit xs ≡ true) × (limit_fits limit ≡ true) × (play_on room n (begun n g xs limit) named ≡ given a)
    listed true true f h p = (f, h, p)
    listed true false f h p = refused_given p
    listed false d f h p = refused_given p

pub fit_rises : (xs : List Float) → instants_fit xs ≡ true → rising zero64 xs ≡ true
fit_rises xs f = (both (leb 1 (length xs) && leb (length xs) 1024) (rising zero64 xs) f).1

-- the run of a halted path call
abbrev halted_run : ℕ → Net → Generator → List Float → ℕ → Run
halted_run room n g xs named = run_within halted room n (last_of xs) named (beginning n g)

-- what it has recorded
module _ (room : ℕ) (n : Net) (g : Generator) (xs : List Float) (limit named : ℕ) (a : Onward) (rise : rising zero64 xs ≡ true)
    (w : Answered room n (begun n g xs limit) named a) (q : a.end ≡ halted) where
  ended_halted : w.ending.end ≡ halted
  ended_halted = ap (λ (b : Onward). b.end) (sym w.is) ∙ q

  the_run : run_onward room n (begun n g xs limit) named ≡ halted_run room n g xs named
  the_run = halted_run_lem room n (begun n g xs limit) named w.ending w.ended_so ended_halted

  pub halted_shows : a.shown ≡ map (shown_at n (trace (halted_run room n g xs named))) (met_by (trace (halted_run room n g xs named)) xs)
  halted_shows =
      ap (λ (b : Onward). b.shown) w.is
      ∙ shows_recorded w.ending.end (leaving n (begun n g xs limit) (run_onward room n (begun n g xs limit) named) w.ending.left) ended_halted
      ∙ begun_recorded n g xs limit (rises zero64 xs rise) (entries (run_onward room n (begun n g xs limit) named))
      ∙ ap (λ (r : Run). map (shown_at n (trace r)) (met_by (trace r) xs)) the_run

  -- at a recorded instant
  shown_there : (i : ℕ) → i < length a.shown
      → (i < length xs) × (reaches (instant xs i) (trace (halted_run room n g xs named)) ≡ true)
      × (get_or a.shown i [] ≡ shown_at n (trace (halted_run room n g xs named)) (instant xs i))
  shown_there i l =
      let es : List Entry = trace (halted_run room n g xs named) in
      let few : length a.shown ≡ reached_from es xs = ap length halted_shows ∙ length-map (met_by es xs) (shown_at n es) ∙ met_length es xs in
      let met : length (met_by es xs) ≡ reached_from es xs = met_length es xs in
      let all : reached_from es xs ≤ length xs = reached_few es xs in (
        omega arith,
        settled_reached es xs i (omega arith),
        ap (λ (ms : List Marking). get_or ms i []) halted_shows
            ∙ at_instant (shown_at n es) (met_by es xs) i (omega arith)
            ∙ ap (shown_at n es) (get_or-take (reached_from es xs) xs i zero64 (omega arith)),
      )

-- "the first for the instants that two halted calls recorded"
pub first_side : (room : ℕ) (n : Net) (g : Generator) (xs ys : List Float) (limit limit' h k : ℕ) (a b : Onward)
    → path_naming room n g xs limit h ≡ given a → path_naming room n g ys limit' k ≡ given b → a.end ≡ halted → b.end ≡ halted
    → (i j : ℕ) → i < length a.shown → j < length b.shown → eq (instant xs i) (instant ys j) ≡ true
    → get_or a.shown i [] ≡ get_or b.shown j []
first_side room n g xs ys limit limit' h k a b pa pb qa qb i j li lj e =
    A.2 ∙ ap (after n (initial_counts n)) (runs ∙ before_equal x y (λ t. eq_le x y t e) (trace (halted_run room n g ys k))) ∙ sym B.2
  where
    x : Float
    x = instant xs i

    y : Float
    y = instant ys j

    oka : (instants_fit xs ≡ true) × (limit_fits limit ≡ true) × (play_on room n (begun n g xs limit) h ≡ given a)
    oka = path_accepted room n g xs limit h a pa

    okb : (instants_fit ys ≡ true) × (limit_fits limit' ≡ true) × (play_on room n (begun n g ys limit') k ≡ given b)
    okb = path_accepted room n g ys limit' k b pb

    A : (i < length xs) × (reaches (instant xs i) (trace (halted_run room n g xs h)) ≡ true) × (get_or a.shown i [] ≡ shown_at n (trace (halted_run room n g xs h)) (instant xs i))
    A = shown_there room n g xs limit h a (fit_rises xs oka.0) (answered room n (begun n g xs limit) h a oka.2) qa i li

    B : (j < length ys) × (reaches (instant ys j) (trace (halted_run room n g ys k)) ≡ true) × (get_or b.shown j [] ≡ shown_at n (trace (halted_run room n g ys k)) (instant ys j))
    B = shown_there room n g ys limit' k b (fit_rises ys okb.0) (answered room n (begun n g ys limit') k b okb.2) qb j lj

    fx : (is_nan (instant xs i) ≡ false) × (le (instant xs i) (last_of xs) ≡ true)
    fx = instant_fits zero64 xs (fit_rises xs oka.0) i A.0

    fy : (is_nan (instant ys j) ≡ false) × (le (instant ys j) (last_of ys) ≡ true)
    fy = instant_fits zero64 ys (fit_rises ys okb.0) j B.0

    runs : before (instant xs i) (trace (halted_run room n g xs h)) ≡ before (instant xs i) (trace (halted_run room n g ys k))
    runs = go (le (instant xs i) zero64) refl A.1 (reaches_equal x y (λ t. eq_le x y t e) (trace (halted_run room n g ys k)) ∙ B.1)
      where
        go : (c : Bool) → le (instant xs i) zero64 ≡ c
            → c || reaches (instant xs i) (entries (halted_run room n g xs h)) ≡ true → c || reaches (instant xs i) (entries (halted_run room n g ys k)) ≡ true
            → pick c [] (reading zero64 ∷ before (instant xs i) (entries (halted_run room n g xs h))) ≡ pick c [] (reading zero64 ∷ before (instant xs i) (entries (halted_run room n g ys k)))
        go true q ra rb = refl
        go false q ra rb =
            ap (λ (es : List Entry). reading zero64 ∷ es)
            (both_reach halted room n (beginning n g) (instant xs i) (last_of xs) (last_of ys) fx.0 fx.1 (eq_le (instant xs i) (instant ys j) (last_of ys) e ∙ fy.1) q h k ra rb)

-- ---- what the answer of a call shows

pub halted_end : (e : End) → (e ≡ halted) ⊎ (e ≢ halted)
halted_end quiet = inr (λ p. quiet_halted p)
halted_end spent = inr (λ p. spent_halted p)
halted_end reached = inr (λ p. reached_halted p)
halted_end halted = inl refl

any_at : (f : Float → Bool) (xs : List Float) → any f xs ≡ false → (i : ℕ) → i < length xs → f (get_or xs i zero64) ≡ false
any_at f [] p i l = absurd (omega arith)
any_at f (x ∷ xs) p zero l = (neither (f x) (any f xs) p).0
any_at f (x ∷ xs) p (suc i) l = any_at f xs (neither (f x) (any f xs) p).1 i (omega arith)

-- what a state needs for its instants to be shown aright
pub record Listed (c : Carried) : Type 0 where
  pub rise : rising zero64 c.instants ≡ true
  pub fits : records_fit c ≡ true

pub unmet : (c : Carried) → Listed c → (i : ℕ) → length c.recorded ≤ i → i < length c.instants → le (instant c.instants i) c.now.clock ≡ false
unmet c w i r l =
    let k : ℕ = i - length c.recorded in
    let e : length c.recorded + k ≡ i = omega arith in
    let q : any (λ (x : Float). le x c.now.clock) (unrecorded c) ≡ false =
    not_true _ (both (leb (length c.recorded) (length c.instants)) (not (any (λ (x : Float). le x c.now.clock) (unrecorded c))) w.fits).1 in
    let h : le (get_or (unrecorded c) k zero64) c.now.clock ≡ false =
    any_at (λ (x : Float). le x c.now.clock) (unrecorded c) q k (omega (arith, length-drop (length c.recorded) c.instants)) in
    ap (λ (x : Float). le x c.now.clock) (ap (λ (j : ℕ). get_or c.instants j zero64) (sym e) ∙ sym (get_or-drop (length c.recorded) c.instants k zero64)) ∙ h

-- what is shown at a recorded instant, and at another: q of those that were unrecorded are shown
module _ (c : Carried) (f : Float → Marking) (ms : List Marking) (q : ℕ) (shows : ms ≡ c.recorded ++ map f (take q (unrecorded c))) where
  pub shown_recorded : (i : ℕ) → i < length c.recorded → get_or ms i [] ≡ get_or c.recorded i []
  shown_recorded i l = ap (λ (ms : List Marking). get_or ms i []) shows ∙ get_or-append c.recorded (map f (take q (unrecorded c))) [] i l

  pub shown_else : (i : ℕ) → length c.recorded ≤ i → i < length ms → get_or ms i [] ≡ f (instant c.instants i)
  shown_else i r l =
      let k : ℕ = i - length c.recorded in
      let e : i ≡ length c.recorded + k = omega arith in
      let all : length ms ≡ length c.recorded + length (take q (unrecorded c)) =
      ap length shows ∙ length-append c.recorded (map f (take q (unrecorded c))) ∙ ap (λ (j : ℕ). length c.recorded + j) (length-map (take q (unrecorded c)) f) in
      let few : length (take q (unrecorded c)) ≡ min q (length (unrecorded c)) = length-take q (unrecorded c) in
      ap (λ (ms : List Marking). get_or ms i []) shows
      ∙ ap (λ (j : ℕ). get_or (c.recorded ++ map f (take q (unrecorded c))) j []) e
      ∙ get_or-append-add c.recorded (map f (take q (unrecorded c))) k []
      ∙ at_instant f (take q (unrecorded c)) k (omega arith)
      ∙ ap f (get_or-take q (unrecorded c) k zero64 (omega arith) ∙ get_or-drop (length c.recorded) c.instants k zero64 ∙ ap (λ (j : ℕ). get_or c.instants j zero64) (sym e))

-- the answer of any call
pub answer_shows : (room : ℕ) (n : Net) (c : Carried) → Rises (unrecorded c) → (h : ℕ) (a : Onward) → Answered room n c h a
    → (q : ℕ) × (a.shown ≡ c.recorded ++ map (shown_from n c.now.counts (entries (run_onward room n c h))) (take q (unrecorded c)))
answer_shows room n c rise h a A = go (halted_end A.ending.end)
  where
    f : Float → Marking
    f = shown_from n c.now.counts (entries (run_onward room n c h))

    go : (A.ending.end ≡ halted) ⊎ (A.ending.end ≢ halted)
        → (q : ℕ) × (a.shown ≡ c.recorded ++ map (shown_from n c.now.counts (entries (run_onward room n c h))) (take q (unrecorded c)))
    go (inl e) = (
      reached_from (entries (run_onward room n c h)) (unrecorded c),
      ap (λ (b : Onward). b.shown) A.is ∙ shows_recorded A.ending.end (leaving n c (run_onward room n c h) A.ending.left) e,
    )
    go (inr e) = (
      length (unrecorded c),
      ap (λ (b : Onward). b.shown) A.is
          ∙ shows_all room n c h A.ending rise A.ended_so e
          ∙ ap (λ (zs : List Float). c.recorded ++ map f zs) (sym (take-length (unrecorded c))),
    )

-- the run to the end, whatever number was named
abbrev whole_run : ℕ → Net → Carried → Run
whole_run room n c = run_within spent room n (last_of c.instants) (c.limit - c.steps) c.now

pub unhalted_shows : (room : ℕ) (n : Net) (c : Carried) → Listed c → (h : ℕ) (a : Onward) → play_on room n c h ≡ given a → a.end ≢ halted
    → a.shown ≡ c.recorded ++ map (shown_from n c.now.counts (entries (whole_run room n c))) (take (length (unrecorded c)) (unrecorded c))
unhalted_shows room n c w h a p q =
    let A : Answered room n c h a = answered room n c h a p in
    let z : A.ending.end ≢ halted = λ e. q (ap (λ (b : Onward). b.end) A.is ∙ e) in
    ap (λ (b : Onward). b.shown) A.is
    ∙ shows_all room n c h A.ending (rises_drop (length c.recorded) c.instants (rises zero64 c.instants w.rise)) A.ended_so z
    ∙ ap₂ (λ (r : Run) (zs : List Float). c.recorded ++ map (shown_from n c.now.counts (entries r)) zs) (unhalted_run room n c h A.ending A.ended_so z)
    (sym (take-length (unrecorded c)))

all_shown : (c : Carried) → Listed c → (f : Float → Marking) (ms : List Marking) → ms ≡ c.recorded ++ map f (take (length (unrecorded c)) (unrecorded c))
    → (i : ℕ) → i < length c.instants → i < length ms
all_shown c w f ms shows i l =
    let ys : List Float = unrecorded c in
    let all : length ms ≡ length c.recorded + length (take (length ys) ys) =
    ap length shows ∙ length-append c.recorded (map f (take (length ys) ys)) ∙ ap (λ (j : ℕ). length c.recorded + j) (length-map (take (length ys) ys) f) in
    omega (arith, ap length (take-length ys), length-drop (length c.recorded) c.instants)

module _ (room : ℕ) (n : Net) (c d : Carried) (lc : Listed c) (ld : Listed d) (now : c.now ≡ d.now) (left : c.limit - c.steps ≡ d.limit - d.steps) where
  pub second_side : (h k : ℕ) (a b : Onward) → play_on room n c h ≡ given a → play_on room n d k ≡ given b → a.end ≢ halted → b.end ≢ halted
      → (i j : ℕ) → i < length c.instants → j < length d.instants → eq (instant c.instants i) (instant d.instants j) ≡ true
      → Matched c d i j → get_or a.shown i [] ≡ get_or b.shown j []
  second_side h k a b pa pb qa qb i j li lj e (in_both ri rj m) =
      shown_recorded c _ a.shown (length (unrecorded c)) (unhalted_shows room n c lc h a pa qa) i ri
      ∙ m
      ∙ sym (shown_recorded d _ b.shown (length (unrecorded d)) (unhalted_shows room n d ld k b pb qb) j rj)
  second_side h k a b pa pb qa qb i j li lj e (in_none ri rj) =
      shown_else c _ a.shown (length (unrecorded c)) (unhalted_shows room n c lc h a pa qa) i ri (all_shown c lc _ a.shown (unhalted_shows room n c lc h a pa qa) i li)
      ∙ ap (after n c.now.counts) (runs ∙ before_equal x y (λ t. eq_le x y t e) (entries (other (c.limit - c.steps) c.now)))
      ∙ ap₂ (λ (l : ℕ) (s : State). after n s.counts (before y (entries (other l s)))) left now
      ∙ sym (shown_else d _ b.shown (length (unrecorded d)) (unhalted_shows room n d ld k b pb qb) j rj (all_shown d ld _ b.shown (unhalted_shows room n d ld k b pb qb) j lj))
    where
      x : Float
      x = instant c.instants i

      y : Float
      y = instant d.instants j

      -- the run over the other list
      other : ℕ → State → Run
      other l s = run_within spent room n (last_of d.instants) l s

      fx : (is_nan (instant c.instants i) ≡ false) × (le (instant c.instants i) (last_of c.instants) ≡ true)
      fx = instant_fits zero64 c.instants lc.rise i li

      fy : (is_nan (instant d.instants j) ≡ false) × (le (instant d.instants j) (last_of d.instants) ≡ true)
      fy = instant_fits zero64 d.instants ld.rise j lj

      runs : before (instant c.instants i) (entries (whole_run room n c))
          ≡ before (instant c.instants i) (entries (run_within spent room n (last_of d.instants) (c.limit - c.steps) c.now))
      runs =
          (same spent room n (instant c.instants i) (last_of c.instants) (last_of d.instants) fx.0 fx.1
          (eq_le (instant c.instants i) (instant d.instants j) (last_of d.instants) e ∙ fy.1) (c.limit - c.steps) c.now (unmet c lc i ri li)).0
