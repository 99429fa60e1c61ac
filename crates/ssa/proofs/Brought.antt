-- What a carried path that passes its tests brings to a run: each test that is not met bounds a part of the state, and no running timer is unlisted, so the
-- table of new numbers sends each to a delayed transition. Renamed, the timers keep their times and weights, so the tokens are as before.
use Prim.Native.Nat.{ℕ, zero, suc, ◌+◌, ◌*◌, ◌^◌, ◌≤◌, ◌<◌, min}
use Prim.{tt}
use mathlib.Core.Path.{◌≡◌, refl, sym, ap, ap₂, subst, ◌∙◌}
use mathlib.Core.Bool.{Bool, true, false, ◌&&◌, ◌||◌, not}
use mathlib.Core.List.{List, [], ◌∷◌, map}
use mathlib.Core.Option.{none}
use native.Mathlib.Omega.{arith}
use native.Mathlib.Numerals.{add-one}
use lib.Bits.{bit_or}
use lib.Dec.{eqb, leb, ltb}
use lib.ListN.{length, get_or, drop}
use lib.Seq.{get_or-take}
use lib.Ieee.{Float}
use borrow.Author.Tests.{leb-true, ltb-false, not-false}
use Rattle.words.specs.Bits.{bit}
use Rattle.words.proofs.Bits.{bit_or_lem, bit_one, bit_none}
use Rattle.net.specs.declared.Net.{Net as NetRecord}
use Rattle.net.specs.Net.{Marking, pick, zero64, timed}
use Rattle.net.specs.Readable.{readable, fault, transition}
use Rattle.net.specs.Tests.{first_of, any}
use Rattle.net.proofs.Sound.{sound}
use Rattle.rng.specs.State.{words}
use Rattle.rules.specs.Timers.{Timer}
use Rattle.rules.specs.Moments.{sum_of, taken_by_timers}
use Rattle.rules.specs.Step.{state, counts_fit}
use Rattle.rules.specs.Shown.{instants_fit}
use Rattle.rules.specs.Carried.{Carried}
use Rattle.rules.specs.Change.{Pair, time_fits, falls, records_fit, carried_tests, renaming_tests, renamed_timer}
use Rattle.rules.proofs.Order.{both, neither}
use Rattle.rules.proofs.Accepted.{fit_held}
use Rattle.rules.proofs.TakesOnce.{none_applies}
use Rattle.rules.proofs.Recording.{rises_drop}
use Rattle.rules.proofs.Play.{Rises, rises}
use Rattle.engine.specs.Engine.{Counts, marking, counts_from}
use Rattle.engine.specs.Traits.{Marks}
use Rattle.engine.proofs.Lists.{first_all}
use Rattle.index.proofs.Marking.{Marked, marked_none, marked_more, marked_all, net_marks}
use Rattle.timers.specs.declared.Ring.{Ring}
use Rattle.timers.specs.Turning.{from, timers_of, Sound}
use Rattle.timers.specs.Queues.{queue_of}
use Rattle.timers.proofs.Places.{length_from}
use Rattle.carried.specs.Timers.{slot, timers_in}
use Rattle.carried.specs.Records.{record_strange}
use Rattle.carried.specs.Pairs.{Names, goes_to}
use Rattle.carried.proofs.Waiting.{untimely}
use Rattle.carried.proofs.Named.{all_below, renamed_in}
use Rattle.ssa.specs.declared.Halted.{Halted}
use Rattle.ssa.specs.Path.{table_fits}
use Rattle.ssa.specs.Halted.{standing_of, carried_from, Passes}
use Rattle.playing.specs.Stepping.{Light, Resumes}
use Rattle.ssa.proofs.Accepted.{Fitting, fitting}
use Rattle.ssa.proofs.Changed.{records_by_number, sent_by_word}

-- ---- a state that passes its tests

abbrev pub timers_at : Halted → List Timer
timers_at h = timers_in h.timers.ats h.timers.whos h.timers.takens h.timers.len

abbrev heavy : Timer → Bool
heavy x = ltb 16_000_000 x.taken

pub record Carries (places : ℕ) (h : Halted) (xs table : List Float) : Type 0 where
  pub counts : counts_fit (marking places h.counts) ≡ true
  pub steps : h.steps ≤ h.limit
  pub rounded : h.rounded ≤ h.steps
  pub limit : h.limit ≤ 1_000_000
  pub clock : time_fits h.clock ≡ true
  pub times : any untimely (timers_at h) ≡ false
  pub weights : any heavy (timers_at h) ≡ false
  pub few : h.timers.len ≤ 256
  pub instants : Fitting xs
  pub recorded : h.recorded ≤ length xs
  pub room : places * length xs ≤ length table

module _ (places : ℕ) (h : Halted) (xs table : List Float) where
  abbrev path : Carried
  path = carried_from places (standing_of places h) xs table

  abbrev short : Bool
  short = not (table_fits places (length xs) table)

  abbrev strange : Bool
  strange = record_strange places (length xs) h.recorded table

  pub carries : first_of (carried_tests 256 short strange path) ≡ none → Carries places h xs table
  carries e =
      let test = none_applies (carried_tests 256 short strange path) e in
      let many = neither _ (ltb 256 (length (timers_at h))) (test 0) in
      let weighs = neither _ (any heavy (timers_at h)) many.0 in
      let falling = neither _ (falls h.clock (timers_at h)) weighs.0 in
      let late = neither _ (any untimely (timers_at h)) falling.0 in
      let timed = neither _ (not (time_fits h.clock)) late.0 in
      let round = neither _ (ltb h.steps h.rounded) timed.0 in
      let count = neither (not (counts_fit (marking places h.counts))) (ltb h.limit h.steps) round.0 in
      let i = neither (not (instants_fit xs)) (not (records_fit path)) (test 1) in
      let r = both (leb h.recorded (length xs)) _ (sym (records_by_number places (standing_of places h) xs table) ∙ not-false _ i.1) in
      let n = length_from (slot h.timers.ats h.timers.whos h.timers.takens) 0 h.timers.len in
      record {
        counts = not-false _ count.0;
        steps = ltb-false h.limit h.steps count.1;
        rounded = ltb-false h.steps h.rounded round.1;
        limit = leb-true h.limit 1_000_000 (both (leb 1 h.limit) (leb h.limit 1_000_000) (not-false _ (test 2))).1;
        clock = not-false _ timed.1;
        times = late.1;
        weights = weighs.1;
        few = omega (arith, ltb-false 256 (length (timers_at h)) many.1, n);
        instants = fitting xs (not-false _ i.0);
        recorded = leb-true h.recorded (length xs) r.0;
        room = leb-true (places * length xs) (length table) (not-false _ (test 3));
      }

-- ---- light timers

light_each : (q : List Timer) → any heavy q ≡ false → Light q
light_each [] e = tt
light_each (x ∷ q) e = let w = neither (heavy x) (any heavy q) e in (ltb-false 16_000_000 x.taken w.0, light_each q w.1)

-- the weights decide it
light_same : (ats ats' : List Float) (whos whos' takens : List ℕ) (p n : ℕ) → Light (from (slot ats whos takens) p n)
    → Light (from (slot ats' whos' takens) p n)
light_same ats ats' whos whos' takens p zero l = tt
light_same ats ats' whos whos' takens p (suc n) l = (l.0, light_same ats ats' whos whos' takens (suc p) n l.1)

-- ---- timers by their new numbers

module _ (ps : List Pair) where
  light_renamed : (q : List Timer) → Light q → Light (map (renamed_timer ps) q)
  light_renamed [] l = tt
  light_renamed (x ∷ q) l = (l.0, light_renamed q l.1)

  timely_renamed : (q : List Timer) → any untimely (map (renamed_timer ps) q) ≡ any untimely q
  timely_renamed [] = refl
  timely_renamed (x ∷ q) = ap (λ (b : Bool). untimely x || b) (timely_renamed q)

  taken_renamed : (q : List Timer) → taken_by_timers (map (renamed_timer ps) q) ≡ taken_by_timers q
  taken_renamed [] = refl
  taken_renamed (x ∷ q) = ap (λ (k : ℕ). x.taken + k) (taken_renamed q)

-- ---- what it brings

-- the counts of the places, where there are that many
pub counts_same : (places : ℕ) (xs ys : List ℕ) → places ≤ length xs → marking places ys ≡ counts_from xs 0 places → marking places ys ≡ marking places xs
counts_same places xs ys h e = e ∙ sym (first_all places xs xs h (λ i l. refl))

module _ {places : ℕ} {h : Halted} {xs table : List Float} (b : Carries places h xs table) where
  pub small : (q : ℕ) → q < places → get_or h.counts q 0 ≤ 2 ^ 53
  small q l = subst (λ (k : ℕ). k ≤ 2 ^ 53) (get_or-take places h.counts q 0 l) (fit_held (marking places h.counts) b.counts q)

  pub light : (ats : List Float) (whos : List ℕ) → Light (timers_in ats whos h.timers.takens h.timers.len)
  light ats whos =
      light_same h.timers.ats ats h.timers.whos whos h.timers.takens 0 h.timers.len (light_each (timers_at h) b.weights)

  pub rest_rises : Rises (drop h.recorded xs)
  rest_rises = rises_drop h.recorded xs (rises zero64 xs b.instants.risen)

  -- with its counts in an array, and its timers in a ring by their new numbers
  module _ (ps : List Pair) (counts : List ℕ) (ats : List Float) (owners : List ℕ) (ring : Ring)
      (same : timers_of ats owners ring ≡ map (renamed_timer ps) (timers_at h)) where
    pub resumes : Counts counts → Sound ats owners ring → Resumes counts ats owners ring h.clock
    resumes fits sorted =
        record {
          small = fits;
          light = subst Light (sym same) (light_renamed ps (timers_at h) (light_each (timers_at h) b.weights));
          sound = sorted;
          clock_fits = b.clock;
          times_fit = ap (any untimely) same ∙ timely_renamed ps (timers_at h) ∙ b.times;
        }

    pub tokens_same : (sum taken : ℕ) → sum ≡ sum_of (marking places counts) → taken ≡ taken_by_timers (timers_at h)
        → sum + taken ≡ sum_of (marking places counts) + taken_by_timers (timers_of ats owners ring)
    tokens_same sum taken e f = ap₂ ◌+◌ e (f ∙ sym (taken_renamed ps (timers_at h)) ∙ ap taken_by_timers (sym same))

    pub now_same : marking places counts ≡ marking places h.counts → (ws : List ℕ)
        → state h.clock (marking places counts) (timers_of ats owners ring) (words ws)
        ≡ state h.clock (marking places h.counts) (map (renamed_timer ps) (timers_at h)) (words ws)
    now_same e ws = ap₂ (λ (m : Marking) (q : List Timer). state h.clock m q (words ws)) e same

-- ---- the delayed transitions of a net are those of a word

one_where : (on : Bool) (j i : ℕ) → bit (pick on (2 ^ j) 0) i ≡ (on && eqb i j)
one_where true j i = bit_one j i
one_where false j i = bit_none i

word_of : (f : ℕ → Bool) (k j : ℕ) → j ≤ k → (word : ℕ) × Marked f k word j
word_of f k zero h = (0, marked_none f k)
word_of f k (suc j) h =
    let w = word_of f k j (omega arith) in
    let one : ℕ = pick (f j) (2 ^ j) 0 in
    let says : (i : ℕ) → bit (bit_or w.0 one) i ≡ (bit w.0 i || (f j && eqb i j)) =
    λ i. bit_or_lem w.0 one i ∙ ap (λ (b : Bool). bit w.0 i || b) (one_where (f j) j i) in
    (bit_or w.0 one, subst (Marked f k (bit_or w.0 one)) (add-one j) (marked_more f k w.0 (bit_or w.0 one) j (f j) w.1 h refl says))

delayed : (n : NetRecord) → (word : ℕ) × Marks n timed word
delayed n =
    let f : ℕ → Bool = λ (j : ℕ). timed (transition n j) in
    let w = word_of f n.transitions n.transitions (omega arith) in
    (w.0, net_marks n timed w.0 (marked_all f n.transitions w.0 n.transitions w.1 (omega arith)))

-- ---- a path that passes the tests of the list too, over a net that is accepted

module _ (n : NetRecord) (accepted : fault n ≡ none) (places : ℕ) (ps : List Pair) (h : Halted) (xs table : List Float)
    (p : Passes places (readable n) ps h xs table) where
  pub brought : Carries places h xs table
  brought = carries places h xs table p.0

  test : (i : ℕ) → (get_or (renaming_tests p.1.0 (readable n) (path places h xs table) ps) i (0, false)).1 ≡ false
  test = none_applies (renaming_tests p.1.0 (readable n) (path places h xs table) ps) p.1.3

  module _ (names : List ℕ) (w : Names ps names) where
    right : any (λ (x : Timer). not (goes_to names (delayed n).0 x.who)) (timers_at h) ≡ false
    right =
        sym (sent_by_word n (sound n accepted).transitions (delayed n).0 (delayed n).1 p.1.0 p.1.2 ps (test 1) names w (timers_at h)) ∙ test 2

    pub below : (i : ℕ) → i < h.timers.len → get_or h.timers.whos i 0 < 64
    below = all_below names (delayed n).0 h.timers.ats h.timers.whos h.timers.takens h.timers.len right brought.few

    -- as a queue, each by its new number
    pub renamed_queue : (numbers : List ℕ) → ((i : ℕ) → i < h.timers.len → get_or numbers i 0 ≡ get_or names (get_or h.timers.whos i 0) 0)
        → queue_of (record { ats = h.timers.ats; whos = numbers; takens = h.timers.takens; len = h.timers.len }) ≡ map (renamed_timer ps) (timers_at h)
    renamed_queue numbers e =
        let all : min h.timers.len 256 ≡ h.timers.len = omega (arith, brought.few) in
        ap (timers_in h.timers.ats numbers h.timers.takens) all
        ∙ renamed_in names (delayed n).0 h.timers.ats h.timers.whos h.timers.takens h.timers.len right brought.few ps w numbers e
