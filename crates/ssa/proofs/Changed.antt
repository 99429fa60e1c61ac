-- The tests of a path that is carried to another net, in order: the first that is met is given, and one that is not met leaves the others to decide. And what
-- its timers took, added up along their list.
use Prim.Native.Nat.{ℕ, ◌+◌, ◌-◌, ◌*◌, ◌≤◌, ◌<◌}
use mathlib.Core.Path.{◌≡◌, refl, sym, ap, ap₂, subst, ◌∙◌}
use mathlib.Core.Bool.{Bool, true, false, ◌&&◌, ◌||◌, not}
use mathlib.Core.List.{List, [], ◌∷◌}
use mathlib.Core.Option.{Option, none, some}
use native.Mathlib.Omega.{arith}
use lib.Dec.{leb, ltb}
use lib.ListN.{length, get_or, drop}
use lib.Ieee.{Float, le}
use borrow.Author.Tests.{eq-eqb, ne_eqb}
use Rattle.refusals.specs as Refusal
use Rattle.net.specs.declared.Net.{Net as NetRecord}
use Rattle.net.specs.Net.{Net, timed}
use Rattle.net.specs.Readable.{readable}
use Rattle.net.specs.Tests.{Test, first_of, any}
use Rattle.net.proofs.Lengths.{transitions_length}
use Rattle.rules.specs.Timers.{Timer}
use Rattle.rules.specs.Moves.{transition}
use Rattle.rules.specs.Moments.{taken_by_timers}
use Rattle.rules.specs.Shown.{instants_fit, limit_fits}
use Rattle.rules.specs.Carried.{Carried}
use Rattle.rules.specs.Change.{Pair, state_strange, records_fit, carried_tests, new_number, list_strange, sent_wrong, renaming_tests}
use Rattle.engine.specs.Traits.{Marks}
use Rattle.timers.specs.Turning.{from}
use Rattle.carried.specs.Timers.{slot, timers_in}
use Rattle.carried.specs.Pairs.{Names, goes_to}
use Rattle.carried.proofs.Waiting.{from_next, from_none}
use Rattle.carried.proofs.Recorded.{recorded_long}
use Rattle.carried.proofs.Named.{all_sent_right}
use Rattle.ssa.specs.Halted.{Standing, carried_from}
use Rattle.playing.specs.Stepping.{Light}

-- ---- the weights that timers took, added up from the first on

module _ (takens : List ℕ) (n : ℕ) where
  -- so much was added before timer i: with what is left it is the whole, and what is left is light
  pub record Adding (total i : ℕ) : Type 0 where
    pub within : i ≤ n
    pub few : total ≤ 16_000_000 * i
    pub whole : (ats : List Float) (whos : List ℕ)
        → total + taken_by_timers (from (slot ats whos takens) i (n - i)) ≡ taken_by_timers (timers_in ats whos takens n)
    pub light : (ats : List Float) (whos : List ℕ) → Light (from (slot ats whos takens) i (n - i))

  pub adding_none : ((ats : List Float) (whos : List ℕ) → Light (timers_in ats whos takens n)) → Adding 0 0
  adding_none h =
      let all : n - 0 ≡ n = omega arith in
      record {
        within = omega arith;
        few = omega arith;
        whole = λ ats whos. rw all (omega arith);
        light = λ ats whos. rw all (h ats whos);
      }

  module _ (total i : ℕ) (a : Adding total i) where
    pub adding_all : n ≤ i → (ats : List Float) (whos : List ℕ) → total ≡ taken_by_timers (timers_in ats whos takens n)
    adding_all h ats whos = omega (arith, a.whole ats whos, ap taken_by_timers (from_none (slot ats whos takens) i n h))

    module _ (few : n ≤ 256) (h : i < n) where
      first_light : (ats : List Float) (whos : List ℕ) → (get_or takens i 0 ≤ 16_000_000) × Light (from (slot ats whos takens) (i + 1) (n - (i + 1)))
      first_light ats whos = subst Light (from_next (slot ats whos takens) i n few h) (a.light ats whos)

      pub adding_few : get_or takens i 0 ≤ 16_000_000
      adding_few = (first_light [] []).0

      pub adding_more : Adding (total + get_or takens i 0) (i + 1)
      adding_more = record {
        within = omega arith;
        few = omega (arith, a.few, adding_few);
        whole = λ ats whos. omega (arith, a.whole ats whos, ap taken_by_timers (from_next (slot ats whos takens) i n few h));
        light = λ ats whos. (first_light ats whos).1;
      }

-- ---- tests in order

met : (k : ℕ) (b : Bool) (ts : List Test) → b ≡ true → some k ≡ first_of ((k, b) ∷ ts)
met k b ts e = sym (ap (λ (x : Bool). first_of ((k, x) ∷ ts)) e)

unmet : {o : Option ℕ} (k : ℕ) (b : Bool) (ts : List Test) → b ≡ false → o ≡ first_of ts → o ≡ first_of ((k, b) ∷ ts)
unmet k b ts e h = h ∙ sym (ap (λ (x : Bool). first_of ((k, x) ∷ ts)) e)

-- those of a carried state, of its instants, its limit and the table
module _ (short strange : Bool) (c : Carried) where
  abbrev on_cells : List Test
  on_cells = (Refusal.outside_domain, strange) ∷ []

  abbrev on_table : List Test
  on_table = (Refusal.short_table, short) ∷ on_cells

  abbrev on_limit : List Test
  on_limit = (Refusal.bad_limit, not (limit_fits c.limit)) ∷ on_table

  abbrev on_instants : List Test
  on_instants = (Refusal.bad_instants, not (instants_fit c.instants) || not (records_fit c)) ∷ on_limit

  abbrev all : Option ℕ
  all = first_of (carried_tests 256 short strange c)

  pub by_state : state_strange 256 c ≡ true → some Refusal.outside_domain ≡ all
  by_state e = met Refusal.outside_domain (state_strange 256 c) on_instants e

  module _ (a : state_strange 256 c ≡ false) where
    past_state : {o : Option ℕ} → o ≡ first_of on_instants → o ≡ all
    past_state h = unmet Refusal.outside_domain (state_strange 256 c) on_instants a h

    pub by_instants : instants_fit c.instants ≡ false → some Refusal.bad_instants ≡ all
    by_instants e = past_state (met Refusal.bad_instants _ on_limit (ap (λ (b : Bool). not b || not (records_fit c)) e))

    module _ (i : instants_fit c.instants ≡ true) where
      pub by_records : records_fit c ≡ false → some Refusal.bad_instants ≡ all
      by_records e = past_state (met Refusal.bad_instants _ on_limit (ap₂ (λ (x y : Bool). not x || not y) i e))

      module _ (r : records_fit c ≡ true) where
        past_instants : {o : Option ℕ} → o ≡ first_of on_limit → o ≡ all
        past_instants h = past_state (unmet Refusal.bad_instants _ on_limit (ap₂ (λ (x y : Bool). not x || not y) i r) h)

        pub by_limit : limit_fits c.limit ≡ false → some Refusal.bad_limit ≡ all
        by_limit e = past_instants (met Refusal.bad_limit _ on_table (ap not e))

        module _ (l : limit_fits c.limit ≡ true) where
          past_limit : {o : Option ℕ} → o ≡ first_of on_table → o ≡ all
          past_limit h = past_instants (unmet Refusal.bad_limit _ on_table (ap not l) h)

          pub by_table : short ≡ true → some Refusal.short_table ≡ all
          by_table e = past_limit (met Refusal.short_table short on_cells e)

          pub by_cells : short ≡ false → strange ≡ true → some Refusal.outside_domain ≡ all
          by_cells t e = past_limit (unmet Refusal.short_table short on_cells t (met Refusal.outside_domain strange [] e))

          pub by_none : short ≡ false → strange ≡ false → none ≡ all
          by_none t e = past_limit (unmet Refusal.short_table short on_cells t (unmet Refusal.outside_domain strange [] e refl))

-- those of a renaming list
module _ (old new : Net) (c : Carried) (ps : List Pair) where
  abbrev wrong : Bool
  wrong = any (λ (x : Timer). sent_wrong new (new_number ps x.who)) c.now.timers

  abbrev on_timers : List Test
  on_timers = (Refusal.bad_timer, wrong) ∷ []

  abbrev on_list : List Test
  on_list = (Refusal.bad_renaming, list_strange old new ps) ∷ on_timers

  pub by_places : (length old.places ≡ length new.places → ⊥) → some Refusal.unequal_places ≡ first_of (renaming_tests old new c ps)
  by_places h = met Refusal.unequal_places _ on_list (ap not (ne_eqb (length old.places) (length new.places) h))

  module _ (e : length old.places ≡ length new.places) where
    past_places : {o : Option ℕ} → o ≡ first_of on_list → o ≡ first_of (renaming_tests old new c ps)
    past_places h = unmet Refusal.unequal_places _ on_list (ap not (eq-eqb (length old.places) (length new.places) e)) h

    pub by_list : list_strange old new ps ≡ true → some Refusal.bad_renaming ≡ first_of (renaming_tests old new c ps)
    by_list l = past_places (met Refusal.bad_renaming (list_strange old new ps) on_timers l)

    module _ (l : list_strange old new ps ≡ false) where
      past_list : {o : Option ℕ} → o ≡ first_of on_timers → o ≡ first_of (renaming_tests old new c ps)
      past_list h = past_places (unmet Refusal.bad_renaming (list_strange old new ps) on_timers l h)

      pub by_timers : wrong ≡ true → some Refusal.bad_timer ≡ first_of (renaming_tests old new c ps)
      by_timers e = past_list (met Refusal.bad_timer wrong [] e)

      pub by_no_timer : wrong ≡ false → none ≡ first_of (renaming_tests old new c ps)
      by_no_timer e = past_list (unmet Refusal.bad_timer wrong [] e refl)

-- ---- 12 by the number of records

module _ (places : ℕ) (s : Standing) (xs table : List Float) where
  pub records_by_number : records_fit (carried_from places s xs table)
      ≡ (leb s.recorded (length xs) && not (any (λ (x : Float). le x s.now.clock) (drop s.recorded xs)))
  records_by_number =
      ap (λ (k : ℕ). leb k (length xs) && not (any (λ (x : Float). le x s.now.clock) (drop k xs))) (recorded_long places (length xs) table s.recorded)

-- ---- 22 by the word of the delayed transitions

module _ (n : NetRecord) (few : n.transitions ≤ 64) (word : ℕ) (marks : Marks n timed word) (old : Net) (few-old : length old.transitions ≤ 64)
    (ps : List Pair) (good : list_strange old (readable n) ps ≡ false) (names : List ℕ) (w : Names ps names) where
  pub sent_by_word : (q : List Timer)
      → any (λ (x : Timer). sent_wrong (readable n) (new_number ps x.who)) q ≡ any (λ (x : Timer). not (goes_to names word x.who)) q
  sent_by_word =
      all_sent_right old (readable n) ps names word good few-old (omega (arith, transitions_length n)) w
      (λ j. marks j ∙ ap (λ (k : ℕ). ltb j k && timed (transition (readable n) j)) (sym (transitions_length n)))
