-- What is kept, brought up to date. A transition is tested, or it is delayed and shut, or it was not crossed; by these three, whether it is enabled, its
-- propensity and its mark are those of a full working. Assumes nothing.
use Prim.Native.Nat.{ℕ, ◌^◌, ◌≤◌, ◌<◌}
use mathlib.Core.Path.{◌≡◌, refl, sym, ap, ◌∙◌}
use mathlib.Core.Bool.{Bool, true, false, ◌&&◌, ◌||◌, not, true≢false, and-true}
use mathlib.Core.List.{List, [], ◌∷◌}
use mathlib.Core.Logic.{◌⊎◌, inl, inr, ⊎_elim}
use native.Mathlib.Omega.{arith}
use lib.Bits.{bit_and, bit_or}
use lib.Dec.{ltb}
use lib.ListN.{length, get_or}
use lib.Ieee.{Float, nan, lt, of_bits}
use borrow.Author.Tests.{lt-ltb, ltb-false}
use Rattle.words.specs.Bits.{bit}
use Rattle.words.proofs.Bits.{bit_none, bit_or_lem, bit_and_lem}
use Rattle.net.specs.declared.Net.{Net as NetRecord}
use Rattle.net.specs.Net.{Take, Net, Marking, pick, zero64, amount, held, rate_of, timed}
use Rattle.net.specs.Tests.{any}
use Rattle.net.specs.Readable.{readable}
use Rattle.net.proofs.Lengths.{transitions_length}
use Rattle.net.proofs.Slots.{not_first, not_second}
use Rattle.rules.specs.Enabled.{enabled}
use Rattle.rules.specs.Propensity.{factored, propensity}
use Rattle.rules.specs.Exact.{exact_ways, inexact, some_inexact, rounded}
use Rattle.rules.specs.Moves.{transition}
use Rattle.rules.specs.Index.{Reworked}
use Rattle.rules.proofs.Accepted.{fit_held}
use Rattle.engine.specs.Engine.{Tidy, Counts, marking}
use Rattle.engine.specs.Traits.{heavy, takes_several, Marks}
use Rattle.engine.proofs.Arcs.{on_bool, amount_above}
use Rattle.engine.proofs.Factors.{pick_true, pick_false}
use Rattle.engine.proofs.Marks.{fit_all}
use Rattle.engine.proofs.OneWay.{one_exact}
use Rattle.kept.specs.Kept.{Kept, Marked, AllShut}
use Rattle.kept.proofs.Bitwise.{both_first}

-- ---- tests

never : {P : Type 0} {b : Bool} → b ≡ true → b ≡ false → P
never e f = absurd (true≢false (sym e ∙ f))

pub or_either : (a b : Bool) → (a || b) ≡ true → (a ≡ true) ⊎ (b ≡ true)
or_either true b e = inl refl
or_either false b e = inr e

or_left : (a b : Bool) → a ≡ true → (a || b) ≡ true
or_left a b e = ap (λ (x : Bool). x || b) e

or_right : (a b : Bool) → b ≡ true → (a || b) ≡ true
or_right true b e = refl
or_right false b e = e

or_none : (a b : Bool) → a ≡ false → b ≡ false → (a || b) ≡ false
or_none a b e f = ap (λ (x : Bool). x || b) e ∙ f

and_right : (a b : Bool) → (a && b) ≡ true → b ≡ true
and_right true b e = e
and_right false b e = absurd (true≢false (sym e))

and_both : (a b : Bool) → a ≡ true → b ≡ true → (a && b) ≡ true
and_both a b e f = ap (λ (x : Bool). x && b) e ∙ f

and_none : (a b : Bool) → b ≡ false → (a && b) ≡ false
and_none true b e = e
and_none false b e = refl

-- ---- a transition that takes no several tokens kinetically is never rounded, and none that is not enabled

exact_one : (c w : ℕ) → c ≤ 2 ^ 53 → ltb 1 (amount w) ≡ false → not (exact_ways c (amount w)) ≡ false
exact_one c w h e =
    let one : amount w ≡ 1 = omega (arith, ltb-false 1 (amount w) e, amount_above w) in
    ap (λ (x : ℕ). not (exact_ways c x)) one ∙ ap not (one_exact c h)

module _ (m : Marking) (small : (p : ℕ) → held m p ≤ 2 ^ 53) where
  light_take : (k : Take) → heavy k ≡ false → inexact m k ≡ false
  light_take k e = go k.kinetic e
    where
      go : (b : Bool) → (b && ltb 1 (amount k.weight)) ≡ false → (b && not (exact_ways (held m k.place) (amount k.weight))) ≡ false
      go true h = exact_one (held m k.place) k.weight (small k.place) h
      go false h = refl

  pub light_takes : (ks : List Take) → any heavy ks ≡ false → some_inexact m ks ≡ false
  light_takes [] e = refl
  light_takes (k ∷ ks) e =
      ap (λ (b : Bool). b || some_inexact m ks) (light_take k (not_first (heavy k) (any heavy ks) e)) ∙ light_takes ks (not_second (heavy k) (any heavy ks) e)

zero_not_above : lt zero64 zero64 ≡ false
unfolding lt of_bits
zero_not_above = refl

module _ (n : Net) (m : Marking) (j : ℕ) where
  pub shut_propensity : enabled n m (transition n j) ≡ false → propensity n m (transition n j) ≡ zero64
  shut_propensity e = pick_false (enabled n m (transition n j)) _ zero64 e

  pub open_propensity : enabled n m (transition n j) ≡ true → propensity n m (transition n j) ≡ factored m (rate_of (transition n j)) (transition n j).takes
  open_propensity e = pick_true (enabled n m (transition n j)) _ zero64 e

  pub shut_rounded : enabled n m (transition n j) ≡ false → rounded n m (transition n j) ≡ false
  shut_rounded e =
      ap (λ (x : Float). lt zero64 x && some_inexact m (transition n j).takes) (shut_propensity e)
      ∙ ap (λ (b : Bool). b && some_inexact m (transition n j).takes) zero_not_above

  pub light_rounded : some_inexact m (transition n j).takes ≡ false → rounded n m (transition n j) ≡ false
  light_rounded e = and_none (lt zero64 (propensity n m (transition n j))) _ e

-- a propensity that is kept whole
pub kept_at : (n : Net) (m : Marking) (able : ℕ) (props : List Float) → Kept n m 0 0 able props
    → (j : ℕ) → j < length n.transitions → get_or props j nan ≡ propensity n m (transition n j)
kept_at n m able props k j h =
    on_bool (bit able j)
    (λ e. k.runs j h (bit_none j) (bit_none j) e ∙ sym (open_propensity n m j (sym (k.gates j h (bit_none j)) ∙ e)))
    (λ e. k.shut j h (bit_none j) e ∙ sym (shut_propensity n m j (sym (k.gates j h (bit_none j)) ∙ e)))

-- ---- what is tested, and what is worked out again

module _ (n : Net) (m : Marking) (few : length n.transitions ≤ 64) (moved crossed able delayed : ℕ) (props : List Float) (k : Kept n m moved crossed able props)
    (all_shut : AllShut n m) (is-delayed : (j : ℕ) → bit delayed j ≡ (ltb j (length n.transitions) && timed (transition n j))) (long : length props ≡ 64)
    (tested : ℕ) (is-tested : (j : ℕ) → bit tested j ≡ (bit crossed j && not (bit delayed j))) where
  abbrev T : ℕ
  T = length n.transitions

  -- it is tested, or delayed, or not crossed
  by_case : {P : Type 0} (j : ℕ) → j < T
      → (bit tested j ≡ true → timed (transition n j) ≡ false → P)
      → (bit tested j ≡ false → timed (transition n j) ≡ true → P)
      → (bit tested j ≡ false → bit crossed j ≡ false → P) → P
  by_case j h first second third =
      let d : bit delayed j ≡ timed (transition n j) = is-delayed j ∙ ap (λ (b : Bool). b && timed (transition n j)) (lt-ltb j T h) in
      on_bool (bit crossed j)
      (λ c. on_bool (timed (transition n j))
      (λ t. second (is-tested j ∙ (λ i. c i && not ((d ∙ t) i))) t)
      (λ t. first (is-tested j ∙ (λ i. c i && not ((d ∙ t) i))) t))
      (λ c. third (is-tested j ∙ ap (λ (b : Bool). b && not (bit delayed j)) c) c)

  tested_crossed : (j : ℕ) → bit tested j ≡ true → bit crossed j ≡ true
  tested_crossed j e = both_first (bit crossed j) (not (bit delayed j)) (sym (is-tested j) ∙ e)

  pub tested_inside : (j : ℕ) → bit tested j ≡ true → j < T
  tested_inside j e = k.crosses j (tested_crossed j e)

  module _ (found : ℕ) (is_found : (j : ℕ) → bit found j ≡ pick (bit tested j) (enabled n m (transition n j)) (bit able j)) (props₁ : List Float)
      (shuts : Reworked (λ (j : ℕ). bit tested j && not (enabled n m (transition n j))) (λ (j : ℕ). zero64) props props₁)
      (work : ℕ) (is-work : (j : ℕ) → bit work j ≡ ((bit moved j || bit tested j) && bit found j)) where
    found_tested : (j : ℕ) → bit tested j ≡ true → bit found j ≡ enabled n m (transition n j)
    found_tested j e = is_found j ∙ pick_true (bit tested j) _ _ e

    found_other : (j : ℕ) → bit tested j ≡ false → bit found j ≡ bit able j
    found_other j e = is_found j ∙ pick_false (bit tested j) _ _ e

    pub work_inside : (j : ℕ) → bit work j ≡ true → j < T
    work_inside j e =
        ⊎_elim (k.moves j) (tested_inside j) (or_either (bit moved j) (bit tested j) (both_first (bit moved j || bit tested j) (bit found j) (sym (is-work j) ∙ e)))

    work_found : (j : ℕ) → bit work j ≡ true → bit found j ≡ true
    work_found j e = and_right (bit moved j || bit tested j) (bit found j) (sym (is-work j) ∙ e)

    shut_idle : (j : ℕ) → bit found j ≡ false → bit work j ≡ false
    shut_idle j e = is-work j ∙ and_none (bit moved j || bit tested j) (bit found j) e

    tested_work : (j : ℕ) → bit tested j ≡ true → bit found j ≡ true → bit work j ≡ true
    tested_work j t f = is-work j ∙ and_both (bit moved j || bit tested j) (bit found j) (or_right (bit moved j) (bit tested j) t) f

    moved_work : (j : ℕ) → bit moved j ≡ true → bit found j ≡ true → bit work j ≡ true
    moved_work j t f = is-work j ∙ and_both (bit moved j || bit tested j) (bit found j) (or_left (bit moved j) (bit tested j) t) f

    -- whether it is enabled
    found_gates : (j : ℕ) → j < T → bit found j ≡ enabled n m (transition n j)
    found_gates j h =
        by_case j h
        (λ t d. found_tested j t)
        (λ t d. found_other j t ∙ (k.waits j h d).0 ∙ sym (all_shut j h d))
        (λ t c. found_other j t ∙ k.gates j h c)

    -- the propensities after the test
    untested : (j : ℕ) → bit tested j ≡ false → get_or props₁ j nan ≡ get_or props j nan
    untested j e = shuts.others j (ap (λ (b : Bool). b && not (enabled n m (transition n j))) e)

    test_shut : (j : ℕ) → j < T → bit tested j ≡ true → bit found j ≡ false → get_or props₁ j nan ≡ zero64
    test_shut j h t f =
        shuts.these j (omega (arith, few, long))
        (and_both (bit tested j) (not (enabled n m (transition n j))) t (ap not (sym (found_tested j t) ∙ f)))

    module _ (props₂ : List Float) (works : Reworked (bit work) (λ (j : ℕ). factored m (rate_of (transition n j)) (transition n j).takes) props₁ props₂) where
      pub long_after : length props₂ ≡ 64
      long_after = works.long ∙ shuts.long ∙ long

      idle : (j : ℕ) → bit work j ≡ false → get_or props₂ j nan ≡ get_or props₁ j nan
      idle j e = works.others j e

      pub same_outside : (changed : ℕ) → ((j : ℕ) → bit changed j ≡ (bit work j || bit tested j))
          → (j : ℕ) → bit changed j ≡ false → get_or props₂ j nan ≡ get_or props j nan
      same_outside changed is j e =
          let b : (bit work j || bit tested j) ≡ false = sym (is j) ∙ e in
          idle j (not_first (bit work j) (bit tested j) b) ∙ untested j (not_second (bit work j) (bit tested j) b)

      pub changed_inside : (changed : ℕ) → ((j : ℕ) → bit changed j ≡ (bit work j || bit tested j)) → (j : ℕ) → bit changed j ≡ true → j < T
      changed_inside changed is j e = ⊎_elim (work_inside j) (tested_inside j) (or_either (bit work j) (bit tested j) (sym (is j) ∙ e))

      settled_shut : (j : ℕ) → j < T → bit found j ≡ false → get_or props₂ j nan ≡ zero64
      settled_shut j h f =
          idle j (shut_idle j f)
          ∙ by_case j h
          (λ t d. test_shut j h t f)
          (λ t d. untested j t ∙ (k.waits j h d).1)
          (λ t c. untested j t ∙ k.shut j h c (sym (found_other j t) ∙ f))

      settled_open : (j : ℕ) → j < T → bit found j ≡ true → get_or props₂ j nan ≡ factored m (rate_of (transition n j)) (transition n j).takes
      settled_open j h f =
          on_bool (bit work j)
          (λ w. works.these j (omega (arith, few, shuts.long, long)) w)
          (λ w. by_case j h
          (λ t d. never (tested_work j t f) w)
          (λ t d. never f (found_other j t ∙ (k.waits j h d).0))
          (λ t c. on_bool (bit moved j)
          (λ v. never (moved_work j v f) w)
          (λ v. idle j w ∙ untested j t ∙ k.runs j h c v (sym (found_other j t) ∙ f))))

      settled_waits : (j : ℕ) → j < T → timed (transition n j) ≡ true → (bit found j ≡ false) × (get_or props₂ j nan ≡ zero64)
      settled_waits j h d =
          let f : bit found j ≡ false = found_gates j h ∙ all_shut j h d in
          (f, settled_shut j h f)

      pub settled_kept : Kept n m 0 0 found props₂
      settled_kept =
          record {
            gates = λ j h c. found_gates j h;
            shut = λ j h c f. settled_shut j h f;
            runs = λ j h c v f. settled_open j h f;
            waits = settled_waits;
            moves = λ j e. never e (bit_none j);
            crosses = λ j e. never e (bit_none j);
          }

      -- ---- the marks

      module _ (small : (p : ℕ) → held m p ≤ 2 ^ 53) (marks heavies old due fresh : ℕ) (mk : Marked n m moved crossed able marks)
          (is-heavy : (j : ℕ) → bit heavies j ≡ (ltb j (length n.transitions) && any heavy (transition n j).takes))
          (is_old : (j : ℕ) → bit old j ≡ (bit marks j && not (bit crossed j || bit work j)))
          (is-due : (j : ℕ) → bit due j ≡ (bit work j && bit heavies j))
          (is-fresh : (j : ℕ) → bit fresh j ≡ pick (bit due j) (rounded n m (transition n j)) (bit old j)) where
        old_gone : (j : ℕ) → (bit crossed j || bit work j) ≡ true → bit old j ≡ false
        old_gone j e = is_old j ∙ and_none (bit marks j) _ (ap not e)

        old_stays : (j : ℕ) → bit crossed j ≡ false → bit work j ≡ false → bit old j ≡ bit marks j
        old_stays j c w = is_old j ∙ ap (λ (b : Bool). bit marks j && not b) (or_none (bit crossed j) (bit work j) c w) ∙ and-true (bit marks j)

        not_due : (j : ℕ) → bit due j ≡ false → bit fresh j ≡ bit old j
        not_due j e = is-fresh j ∙ pick_false (bit due j) _ _ e

        idle_due : (j : ℕ) → bit work j ≡ false → bit due j ≡ false
        idle_due j w = is-due j ∙ ap (λ (b : Bool). b && bit heavies j) w

        -- one that is not worked out again
        idle_mark : (j : ℕ) → j < T → bit work j ≡ false → bit old j ≡ rounded n m (transition n j)
        idle_mark j h w =
            on_bool (bit crossed j)
            (λ c. old_gone j (or_left (bit crossed j) (bit work j) c) ∙ sym (shut_rounded n m j (on_bool (bit found j)
            (λ f. by_case j h
            (λ t d. never (tested_work j t f) w)
            (λ t d. all_shut j h d)
            (λ t e. never c e))
            (λ f. sym (found_gates j h) ∙ f))))
            (λ c. old_stays j c w ∙ on_bool (bit moved j)
            (λ v. on_bool (bit found j)
            (λ f. never (moved_work j v f) w)
            (λ f.
            let e : enabled n m (transition n j) ≡ false = sym (found_gates j h) ∙ f in
            mk.shut j h c (k.gates j h c ∙ e) ∙ sym (shut_rounded n m j e)))
            (λ v. mk.told j h c v))

        settled_mark : (j : ℕ) → j < T → bit fresh j ≡ rounded n m (transition n j)
        settled_mark j h =
            on_bool (bit due j)
            (λ d. is-fresh j ∙ pick_true (bit due j) _ _ d)
            (λ d. not_due j d ∙ on_bool (bit work j)
            (λ w. old_gone j (or_right (bit crossed j) (bit work j) w) ∙ sym (light_rounded n m j (light_takes m small (transition n j).takes
            (sym (is-heavy j ∙ ap (λ (b : Bool). b && any heavy (transition n j).takes) (lt-ltb j T h)) ∙ sym (ap (λ (b : Bool). b && bit heavies j) w) ∙ sym (is-due j) ∙ d))))
            (λ w. idle_mark j h w))

        mark_inside : (j : ℕ) → bit fresh j ≡ true → j < T
        mark_inside j e =
            on_bool (bit due j)
            (λ d. work_inside j (both_first (bit work j) (bit heavies j) (sym (is-due j) ∙ d)))
            (λ d. mk.inside j (both_first (bit marks j) _ (sym (is_old j) ∙ sym (not_due j d) ∙ e)))

        pub settled_marked : Marked n m 0 0 found fresh
        settled_marked =
            record {
              shut = λ j h c f. settled_mark j h ∙ shut_rounded n m j (sym (found_gates j h) ∙ f);
              told = λ j h c v. settled_mark j h;
              inside = mark_inside;
            }

-- ---- the same of a record, with the words as the code makes them

module _ (n : NetRecord) (counts : List ℕ) (tidy : Tidy n) (good : Counts counts) (moved crossed able delayed heavies marks : ℕ) (props : List Float)
    (is-delayed : Marks n timed delayed) (is-heavy : Marks n takes_several heavies) (k : Kept (readable n) (marking n.places counts) moved crossed able props)
    (mk : Marked (readable n) (marking n.places counts) moved crossed able marks) (all_shut : AllShut (readable n) (marking n.places counts))
    (long : length props ≡ 64) (tested : ℕ) (is-tested : (j : ℕ) → bit tested j ≡ (bit crossed j && not (bit delayed j))) where
  abbrev m : Marking
  m = marking n.places counts

  few : length (readable n).transitions ≤ 64
  few = omega (arith, transitions_length n, tidy.transitions)

  delays : (j : ℕ) → bit delayed j ≡ (ltb j (length (readable n).transitions) && timed (transition (readable n) j))
  delays j = is-delayed j ∙ ap (λ (x : ℕ). ltb j x && timed (transition (readable n) j)) (sym (transitions_length n))

  heavier : (j : ℕ) → bit heavies j ≡ (ltb j (length (readable n).transitions) && any heavy (transition (readable n) j).takes)
  heavier j = is-heavy j ∙ ap (λ (x : ℕ). ltb j x && any heavy (transition (readable n) j).takes) (sym (transitions_length n))

  below : (j : ℕ) → j < length (readable n).transitions → j < n.transitions
  below j h = omega (arith, transitions_length n)

  pub tested_below : (j : ℕ) → bit tested j ≡ true → j < n.transitions
  tested_below j e = below j (tested_inside (readable n) m few moved crossed able delayed props k all_shut delays long tested is-tested j e)

  module _ (found : ℕ) (is_found : (j : ℕ) → bit found j ≡ pick (bit tested j) (enabled (readable n) m (transition (readable n) j)) (bit able j)) (props₁ : List Float)
      (shuts : Reworked (λ (j : ℕ). bit tested j && not (enabled (readable n) m (transition (readable n) j))) (λ (j : ℕ). zero64) props props₁) where
    abbrev work : ℕ
    work = bit_and (bit_or moved tested) found

    works_are : (j : ℕ) → bit (bit_and (bit_or moved tested) found) j ≡ ((bit moved j || bit tested j) && bit found j)
    works_are j = bit_and_lem (bit_or moved tested) found j ∙ ap (λ (b : Bool). b && bit found j) (bit_or_lem moved tested j)

    pub work_below : (j : ℕ) → bit (bit_and (bit_or moved tested) found) j ≡ true → j < n.transitions
    work_below j e = below j (work_inside (readable n) m few moved crossed able delayed props k all_shut delays long tested is-tested found is_found props₁ shuts work works_are j e)

    module _ (props₂ : List Float)
        (works : Reworked (bit (bit_and (bit_or moved tested) found)) (λ (j : ℕ). factored m (rate_of (transition (readable n) j)) (transition (readable n) j).takes) props₁ props₂) where
      kept_now : Kept (readable n) m 0 0 found props₂
      kept_now = settled_kept (readable n) m few moved crossed able delayed props k all_shut delays long tested is-tested found is_found props₁ shuts work works_are props₂ works

      pub due_below : (j : ℕ) → bit (bit_and (bit_and (bit_or moved tested) found) heavies) j ≡ true → j < n.transitions
      due_below j e = work_below j (both_first (bit work j) (bit heavies j) (sym (bit_and_lem work heavies j) ∙ e))

      pub due_props : (j : ℕ) → bit (bit_and (bit_and (bit_or moved tested) found) heavies) j ≡ true → get_or props₂ j nan ≡ propensity (readable n) m (transition (readable n) j)
      due_props j e = kept_at (readable n) m found props₂ kept_now j (omega (arith, transitions_length n, due_below j e))

      pub settled_all : (old fresh : ℕ) → ((j : ℕ) → bit old j ≡ (bit marks j && not (bit (bit_or crossed (bit_and (bit_or moved tested) found)) j)))
          → ((j : ℕ) → bit fresh j ≡ pick (bit (bit_and (bit_and (bit_or moved tested) found) heavies) j) (rounded (readable n) m (transition (readable n) j)) (bit old j))
          → Kept (readable n) m 0 0 found props₂ × Marked (readable n) m 0 0 found fresh × (length props₂ ≡ 64)
          × ((j : ℕ) → bit (bit_or (bit_and (bit_or moved tested) found) tested) j ≡ false → get_or props₂ j nan ≡ get_or props j nan)
          × ((j : ℕ) → bit (bit_or (bit_and (bit_or moved tested) found) tested) j ≡ true → j < n.transitions)
      settled_all old fresh is_old is-fresh = (
        kept_now,
        settled_marked (readable n) m few moved crossed able delayed props k all_shut delays long tested is-tested found is_found props₁ shuts work works_are props₂ works
            (fit_held m (fit_all n.places counts good.small)) marks heavies old (bit_and work heavies) fresh mk heavier
            (λ j. is_old j ∙ ap (λ (b : Bool). bit marks j && not b) (bit_or_lem crossed work j)) (bit_and_lem work heavies) is-fresh,
        long_after (readable n) m few moved crossed able delayed props k all_shut delays long tested is-tested found is_found props₁ shuts work works_are props₂ works,
        same_outside (readable n) m few moved crossed able delayed props k all_shut delays long tested is-tested found is_found props₁ shuts work works_are props₂ works
            (bit_or work tested) (bit_or_lem work tested),
        λ j e. below j (changed_inside (readable n) m few moved crossed able delayed props k all_shut delays long tested is-tested found is_found props₁ shuts work works_are props₂ works
            (bit_or work tested) (bit_or_lem work tested) j e),
      )
