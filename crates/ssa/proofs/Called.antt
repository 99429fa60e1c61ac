-- The tests of a call, in their order. A call that gives an end has passed them all, and by the same tests the call that names any other number
-- is what the rules' run gives for that number.
use Prim.Native.Nat.{ℕ, ◌*◌, ◌≤◌}
use mathlib.Core.Path.{◌≡◌, refl, sym, ap, ap₂, ◌∙◌}
use mathlib.Core.Bool.{Bool, true, false, not}
use mathlib.Core.List.{List}
use mathlib.Core.Option.{Option, none, some}
use lib.ListN.{length}
use lib.Ieee.{Float}
use borrow.Author.Tests.{le-leb, leb-true, eqb-true, not-false}
use Rattle.refusals.specs as Refusal
use Rattle.net.specs.declared.Net.{Net as NetRecord}
use Rattle.net.specs.Net.{pick}
use Rattle.net.specs.Readable.{readable, fault}
use Rattle.net.specs.Tests.{Test, first_of}
use Rattle.net.proofs.Lengths.{places_length}
use Rattle.rng.specs.State.{State as Generator}
use Rattle.rules.specs.Step.{Answer, refused, given}
use Rattle.rules.specs.Run.{End}
use Rattle.rules.specs.Shown.{instants_fit, limit_fits}
use Rattle.rules.specs.Carried.{Carried, Onward, play_on, begun}
use Rattle.rules.specs.Change.{Pair, carried_tests, renaming_tests, renamed, carry_fault}
use Rattle.rules.proofs.Allowing.{refused_given}
use Rattle.rules.proofs.TakesOnce.{neither_fault, none_applies}
use Rattle.carried.specs.Records.{record_strange}
use Rattle.ssa.specs.Path.{table_fits}
use Rattle.ssa.specs.Halted.{Standing, Call, carried_from, turned_down, unless_fault, played, unbegun, naming, carrying}
use Rattle.ssa.specs.Edition.{carried_by}

-- ---- the tests of a path call that names a number

pub record Named (n : NetRecord) (xs : List Float) (limit : ℕ) (t : List Float) : Type 0 where
  pub sound : fault n ≡ none
  pub instants : instants_fit xs ≡ true
  pub limits : limit_fits limit ≡ true
  pub room : n.places * length xs ≤ length t

module _ (n : NetRecord) (g : Generator) (xs : List Float) (limit : ℕ) (t : List Float) where
  -- by its tests in their order, over so many places
  abbrev tested : Option ℕ → Bool → Bool → Bool → ℕ → ℕ → Call
  tested f a b d places h =
      let nothing = unbegun n.places g in
      let answer = played places (length xs) 0 nothing t (play_on 256 (readable n) (begun (readable n) g xs limit) h) in
      let fits = pick d answer (turned_down Refusal.short_table nothing t) in
      unless_fault f nothing t (pick a (pick b fits (turned_down Refusal.bad_limit nothing t)) (turned_down Refusal.bad_instants nothing t))

  naming_is : (h : ℕ) → naming n g xs limit h t
      ≡ tested (fault n) (instants_fit xs) (limit_fits limit) (table_fits n.places (length xs) t) n.places h
  unfolding naming
  naming_is h = ap (λ (p : ℕ). tested (fault n) (instants_fit xs) (limit_fits limit) (table_fits p (length xs) t) p h) (places_length n)

  pub named : (h : ℕ) (e : End) → (naming n g xs limit h t).end ≡ given e → Named n xs limit t
  named h e p =
      go (fault n) (instants_fit xs) (limit_fits limit) (table_fits n.places (length xs) t) refl refl refl refl
      (ap (λ (c : Call). c.end) (sym (naming_is h)) ∙ p)
    where
      go : (f : Option ℕ) (a b d : Bool) → fault n ≡ f → instants_fit xs ≡ a → limit_fits limit ≡ b → table_fits n.places (length xs) t ≡ d
          → (tested f a b d n.places h).end ≡ given e → Named n xs limit t
      go none true true true w x y z p = record { sound = w; instants = x; limits = y; room = leb-true _ _ z }
      go none true true false w x y z p = refused_given p
      go none true false d w x y z p = refused_given p
      go none false b d w x y z p = refused_given p
      go (some c) a b d w x y z p = refused_given p

  pub named_plays : Named n xs limit t → (h : ℕ) → naming n g xs limit h t
      ≡ played n.places (length xs) 0 (unbegun n.places g) t (play_on 256 (readable n) (begun (readable n) g xs limit) h)
  named_plays w h = naming_is h ∙ λ i. tested (w.sound i) (w.instants i) (w.limits i) (le-leb _ _ w.room i) n.places h

-- ---- the tests of a carrying call

pub record Passed (old new : NetRecord) (ps : List Pair) (s : Standing) (xs t : List Float) : Type 0 where
  pub old_sound : fault old ≡ none
  pub new_sound : fault new ≡ none
  pub room : old.places * length xs ≤ length t
  pub fine : record_strange old.places (length xs) s.recorded t ≡ false
  pub no_fault : carry_fault 256 (readable old) (readable new) false false (carried_by old s xs t) ps ≡ none

module _ (old new : NetRecord) (ps : List Pair) (s : Standing) (xs t : List Float) where
  -- by the marks of 11 and of the last 4
  abbrev fault_by : Bool → Bool → Carried → Option ℕ
  fault_by short strange c = carry_fault 256 (readable old) (readable new) short strange c ps

  -- over so many places
  abbrev fault_over : ℕ → Option ℕ
  fault_over places =
      fault_by (not (table_fits places (length xs) t)) (record_strange places (length xs) s.recorded t) (carried_from places s xs t)

  abbrev played_over : ℕ → ℕ → Answer Onward
  played_over places h = play_on 256 (readable new) (renamed ps (carried_from places s xs t)) h

  -- by its tests in their order
  abbrev answered : Option ℕ → Option ℕ → Option ℕ → ℕ → Answer Onward → Call
  answered a b f places r = unless_fault a s t (unless_fault b s t (unless_fault f s t (played places (length xs) s.recorded s t r)))

  pub carrying_is : (h : ℕ) → carrying old new ps s xs h t
      ≡ answered (fault old) (fault new) (fault_over old.places) old.places (played_over old.places h)
  unfolding carrying
  carrying_is h = ap (λ (p : ℕ). answered (fault old) (fault new) (fault_over p) p (played_over p h)) (places_length old)

  pub passed : (h : ℕ) (e : End) → (carrying old new ps s xs h t).end ≡ given e → Passed old new ps s xs t
  passed h e p = go (fault old) (fault new) (fault_over old.places) refl refl refl (ap (λ (c : Call). c.end) (sym (carrying_is h)) ∙ p)
    where
      c : Carried
      c = carried_by old s xs t

      marks : List Test
      marks = carried_tests 256 (not (table_fits old.places (length xs) t)) (record_strange old.places (length xs) s.recorded t) c

      go : (a b f : Option ℕ) → fault old ≡ a → fault new ≡ b → fault_over old.places ≡ f
          → (answered a b f old.places (played_over old.places h)).end ≡ given e → Passed old new ps s xs t
      go none none none x y z p =
          let tests = none_applies marks (neither_fault (first_of marks) (first_of (renaming_tests (readable old) (readable new) c ps)) z).0 in
          record {
            old_sound = x;
            new_sound = y;
            room = leb-true _ _ (not-false _ (tests 3));
            fine = tests 4;
            no_fault = sym (ap₂ (λ (a b : Bool). fault_by a b c) (tests 3) (tests 4)) ∙ z;
          }
      go none none (some k) x y z p = refused_given p
      go none (some k) f x y z p = refused_given p
      go (some k) b f x y z p = refused_given p

  pub passed_plays : Passed old new ps s xs t → (h : ℕ) → carrying old new ps s xs h t
      ≡ played old.places (length xs) s.recorded s t (play_on 256 (readable new) (renamed ps (carried_by old s xs t)) h)
  passed_plays w h =
      let none-met = ap₂ (λ (a b : Bool). fault_by a b (carried_by old s xs t)) (ap not (le-leb _ _ w.room)) w.fine ∙ w.no_fault in
      carrying_is h ∙ λ i. answered (w.old_sound i) (w.new_sound i) (none-met i) old.places (played_over old.places h)

  -- 20 is not met
  pub same_places : Passed old new ps s xs t → old.places ≡ new.places
  same_places w =
      let c = carried_by old s xs t in
      let renames = renaming_tests (readable old) (readable new) c ps in
      let tests = none_applies renames (neither_fault (first_of (carried_tests 256 false false c)) (first_of renames) w.no_fault).1 in
      sym (places_length old) ∙ eqb-true _ _ (not-false _ (tests 0)) ∙ places_length new

  -- a refusal gives the state back
  pub given_back : (h c : ℕ) → (carrying old new ps s xs h t).end ≡ refused c → (carrying old new ps s xs h t).state ≡ s
  given_back h c p =
      ap (λ (x : Call). x.state) (carrying_is h)
      ∙ go (fault old) (fault new) (fault_over old.places) (played_over old.places h) (ap (λ (x : Call). x.end) (sym (carrying_is h)) ∙ p)
    where
      go : (a b f : Option ℕ) (r : Answer Onward) → (answered a b f old.places r).end ≡ refused c → (answered a b f old.places r).state ≡ s
      go none none none (refused k) p = refl
      go none none none (given o) p = refused_given (sym p)
      go none none (some k) r p = refl
      go none (some k) f r p = refl
      go (some k) b f r p = refl
