-- Order 8 holds of calls. An answered call is one of the rules' (Called, Behind), of which the rules' promises speak (crate rules, HaltingHeld), and a
-- cell that it leaves holds the count that the rules show there. What a halted call leaves is read and played on as the rules' path is (Unhalted).
use Prim.Native.Nat.{ℕ, ◌+◌, ◌<◌}
use mathlib.Core.Path.{◌≡◌, refl, sym, ap, ap₂, subst, subst₂, ◌∙◌}
use mathlib.Core.Bool.{false}
use mathlib.Core.List.{List, [], ◌∷◌}
use mathlib.Core.Logic.{◌≢◌}
use mathlib.Core.Option.{Option, none}
use native.Mathlib.Omega.{arith}
use lib.ListN.{length, get_or, length-map}
use lib.Ieee.{Float}
use Rattle.refusals.specs as Refusal
use Rattle.net.specs.declared.Net.{Net as NetRecord}
use Rattle.net.specs.Net.{Place, Net, Marking, pick, zero64, held}
use Rattle.net.specs.Readable.{readable, fault}
use Rattle.net.proofs.Lengths.{places_length}
use Rattle.rng.specs.State.{State as Generator}
use Rattle.rules.specs.Propensity.{float}
use Rattle.rules.specs.Moves.{reading, initial_counts}
use Rattle.rules.specs.Step.{State, Answer, refused, given}
use Rattle.rules.specs.Run.{End, halted, Run, Outcome, outcome}
use Rattle.rules.specs.Carried.{Carried, run_onward, met_by, Onward, answering, ended, play_on, begun, altogether}
use Rattle.rules.specs.Change.{Pair, identity, renamed, unless_fault}
use Rattle.rules.specs.Halting.{counts_at, TimesFit}
use Rattle.rules.proofs.Accepted.{bounded}
use Rattle.rules.proofs.Allowing.{given_same, refused_given}
use Rattle.rules.proofs.Demand3Held.{at_instant}
use Rattle.rules.proofs.HaltingHeld as Rule
use Rattle.rules.proofs.Passing.{Fit, begun_fit, renamed_fit}
use Rattle.rules.proofs.SameCounts.{path_accepted}
use Rattle.carried.specs.Records.{count_in}
use Rattle.carried.proofs.Recorded.{recorded_long, recorded_wide}
use Rattle.ssa.specs.Halted.{Standing, Call, played, unbegun, naming, carrying}
use Rattle.ssa.specs.Edition.{carried_by, naming_rule, carrying_rule, Behind, carried_on, carried_on_by, EachHalted, Same, cell, Edition}
use Rattle.ssa.proofs.Called.{Named, named, named_plays, Passed, passed, passed_plays, same_places, given_back}
use Rattle.ssa.proofs.NamesNone.{names_none}
use Rattle.ssa.proofs.Recorded.{cell_in}
use Rattle.ssa.proofs.Behind.{Plays, begun_plays, tests, carried_plays, shown_halted, shown_whole, cell_shows, cell_holds, behind}
use Rattle.ssa.proofs.Unhalted.{halted_as, goes_over, goes_on}

-- ---- the answer of a call

answer_of_lem : (places n r : ℕ) (s : Standing) (t : List Float) (b : Answer Onward) (e : End) → (played places n r s t b).end ≡ given e
    → (o : Onward) × (b ≡ given o)
answer_of_lem places n r s t (refused c) e p = refused_given p
answer_of_lem places n r s t (given o) e p = (o, refl)

halted_in : (places from : ℕ) (s : Standing) (t : List Float) (n : Net) (c : Carried) (r : Run) (o : Answer Outcome)
    → (played places (length c.instants) from s t (ended n c r o)).end ≡ given halted
    → (u : State) × (o ≡ given (record { end = halted; left = u }))
halted_in places from s t n c r (refused k) p = refused_given p
halted_in places from s t n c r (given o) p = (o.left, ap (λ (e : End). given (record { end = e; left = o.left })) (given_same p))

-- ---- calls that play the path c over n, each with its number, and are halted

module _ (n : NetRecord) (from : ℕ) (c : Carried) (s : Standing) (t : List Float) (w : Plays n.places from c t) (call : ℕ → Call)
    (is : (h : ℕ) → call h ≡ played n.places (length c.instants) from s t (play_on 256 (readable n) c h)) where
  stopped : (h : ℕ) → (call h).end ≡ given halted → (u : State) × (outcome (run_onward 256 (readable n) c h) ≡ given (record { end = halted; left = u }))
      × (call h ≡ played n.places (length c.instants) from s t (given (answering halted (halted_as n c h u))))
  stopped h p =
      let r = run_onward 256 (readable n) c h in
      let stop = halted_in n.places from s t (readable n) c r (outcome r) (ap (λ (x : Call). x.end) (sym (is h)) ∙ p) in
      (stop.0, stop.1, is h ∙ ap (λ (o : Answer Outcome). played n.places (length c.instants) from s t (ended (readable n) c r o)) stop.1)

  taken_up : fault n ≡ none → Fit 256 (readable n) c → (h k : ℕ) → (call h).end ≡ given halted
      → Same (carried_on n c.instants k (call h)) (call (h + k))
  taken_up sound v h k p =
      let stop = stopped h p in
      subst₂ (λ (x y : Call). Same (carried_on n c.instants k x) y) (sym stop.2) (sym (is (h + k)))
      (goes_on n from c t w h stop.0 stop.1 sound v s k)

  taken_over : length c.now.counts ≡ n.places → ((i : ℕ) → i < length c.recorded → length (get_or c.recorded i []) ≡ n.places)
      → (h : ℕ) → (call h).end ≡ given halted → (o : Onward) → play_on 256 (readable n) c h ≡ given o
      → carried_by n (call h).state c.instants (call h).table ≡ o.left
  taken_over wide each h p o q =
      let stop = stopped h p in
      ap (λ (x : Call). carried_by n x.state c.instants x.table) stop.2
      ∙ goes_over n from c t w h stop.0 stop.1 wide each
      ∙ ap (λ (b : Onward). b.left) (given_same (sym (ap (ended (readable n) c (run_onward 256 (readable n) c h)) stop.1) ∙ q))

-- ---- call after call

same_itself : (x : Call) → Same x x
same_itself x = record { end = refl; settled = refl; table = refl; state = λ e p. refl }

module _ (n : NetRecord) (xs : List Float) (call : ℕ → Call)
    (once : (h k : ℕ) → (call h).end ≡ given halted → Same (carried_on n xs k (call h)) (call (h + k))) where
  through : (ks : List ℕ) (h : ℕ) (x : Call) → Same x (call h) → EachHalted n xs ks x → Same (carried_on_by n xs ks x) (call (h + altogether ks))
  through [] h x m w = let e : h ≡ h + 0 = omega arith in subst (λ (k : ℕ). Same x (call k)) e m
  through (k ∷ ks) h x m w =
      let next : carried_on n xs k (call h) ≡ carried_on n xs k x =
      ap₂ (λ (s : Standing) (t : List Float). carrying n n (identity (readable n)) s xs k t) (sym (m.state halted w.0)) (sym m.table) in
      let one : Same (carried_on n xs k x) (call (h + k)) = subst (λ (y : Call). Same y (call (h + k))) next (once h k (sym m.end ∙ w.0)) in
      let e : h + k + altogether ks ≡ h + (k + altogether ks) = omega arith in
      subst (λ (j : ℕ). Same (carried_on_by n xs ks (carried_on n xs k x)) (call j)) e (through ks (h + k) (carried_on n xs k x) one w.1)

-- ---- a path call that names a number

module _ (n : NetRecord) (g : Generator) (xs : List Float) (limit : ℕ) (t : List Float) (a : Named n xs limit t) where
  abbrev path : Carried
  path = begun (readable n) g xs limit

  plays : Plays n.places 0 (begun (readable n) g xs limit) t
  plays = begun_plays n g xs limit t a

  named_behind : (h : ℕ) (e : End) → (naming n g xs limit h t).end ≡ given e
      → Behind n.places (length xs) 0 t (naming_rule n g xs limit h) (naming n g xs limit h t)
  named_behind h e p =
      let nothing = unbegun n.places g in
      let answer = answer_of_lem n.places (length xs) 0 nothing t _ e (ap (λ (x : Call). x.end) (sym (named_plays n g xs limit t a h)) ∙ p) in
      behind (readable n) n.places 0 path t plays h answer.0 answer.1 nothing _ _
      (named_plays n g xs limit t a h ∙ ap (played n.places (length xs) 0 nothing t) answer.1)
      (λ i. pick (a.instants i) (pick (a.limits i) (answer.1 i) (refused Refusal.bad_limit)) (refused Refusal.bad_instants))

  -- a recorded cell of a halted call
  named_cell : (h : ℕ) (b : Behind n.places (length xs) 0 t (naming_rule n g xs limit h) (naming n g xs limit h t)) → b.answer.end ≡ halted
      → (p i : ℕ) → p < n.places → i < (naming n g xs limit h t).state.recorded
      → cell (length xs) (naming n g xs limit h t) p i ≡ float (held (counts_at b.answer i) p)
  named_cell h b z p i l m =
      let works = (path_accepted 256 (readable n) g xs limit h b.answer b.gives).2 in
      let all = shown_halted (readable n) n.places 0 path t plays h b.answer works z in
      let inside : i < length b.answer.shown = omega (arith, m, all, ap (λ (x : Standing). x.recorded) b.state) in
      ap (λ (x : List Float). cell_in (length xs) x p i) b.table
      ∙ cell_shows (readable n) n.places 0 path t plays h b.answer works p i l (omega arith) inside

  unhalted : (h k : ℕ) → (naming n g xs limit h t).end ≡ given halted
      → Same (carried_on n xs k (naming n g xs limit h t)) (naming n g xs limit (h + k) t)
  unhalted =
      taken_up n 0 path (unbegun n.places g) t plays (λ (h : ℕ). naming n g xs limit h t) (named_plays n g xs limit t a) a.sound
      (begun_fit 256 (readable n) (bounded n a.sound) g xs limit a.instants a.limits)

  over : (h : ℕ) → (naming n g xs limit h t).end ≡ given halted → (o : Onward) → naming_rule n g xs limit h ≡ given o
      → carried_by n (naming n g xs limit h t).state xs (naming n g xs limit h t).table ≡ o.left
  over h p o q =
      taken_over n 0 path (unbegun n.places g) t plays (λ (h : ℕ). naming n g xs limit h t) (named_plays n g xs limit t a) wide
      (λ i l. ap length (at_instant first ys i (omega (arith, l, length-map ys first))) ∙ wide)
      h p o (path_accepted 256 (readable n) g xs limit h o q).2
    where
      ys : List Float
      ys = met_by (reading zero64 ∷ []) xs

      first : Float → Marking
      first x = initial_counts (readable n)

      wide : length (initial_counts (readable n)) ≡ n.places
      wide = length-map (readable n).places (λ (q : Place). q.initial) ∙ places_length n

-- ---- the call that carries a path

module _ (old new : NetRecord) (ps : List Pair) (s : Standing) (xs : List Float) (t : List Float) (a : Passed old new ps s xs t) where
  abbrev given_path : Carried
  given_path = renamed ps (carried_by old s xs t)

  carries : Plays old.places s.recorded (renamed ps (carried_by old s xs t)) t
  carries = carried_plays old new ps s xs t a

  carried_behind : (h : ℕ) (e : End) → (carrying old new ps s xs h t).end ≡ given e
      → Behind old.places (length xs) s.recorded t (carrying_rule old new ps s xs h t) (carrying old new ps s xs h t)
  carried_behind h e p =
      let ends = ap (λ (x : Call). x.end) (sym (passed_plays old new ps s xs t a h)) ∙ p in
      let answer = answer_of_lem old.places (length xs) s.recorded s t _ e ends in
      behind (readable new) old.places s.recorded given_path t carries h answer.0 answer.1 s _ _
      (passed_plays old new ps s xs t a h ∙ ap (played old.places (length xs) s.recorded s t) answer.1)
      (ap (λ (f : Option ℕ). unless_fault f (play_on 256 (readable new) given_path h)) a.no_fault ∙ answer.1)

  -- the count that a cell of a call played to an end holds
  carried_cell : (h : ℕ)
      (b : Behind old.places (length xs) s.recorded t (carrying_rule old new ps s xs h t) (carrying old new ps s xs h t))
      → b.answer.end ≢ halted → (p i : ℕ) → p < new.places → i < length xs
      → count_in (cell (length xs) (carrying old new ps s xs h t) p i) ≡ held (counts_at b.answer i) p
  carried_cell h b z p i m k =
      let works = (Rule.carried 256 (readable old) (readable new) false false (carried_by old s xs t) ps h b.answer b.gives).plays in
      let l : p < old.places = omega (arith, m, same_places old new ps s xs t a) in
      let all = shown_whole (readable new) old.places s.recorded given_path t carries h b.answer works z in
      ap (λ (x : List Float). count_in (cell_in (length xs) x p i)) b.table
      ∙ cell_holds (readable new) old.places s.recorded given_path t carries h b.answer works p i l (omega (arith, k, all))

  over_new : Plays new.places s.recorded (renamed ps (carried_by old s xs t)) t
  over_new = subst (λ (places : ℕ). Plays places s.recorded given_path t) (same_places old new ps s xs t a) carries

  plays_new : (h : ℕ) → carrying old new ps s xs h t
      ≡ played new.places (length xs) s.recorded s t (play_on 256 (readable new) (renamed ps (carried_by old s xs t)) h)
  plays_new h =
      passed_plays old new ps s xs t a h
      ∙ ap (λ (places : ℕ). played places (length xs) s.recorded s t (play_on 256 (readable new) given_path h)) (same_places old new ps s xs t a)

  unhalted_again : TimesFit (carried_by old s xs t) → (h k : ℕ) → (carrying old new ps s xs h t).end ≡ given halted
      → Same (carried_on new xs k (carrying old new ps s xs h t)) (carrying old new ps s xs (h + k) t)
  unhalted_again times =
      let v = tests old new ps s xs t a in
      taken_up new s.recorded given_path s t over_new (λ (h : ℕ). carrying old new ps s xs h t) plays_new a.new_sound
      (renamed_fit 256 (readable old) (readable new) (carried_by old s xs t) ps
      v.not_strange v.instants_fit v.records_fit v.limit_fits v.renames times)

  over_again : length s.now.counts ≡ new.places → (h : ℕ) → (carrying old new ps s xs h t).end ≡ given halted
      → (o : Onward) → carrying_rule old new ps s xs h t ≡ given o
      → carried_by new (carrying old new ps s xs h t).state xs (carrying old new ps s xs h t).table ≡ o.left
  over_again wide h p o q =
      let r = s.recorded in
      let many = recorded_long old.places (length xs) t r in
      taken_over new r given_path s t over_new (λ (h : ℕ). carrying old new ps s xs h t) plays_new wide
      (λ i l. recorded_wide old.places (length xs) t r i (omega (arith, l, many)) ∙ same_places old new ps s xs t a)
      h p o (Rule.carried 256 (readable old) (readable new) false false (carried_by old s xs t) ps h o q).plays

-- ---- all of it

unhalted_named : (n : NetRecord) (g : Generator) (xs : List Float) (limit h k : ℕ) (t : List Float) → (naming n g xs limit h t).end ≡ given halted
    → Same (carried_on n xs k (naming n g xs limit h t)) (naming n g xs limit (h + k) t)
unhalted_named n g xs limit h k t p = unhalted n g xs limit t (named n g xs limit t h halted p) h k p

unhalted_carried : (old n : NetRecord) (ps : List Pair) (s : Standing) (xs : List Float) (h k : ℕ) (t : List Float)
    → TimesFit (carried_by old s xs t) → (carrying old n ps s xs h t).end ≡ given halted
    → Same (carried_on n xs k (carrying old n ps s xs h t)) (carrying old n ps s xs (h + k) t)
unhalted_carried old n ps s xs h k t times p = unhalted_again old n ps s xs t (passed old n ps s xs t h halted p) times h k p

pub edition : Edition
edition = record {
  names_none = names_none;
  named = λ n g xs limit h t e p. let a = named n g xs limit t h e p in (a.sound, named_behind n g xs limit t a h e p);
  carried = λ old new ps s xs h t e p.
      let a = passed old new ps s xs t h e p in
      (a.old_sound, a.new_sound, carried_behind old new ps s xs t a h e p);
  goes_over = λ n g xs limit h t p. over n g xs limit t (named n g xs limit t h halted p) h p;
  goes_over_again = λ old n ps s xs h t wide p. over_again old n ps s xs t (passed old n ps s xs t h halted p) wide h p;
  unhalted = unhalted_named;
  unhalted_through = λ n g xs limit h ks t w.
      let call : ℕ → Call = λ (i : ℕ). naming n g xs limit i t in
      through n xs call (λ i k p. unhalted_named n g xs limit i k t p) ks h (call h) (same_itself (call h)) w;
  unhalted_again = unhalted_carried;
  unhalted_again_through = λ old n ps s xs h ks t times w.
      let call : ℕ → Call = λ (i : ℕ). carrying old n ps s xs i t in
      through n xs call (λ i k p. unhalted_carried old n ps s xs i k t times p) ks h (call h) (same_itself (call h)) w;
  given_back = λ old new ps s xs h t c p. given_back old new ps s xs t h c p;
  first_side = λ n g xs ys limit limit' h k t u pa pb i j li lj same p l.
      let na = named n g xs limit t h halted pa in
      let nb = named n g ys limit' u k halted pb in
      let a = named_behind n g xs limit t na h halted pa in
      let b = named_behind n g ys limit' u nb k halted pb in
      let qa = given_same (sym a.end ∙ pa) in
      let qb = given_same (sym b.end ∙ pb) in
      named_cell n g xs limit t na h a qa p i l li
      ∙ ap (λ (m : Marking). float (held m p))
      (Rule.first 256 (readable n) g xs ys limit limit' h k a.answer b.answer a.gives b.gives qa qb i j
      (omega (arith, li, ap (λ (x : Standing). x.recorded) a.state)) (omega (arith, lj, ap (λ (x : Standing). x.recorded) b.state)) same)
      ∙ sym (named_cell n g ys limit' u nb k b qb p j l lj);
  second_side = λ old old' new ps qs s s' xs ys h k t u e e' pa pb za zb alike all i j li lj same p l.
      let na = passed old new ps s xs t h e pa in
      let nb = passed old' new qs s' ys u k e' pb in
      let a = carried_behind old new ps s xs t na h e pa in
      let b = carried_behind old' new qs s' ys u nb k e' pb in
      let qa : a.answer.end ≢ halted = λ y. za (given_same (sym pa ∙ a.end) ∙ y) in
      let qb : b.answer.end ≢ halted = λ y. zb (given_same (sym pb ∙ b.end) ∙ y) in
      carried_cell old new ps s xs t na h a qa p i l li
      ∙ ap (λ (m : Marking). held m p)
      (Rule.second 256 (readable new) (readable old) (readable old') false false false false (carried_by old s xs t) (carried_by old' s' ys u)
      ps qs h k a.answer b.answer a.gives b.gives qa qb alike all i j li lj same)
      ∙ sym (carried_cell old' new qs s' ys u nb k b qb p j l lj);
}
