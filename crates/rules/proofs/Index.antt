-- What the rules say of a transition asks for the counts of the places for which it is listed, and for no other; so it stays where these stay. Assumes
-- nothing.
use Prim.Native.Nat.{ℕ, zero, suc, ◌+◌, ◌≤◌, ◌<◌}
use mathlib.Core.Path.{◌≡◌, refl, sym, ap, ap₂, ◌∙◌}
use mathlib.Core.Bool.{Bool, true, false, ◌&&◌, ◌||◌}
use mathlib.Core.List.{List, [], ◌∷◌, map}
use native.Mathlib.Omega.{arith}
use native.Mathlib.Decide.{dec_lt}
use lib.Dec.{eqb, leb, ltb}
use lib.ListN.{length, get_or, take, length-map, get_or-eq_default}
use lib.Seq.{ext_get_or, get_or-take, length-take-le}
use lib.Ieee.{Float, nan, binary64, mul}
use borrow.Author.Tests.{eq-eqb, eqb-true, eqb-false, leb-false, lt-ltb, not-false}
use Rattle.net.specs.Net.{Place, Arc, Take, Transition, Net, Marking, pick, amount, held, moved, taken_by, rate_of}
use Rattle.net.specs.Tests.{any}
use Rattle.rules.specs.Enabled.{inputs_hold, reads_hold, blocks_open, room_at, room_from, enabled}
use Rattle.rules.specs.Propensity.{ways, factored, propensity, propensities}
use Rattle.rules.specs.Exact.{some_inexact, rounded}
use Rattle.rules.specs.Moves.{Entry, without_arcs, transition, move, after, taken_at, put_at}
use Rattle.rules.specs.Demand3.{takes_from, takes_once, EachAllowed}
use Rattle.rules.specs.Index.{on, capacity_of, raises, depends_on, listed, changes, any_below, again, again_after, KeptBut, Kept, Reworked, OnlyOfTheNet, Untouched, Unchanged, Stays, KeptOn, MarkedOn, ShutOn, KeptWhole, WorkedKept, KeptThroughout, MarksWhole}
use Rattle.rules.proofs.Order.{never, neither}
use Rattle.rules.proofs.Counts.{once_each, counted, move_length}

-- ---- tests

first_holds : (a b : Bool) → a ≡ true → a || b ≡ true
first_holds a b p = rw p

second_holds : (a b : Bool) → b ≡ true → a || b ≡ true
second_holds true b p = refl
second_holds false b p = p

by_test : {P : Type 0} (b : Bool) → (b ≡ true → P) → (b ≡ false → P) → P
by_test true t f = t refl
by_test false t f = f refl

here : (p : ℕ) (b : Bool) → eqb p p || b ≡ true
here p b = first_holds (eqb p p) b (eq-eqb p p refl)

-- ---- where the counts agree, the rules say the same

module _ (m m' : Marking) where
  inputs_same : (ks : List Take) → ((p : ℕ) → takes_from p ks ≡ true → held m p ≡ held m' p) → inputs_hold m ks ≡ inputs_hold m' ks
  inputs_same [] h = refl
  inputs_same (k ∷ ks) h =
      rw (h k.place (here k.place (takes_from k.place ks)), inputs_same ks (λ p e. h p (second_holds (eqb k.place p) (takes_from p ks) e)))

  reads_same : (bs : List Arc) → ((p : ℕ) → on p bs ≡ true → held m p ≡ held m' p) → reads_hold m bs ≡ reads_hold m' bs
  reads_same [] h = refl
  reads_same (a ∷ bs) h =
      rw (h a.place (here a.place (on a.place bs)), reads_same bs (λ p e. h p (second_holds (eqb a.place p) (on p bs) e)))

  blocks_same : (bs : List Arc) → ((p : ℕ) → on p bs ≡ true → held m p ≡ held m' p) → blocks_open m bs ≡ blocks_open m' bs
  blocks_same [] h = refl
  blocks_same (a ∷ bs) h =
      rw (h a.place (here a.place (on a.place bs)), blocks_same bs (λ p e. h p (second_holds (eqb a.place p) (on p bs) e)))

  factored_same : (ks : List Take) (x : Float) → ((p : ℕ) → takes_from p ks ≡ true → held m p ≡ held m' p) → factored m x ks ≡ factored m' x ks
  factored_same [] x h = refl
  factored_same (k ∷ ks) x h =
      ap (λ (c : ℕ). factored m (pick k.kinetic (mul binary64 x (ways c (amount k.weight))) x) ks) (h k.place (here k.place (takes_from k.place ks)))
      ∙ factored_same ks _ (λ p e. h p (second_holds (eqb k.place p) (takes_from p ks) e))

  inexact_same : (ks : List Take) → ((p : ℕ) → takes_from p ks ≡ true → held m p ≡ held m' p) → some_inexact m ks ≡ some_inexact m' ks
  inexact_same [] h = refl
  inexact_same (k ∷ ks) h =
      rw (h k.place (here k.place (takes_from k.place ks)), inexact_same ks (λ p e. h p (second_holds (eqb k.place p) (takes_from p ks) e)))

  -- a place without a bound, or one that is not raised, has room at every count
  room_same : (t : Transition) (q : Place) (p : ℕ) → (ltb 0 q.capacity && raises p t ≡ true → held m p ≡ held m' p) → room_at m t q p ≡ room_at m' t q p
  room_same t q p h = go (eqb q.capacity 0) refl (leb (moved t.puts p) (taken_by t.takes p)) refl
    where
      go : (c : Bool) → eqb q.capacity 0 ≡ c → (d : Bool) → leb (moved t.puts p) (taken_by t.takes p) ≡ d
          → (c || d || leb (held m p + moved t.puts p) (q.capacity + taken_by t.takes p))
          ≡ (c || d || leb (held m' p + moved t.puts p) (q.capacity + taken_by t.takes p))
      go true e d f = refl
      go false e true f = refl
      go false e false f =
          let a : 0 < q.capacity = pos q.capacity (eqb-false q.capacity 0 e) in
          let b : taken_by t.takes p < moved t.puts p = leb-false _ _ f in
          rw (h (rw (lt-ltb 0 q.capacity a, lt-ltb _ _ b) refl))
        where
          pos : (x : ℕ) → (x ≡ 0 → ⊥) → 0 < x
          pos zero h = absurd (h refl)
          pos (suc x) h = omega arith

  rooms_same : (t : Transition) (qs : List Place) (p : ℕ)
      → ((i : ℕ) → ltb 0 (get_or qs i (record { initial = 0; capacity = 0 })).capacity && raises (p + i) t ≡ true → held m (p + i) ≡ held m' (p + i))
      → room_from m t qs p ≡ room_from m' t qs p
  rooms_same t [] p h = refl
  rooms_same t (q ∷ qs) p h =
      rw (room_same t q p (start (h 0)), rooms_same t qs (suc p) (λ i. shift i (h (suc i))))
    where
      start : (ltb 0 q.capacity && raises (p + 0) t ≡ true → held m (p + 0) ≡ held m' (p + 0)) → ltb 0 q.capacity && raises p t ≡ true → held m p ≡ held m' p
      start g = let z : p + 0 ≡ p = omega arith in rw z at g

      shift : (i : ℕ) → (ltb 0 (get_or qs i (record { initial = 0; capacity = 0 })).capacity && raises (p + suc i) t ≡ true → held m (p + suc i) ≡ held m' (p + suc i))
          → ltb 0 (get_or qs i (record { initial = 0; capacity = 0 })).capacity && raises (suc p + i) t ≡ true → held m (suc p + i) ≡ held m' (suc p + i)
      shift i g = let z : p + suc i ≡ suc p + i = omega arith in rw z at g

-- ---- a transition where the counts agree at the places for which it is listed

module _ (n : Net) (t : Transition) (m m' : Marking) (h : (p : ℕ) → depends_on n p t ≡ true → held m p ≡ held m' p) where
  by_input : (p : ℕ) → takes_from p t.takes ≡ true → held m p ≡ held m' p
  by_input p e = h p (search (first_holds, second_holds))

  by_read : (p : ℕ) → on p t.reads ≡ true → held m p ≡ held m' p
  by_read p e = h p (search (first_holds, second_holds))

  by_block : (p : ℕ) → on p t.blocks ≡ true → held m p ≡ held m' p
  by_block p e = h p (search (first_holds, second_holds))

  by_room : (p : ℕ) → ltb 0 (capacity_of n p) && raises p t ≡ true → held m p ≡ held m' p
  by_room p e = h p (search (first_holds, second_holds))

  enabled_same : enabled n m t ≡ enabled n m' t
  enabled_same =
      rw (
        inputs_same m m' t.takes by_input,
        reads_same m m' t.reads by_read,
        blocks_same m m' t.blocks by_block,
        rooms_same m m' t n.places 0 (λ i. from_start i (by_room i)),
      )
    where
      from_start : (i : ℕ) → (ltb 0 (capacity_of n i) && raises i t ≡ true → held m i ≡ held m' i)
          → ltb 0 (capacity_of n i) && raises (0 + i) t ≡ true → held m (0 + i) ≡ held m' (0 + i)
      from_start i g = let z : 0 + i ≡ i = omega arith in rw z g

  propensity_same : propensity n m t ≡ propensity n m' t
  propensity_same = rw (enabled_same, factored_same m m' t.takes (rate_of t) by_input)

  rounded_same : rounded n m t ≡ rounded n m' t
  rounded_same = simp (propensity_same, inexact_same m m' t.takes by_input)

pub untouched : Untouched
untouched n j m m' h =
    (enabled_same n (transition n j) m m' h, propensity_same n (transition n j) m m' h, rounded_same n (transition n j) m m' h)

-- ---- no other number is listed

none_but : (f : ℕ → Bool) (k : ℕ) → ((p : ℕ) → f p ≡ false) → any_below f k ≡ false
none_but f zero h = refl
none_but f (suc k) h = rw (none_but f k h, h k)

and_none : (a : Bool) → a && false ≡ false
and_none true = refl
and_none false = refl

past_listed : (n : Net) (p j : ℕ) → length n.transitions ≤ j → listed n p j ≡ false
past_listed n p j h = rw (get_or-eq_default n.transitions without_arcs {n = j} h) (search and_none)

past_again : (n : Net) (e : Entry) (j : ℕ) → length n.transitions ≤ j → again n e j ≡ false
past_again n e j h = none_but _ (length n.places) (λ p. rw (past_listed n p j h) (and_none (changes n e p)))

pub only_of_the_net : OnlyOfTheNet
only_of_the_net n e j a = go (dec_lt j (length n.transitions))
  where
    go : Dec (j < length n.transitions) → j < length n.transitions
    go (yes k) = k
    go (no k) = never (sym (past_again n e j (omega arith)) ∙ a)

-- ---- an entry

past_end : (m : Marking) (p : ℕ) → length m ≤ p → held m p ≡ 0
past_end m p h = get_or-eq_default m 0 {n = p} h

pub unchanged : Unchanged
unchanged n o m e a p h = go (dec_lt p (length m))
  where
    same : taken_at n p (e ∷ []) ≡ put_at n p (e ∷ [])
    same = eqb-true _ _ (not-false _ h)

    cancel : (x y c d : ℕ) → y + c ≡ x + d → d ≡ c → x ≡ y
    cancel x y c d e f = omega arith

    go : Dec (p < length m) → held (move n m e) p ≡ held m p
    go (yes k) =
        cancel (held (move n m e) p) (held m p) (put_at n p (e ∷ [])) (taken_at n p (e ∷ [])) (counted n (once_each n o) (e ∷ []) m p k (a, tt)) same
    go (no k) =
        let l : length (move n m e) ≡ length m = move_length n m e in
        past_end (move n m e) p (omega arith) ∙ sym (past_end m p (omega arith))

-- where none below k passes the test, no number below k does
none_below : (f : ℕ → Bool) (k : ℕ) → any_below f k ≡ false → (p : ℕ) → p < k → f p ≡ false
none_below f zero h p l = absurd (omega arith)
none_below f (suc k) h p l = let w = neither (any_below f k) (f k) h in go (dec_lt p k) (none_below f k w.0 p) w.1
  where
    go : Dec (p < k) → (p < k → f p ≡ false) → f k ≡ false → f p ≡ false
    go (yes a) ih e = ih a
    go (no a) ih e = let z : p ≡ k = omega arith in rw z e

and_false : (a b : Bool) → a && b ≡ false → b ≡ true → a ≡ false
and_false true b p q = never (sym p ∙ q)
and_false false b p q = refl

pub stays : Stays
stays n o m l e a j h = untouched n j (move n m e) m agree
  where
    agree : (p : ℕ) → listed n p j ≡ true → held (move n m e) p ≡ held m p
    agree p q = go (dec_lt p (length n.places))
      where
        go : Dec (p < length n.places) → held (move n m e) p ≡ held m p
        go (yes k) = unchanged n o m e a p (and_false (changes n e p) (listed n p j) (none_below _ (length n.places) h p k) q)
        go (no k) =
            let z : length (move n m e) ≡ length m = move_length n m e in
            past_end (move n m e) p (omega arith) ∙ sym (past_end m p (omega arith))

-- ---- what is kept

pub kept_on : KeptOn
kept_on kept n o m l e a f g s k j b h =
    let w = neither (f j) (again n e j) (sym (s j) ∙ h) in
    k j b w.0 ∙ sym (stays n o m l e a j w.1).1

pub marked_on : MarkedOn
marked_on marks n o m l e a f g s k j b h =
    let w = neither (f j) (again n e j) (sym (s j) ∙ h) in
    k j b w.0 ∙ sym (stays n o m l e a j w.1).2

pub shut_on : ShutOn
shut_on n o m l e a f g s k j b d h =
    let w = neither (f j) (again n e j) (sym (s j) ∙ h) in
    (stays n o m l e a j w.1).0 ∙ k j b d w.0

-- ---- worked out again

kept_again : (n : Net) (m : Marking) (f : ℕ → Bool) (before after : List Float) → length n.transitions ≤ length before
    → KeptBut f n m before → Reworked f (λ (j : ℕ). propensity n m (transition n j)) before after → Kept n m after
kept_again n m f before after l k r j b h =
    by_test (f j) (λ e. r.these j (omega arith) e) (λ e. r.others j e ∙ k j b e)

map_at : {A : Type 0} (f : A → Float) (l : List A) (i : ℕ) (d : Float) (a : A) → i < length l → get_or (map f l) i d ≡ f (get_or l i a)
map_at f [] i d a h = absurd (omega arith)
map_at f (x ∷ l) zero d a h = refl
map_at f (x ∷ l) (suc i) d a h = map_at f l i d a (omega arith)

-- kept whole is a full working
kept_worked : (n : Net) (m : Marking) (kept : List Float) → length n.transitions ≤ length kept → Kept n m kept
    → take (length n.transitions) kept ≡ propensities n m
kept_worked n m kept l k =
    ext_get_or nan (take (length n.transitions) kept) (propensities n m) (a ∙ sym b) at
  where
    a : length (take (length n.transitions) kept) ≡ length n.transitions
    a = length-take-le (length n.transitions) kept l

    b : length (propensities n m) ≡ length n.transitions
    b = length-map n.transitions (propensity n m)

    at : (i : ℕ) → i < length (take (length n.transitions) kept) → get_or (take (length n.transitions) kept) i nan ≡ get_or (propensities n m) i nan
    at i h =
        let r : i < length n.transitions = omega (arith, a) in
        get_or-take (length n.transitions) kept i nan r ∙ k i r refl ∙ sym (map_at (propensity n m) n.transitions i nan without_arcs r)

pub kept_whole : KeptWhole
kept_whole n m f before after l k r = let z = r.long in kept_worked n m after (omega arith) (kept_again n m f before after l k r)

pub worked_kept : WorkedKept
worked_kept n m kept e j b h =
    sym (get_or-take (length n.transitions) kept j nan b)
    ∙ ap (λ (l : List Float). get_or l j nan) e
    ∙ map_at (propensity n m) n.transitions j nan without_arcs b

-- ---- entry after entry

or_assoc : (x y z : Bool) → x || (y || z) ≡ false → (x || y) || z ≡ false
or_assoc true y z p = p
or_assoc false y z p = p

or_none : (a : Bool) → a || false ≡ false → a ≡ false
or_none a h = (neither a false h).0

kept_after : (n : Net) → takes_once n.transitions ≡ true → (m : Marking) → length m ≤ length n.places → (es : List Entry) → EachAllowed n m es
    → (f : ℕ → Bool) (kept : List Float) → KeptBut f n m kept → KeptBut (λ (j : ℕ). f j || again_after n es j) n (after n m es) kept
kept_after n o m l [] a f kept k = λ j b h. k j b (or_none (f j) h)
kept_after n o m l (e ∷ es) a f kept k =
    let z : length (move n m e) ≡ length m = move_length n m e in
    let g : ℕ → Bool = λ j. f j || again n e j in
    let one : KeptBut g n (move n m e) kept = kept_on kept n o m l e a.0 f g (λ j. refl) k in
    let rest = kept_after n o (move n m e) (omega arith) es a.1 g kept one in
    λ j b h. rest j b (or_assoc (f j) (again n e j) (again_after n es j) h)

pub kept_throughout : KeptThroughout
kept_throughout n o m l es a kept kept' b k r =
    kept_whole n (after n m es) (again_after n es) kept kept' b (kept_after n o m l es a (λ j. false) kept k) r

-- ---- marks

-- the first apart
below_first : (f : ℕ → Bool) (k : ℕ) → any_below f (suc k) ≡ f 0 || any_below (λ (j : ℕ). f (suc j)) k
below_first f zero = go (f 0)
  where
    go : (c : Bool) → false || c ≡ c || false
    go true = refl
    go false = refl
below_first f (suc k) =
    ap (λ (b : Bool). b || f (suc k)) (below_first f k) ∙ go (f 0) (any_below (λ (j : ℕ). f (suc j)) k) (f (suc k))
  where
    go : (a b c : Bool) → (a || b) || c ≡ a || (b || c)
    go true b c = refl
    go false b c = refl

pub marks_whole : MarksWhole
marks_whole n m marks k = go n.transitions marks (λ j h. k j h refl)
  where
    go : (ts : List Transition) (f : ℕ → Bool) → ((j : ℕ) → j < length ts → f j ≡ rounded n m (get_or ts j without_arcs)) → any_below f (length ts) ≡ any (rounded n m) ts
    go [] f h = refl
    go (t ∷ ts) f h =
        below_first f (length ts) ∙ ap₂ (λ (a b : Bool). a || b) (h 0 (omega arith)) (go ts (λ (j : ℕ). f (suc j)) (λ j l. h (suc j) (omega arith)))
