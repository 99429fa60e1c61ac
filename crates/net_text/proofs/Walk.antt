-- The laws of the loop over the arcs of a line. Its invariant, Walk, holds the arcs so far; one arc more keeps it (walk_more), and where none
-- stands the arcs so far are all (walk_end). Assumes nothing.
use Prim.Native.Nat.{ℕ, zero, suc, ◌+◌, ◌≤◌, ◌<◌}
use mathlib.Core.Path.{◌≡◌, refl, sym, ap, ◌∙◌}
use mathlib.Core.Bool.{Bool, true, false, ◌||◌, or_assoc}
use mathlib.Core.List.{List, [], ◌∷◌, ◌++◌, map}
use native.Mathlib.Omega.{arith}
use native.Mathlib.Numerals.{add-one}
use native.Mathlib.Nat.{add-zero}
use lib.Dec.{ltb}
use lib.ListN.{length, get_or, set, length-append, length-map, length-set}
use lib.Seq.{get_or-set_same, get_or-set_other}
use borrow.Author.Tests.{lt-ltb}
use Rattle.net.specs.Net.{pick}
use Rattle.net.specs.Tests.{any}
use Rattle.net.specs.Readable.{Slot, slot_at, slots}
use Rattle.net.specs.declared.Net.{Net as NetRecord}
use Rattle.text.specs.Text.{Bytes}
use Rattle.net_text.specs.Forms.{Met, wrong, met, behind, many, RawArc, next_arc}
use Rattle.net_text.specs.Reading.{bad_arc}
use Rattle.net_text.specs.Filled.{filled}
use Rattle.net_text.specs.Scanned.{through, SeenArc, slot_of, seen_arc, shown, stored, with_slots, with_arc, Sized, SlotsKept, Filled, ArcsRead}
use Rattle.net_text.specs.declared.scan.ArcSeen.{ArcSeen}
use Rattle.net_text.proofs.Many.{joined, many_next, many_end, takes_arc}

-- ---- the arc that was seen

record Came (t : Bytes) (a : ArcSeen) (left : Bytes) : Type 0 where
  raw : RawArc
  is : next_arc t ≡ met raw left
  seen_as : seen_arc raw ≡ shown a

came_by : (t : Bytes) (a : ArcSeen) (left : Bytes) (m : Met RawArc) → next_arc t ≡ m → through seen_arc m ≡ met (shown a) left → Came t a left
came_by t a left wrong e h = let z : ◌≡◌ {A = ℕ} 0 1 = cc in absurd (omega arith)
came_by t a left (met raw rest) e h =
    let behind_it : rest ≡ left = cc in
    let says : seen_arc raw ≡ shown a = cc in
    record { raw = raw; is = e ∙ ap (λ (x : Bytes). met raw x) behind_it; seen_as = says }

none_by : (m : Met RawArc) → through seen_arc m ≡ wrong → m ≡ wrong
none_by wrong e = refl
none_by (met a rest) e = let z : ◌≡◌ {A = ℕ} 0 1 = cc in absurd (omega arith)

-- ---- what is stored

module _ (base count v : ℕ) (xs : List ℕ) where
  stored_by : (x : Bool) → length (pick x (set xs (base + count) v) xs) ≡ length xs
  stored_by true = length-set xs (base + count) v
  stored_by false = refl

  stored_length : length (stored base count v xs) ≡ length xs
  stored_length = stored_by (ltb count 16)

  stored_yes : count < 16 → set xs (base + count) v ≡ stored base count v xs
  stored_yes h = ap (λ (x : Bool). pick x (set xs (base + count) v) xs) (sym (lt-ltb count 16 h))

  before_by : (x : Bool) (i : ℕ) → i < base + count → get_or (pick x (set xs (base + count) v) xs) i 0 ≡ get_or xs i 0
  before_by true i h = get_or-set_other xs (base + count) i v 0 (λ e. omega arith)
  before_by false i h = refl

  stored_before : (i : ℕ) → i < base + count → get_or (stored base count v xs) i 0 ≡ get_or xs i 0
  stored_before i h = before_by (ltb count 16) i h

  stored_there : count < 16 → base + count < length xs → get_or (stored base count v xs) (base + count) 0 ≡ v
  stored_there h inside = rw (lt-ltb count 16 h) (get_or-set_same xs (base + count) v 0 inside)

-- n slots are the same where their numbers are
slots_same : (k p w k' p' w' : List ℕ) (a n : ℕ) → ((i : ℕ) → i < a + n → slot_at k p w i ≡ slot_at k' p' w' i) → slots k p w a n ≡ slots k' p' w' a n
slots_same k p w k' p' w' a zero h = refl
slots_same k p w k' p' w' a (suc n) h = rw (h a (omega arith), slots_same k p w k' p' w' (a + 1) n (λ i l. h i (omega arith)))

-- and the last of them stands behind the others
slots_last : (k p w : List ℕ) (a n : ℕ) → slots k p w a (suc n) ≡ slots k p w a n ++ (slot_at k p w (a + n) ∷ [])
slots_last k p w a zero = rw (add-zero a)
slots_last k p w a (suc n) =
    let same : a + 1 + n ≡ a + suc n = omega arith in
    ap (λ (ls : List Slot). slot_at k p w a ∷ ls) (slots_last k p w (a + 1) n ∙ ap (λ (i : ℕ). slots k p w (a + 1) n ++ (slot_at k p w i ∷ [])) same)

map_last : (got : List RawArc) (a : RawArc) → map slot_of (got ++ (a ∷ [])) ≡ map slot_of got ++ (slot_of a ∷ [])
map_last [] a = refl
map_last (b ∷ got) a = ap (λ (ls : List Slot). slot_of b ∷ ls) (map_last got a)

-- a table filled from one slot more
filled_last : (f : Slot → ℕ) (a : ℕ) (ls : List Slot) (l : Slot) (xs : List ℕ) → filled f a (ls ++ (l ∷ [])) xs ≡ set (filled f a ls xs) (a + length ls) (f l)
filled_last f a [] l xs = ap (λ (i : ℕ). set xs i (f l)) (sym (add-zero a))
filled_last f a (b ∷ ls) l xs =
    let same : suc a + length ls ≡ a + suc (length ls) = omega arith in
    filled_last f (suc a) ls l (set xs a (f b)) ∙ ap (λ (i : ℕ). set (filled f (suc a) ls (set xs a (f b))) i (f l)) same

any_last : (got : List RawArc) (a : RawArc) → any bad_arc (got ++ (a ∷ [])) ≡ (any bad_arc got || bad_arc a)
any_last [] a = or_false (bad_arc a)
  where
    or_false : (x : Bool) → (x || false) ≡ x
    or_false true = refl
    or_false false = refl
any_last (b ∷ got) a = ap (λ (x : Bool). bad_arc b || x) (any_last got a) ∙ sym (or_assoc (bad_arc b) (any bad_arc got) (bad_arc a))

-- ---- the loop

pub record Walk (t : Bytes) (base : ℕ) (n₀ n : NetRecord) (count : ℕ) (strange : Bool) (left : Bytes) : Type 0 where
  pub got : List RawArc
  pub are : many next_arc t ≡ behind (many next_arc left) (joined got)
  pub few : count + length left ≤ length t
  pub count_is : count ≡ length got
  pub strange_is : strange ≡ any bad_arc got
  pub filled : Filled base got n₀ n
  pub kept : SlotsKept base n₀ n

none_joined : {A : Type 0} (m : Met (List A)) → m ≡ behind m (joined [])
none_joined wrong = refl
none_joined (met a r) = refl

pub nothing_kept : (base : ℕ) (n : NetRecord) → Sized n → SlotsKept base n n
nothing_kept base n sized =
    record {
      others = refl;
      kind_before = λ a b. refl;
      place_before = λ a b. refl;
      weight_before = λ a b. refl;
      sized = sized;
    }

pub walk_none : (t : Bytes) (base : ℕ) (n : NetRecord) → Sized n → Walk t base n n 0 false t
walk_none t base n sized =
    record {
      got = [];
      are = none_joined (many next_arc t);
      few = omega arith;
      count_is = refl;
      strange_is = refl;
      filled = record { stored = λ s. refl; kind_filled = λ s. refl; place_filled = λ s. refl; weight_filled = λ s. refl };
      kept = nothing_kept base n sized;
    }

module _ (t : Bytes) (base : ℕ) (n₀ n : NetRecord) (count : ℕ) (strange : Bool) (left : Bytes) (w : Walk t base n₀ n count strange left) where
  module _ (a : ArcSeen) (rest : Bytes) (e : through seen_arc (next_arc left) ≡ met (shown a) rest) where
    -- an arc takes a byte or more
    pub walk_less : length rest < length left
    walk_less = let c = came_by left a rest (next_arc left) refl e in takes_arc left c.raw rest c.is

    slots_more : (raw : RawArc) → seen_arc raw ≡ shown a → base + 16 ≤ 1024 → length (w.got ++ (raw ∷ [])) ≤ 16
        → slots (stored base count a.kind n.kind) (stored base count a.place n.place) (stored base count a.weight n.weight) base (length (w.got ++ (raw ∷ [])))
        ≡ map slot_of (w.got ++ (raw ∷ []))
    slots_more raw s room h =
        let long : length (w.got ++ (raw ∷ [])) ≡ suc (length w.got) = length-append w.got (raw ∷ []) ∙ add-one (length w.got) in
        let m = length w.got in
        let k = stored base m a.kind n.kind in
        let p = stored base m a.place n.place in
        let v = stored base m a.weight n.weight in
        let before : slots k p v base m ≡ slots n.kind n.place n.weight base m =
        slots_same k p v n.kind n.place n.weight base m
        (λ i b. rw (stored_before base m a.kind n.kind i b, stored_before base m a.place n.place i b, stored_before base m a.weight n.weight i b)) in
        let last : slot_at k p v (base + m) ≡ slot_of raw =
        rw (
          stored_there base m a.kind n.kind (omega arith) (omega (arith, w.kept.sized.kinds)),
          stored_there base m a.place n.place (omega arith) (omega (arith, w.kept.sized.places)),
          stored_there base m a.weight n.weight (omega arith) (omega (arith, w.kept.sized.weights)),
        )
        (sym (ap (λ (x : SeenArc). x.slot) s)) in
        rw (w.count_is, long)
        (slots_last k p v base m ∙ ap (λ (ls : List Slot). ls ++ (slot_at k p v (base + m) ∷ [])) (before ∙ w.filled.stored (omega arith))
        ∙ ap (λ (x : Slot). map slot_of w.got ++ (x ∷ [])) last
        ∙ sym (map_last w.got raw))

    filled_more : (f : Slot → ℕ) (v : ℕ) (xs₀ xs : List ℕ) (raw : RawArc) → f (slot_of raw) ≡ v
        → (length w.got ≤ 16 → xs ≡ filled f base (map slot_of w.got) xs₀) → length (w.got ++ (raw ∷ [])) ≤ 16
        → stored base count v xs ≡ filled f base (map slot_of (w.got ++ (raw ∷ []))) xs₀
    filled_more f v xs₀ xs raw s earlier h =
        let long : length (w.got ++ (raw ∷ [])) ≡ suc (length w.got) = length-append w.got (raw ∷ []) ∙ add-one (length w.got) in
        let there : base + count ≡ base + length (map slot_of w.got) = omega (arith, w.count_is, length-map w.got slot_of) in
        sym (stored_yes base count v xs (omega (arith, w.count_is)))
        ∙ ap (λ (ys : List ℕ). set ys (base + count) v) (earlier (omega arith))
        ∙ ap (λ (i : ℕ). set (filled f base (map slot_of w.got) xs₀) i v) there
        ∙ ap (λ (u : ℕ). set (filled f base (map slot_of w.got) xs₀) (base + length (map slot_of w.got)) u) (sym s)
        ∙ sym (filled_last f base (map slot_of w.got) (slot_of raw) xs₀)
        ∙ ap (λ (ls : List Slot). filled f base ls xs₀) (sym (map_last w.got raw))

    more : base + 16 ≤ 1024 → Walk t base n₀ (with_arc n base count a) (count + 1) (strange || a.strange) rest
    more room =
        let c = came_by left a rest (next_arc left) refl e in
        record {
          got = w.got ++ (c.raw ∷ []);
          are = w.are ∙ many_next next_arc takes_arc w.got left c.raw rest c.is;
          few = omega (arith, w.few, walk_less);
          count_is = omega (arith, w.count_is, length-append w.got (c.raw ∷ []));
          strange_is = rw w.strange_is (ap (λ (x : SeenArc). any bad_arc w.got || x.strange) (sym c.seen_as) ∙ sym (any_last w.got c.raw));
          filled =
              record {
                stored = slots_more c.raw c.seen_as room;
                kind_filled = filled_more (λ (x : Slot). x.kind) a.kind n₀.kind n.kind c.raw (ap (λ (x : SeenArc). x.slot.kind) c.seen_as) w.filled.kind_filled;
                place_filled =
                    filled_more (λ (x : Slot). x.place) a.place n₀.place n.place c.raw (ap (λ (x : SeenArc). x.slot.place) c.seen_as) w.filled.place_filled;
                weight_filled =
                    filled_more (λ (x : Slot). x.weight) a.weight n₀.weight n.weight c.raw (ap (λ (x : SeenArc). x.slot.weight) c.seen_as)
                    w.filled.weight_filled;
              };
          kept =
              record {
                others =
                    ap (λ (m : NetRecord). with_slots m (stored base count a.kind n.kind) (stored base count a.place n.place) (stored base count a.weight n.weight))
                    w.kept.others;
                kind_before = λ i b. stored_before base count a.kind n.kind i (omega arith) ∙ w.kept.kind_before i b;
                place_before = λ i b. stored_before base count a.place n.place i (omega arith) ∙ w.kept.place_before i b;
                weight_before = λ i b. stored_before base count a.weight n.weight i (omega arith) ∙ w.kept.weight_before i b;
                sized =
                    record {
                      kinds = stored_length base count a.kind n.kind ∙ w.kept.sized.kinds;
                      places = stored_length base count a.place n.place ∙ w.kept.sized.places;
                      weights = stored_length base count a.weight n.weight ∙ w.kept.sized.weights;
                    };
              };
        }

    pub walk_more : base + 16 ≤ 1024 → (n' : NetRecord) → n' ≡ with_arc n base count a → Walk t base n₀ n' (count + 1) (strange || a.strange) rest
    walk_more room n' is = rw is (more room)

  pub walk_end : through seen_arc (next_arc left) ≡ wrong → ArcsRead t base n₀ n (record { count = count; strange = strange }) left
  walk_end e =
      record {
        arcs = w.got;
        are = w.are ∙ many_end next_arc w.got left (none_by (next_arc left) e);
        count = w.count_is;
        strange = w.strange_is;
        filled = w.filled;
        kept = w.kept;
      }
