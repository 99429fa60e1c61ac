-- The tests of a path call, in their order. The instants are tested one by one: what is left to test from here is the whole. Each answer of the
-- call is the definition's by the tests that led to it. Assumes nothing.
use Prim.Native.Nat.{ℕ, ◌+◌, ◌*◌, ◌^◌, ◌≤◌, ◌<◌}
use mathlib.Core.Path.{◌≡◌, refl, sym, ap, ◌∙◌, subst}
use mathlib.Core.Bool.{Bool, true, false, ◌&&◌, and-false}
use mathlib.Core.List.{List}
use mathlib.Core.Option.{Option, none, some}
use native.Mathlib.Omega.{arith}
use native.Mathlib.Nat.{mul-le-mul}
use native.Mathlib.Numerals.{add-one}
use lib.Dec.{leb}
use lib.ListN.{length, get_or, drop, drop_of_length-le}
use lib.Seq.{drop-cons}
use lib.Ieee.{Float, nan, binary64, of_bits, le}
use borrow.Author.Tests.{le-leb, lt-leb, leb-true}
use Rattle.refusals.specs as Refusal
use Rattle.net.specs.declared.Net.{Net as NetRecord}
use Rattle.net.specs.Net.{Net, pick, zero64}
use Rattle.net.specs.Readable.{readable, fault}
use Rattle.net.specs.Sound.{Sound}
use Rattle.net.specs.Tests.{or_else}
use Rattle.net.proofs.Lengths.{places_length}
use Rattle.rng.specs.State.{State as Generator}
use Rattle.rules.specs.Shown.{rising, instants_fit, limit_fits, worked}
use Rattle.rules.specs.Carried.{play_on, begun}
use Rattle.rules.proofs.Order.{both}
use Rattle.rules.proofs.TakesOnce.{no_some}
use Rattle.ssa.specs.Path.{Call, turned_down, played, table_fits, call_fault, unless_fault, called}
use Rattle.ssa.specs.Halted as Naming
use Rattle.ssa.specs.Halted.{unbegun, naming}
use Rattle.engine.proofs.Arcs.{and_stop, and_go}

-- ---- the instants

abbrev pub in_time : Float → Float → Bool
in_time low x = le low x && le x (of_bits binary64 0x41E0_0000_0000_0000)

-- the loop over them, whose whole is t: it stops at one that does not fit, goes on past any other, and ends
module _ (xs : List Float) (i : ℕ) (low : Float) {t : Bool} (inv : rising low (drop i xs) ≡ t) where
  turn : i < length xs → t ≡ (in_time low (get_or xs i nan) && rising (get_or xs i nan) (drop (i + 1) xs))
  turn h =
      let x = get_or xs i nan in
      sym inv ∙ ap (rising low) (drop-cons xs i nan h) ∙ ap (λ (j : ℕ). in_time low x && rising x (drop j xs)) (sym (add-one i))

  pub instants_stop : i < length xs → in_time low (get_or xs i nan) ≡ false → false ≡ t
  instants_stop h = and_stop _ _ (turn h)

  pub instants_go : i < length xs → in_time low (get_or xs i nan) ≡ true → rising (get_or xs i nan) (drop (i + 1) xs) ≡ t
  instants_go h = and_go _ _ (turn h)

  pub instants_end : length xs ≤ i → true ≡ t
  instants_end h = sym (ap (rising low) (drop_of_length-le xs h)) ∙ inv

-- their number
module _ (xs : List Float) where
  pub too_few : length xs ≡ 0 → false ≡ instants_fit xs
  too_few e = sym (ap (λ (n : ℕ). leb 1 n && leb n 1024 && rising zero64 xs) e)

  pub too_many : 1024 < length xs → false ≡ instants_fit xs
  too_many h =
      sym
      (ap (λ (b : Bool). leb 1 (length xs) && b && rising zero64 xs) (lt-leb (length xs) 1024 h)
      ∙ ap (λ (b : Bool). b && rising zero64 xs) (and-false (leb 1 (length xs))))

  pub few_enough : 1 ≤ length xs → length xs ≤ 1024 → rising zero64 xs ≡ instants_fit xs
  few_enough h k =
      sym
      (ap (λ (b : Bool). b && leb (length xs) 1024 && rising zero64 xs) (le-leb 1 (length xs) h)
      ∙ ap (λ (b : Bool). b && rising zero64 xs) (le-leb (length xs) 1024 k))

-- instants that fit
pub record Fitting (xs : List Float) : Type 0 where
  pub some_instant : 1 ≤ length xs
  pub few : length xs ≤ 1024
  pub risen : rising zero64 xs ≡ true

pub fitting : (xs : List Float) → instants_fit xs ≡ true → Fitting xs
fitting xs e =
    let outer = both (leb 1 (length xs) && leb (length xs) 1024) (rising zero64 xs) e in
    let inner = both (leb 1 (length xs)) (leb (length xs) 1024) outer.0 in
    record { some_instant = leb-true 1 (length xs) inner.0; few = leb-true (length xs) 1024 inner.1; risen = outer.1 }

-- ---- the places

-- places times instants
pub cells_fit : (p n : ℕ) → p ≤ 32 → n ≤ 1024 → p * n < 2 ^ 64
cells_fit p n h k = let m : p * n ≤ 32 * 1024 = mul-le-mul h k in omega arith

-- ---- the tidied net r of n: the same places, initial counts and reading

pub first_small : (r n : NetRecord) → Sound n → r.places ≡ n.places → r.initial ≡ n.initial → (p : ℕ) → p < r.places → get_or r.initial p 0 ≤ 2 ^ 53
first_small r n s e f p h =
    subst (λ (xs : List ℕ). get_or xs p 0 ≤ 2 ^ 53) (sym f) (s.initial p (subst (λ (k : ℕ). p < k) e h))

pub same_room : {p q : ℕ} (i l : ℕ) → p ≡ q → q * i ≤ l → p * i ≤ l
same_room i l e h = subst (λ (k : ℕ). k * i ≤ l) (sym e) h

pub same_run : {x : Call} (places : ℕ) (g : Generator) (xs : List Float) (k : ℕ) (table : List Float) {m n : Net} → m ≡ n
    → x ≡ played places (length xs) g table (worked m g xs k) → x ≡ played places (length xs) g table (worked n g xs k)
same_run places g xs k table e h = h ∙ ap (λ (z : Net). played places (length xs) g table (worked z g xs k)) e

-- ---- the tests of a call

module _ (n : NetRecord) (xs : List Float) (k : ℕ) (table : List Float) where
  abbrev pub tested : Option ℕ → Bool → Bool → Bool → Option ℕ
  tested f a b d =
      or_else f (pick a (pick b (pick d none (some Refusal.short_table)) (some Refusal.bad_limit)) (some Refusal.bad_instants))

  pub fault_by : {f : Option ℕ} {a b d : Bool} → fault n ≡ f → instants_fit xs ≡ a → limit_fits k ≡ b → table_fits n.places (length xs) table ≡ d
      → call_fault n xs k table ≡ tested f a b d
  fault_by e f g h = λ i. tested (e i) (f i) (g i) (h i)

  -- what is known of a call that meets none
  pub record Passed : Type 0 where
    pub sound : fault n ≡ none
    pub instants : instants_fit xs ≡ true
    pub limits : limit_fits k ≡ true
    pub room : n.places * length xs ≤ length table

  pub passed : none ≡ call_fault n xs k table → Passed
  passed e = go (fault n) (instants_fit xs) (limit_fits k) (table_fits n.places (length xs) table) refl refl refl refl (sym e)
    where
      go : (f : Option ℕ) (a b d : Bool) → fault n ≡ f → instants_fit xs ≡ a → limit_fits k ≡ b → table_fits n.places (length xs) table ≡ d
          → tested f a b d ≡ none → Passed
      go none true true true x y z v q = record { sound = x; instants = y; limits = z; room = leb-true _ _ v }
      go none true true false x y z v q = no_some q
      go none true false d x y z v q = no_some q
      go none false b d x y z v q = no_some q
      go (some c) a b d x y z v q = no_some q

-- ---- the call, by the first test that it meets

module _ (n : NetRecord) (g : Generator) (xs : List Float) (k : ℕ) (table : List Float) where
  abbrev run : ℕ → Call
  run places = played places (length xs) g table (worked (readable n) g xs k)

  abbrev answer : Option ℕ → Bool → Bool → ℕ → Bool → Call
  answer f a b places d =
      unless_fault f g table
      (pick a (pick b (pick d (run places) (turned_down Refusal.short_table g table)) (turned_down Refusal.bad_limit g table)) (turned_down Refusal.bad_instants g table))

  pub called_by : {o : Option ℕ} → o ≡ call_fault n xs k table → unless_fault o g table (run n.places) ≡ called n g xs k table
  unfolding called
  called_by e =
      ap (λ (o : Option ℕ). unless_fault o g table (run n.places)) e
      ∙ sym (go (fault n) (instants_fit xs) (limit_fits k) (table_fits n.places (length xs) table))
      ∙ sym (ap (λ (p : ℕ). answer (fault n) (instants_fit xs) (limit_fits k) p (table_fits p (length xs) table)) (places_length n))
    where
      go : (f : Option ℕ) (a b d : Bool) → answer f a b n.places d ≡ unless_fault (tested n xs k table f a b d) g table (run n.places)
      go none true true true = refl
      go none true true false = refl
      go none true false d = refl
      go none false b d = refl
      go (some c) a b d = refl

-- one that names a number of steps
module _ (n : NetRecord) (g : Generator) (xs : List Float) (limit named : ℕ) (table : List Float) where
  abbrev nothing : Naming.Standing
  nothing = unbegun n.places g

  abbrev naming_run : ℕ → Naming.Call
  naming_run places = Naming.played places (length xs) 0 nothing table (play_on 256 (readable n) (begun (readable n) g xs limit) named)

  abbrev naming_answer : Option ℕ → Bool → Bool → ℕ → Bool → Naming.Call
  naming_answer f a b places d =
      Naming.unless_fault f nothing table
      (pick a
      (pick b (pick d (naming_run places) (Naming.turned_down Refusal.short_table nothing table)) (Naming.turned_down Refusal.bad_limit nothing table))
      (Naming.turned_down Refusal.bad_instants nothing table))

  pub naming_by : {o : Option ℕ} → o ≡ call_fault n xs limit table → Naming.unless_fault o nothing table (naming_run n.places) ≡ naming n g xs limit named table
  unfolding naming
  naming_by e =
      ap (λ (o : Option ℕ). Naming.unless_fault o nothing table (naming_run n.places)) e
      ∙ sym (go (fault n) (instants_fit xs) (limit_fits limit) (table_fits n.places (length xs) table))
      ∙ sym (ap (λ (p : ℕ). naming_answer (fault n) (instants_fit xs) (limit_fits limit) p (table_fits p (length xs) table)) (places_length n))
    where
      go : (f : Option ℕ) (a b d : Bool) → naming_answer f a b n.places d ≡ Naming.unless_fault (tested n xs limit table f a b d) nothing table (naming_run n.places)
      go none true true true = refl
      go none true true false = refl
      go none true false d = refl
      go none false b d = refl
      go (some c) a b d = refl
