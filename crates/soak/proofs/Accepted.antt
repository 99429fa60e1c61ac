-- The text is accepted, and its net is the stated one: every place and every transition passes the reader's tests, so what is written reads back.
-- Assumes nothing.
use Prim.Native.Nat.{ℕ, zero, suc, ◌+◌, ◌%◌, ◌/◌, ◌^◌, ◌≤◌, ◌<◌}
use native.Mathlib.Omega.{arith}
use native.Mathlib.Nat.{mod-lt}
use mathlib.Core.Path.{◌≡◌, refl, sym, ap, ◌∙◌}
use mathlib.Core.Bool.{Bool, true, false, ◌&&◌}
use mathlib.Core.List.{List, [], ◌∷◌, ◌++◌}
use mathlib.Core.Option.{none}
use lib.Dec.{eqb, T}
use lib.ListN.{length}
use lib.Ieee.{binary64, of_bits, fits, le, lt, eq, is_nan}
use lib.Ieee.Bits.{of_bits-fits}
use borrow.Author.Tests.{eqb-true, ne_eqb, le-leb, lt-leb, lt-ltb, le-ltb}
use Rattle.net.specs.Net.{Place, numbered, zero64}
use Rattle.net.specs.Tests.{first_of, any, empty, place_tests, move_tests, rate_fits, delay_fits}
use Rattle.net.specs.Labels.{label_byte, every, label_fits, label_tests}
use Rattle.rng.specs.State.{State}
use Rattle.rng.specs.Xoshiro.{output, step}
use Rattle.text.specs.Text.{Bytes, same}
use Rattle.text.specs.Numbers.{digit, leading_digits, decimal_text}
use Rattle.net_text.specs.Forms.{met, decimal}
use Rattle.net_text.proofs.Written.{decimal_reads}
use Rattle.net_writing.specs.Writable.{PlacesFit, MovesFit, Writable}
use Rattle.net_writing.proofs.Lined.{plain}
use Rattle.net_writing.proofs.Reread.{reread}
use Rattle.soak.specs.Soak.{start, choice, after, places_from, rate_from, moving, moves_from, soak_net, soak_label, soak_labels, soak_run, soak_text}
use Rattle.soak.specs.Published.{AllPublished}
use Rattle.soak.proofs.Bound.{Sizes, sizes, two_digits, text_bound}

-- ---- labels

every_more : (s t : Bytes) → every label_byte s ≡ true → every label_byte t ≡ true → every label_byte (s ++ t) ≡ true
every_more [] t h k = k
every_more (b ∷ s) t h k = both (label_byte b) (every label_byte s) (every label_byte (s ++ t)) h (λ e. every_more s t e k)
  where
    both : (a b c : Bool) → a && b ≡ true → (b ≡ true → c ≡ true) → a && c ≡ true
    both true b c e f = f e
    both false b c e f = e

digit_fits : (d : ℕ) → d < 10 → every label_byte (digit d ∷ []) ≡ true
digit_fits d h =
    rw (lt-ltb d 10 h, lt-leb 97 (48 + d) (omega arith), le-leb 48 (48 + d) (omega arith), le-leb (48 + d) 57 (omega arith))

leading_fits : (k n : ℕ) → every label_byte (leading_digits k n) ≡ true
leading_fits zero n = refl
leading_fits (suc k) zero = refl
leading_fits (suc k) (suc n) =
    every_more (leading_digits k (suc n / 10)) (digit (suc n % 10) ∷ []) (leading_fits k (suc n / 10)) (digit_fits (suc n % 10) (omega arith))

decimal_fits : (n : ℕ) → every label_byte (decimal_text n) ≡ true
decimal_fits n = every_more (leading_digits n (n / 10)) (digit (n % 10) ∷ []) (leading_fits n (n / 10)) (digit_fits (n % 10) (omega arith))

label_fits_lem : (k : ℕ) → k < 32 → label_fits (soak_label k) ≡ true
label_fits_lem k h =
    let long = two_digits k (omega arith) in
    rw (le-leb 1 (suc (length (decimal_text k))) (omega arith), le-leb (suc (length (decimal_text k))) 16 (omega arith)) (decimal_fits k)

-- a decimal says its number, so two numbers have two decimals
decimal_once : (j k : ℕ) → decimal_text j ≡ decimal_text k → j ≡ k
decimal_once j k e =
    let met-same : met (plain j) [] ≡ met (plain k) [] =
    sym (decimal_reads j [] tt) ∙ ap (λ (t : Bytes). decimal (t ++ [])) e ∙ decimal_reads k [] tt in
    let number : plain j ≡ plain k = cc in
    ap (λ d. d.value) number

same_is : (s t : Bytes) → same s t ≡ true → s ≡ t
same_is [] [] e = refl
same_is [] (c ∷ t) e = let z : ◌≡◌ {A = ℕ} 0 1 = cc in absurd (omega arith)
same_is (b ∷ s) [] e = let z : ◌≡◌ {A = ℕ} 0 1 = cc in absurd (omega arith)
same_is (b ∷ s) (c ∷ t) e =
    let two = both (eqb b c) (same s t) e in
    let first : b ≡ c = eqb-true b c two.0 in
    let rest : s ≡ t = same_is s t two.1 in
    rw (first, rest)
  where
    both : (a b : Bool) → a && b ≡ true → (a ≡ true) × (b ≡ true)
    both true b e = (refl, e)
    both false b e = let z : ◌≡◌ {A = ℕ} 0 1 = cc in absurd (omega arith)

apart_by : (j k : ℕ) (x : Bool) → same (decimal_text k) (decimal_text j) ≡ x → j < k → same (decimal_text k) (decimal_text j) ≡ false
apart_by j k true e h = absurd (let one : k ≡ j = decimal_once k j (same_is (decimal_text k) (decimal_text j) e) in omega arith)
apart_by j k false e h = e

-- no earlier place has the label
unused : (k j m : ℕ) → j + m ≤ k → any (same (soak_label k)) (numbered soak_label j m) ≡ false
unused k j zero h = refl
unused k j (suc m) h = rw (apart_by j k (same (decimal_text k) (decimal_text j)) refl (omega arith)) (unused k (suc j) m (omega arith))

numbered_last : (j m : ℕ) → numbered soak_label j m ++ (soak_label (j + m) ∷ []) ≡ numbered soak_label j (suc m)
numbered_last j zero = let none : j + 0 ≡ j = omega arith in rw none
numbered_last j (suc m) =
    let next : j + suc m ≡ suc j + m = omega arith in
    rw next (ap (λ (l : List Bytes). soak_label j ∷ l) (numbered_last (suc j) m))

-- ---- places

place_passes : (k : ℕ) (q : Place) → k < 32 → q.initial < 10 → q.capacity ≡ 0
    → first_of (place_tests k false q ++ label_tests (numbered soak_label 0 k) (soak_label k)) ≡ none
place_passes k q h low none-at =
    rw (
      lt-leb 32 k h,
      le-ltb (2 ^ 53) q.initial (omega arith),
      le-ltb (2 ^ 53) q.capacity (omega arith),
      label_fits_lem k h,
      unused k 0 k (omega arith),
    )

places_pass : (number k : ℕ) (s : State) → number + k ≤ 32 → PlacesFit number (numbered soak_label 0 number) (places_from k s) (numbered soak_label number k)
places_pass number zero s h = tt
places_pass number (suc k) s h =
    let last = numbered_last 0 number in
    let start-at : 0 + number ≡ number = omega arith in (
      place_passes number (record { initial = choice s 10; capacity = 0 }) (omega arith) (mod-lt (output s) (omega arith)) refl,
      rw (rw start-at at last) (places_pass (suc number) k (step s) (omega arith)),
    )

-- ---- transitions

rate_fits_lem : (c : ℕ) → rate_fits (rate_from c) ≡ true
unfolding of_bits le lt eq is_nan
rate_fits_lem zero = refl
rate_fits_lem (suc zero) = refl
rate_fits_lem (suc (suc zero)) = refl
rate_fits_lem (suc (suc (suc c))) = refl

rate_held : (c : ℕ) → T (fits binary64 (rate_from c))
rate_held zero = of_bits-fits binary64 _
rate_held (suc zero) = of_bits-fits binary64 _
rate_held (suc (suc zero)) = of_bits-fits binary64 _
rate_held (suc (suc (suc c))) = of_bits-fits binary64 _

no_delay_fits : delay_fits zero64 ≡ true
unfolding of_bits le lt eq is_nan
no_delay_fits = refl

no_delay : lt zero64 zero64 ≡ false
unfolding of_bits le lt eq is_nan
no_delay = refl

move_passes : (places before taken put rate : ℕ) → 1 ≤ places → before < 64 → taken < places → put < places
    → first_of (move_tests places before false (moving taken put rate)) ≡ none
move_passes places before taken put rate h few a b =
    rw (
      ne_eqb places 0 (λ e. omega arith),
      lt-leb 64 before few,
      lt-leb places taken a,
      lt-leb places put b,
      rate_fits_lem rate,
      no_delay_fits,
      no_delay,
    )

moves_pass : (places before k : ℕ) (s : State) → 1 ≤ places → before + k ≤ 64 → MovesFit places before (moves_from places k s)
moves_pass places before zero s h few = tt
moves_pass places before (suc k) s h few = (
  move_passes places before (choice s places) (choice (step s) places) (choice (step (step s)) 4) h (omega arith) (mod-lt (output s) h) (mod-lt (output (step s)) h),
  rate_held (choice (step (step s)) 4),
  of_bits-fits binary64 0,
  moves_pass places (suc before) k (step (step (step s))) h (omega arith),
)

-- ---- the whole

places_count : (k : ℕ) (s : State) → length (places_from k s) ≡ k
places_count zero s = refl
places_count (suc k) s = ap suc (places_count k (step s))

some_place : (k : ℕ) (s : State) → 1 ≤ k → empty (places_from k s) ≡ false
some_place zero s h = absurd (omega arith)
some_place (suc k) s h = refl

writable : (seed places transitions : ℕ) → seed < 2 ^ 64 → Sizes places transitions → Writable (soak_net seed places transitions) (soak_labels places) (soak_run seed)
unfolding soak_net soak_text
writable seed places transitions h z =
    let some : 1 ≤ places = z.some_place in
    let few : places ≤ 32 = z.few_places in
    let moves : transitions ≤ 16 = z.few_moves in
    let short = text_bound seed places transitions h z in
    record {
      some_place = some_place places (start seed) some;
      places = places_pass 0 places (start seed) (omega arith);
      transitions = rw (places_count places (start seed)) (moves_pass places 0 transitions (after places (start seed)) some (omega arith));
      samples = omega arith;
      realizations = omega arith;
      seed = h;
      horizon = omega arith;
      short = omega arith;
    }

accepted_is : (seed places transitions : ℕ) → Writable (soak_net seed places transitions) (soak_labels places) (soak_run seed)
    → Rattle.net_text.specs.Reading.read (soak_text seed places transitions) ≡ Rattle.net_text.specs.Reading.given (soak_net seed places transitions) (soak_labels places) (soak_run seed)
unfolding soak_text
accepted_is seed places transitions w = reread (soak_net seed places transitions) (soak_labels places) (soak_run seed) w

pub published : AllPublished
published seed places transitions h e =
    let z = sizes places transitions e in
    record { accepted = accepted_is seed places transitions (writable seed places transitions h z); short = text_bound seed places transitions h z }
