-- No text has more than 1,614 bytes: 15 or 16 bytes a place, at most 66 a transition, at most 49 for the run line. Assumes nothing.
use Prim.Native.Nat.{ℕ, zero, suc, ◌+◌, ◌-◌, ◌*◌, ◌/◌, ◌^◌, ◌≤◌, ◌<◌}
use native.Mathlib.Omega.{arith}
use native.Mathlib.Nat.{mod-lt}
use mathlib.Core.Path.{◌≡◌, refl, ap, ◌∙◌}
use mathlib.Core.Bool.{Bool, true, false, ◌&&◌}
use mathlib.Core.List.{List, ◌++◌}
use lib.Dec.{leb, ltb}
use lib.ListN.{length, length-append}
use borrow.Author.Tests.{leb-true, ltb-true, ltb-false}
use Rattle.rng.specs.State.{State}
use Rattle.rng.specs.Xoshiro.{output, step}
use Rattle.text.specs.Text.{Bytes, bytes}
use Rattle.text.specs.Numbers.{decimal_text, float_text}
use Rattle.text.proofs.Digits.{count_of, count_zero, count_tenth, decimal_length, decimal_short, float_length}
use Rattle.net_writing.specs.Writing.{together}
use Rattle.soak.specs.Soak.{start, choice, after, rate_from, sized, soak_text}
use Rattle.soak.specs.Words.{place_words, places_words, move_words, moves_words, run_words, all_the_words}
use Rattle.soak.proofs.Texts.{together_more, whole_text}

-- ---- digits

pub one_digit : (n : ℕ) → n < 10 → length (decimal_text n) ≡ 1
one_digit n h =
    let none : n / 10 ≡ 0 = omega arith in
    decimal_length n ∙ ap (λ (m : ℕ). count_of m + 1) none

count_low : (m : ℕ) → m < 10 → count_of m ≤ 1
count_low zero h = omega (arith, count_zero)
count_low (suc m) h =
    let none : suc m / 10 ≡ 0 = omega arith in
    omega (arith, count_tenth (suc m) (omega arith), ap count_of none, count_zero)

pub two_digits : (n : ℕ) → n < 100 → length (decimal_text n) ≤ 2
two_digits n h = omega (arith, decimal_length n, count_low (n / 10) (omega arith))

-- ---- what P and T may be

pub record Sizes (places transitions : ℕ) : Type 0 where
  pub some_place : 1 ≤ places
  pub few_places : places ≤ 32
  pub some_move : 1 ≤ transitions
  pub few_moves : transitions ≤ 16

both : (a b : Bool) → a && b ≡ true → (a ≡ true) × (b ≡ true)
both true b e = (refl, e)
both false b e = let z : ◌≡◌ {A = ℕ} 0 1 = cc in absurd (omega arith)

pub sizes : (places transitions : ℕ) → sized places transitions ≡ true → Sizes places transitions
sizes places transitions e =
    let c = both (leb 1 places && leb places 32 && leb 1 transitions) (leb transitions 16) e in
    let b = both (leb 1 places && leb places 32) (leb 1 transitions) c.0 in
    let a = both (leb 1 places) (leb places 32) b.0 in
    record {
      some_place = leb-true 1 places a.0;
      few_places = leb-true places 32 a.1;
      some_move = leb-true 1 transitions b.1;
      few_moves = leb-true transitions 16 c.1;
    }

-- ---- lines

place_length : (initial number : ℕ) → initial < 10 → length (together (place_words initial number)) ≡ 14 + length (decimal_text number)
place_length initial number h =
    omega (
      arith,
      length-append (decimal_text initial) (bytes " 0 q" ++ (decimal_text number ++ bytes ")\n")),
      length-append (decimal_text number) (bytes ")\n"),
      one_digit initial h,
    )

place_bound : (initial number : ℕ) (x : Bool) → ltb number 10 ≡ x → initial < 10 → number < 32
    → length (together (place_words initial number)) + (10 - number) ≤ 16 + (10 - (number + 1))
place_bound initial number true e h k =
    omega (arith, place_length initial number h, one_digit number (ltb-true number 10 e), ltb-true number 10 e)
place_bound initial number false e h k =
    omega (arith, place_length initial number h, two_digits number (omega arith), ltb-false number 10 e)

-- the first ten labels are a byte shorter than the others
places_bound : (number k : ℕ) (s : State) → number + k ≤ 32
    → length (together (places_words number k s)) + (10 - number) ≤ 16 * k + (10 - (number + k))
places_bound number zero s h = omega arith
places_bound number (suc k) s h =
    let low : choice s 10 < 10 = mod-lt (output s) (omega arith) in
    let here = place_bound (choice s 10) number (ltb number 10) refl low (omega arith) in
    let later = places_bound (suc number) k (step s) (omega arith) in
    let sum = ap length (together_more (place_words (choice s 10) number) (places_words (suc number) k (step s))) in
    omega (arith, sum, length-append (together (place_words (choice s 10) number)) (together (places_words (suc number) k (step s))))

move_bound : (taken put rate : ℕ) → taken < 32 → put < 32 → length (together (move_words taken put rate)) ≤ 66
move_bound taken put rate h k =
    let f : Bytes = float_text (rate_from rate) in
    omega (
      arith,
      length-append f (bytes " 0000000000000000 (take " ++ (decimal_text taken ++ (bytes " 1 1) (put " ++ (decimal_text put ++ bytes " 1))\n")))),
      length-append (decimal_text taken) (bytes " 1 1) (put " ++ (decimal_text put ++ bytes " 1))\n")),
      length-append (decimal_text put) (bytes " 1))\n"),
      float_length (rate_from rate),
      two_digits taken (omega arith),
      two_digits put (omega arith),
    )

moves_bound : (places k : ℕ) (s : State) → 1 ≤ places → places ≤ 32 → length (together (moves_words places k s)) ≤ 66 * k
moves_bound places zero s h few = omega arith
moves_bound places (suc k) s h few =
    let taken : choice s places < places = mod-lt (output s) h in
    let put : choice (step s) places < places = mod-lt (output (step s)) h in
    let here = move_bound (choice s places) (choice (step s) places) (choice (step (step s)) 4) (omega arith) (omega arith) in
    let later = moves_bound places k (step (step (step s))) h few in
    let one : List Bytes = move_words (choice s places) (choice (step s) places) (choice (step (step s)) 4) in
    let rest : List Bytes = moves_words places k (step (step (step s))) in
    let sum = ap length (together_more one rest) in
    omega (arith, sum, length-append (together one) (together rest))

run_bound : (seed : ℕ) → seed < 2 ^ 64 → length (together (run_words seed)) ≤ 51
run_bound seed h = omega (arith, length-append (decimal_text seed) (bytes " 4024000000000000)\n)\n"), decimal_short seed h)

pub words_bound : (seed places transitions : ℕ) → seed < 2 ^ 64 → Sizes places transitions
    → length (bytes "(net\n" ++ together (all_the_words seed places transitions)) ≤ 1614
words_bound seed places transitions h z =
    let s : State = start seed in
    let pw : List Bytes = places_words 0 places s in
    let mw : List Bytes = moves_words places transitions (after places s) in
    let run : List Bytes = run_words seed in
    let few : places ≤ 32 = z.few_places in
    let moves : transitions ≤ 16 = z.few_moves in
    omega (
      arith,
      ap length (together_more pw (mw ++ run)),
      length-append (together pw) (together (mw ++ run)),
      ap length (together_more mw run),
      length-append (together mw) (together run),
      places_bound 0 places s (omega arith),
      moves_bound places transitions (after places s) z.some_place z.few_places,
      run_bound seed h,
    )

pub text_bound : (seed places transitions : ℕ) → seed < 2 ^ 64 → Sizes places transitions → length (soak_text seed places transitions) ≤ 1614
text_bound seed places transitions h z = omega (arith, words_bound seed places transitions h z, ap length (whole_text seed places transitions))
