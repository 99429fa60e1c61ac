-- The same text as the private functions write it, word behind word. The rules are in Soak; nothing here adds to them.
use Rattle.std.specs.Prelude.{ℕ, zero, suc, List, [], ◌∷◌, ◌++◌, Option}
use Rattle.rng.specs.State.{State}
use Rattle.rng.specs.Xoshiro.{step}
use Rattle.text.specs.Text.{Bytes, bytes}
use Rattle.text.specs.Numbers.{decimal_text, float_text}
use Rattle.text.specs.Buffer.{and_then}
use Rattle.soak.specs.Soak.{choice, rate_from, after, start}

-- words behind what was written before
abbrev pub then_all : Bytes × Option ℕ → List Bytes → Bytes × Option ℕ
then_all s [] = s
then_all s (w ∷ ws) = then_all (and_then s w) ws

abbrev pub place_words : ℕ → ℕ → List Bytes
place_words initial number = bytes "(place " ∷ decimal_text initial ∷ bytes " 0 q" ∷ decimal_text number ∷ bytes ")\n" ∷ []

-- k places from a number on
abbrev pub places_words : ℕ → ℕ → State → List Bytes
places_words number zero s = []
places_words number (suc k) s = place_words (choice s 10) number ++ places_words (suc number) k (step s)

-- the place taken from and the place put to, and what stands behind each
abbrev pub arc_words : ℕ → ℕ → List Bytes
arc_words taken put = decimal_text taken ∷ bytes " 1 1) (put " ∷ decimal_text put ∷ bytes " 1))\n" ∷ []

abbrev pub move_words : ℕ → ℕ → ℕ → List Bytes
move_words taken put rate = bytes "(move " ∷ float_text (rate_from rate) ∷ bytes " 0000000000000000 (take " ∷ arc_words taken put

abbrev pub moves_words : ℕ → ℕ → State → List Bytes
moves_words places zero s = []
moves_words places (suc k) s =
    move_words (choice s places) (choice (step s) places) (choice (step (step s)) 4) ++ moves_words places k (step (step (step s)))

abbrev pub run_words : ℕ → List Bytes
run_words seed = bytes "(run 11 1 " ∷ decimal_text seed ∷ bytes " 4024000000000000)\n)\n" ∷ []

-- all behind the first line
abbrev pub all_the_words : ℕ → ℕ → ℕ → List Bytes
all_the_words seed places transitions =
    places_words 0 places (start seed) ++ (moves_words places transitions (after places (start seed)) ++ run_words seed)
