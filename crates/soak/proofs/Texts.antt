-- The words that are written are the text of the stated net, line by line. Assumes nothing.
use Prim.Native.Nat.{ℕ, zero, suc}
use mathlib.Core.Path.{◌≡◌, refl, sym, ap, ◌∙◌}
use mathlib.Core.Bool.{true}
use mathlib.Core.List.{List, [], ◌∷◌, ◌++◌, map, append_assoc}
use lib.Ieee.{of_bits, to_bits}
use Rattle.net.specs.Net.{Take, Arc, numbered, zero64}
use Rattle.rng.specs.State.{State}
use Rattle.rng.specs.Xoshiro.{step}
use Rattle.text.specs.Text.{Bytes, bytes, newline}
use Rattle.text.specs.Numbers.{decimal_text, hex_digits, float_text}
use Rattle.net_writing.specs.Writing.{together, place_line, take_part, arc_part, move_line, run_line, place_lines, ended, net_text}
use Rattle.net_writing.proofs.Lined.{chained, chain_is, take_words, arc_words}
use Rattle.soak.specs.Soak.{start, choice, after, places_from, rate_from, moving, moves_from, soak_net, soak_label, soak_labels, soak_run, soak_text}
use Rattle.soak.specs.Words.{place_words, places_words, move_words, moves_words, run_words, all_the_words}

ended_more : (ls ms : List Bytes) → ended (ls ++ ms) ≡ ended ls ++ ended ms
ended_more [] ms = refl
ended_more (l ∷ ls) ms =
    ap (λ (t : Bytes). l ++ (newline ∷ t)) (ended_more ls ms) ∙ sym (append_assoc l (newline ∷ ended ls) (ended ms))

pub together_more : (vs ws : List Bytes) → together (vs ++ ws) ≡ together vs ++ together ws
together_more [] ws = refl
together_more (v ∷ vs) ws = ap (λ (t : Bytes). v ++ t) (together_more vs ws) ∙ sym (append_assoc v (together vs) (together ws))

-- ---- places

place_text : (initial number : ℕ) (t : Bytes)
    → place_line (record { initial = initial; capacity = 0 }) (soak_label number) ++ (newline ∷ t) ≡ chained (place_words initial number) t
place_text initial number t =
    chain_is (bytes "(place " ∷ decimal_text initial ∷ bytes " " ∷ decimal_text 0 ∷ bytes " " ∷ soak_label number ∷ bytes ")" ∷ []) (newline ∷ t)

pub places_text : (number k : ℕ) (s : State) → ended (place_lines (places_from k s) (numbered soak_label number k)) ≡ together (places_words number k s)
places_text number zero s = refl
places_text number (suc k) s =
    place_text (choice s 10) number _ ∙ ap (chained (place_words (choice s 10) number)) (places_text (suc number) k (step s))

-- ---- transitions

zero_text : float_text zero64 ≡ bytes "0000000000000000"
unfolding of_bits to_bits
zero_text = refl

abbrev one_take : ℕ → Take
one_take p = record { place = p; weight = 1; kinetic = true }

abbrev one_put : ℕ → Arc
one_put p = record { place = p; weight = 1 }

arcs_text : (taken put : ℕ) (t : Bytes)
    → together (take_part (one_take taken) ∷ arc_part " (put " (one_put put) ∷ []) ++ t
    ≡ bytes " (take " ++ (decimal_text taken ++ (bytes " 1 1) (put " ++ (decimal_text put ++ (bytes " 1)" ++ t))))
arcs_text taken put t =
    chain_is (take_part (one_take taken) ∷ arc_part " (put " (one_put put) ∷ []) t
    ∙ chain_is (take_words (one_take taken)) (arc_part " (put " (one_put put) ++ t)
    ∙ ap (chained (take_words (one_take taken))) (chain_is (arc_words " (put " (one_put put)) t)

move_text : (taken put rate : ℕ) (t : Bytes) → move_line (moving taken put rate) ++ (newline ∷ t) ≡ chained (move_words taken put rate) t
move_text taken put rate t =
    let arcs : Bytes = together (take_part (one_take taken) ∷ arc_part " (put " (one_put put) ∷ []) in
    chain_is (bytes "(move " ∷ float_text (rate_from rate) ∷ bytes " " ∷ float_text zero64 ∷ arcs ∷ bytes ")" ∷ []) (newline ∷ t)
    ∙ ap (λ (z : Bytes). bytes "(move " ++ (float_text (rate_from rate) ++ (bytes " " ++ (z ++ (arcs ++ (bytes ")" ++ (newline ∷ t))))))) zero_text
    ∙ ap (λ (a : Bytes). bytes "(move " ++ (float_text (rate_from rate) ++ (bytes " 0000000000000000" ++ a))) (arcs_text taken put (bytes ")\n" ++ t))

pub moves_text : (places k : ℕ) (s : State) → ended (map move_line (moves_from places k s)) ≡ together (moves_words places k s)
moves_text places zero s = refl
moves_text places (suc k) s =
    let one : List Bytes = move_words (choice s places) (choice (step s) places) (choice (step (step s)) 4) in
    move_text (choice s places) (choice (step s) places) (choice (step (step s)) 4) _ ∙ ap (chained one) (moves_text places k (step (step (step s))))

-- ---- the whole

run_text : (seed : ℕ) → ended (run_line (soak_run seed) ∷ bytes ")" ∷ []) ≡ together (run_words seed)
run_text seed =
    chain_is (bytes "(run " ∷ decimal_text 11 ∷ bytes " " ∷ decimal_text 1 ∷ bytes " " ∷ decimal_text seed ∷ bytes " " ∷ hex_digits 16 0x4024_0000_0000_0000 ∷ bytes ")" ∷ [])
    (newline ∷ (bytes ")\n"))

pub whole_text : (seed places transitions : ℕ) → bytes "(net\n" ++ together (all_the_words seed places transitions) ≡ soak_text seed places transitions
unfolding soak_text soak_net net_text
whole_text seed places transitions =
    let s : State = start seed in
    let ps : List Bytes = place_lines (places_from places s) (soak_labels places) in
    let ms : List Bytes = map move_line (moves_from places transitions (after places s)) in
    let rs : List Bytes = run_line (soak_run seed) ∷ bytes ")" ∷ [] in
    let cut : ended (ps ++ (ms ++ rs)) ≡ ended ps ++ (ended ms ++ ended rs) = ended_more ps (ms ++ rs) ∙ ap (λ (t : Bytes). ended ps ++ t) (ended_more ms rs) in
    let pw : List Bytes = places_words 0 places s in
    let mw : List Bytes = moves_words places transitions (after places s) in
    let joined : together (all_the_words seed places transitions) ≡ together pw ++ (together mw ++ together (run_words seed)) =
    together_more pw (mw ++ run_words seed) ∙ ap (λ (t : Bytes). together pw ++ t) (together_more mw (run_words seed)) in
    ap (λ (t : Bytes). bytes "(net\n" ++ t)
    (joined
    ∙ ap (λ (t : Bytes). t ++ (together mw ++ together (run_words seed))) (sym (places_text 0 places s))
    ∙ ap (λ (t : Bytes). ended ps ++ (t ++ together (run_words seed))) (sym (moves_text places transitions (after places s)))
    ∙ ap (λ (t : Bytes). ended ps ++ (ended ms ++ t)) (sym (run_text seed))
    ∙ sym cut)
