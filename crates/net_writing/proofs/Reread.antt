-- Written, then read, is the same net: the lines are cut as they were written, each says what was written and passes its tests, and the reading goes
-- on behind it, place by place and transition by transition. Assumes nothing.
use Prim.Native.Nat.{ℕ, suc, ◌^◌, ◌≤◌, ◌<◌}
use Prim.Native.String.{String}
use native.Mathlib.Omega.{arith}
use mathlib.Core.Path.{◌≡◌, refl, ap, ◌∙◌}
use mathlib.Core.Bool.{Bool, true, false}
use mathlib.Core.List.{List, [], ◌∷◌, ◌++◌, map, append_assoc, append-nil}
use mathlib.Core.Option.{none}
use lib.Dec.{eqb, T}
use lib.ListN.{length, length-append}
use borrow.Author.Tests.{le-ltb}
use lib.Ieee.{binary64, of_bits, to_bits, fits}
use lib.Ieee.Bits.{of_bits-to_bits}
use Rattle.net.specs.Net.{Place, Arc, Take, Transition, Net, pick}
use Rattle.net.specs.Tests.{first_of, empty, place_tests, move_tests}
use Rattle.net.specs.Labels.{label_tests}
use Rattle.text.specs.Text.{Bytes, bytes}
use Rattle.text.specs.Numbers.{decimal_text, float_text, hex_digits}
use Rattle.net_text.specs.Lines.{lines}
use Rattle.net_text.specs.Reading.{RunLine, Answer, given, Due, opening, inside, closing, Outcome, go_on, onward, transition, inside_line, line_read, read_from, read}
use Rattle.net_writing.specs.Writing.{together, place_line, take_part, arc_part, arc_parts, move_line, run_line, place_lines, net_lines, net_text}
use Rattle.net_writing.specs.Writable.{PlacesFit, MovesFit, Writable, ReadsBack}
use Rattle.net_writing.proofs.Cut.{OneLine, OneLines, quoted_line, line_together, lines_more, decimal_line, hex_line, cut}
use Rattle.net_writing.proofs.Lined.{raw_of_take, raw_of_put, raw_of_read, raw_of_block, raw_arcs, place_reads, move_reads, run_reads}
use Rattle.net_writing.proofs.Tested.{place_says, few_places, well, move_well}

-- ---- a transition from its arcs

module _ (rate delay : ℕ) where
  abbrev shaped : List Take → List Arc → List Arc → List Arc → Transition
  shaped takes puts reads blocks =
      record { rate = of_bits binary64 rate; delay = of_bits binary64 delay; takes = takes; puts = puts; reads = reads; blocks = blocks }

  blocks_back : (bs : List Arc) → transition rate delay (map raw_of_block bs) ≡ shaped [] [] [] bs
  blocks_back [] = refl
  blocks_back (b ∷ bs) = rw (blocks_back bs)

  reads_back_lem : (rs bs : List Arc) → transition rate delay (map raw_of_read rs ++ map raw_of_block bs) ≡ shaped [] [] rs bs
  reads_back_lem [] bs = blocks_back bs
  reads_back_lem (r ∷ rs) bs = rw (reads_back_lem rs bs)

  puts_back : (ps rs bs : List Arc) → transition rate delay (map raw_of_put ps ++ (map raw_of_read rs ++ map raw_of_block bs)) ≡ shaped [] ps rs bs
  puts_back [] rs bs = reads_back_lem rs bs
  puts_back (p ∷ ps) rs bs = rw (puts_back ps rs bs)

  kinetic_back : (b : Bool) → eqb (pick b 1 0) 1 ≡ b
  kinetic_back true = refl
  kinetic_back false = refl

  takes_back : (ts : List Take) (ps rs bs : List Arc)
      → transition rate delay (map raw_of_take ts ++ (map raw_of_put ps ++ (map raw_of_read rs ++ map raw_of_block bs))) ≡ shaped ts ps rs bs
  takes_back [] ps rs bs = puts_back ps rs bs
  takes_back (t ∷ ts) ps rs bs = rw (takes_back ts ps rs bs, kinetic_back t.kinetic)

move_back : (t : Transition) → T (fits binary64 t.rate) → T (fits binary64 t.delay)
    → transition (to_bits binary64 t.rate) (to_bits binary64 t.delay) (raw_arcs t) ≡ t
move_back t h k =
    takes_back (to_bits binary64 t.rate) (to_bits binary64 t.delay) t.takes t.puts t.reads t.blocks
    ∙ rw (of_bits-to_bits binary64 t.rate h, of_bits-to_bits binary64 t.delay k)

-- ---- one line

place_step : (ps : List Place) (done : List Bytes) (q : Place) (l : Bytes) → first_of (place_tests (length ps) false q ++ label_tests done l) ≡ none
    → line_read (inside (record { places = ps; transitions = [] }) done) (place_line q l)
    ≡ go_on (inside (record { places = ps ++ (q ∷ []); transitions = [] }) (done ++ (l ∷ [])))
place_step ps done q l e =
    let says = (place_says (length ps) done q l e).1 in
    ap (inside_line (record { places = ps; transitions = [] }) done) (place_reads q l)
    ∙ rw (well q.initial says.initial, well q.capacity says.capacity, e)

move_step : (ps : List Place) (ts : List Transition) (done : List Bytes) (t : Transition) → length ps ≤ 32
    → first_of (move_tests (length ps) (length ts) false t) ≡ none
    → T (fits binary64 t.rate)
    → T (fits binary64 t.delay)
    → line_read (inside (record { places = ps; transitions = ts }) done) (move_line t) ≡ go_on (inside (record { places = ps; transitions = ts ++ (t ∷ []) }) done)
move_step ps ts done t few e h k =
    ap (inside_line (record { places = ps; transitions = ts }) done) (move_reads t h k)
    ∙ rw (move_back t h k, move_well (length ps) few (length ts) t e, e)

run_step : (n : Net) (done : List Bytes) (r : RunLine) → empty n.places ≡ false → r.samples < 2 ^ 64 → r.realizations < 2 ^ 64 → r.seed < 2 ^ 64
    → r.horizon < 2 ^ 64
    → line_read (inside n done) (run_line r) ≡ go_on (closing n done r)
run_step n done r e s k d h =
    ap (inside_line n done) (run_reads r h) ∙ rw (e, well r.samples s, well r.realizations k, well r.seed d)

-- ---- line by line

-- the reading goes on behind a line that says so
on : (number : ℕ) (d e : Due) (l : Bytes) (ls : List Bytes) → line_read d l ≡ go_on e → read_from number d (l ∷ ls) [] ≡ read_from (suc number) e ls []
on number d e l ls h = ap (λ (o : Outcome). onward number o (λ next. read_from (suc number) next ls [])) h

-- the answer, wherever the places end
places_read : (number : ℕ) (ps qs : List Place) (done ls : List Bytes) (more : List Bytes) (answer : Answer) → PlacesFit (length ps) done qs ls
    → ((m : ℕ) → read_from m (inside (record { places = ps ++ qs; transitions = [] }) (done ++ ls)) more [] ≡ answer)
    → read_from number (inside (record { places = ps; transitions = [] }) done) (place_lines qs ls ++ more) [] ≡ answer
places_read number ps [] done [] more answer fit after = rw (append-nil ps, append-nil done) at (after number)
places_read number ps [] done (l ∷ ls) more answer fit after = absurd fit
places_read number ps (q ∷ qs) done [] more answer fit after = absurd fit
places_read number ps (q ∷ qs) done (l ∷ ls) more answer fit after =
    let one : length (ps ++ (q ∷ [])) ≡ suc (length ps) = length-append ps (q ∷ []) ∙ omega arith in
    on number (inside (record { places = ps; transitions = [] }) done) _ (place_line q l) (place_lines qs ls ++ more) (place_step ps done q l fit.0)
    ∙ places_read (suc number) (ps ++ (q ∷ [])) qs (done ++ (l ∷ [])) ls more answer (rw one fit.1)
    (λ m. rw (append_assoc ps (q ∷ []) qs, append_assoc done (l ∷ []) ls) (after m))

moves_read : (number : ℕ) (ps : List Place) (ts us : List Transition) (done : List Bytes) (more : List Bytes) (answer : Answer) → length ps ≤ 32
    → MovesFit (length ps) (length ts) us
    → ((m : ℕ) → read_from m (inside (record { places = ps; transitions = ts ++ us }) done) more [] ≡ answer)
    → read_from number (inside (record { places = ps; transitions = ts }) done) (map move_line us ++ more) [] ≡ answer
moves_read number ps ts [] done more answer few fit after = rw (append-nil ts) at (after number)
moves_read number ps ts (u ∷ us) done more answer few fit after =
    let one : length (ts ++ (u ∷ [])) ≡ suc (length ts) = length-append ts (u ∷ []) ∙ omega arith in
    on number (inside (record { places = ps; transitions = ts }) done) _ (move_line u) (map move_line us ++ more) (move_step ps ts done u few fit.0 fit.1 fit.2)
    ∙ moves_read (suc number) ps (ts ++ (u ∷ [])) us done more answer few (rw one fit.3) (λ m. rw (append_assoc ts (u ∷ []) us) (after m))

-- ---- no line holds a newline

lined_place : (q : Place) (l : Bytes) → OneLine l → OneLine (place_line q l)
lined_place q l h =
    line_together (bytes "(place " ∷ decimal_text q.initial ∷ bytes " " ∷ decimal_text q.capacity ∷ bytes " " ∷ l ∷ bytes ")" ∷ [])
    (quoted_line (bytes "(place ") refl, (decimal_line q.initial, (quoted_line (bytes " ") refl, (decimal_line q.capacity, (quoted_line (bytes " ") refl, (h, (quoted_line (bytes ")") refl, tt)))))))

lined_take : (k : Take) → OneLine (take_part k)
lined_take k =
    line_together (bytes " (take " ∷ decimal_text k.place ∷ bytes " " ∷ decimal_text k.weight ∷ bytes " " ∷ decimal_text (pick k.kinetic 1 0) ∷ bytes ")" ∷ [])
    (quoted_line (bytes " (take ") refl, (decimal_line k.place, (quoted_line (bytes " ") refl, (decimal_line k.weight, (quoted_line (bytes " ") refl, (decimal_line (pick k.kinetic 1 0), (quoted_line (bytes ")") refl, tt)))))))

lined_arc : (s : String) → OneLine (bytes s) → (a : Arc) → OneLine (arc_part s a)
lined_arc s h a =
    line_together (bytes s ∷ decimal_text a.place ∷ bytes " " ∷ decimal_text a.weight ∷ bytes ")" ∷ [])
    (h, (decimal_line a.place, (quoted_line (bytes " ") refl, (decimal_line a.weight, (quoted_line (bytes ")") refl, tt)))))

each_lined : {A : Type 0} (part : A → Bytes) → ((a : A) → OneLine (part a)) → (xs : List A) → OneLines (map part xs)
each_lined part each [] = tt
each_lined part each (x ∷ xs) = (each x, each_lined part each xs)

lined_move : (t : Transition) → OneLine (move_line t)
lined_move t =
    let arcs =
    lines_more (map take_part t.takes) _ (each_lined take_part lined_take t.takes)
    (lines_more (map (arc_part " (put ") t.puts) _ (each_lined (arc_part " (put ") (lined_arc " (put " (quoted_line (bytes " (put ") refl)) t.puts)
    (lines_more (map (arc_part " (read ") t.reads) _ (each_lined (arc_part " (read ") (lined_arc " (read " (quoted_line (bytes " (read ") refl)) t.reads)
    (each_lined (arc_part " (block ") (lined_arc " (block " (quoted_line (bytes " (block ") refl)) t.blocks))) in
    line_together (bytes "(move " ∷ float_text t.rate ∷ bytes " " ∷ float_text t.delay ∷ together (arc_parts t) ∷ bytes ")" ∷ [])
    (quoted_line (bytes "(move ") refl, (hex_line (to_bits binary64 t.rate), (quoted_line (bytes " ") refl, (hex_line (to_bits binary64 t.delay), (line_together (arc_parts t) arcs, (quoted_line (bytes ")") refl, tt))))))

lined_run : (r : RunLine) → OneLine (run_line r)
lined_run r =
    line_together (bytes "(run " ∷ decimal_text r.samples ∷ bytes " " ∷ decimal_text r.realizations ∷ bytes " " ∷ decimal_text r.seed ∷ bytes " " ∷ hex_digits 16 r.horizon ∷ bytes ")" ∷ [])
    (quoted_line (bytes "(run ") refl, (decimal_line r.samples, (quoted_line (bytes " ") refl, (decimal_line r.realizations, (quoted_line (bytes " ") refl, (decimal_line r.seed, (quoted_line (bytes " ") refl, (hex_line r.horizon, (quoted_line (bytes ")") refl, tt)))))))))

lined_places : (before : ℕ) (earlier : List Bytes) (qs : List Place) (ls : List Bytes) → PlacesFit before earlier qs ls → OneLines (place_lines qs ls)
lined_places before earlier [] [] f = tt
lined_places before earlier [] (l ∷ ls) f = absurd f
lined_places before earlier (q ∷ qs) [] f = absurd f
lined_places before earlier (q ∷ qs) (l ∷ ls) f =
    (lined_place q l (place_says before earlier q l f.0).1.label, lined_places (suc before) (earlier ++ (l ∷ [])) qs ls f.1)

lined : (n : Net) (labels : List Bytes) (r : RunLine) → PlacesFit 0 [] n.places labels → OneLines (net_lines n labels r)
lined n labels r f = (
  quoted_line (bytes "(net") refl,
  lines_more (place_lines n.places labels) _ (lined_places 0 [] n.places labels f)
      (lines_more (map move_line n.transitions) (run_line r ∷ bytes ")" ∷ []) (each_lined move_line lined_move n.transitions) (lined_run r, (quoted_line (bytes ")") refl, tt))),
)

-- ---- the text

netted : (n : Net) (labels : List Bytes) (r : RunLine) → Writable n labels r → read_from 1 opening (net_lines n labels r) [] ≡ given n labels r
netted n labels r w =
    let few = few_places 0 [] n.places labels (omega arith) w.places in
    places_read 2 [] n.places [] labels _ (given n labels r) w.places
    (λ m. moves_read m n.places [] n.transitions labels _ (given n labels r) (omega arith) w.transitions
    (λ k. on k (inside n labels) _ (run_line r) (bytes ")" ∷ []) (run_step n labels r w.some_place w.samples w.realizations w.seed w.horizon)))

lines_read_lem : (t : Bytes) (ls : List Bytes) → length t ≤ 8192 → lines t ≡ record { ended = ls; rest = [] } → read t ≡ read_from 1 opening ls []
lines_read_lem t ls short e = rw (le-ltb 8192 (length t) short, e)

text_cut : (n : Net) (labels : List Bytes) (r : RunLine) → PlacesFit 0 [] n.places labels → lines (net_text n labels r) ≡ record { ended = net_lines n labels r; rest = [] }
unfolding net_text
text_cut n labels r f = cut (net_lines n labels r) (lined n labels r f)

-- written, then read, is the same net, the same labels and the same run line
pub reread : ReadsBack
reread n labels r w = lines_read_lem (net_text n labels r) (net_lines n labels r) w.short (text_cut n labels r w.places) ∙ netted n labels r w
