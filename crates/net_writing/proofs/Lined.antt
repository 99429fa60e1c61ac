-- Each line that is written has its form, and says what was written. Assumes nothing.
use Prim.Native.Nat.{ℕ, zero, suc, ◌^◌, ◌≤◌, ◌<◌}
use Prim.Native.String.{String}
use native.Mathlib.Omega.{arith}
use mathlib.Core.Path.{◌≡◌, refl, ap, ◌∙◌}
use mathlib.Core.Bool.{false}
use mathlib.Core.List.{List, [], ◌∷◌, ◌++◌, map, append_assoc}
use mathlib.Core.Option.{some}
use lib.Dec.{T}
use lib.ListN.{length, length-append}
use lib.Ieee.{Float, binary64, to_bits, fits}
use lib.Ieee.Bits.{to_bits-lt}
use Rattle.net.specs.Net.{Place, Arc, Take, Transition, pick}
use Rattle.text.specs.Text.{Bytes, bytes}
use Rattle.text.specs.Numbers.{decimal_text, hex_digits, float_text}
use Rattle.net_text.specs.Forms.{wrong, met, Decimal, up_to_last, up_to, next_arc, RawArc, raw_take, raw_put, raw_read, raw_block, raw_place, raw_move, raw_run, line_of}
use Rattle.net_text.specs.Reading.{RunLine}
use Rattle.net_text.proofs.Written.{decimal_reads, hexadecimal_reads}
use Rattle.net_writing.specs.Writing.{together, place_line, take_part, arc_part, arc_parts, move_line, run_line}

-- a decimal with no leading zero
abbrev pub plain : ℕ → Decimal
plain n = record { value = n; zero_led = false }

-- ---- a place's line

last_reads : (l : Bytes) → up_to_last (l ++ (41 ∷ [])) ≡ met l []
last_reads [] = refl
last_reads (b ∷ []) = refl
last_reads (b ∷ c ∷ l) = rw (last_reads (c ∷ l))

pub place_reads : (q : Place) (l : Bytes) → line_of (place_line q l) ≡ some (raw_place (plain q.initial) (plain q.capacity) l)
place_reads q l =
    rw (decimal_reads q.initial (32 ∷ (decimal_text q.capacity ++ (32 ∷ (l ++ (41 ∷ []))))) refl, decimal_reads q.capacity (32 ∷ (l ++ (41 ∷ []))) refl, last_reads l)

-- ---- arcs

abbrev pub raw_of_take : Take → RawArc
raw_of_take k = raw_take (plain k.place) (plain k.weight) (plain (pick k.kinetic 1 0))

abbrev pub raw_of_put : Arc → RawArc
raw_of_put a = raw_put (plain a.place) (plain a.weight)

abbrev pub raw_of_read : Arc → RawArc
raw_of_read a = raw_read (plain a.place) (plain a.weight)

abbrev pub raw_of_block : Arc → RawArc
raw_of_block a = raw_block (plain a.place) (plain a.weight)

-- a part that has a byte and reads as an arc, whatever stands behind it
abbrev Reads : Bytes → RawArc → Type 0
Reads p a = (1 ≤ length p) × ((t : Bytes) → next_arc (p ++ t) ≡ met a t)

-- parts with bytes behind them
abbrev pub chained : List Bytes → Bytes → Bytes
chained [] t = t
chained (w ∷ ws) t = w ++ chained ws t

pub chain_is : (ws : List Bytes) (t : Bytes) → together ws ++ t ≡ chained ws t
chain_is [] t = refl
chain_is (w ∷ ws) t = append_assoc w (together ws) t ∙ ap (λ (l : Bytes). w ++ l) (chain_is ws t)

abbrev pub take_words : Take → List Bytes
take_words k = bytes " (take " ∷ decimal_text k.place ∷ bytes " " ∷ decimal_text k.weight ∷ bytes " " ∷ decimal_text (pick k.kinetic 1 0) ∷ bytes ")" ∷ []

abbrev pub arc_words : String → Arc → List Bytes
arc_words word a = bytes word ∷ decimal_text a.place ∷ bytes " " ∷ decimal_text a.weight ∷ bytes ")" ∷ []

take_reads : (k : Take) → Reads (take_part k) (raw_of_take k)
take_reads k = (
  omega arith,
  λ t.
      ap next_arc (chain_is (take_words k) t) ∙ rw (
        decimal_reads k.place (32 ∷ (decimal_text k.weight ++ (32 ∷ (decimal_text (pick k.kinetic 1 0) ++ (41 ∷ t))))) refl,
        decimal_reads k.weight (32 ∷ (decimal_text (pick k.kinetic 1 0) ++ (41 ∷ t))) refl,
        decimal_reads (pick k.kinetic 1 0) (41 ∷ t) refl,
      ),
)

put_reads : (a : Arc) → Reads (arc_part " (put " a) (raw_of_put a)
put_reads a =
    (omega arith, λ t. ap next_arc (chain_is (arc_words " (put " a) t) ∙ rw (decimal_reads a.place (32 ∷ (decimal_text a.weight ++ (41 ∷ t))) refl, decimal_reads a.weight (41 ∷ t) refl))

read_reads : (a : Arc) → Reads (arc_part " (read " a) (raw_of_read a)
read_reads a =
    (omega arith, λ t. ap next_arc (chain_is (arc_words " (read " a) t) ∙ rw (decimal_reads a.place (32 ∷ (decimal_text a.weight ++ (41 ∷ t))) refl, decimal_reads a.weight (41 ∷ t) refl))

block_reads : (a : Arc) → Reads (arc_part " (block " a) (raw_of_block a)
block_reads a =
    (omega arith, λ t. ap next_arc (chain_is (arc_words " (block " a) t) ∙ rw (decimal_reads a.place (32 ∷ (decimal_text a.weight ++ (41 ∷ t))) refl, decimal_reads a.weight (41 ∷ t) refl))

-- parts that read as arcs, one by one
abbrev AllRead : List Bytes → List RawArc → Type 0
AllRead [] [] = Unit {0}
AllRead [] (a ∷ raws) = ⊥
AllRead (p ∷ ps) [] = ⊥
AllRead (p ∷ ps) (a ∷ raws) = Reads p a × AllRead ps raws

all_more : (ps qs : List Bytes) (raws bs : List RawArc) → AllRead ps raws → AllRead qs bs → AllRead (ps ++ qs) (raws ++ bs)
all_more [] qs [] bs h k = k
all_more [] qs (a ∷ raws) bs h k = absurd h
all_more (p ∷ ps) qs [] bs h k = absurd h
all_more (p ∷ ps) qs (a ∷ raws) bs h k = (h.0, all_more ps qs raws bs h.1 k)

all_read : {A : Type 0} (part : A → Bytes) (raw : A → RawArc) → ((a : A) → Reads (part a) (raw a)) → (xs : List A) → AllRead (map part xs) (map raw xs)
all_read part raw each [] = tt
all_read part raw each (x ∷ xs) = (each x, all_read part raw each xs)

-- each takes a byte at least, so there are no more of them than bytes
few_parts : (ps : List Bytes) (raws : List RawArc) (t : Bytes) → AllRead ps raws → length ps ≤ length (together ps ++ t)
few_parts [] [] t h = omega arith
few_parts [] (a ∷ raws) t h = absurd h
few_parts (p ∷ ps) [] t h = absurd h
few_parts (p ∷ ps) (a ∷ raws) t h =
    let later = few_parts ps raws t h.1 in
    let one : 1 ≤ length p = h.0.0 in
    rw (append_assoc p (together ps) t) (omega (arith, length-append p (together ps ++ t)))

up_to_read : (k : ℕ) (ps : List Bytes) (raws : List RawArc) (t : Bytes) → length ps ≤ k → AllRead ps raws → next_arc t ≡ wrong → up_to k next_arc (together ps ++ t) ≡ met raws t
up_to_read zero [] [] t l h e = refl
up_to_read zero [] (a ∷ raws) t l h e = absurd h
up_to_read zero (p ∷ ps) raws t l h e = absurd (omega arith)
up_to_read (suc k) [] [] t l h e = rw e
up_to_read (suc k) [] (a ∷ raws) t l h e = absurd h
up_to_read (suc k) (p ∷ ps) [] t l h e = absurd h
up_to_read (suc k) (p ∷ ps) (a ∷ raws) t l h e =
    rw (append_assoc p (together ps) t, h.0.1 (together ps ++ t), up_to_read k ps raws t (omega arith) h.1 e)

-- ---- a move's line

abbrev pub raw_arcs : Transition → List RawArc
raw_arcs t = map raw_of_take t.takes ++ (map raw_of_put t.puts ++ (map raw_of_read t.reads ++ map raw_of_block t.blocks))

parts_read : (t : Transition) → AllRead (arc_parts t) (raw_arcs t)
parts_read t =
    all_more (map take_part t.takes) _ (map raw_of_take t.takes) _ (all_read take_part raw_of_take take_reads t.takes)
    (all_more (map (arc_part " (put ") t.puts) _ (map raw_of_put t.puts) _ (all_read (arc_part " (put ") raw_of_put put_reads t.puts)
    (all_more (map (arc_part " (read ") t.reads) _ (map raw_of_read t.reads) _ (all_read (arc_part " (read ") raw_of_read read_reads t.reads)
    (all_read (arc_part " (block ") raw_of_block block_reads t.blocks)))

arcs_read : (t : Transition) → up_to (length (together (arc_parts t) ++ (41 ∷ []))) next_arc (together (arc_parts t) ++ (41 ∷ [])) ≡ met (raw_arcs t) (41 ∷ [])
arcs_read t = up_to_read _ (arc_parts t) (raw_arcs t) (41 ∷ []) (few_parts (arc_parts t) (raw_arcs t) (41 ∷ []) (parts_read t)) (parts_read t) refl

-- 64 bits
bits_low : (x : Float) → T (fits binary64 x) → to_bits binary64 x < 2 ^ 64
bits_low x h = to_bits-lt binary64 x h

pub move_reads : (t : Transition) → T (fits binary64 t.rate) → T (fits binary64 t.delay)
    → line_of (move_line t) ≡ some (raw_move (to_bits binary64 t.rate) (to_bits binary64 t.delay) (raw_arcs t))
move_reads t h k =
    rw (
      hexadecimal_reads (to_bits binary64 t.rate) (32 ∷ (float_text t.delay ++ (together (arc_parts t) ++ (41 ∷ [])))) (bits_low t.rate h),
      hexadecimal_reads (to_bits binary64 t.delay) (together (arc_parts t) ++ (41 ∷ [])) (bits_low t.delay k),
      arcs_read t,
    )

-- ---- the run line

pub run_reads : (r : RunLine) → r.horizon < 2 ^ 64
    → line_of (run_line r) ≡ some (raw_run (plain r.samples) (plain r.realizations) (plain r.seed) r.horizon)
run_reads r h =
    rw (
      decimal_reads r.samples (32 ∷ (decimal_text r.realizations ++ (32 ∷ (decimal_text r.seed ++ (32 ∷ (hex_digits 16 r.horizon ++ (41 ∷ []))))))) refl,
      decimal_reads r.realizations (32 ∷ (decimal_text r.seed ++ (32 ∷ (hex_digits 16 r.horizon ++ (41 ∷ []))))) refl,
      decimal_reads r.seed (32 ∷ (hex_digits 16 r.horizon ++ (41 ∷ []))) refl,
      hexadecimal_reads r.horizon (41 ∷ []) h,
    )
