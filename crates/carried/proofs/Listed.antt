-- Test 21 over a list in words, pair by pair: with the numbers that were met in two sets, what is to be found in the pairs that are left is
-- the whole. A turn looks at one pair, and puts its numbers into the sets. Assumes nothing.
use Rattle.std.proofs.Common.{◌≡◌, ℕ, suc, ◌+◌, ◌*◌, ◌/◌, ◌^◌, ◌<◌, ◌≤◌, Bool, true, false, not, ◌||◌, eqb, leb, List, [], ◌∷◌, map, length, get_or, drop, sym, refl, ap, ◌∙◌, arith, length-drop, drop-cons, eq-eqb, ne_eqb, le-leb}
use mathlib.Core.Bool.{or-false, or-true}
use lib.Bits.{bit_and}
use borrow.Author.Tests.{lt-leb}
use Rattle.words.specs.Bits.{bit}
use Rattle.words.proofs.Bits.{bit_tested}
use Rattle.net.specs.Net.{Net}
use Rattle.net.specs.Tests.{any}
use Rattle.net.proofs.Slots.{or_stop, or_go}
use Rattle.net.proofs.Twice.{eqb_swap, again, again_none, again_turn}
use Rattle.rules.specs.Change.{Pair, list_strange}
use Rattle.carried.specs.Pairs.{pairs_of}

-- ---- the pairs in words, from pair i on: one and the rest, or none

-- pair i
abbrev pub pair_at : List ℕ → ℕ → Pair
pair_at ws i = record { old = get_or ws (2 * i) 0; new = get_or ws (2 * i + 1) 0 }

pub pairs_step : (ws : List ℕ) (i : ℕ) → i < length ws / 2 → pairs_of (drop (2 * i) ws) ≡ pair_at ws i ∷ pairs_of (drop (2 * (i + 1)) ws)
pairs_step ws i h =
    let a : suc (2 * i) ≡ 2 * i + 1 = omega arith in
    let b : suc (2 * i + 1) ≡ 2 * (i + 1) = omega arith in
    let one : drop (2 * i) ws ≡ get_or ws (2 * i) 0 ∷ drop (2 * i + 1) ws =
    drop-cons ws (2 * i) 0 (omega arith) ∙ ap (λ (k : ℕ). get_or ws (2 * i) 0 ∷ drop k ws) a in
    let two : drop (2 * i + 1) ws ≡ get_or ws (2 * i + 1) 0 ∷ drop (2 * (i + 1)) ws =
    drop-cons ws (2 * i + 1) 0 (omega arith) ∙ ap (λ (k : ℕ). get_or ws (2 * i + 1) 0 ∷ drop k ws) b in
    ap pairs_of (one ∙ ap (λ (xs : List ℕ). get_or ws (2 * i) 0 ∷ xs) two)

no_pair : (ws : List ℕ) → length ws ≤ 1 → pairs_of ws ≡ []
no_pair [] h = refl
no_pair (a ∷ []) h = refl
no_pair (a ∷ b ∷ ws) h = absurd (omega arith)

pub pairs_end : (ws : List ℕ) (i : ℕ) → length ws / 2 ≤ i → pairs_of (drop (2 * i) ws) ≡ []
pairs_end ws i h = no_pair (drop (2 * i) ws) (omega (arith, length-drop (2 * i) ws))

-- ---- a test that is one of two

mix : (a b c d : Bool) → (a || b || (c || d)) ≡ (a || c || (b || d))
mix true b c d = refl
mix false true c d = sym (or-true c)
mix false false c d = refl

-- ---- the numbers of one side: met before, or twice among those that are left

again_next : (met : ℕ → Bool) (a : ℕ) (xs : List ℕ) → again met (a ∷ xs) ≡ (met a || again (λ (j : ℕ). met j || eqb j a) xs)
again_next met a xs =
    again_turn true met a xs
    ∙ ap (λ (b : Bool). b || again (λ (j : ℕ). met j || eqb a j) xs) (or-false (met a))
    ∙ (λ i. met a || again (λ (j : ℕ). met j || eqb_swap a j i) xs)

-- ---- both sides: what the test has to find in a pair, and in all that are left, by the numbers that it met

module _ (old new : ℕ) where
  abbrev pub outside : Pair → Bool
  outside p = leb old p.old || leb new p.new

  abbrev strange_pair : (ℕ → Bool) → (ℕ → Bool) → Pair → Bool
  strange_pair olds news p = outside p || olds p.old || news p.new

  abbrev strange_left : (ℕ → Bool) → (ℕ → Bool) → List Pair → Bool
  strange_left olds news ps = any outside ps || again olds (map (λ (p : Pair). p.old) ps) || again news (map (λ (p : Pair). p.new) ps)

  left_all : (m n : Net) → length m.transitions ≡ old → length n.transitions ≡ new → (ps : List Pair)
      → strange_left (bit 0) (bit 0) ps ≡ list_strange m n ps
  left_all m n e d ps =
      λ i.
      any (λ (p : Pair). leb (sym e i) p.old || leb (sym d i) p.new) ps
      || again_none (map (λ (p : Pair). p.old) ps) i
      || again_none (map (λ (p : Pair). p.new) ps) i

  left_turn : (olds news : ℕ → Bool) (p : Pair) (ps : List Pair) → strange_left olds news (p ∷ ps)
      ≡ (strange_pair olds news p || strange_left (λ (j : ℕ). olds j || eqb j p.old) (λ (j : ℕ). news j || eqb j p.new) ps)
  left_turn olds news p ps =
      let os = map (λ (p : Pair). p.old) ps in
      let ns = map (λ (p : Pair). p.new) ps in
      let x = again (λ (j : ℕ). olds j || eqb j p.old) os in
      let y = again (λ (j : ℕ). news j || eqb j p.new) ns in
      (λ i. outside p || any outside ps || again_next olds p.old os i || again_next news p.new ns i)
      ∙ ap (λ (b : Bool). b || (news p.new || y)) (mix (outside p) (any outside ps) (olds p.old) x)
      ∙ mix (outside p || olds p.old) (any outside ps || x) (news p.new) y

-- ---- the loop

-- what it has to find from pair i on is the whole
abbrev pub Left : (ws : List ℕ) (old new olds news i : ℕ) → Type 0
Left ws old new olds news i =
    strange_left old new (bit olds) (bit news) (pairs_of (drop (2 * i) ws)) ≡ strange_left old new (bit 0) (bit 0) (pairs_of ws)

-- its answer
abbrev pub Fits : Bool → (ws : List ℕ) (old new : ℕ) → Type 0
Fits r ws old new = (m n : Net) → length m.transitions ≡ old → length n.transitions ≡ new → r ≡ not (list_strange m n (pairs_of ws))

module _ (ws : List ℕ) (old new olds news i : ℕ) (inv : Left ws old new olds news i) where
  pub none_left : length ws / 2 ≤ i → Fits true ws old new
  none_left h m n e d =
      ap not (sym (ap (strange_left old new (bit olds) (bit news)) (pairs_end ws i h)) ∙ inv ∙ left_all old new m n e d (pairs_of ws))

  module _ (h : i < length ws / 2) where
    turn : strange_left old new (bit 0) (bit 0) (pairs_of ws)
        ≡ (strange_pair old new (bit olds) (bit news) (pair_at ws i)
        || strange_left old new (λ (j : ℕ). bit olds j || eqb j (pair_at ws i).old) (λ (j : ℕ). bit news j || eqb j (pair_at ws i).new)
        (pairs_of (drop (2 * (i + 1)) ws)))
    turn =
        sym inv
        ∙ ap (strange_left old new (bit olds) (bit news)) (pairs_step ws i h)
        ∙ left_turn old new (bit olds) (bit news) (pair_at ws i) (pairs_of (drop (2 * (i + 1)) ws))

    found : strange_pair old new (bit olds) (bit news) (pair_at ws i) ≡ true → Fits false ws old new
    found e m n a b = ap not (or_stop _ _ turn e ∙ left_all old new m n a b (pairs_of ws))

    pub past_old : old ≤ (pair_at ws i).old → Fits false ws old new
    past_old a = found (rw (le-leb old (pair_at ws i).old a))

    module _ (a : (pair_at ws i).old < old) where
      pub past_new : new ≤ (pair_at ws i).new → Fits false ws old new
      past_new b = found (rw (lt-leb old (pair_at ws i).old a, le-leb new (pair_at ws i).new b))

      module _ (b : (pair_at ws i).new < new) where
        by_sets : strange_pair old new (bit olds) (bit news) (pair_at ws i) ≡ (bit olds (pair_at ws i).old || bit news (pair_at ws i).new)
        by_sets = rw (lt-leb old (pair_at ws i).old a, lt-leb new (pair_at ws i).new b)

        pub met_old : bit_and (olds / 2 ^ (pair_at ws i).old) 1 ≡ 1 → Fits false ws old new
        met_old d = found (by_sets ∙ rw (sym (bit_tested olds (pair_at ws i).old) ∙ eq-eqb _ 1 d))

        module _ (d : bit_and (olds / 2 ^ (pair_at ws i).old) 1 ≡ 1 → ⊥) where
          by_new : strange_pair old new (bit olds) (bit news) (pair_at ws i) ≡ bit news (pair_at ws i).new
          by_new = by_sets ∙ rw (sym (bit_tested olds (pair_at ws i).old) ∙ ne_eqb _ 1 d)

          pub met_new : bit_and (news / 2 ^ (pair_at ws i).new) 1 ≡ 1 → Fits false ws old new
          met_new e = found (by_new ∙ sym (bit_tested news (pair_at ws i).new) ∙ eq-eqb _ 1 e)

          -- a pair that passes, with its numbers put into the sets
          pub passed : (bit_and (news / 2 ^ (pair_at ws i).new) 1 ≡ 1 → ⊥) → (olds' news' : ℕ)
              → ((j : ℕ) → bit olds' j ≡ (bit olds j || eqb j (pair_at ws i).old))
              → ((j : ℕ) → bit news' j ≡ (bit news j || eqb j (pair_at ws i).new))
              → Left ws old new olds' news' (i + 1)
          passed e olds' news' f g =
              (λ k. strange_left old new (λ (j : ℕ). f j k) (λ (j : ℕ). g j k) (pairs_of (drop (2 * (i + 1)) ws)))
              ∙ or_go _ _ turn (by_new ∙ sym (bit_tested news (pair_at ws i).new) ∙ ne_eqb _ 1 e)
