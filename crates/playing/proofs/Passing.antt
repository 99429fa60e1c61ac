-- A pass that looks only at the delayed transitions that may start: it skips the others, which are not enabled, and a start adds those that it may have opened.
-- Assumes nothing.
use Prim.Native.Nat.{ℕ, suc, ◌+◌, ◌-◌, ◌^◌, ◌≤◌, ◌<◌}
use mathlib.Core.Path.{◌≡◌, refl, sym, ap, subst, ◌∙◌}
use mathlib.Core.Bool.{Bool, true, false, ◌&&◌, ◌||◌, true≢false}
use mathlib.Core.List.{List, []}
use native.Mathlib.Omega.{arith}
use lib.Bits.{bit_or, bit_and}
use lib.Count.{count_trailing_zeros}
use lib.Dec.{leb}
use lib.Ieee.{Float}
use borrow.Author.Tests.{le-leb, leb-true, ltb-true, lt-ltb}
use Rattle.words.specs.Bits.{bit}
use Rattle.words.proofs.Bits.{bit_none, bit_or_lem, bit_and_lem, lowest_small, lowest_set, below_lowest}
use Rattle.net.specs.declared.Net.{Net as NetRecord}
use Rattle.net.specs.Net.{Marking, timed}
use Rattle.net.specs.Readable.{readable}
use Rattle.net.proofs.Lengths.{transitions_length}
use Rattle.rules.specs.Timers.{Timer}
use Rattle.rules.specs.Step.{Answer, Starts, passes}
use Rattle.engine.specs.Guards.{Quiet}
use Rattle.engine.specs.Traits.{Marks}
use Rattle.playing.specs.Keeping.{ShutBut}
use Rattle.playing.proofs.Passes.{SoFar, left, pass_from, Off, from_skip, from_none, passes_none}
use Rattle.playing.proofs.Shut.{shut_joined, shut_off}

-- the words of a pass: those tried, from a transition on, are those ahead
pub record Ahead (n : NetRecord) (delayed : ℕ) (m : Marking) (tried from ahead : ℕ) : Type 0 where
  pub shut : ShutBut tried (readable n) m
  pub only : (j : ℕ) → bit tried j ≡ true → bit delayed j ≡ true
  pub says : (j : ℕ) → bit ahead j ≡ (leb from j && bit tried j)
  pub small : ahead < 2 ^ 64

both : (a b : Bool) → (a && b) ≡ true → (a ≡ true) × (b ≡ true)
both true b e = (refl, e)
both false b e = absurd (true≢false (sym e))

above : (w : ℕ) → (w ≡ 0 → ⊥) → 0 < w
above w h = omega (arith, h)

-- ---- what a pass is asked to look at

pub asked_only : (before delayed j : ℕ) → bit (bit_and before delayed) j ≡ true → bit delayed j ≡ true
asked_only before delayed j e = (both (bit before j) (bit delayed j) (sym (bit_and_lem before delayed j) ∙ e)).1

-- the delayed ones alone of a word
pub asked_shut : (n : NetRecord) (delayed : ℕ) → Marks n timed delayed → (m : Marking) (before : ℕ) → ShutBut before (readable n) m
    → ShutBut (bit_and before delayed) (readable n) m
asked_shut n delayed w m before s j l d e =
    let k : j < n.transitions = omega (arith, transitions_length n) in
    let on : bit delayed j ≡ true = w j ∙ rw (lt-ltb j n.transitions k, d) in
    s j l d (first (bit before j) (bit delayed j) (sym (bit_and_lem before delayed j) ∙ e) on)
  where
    first : (a b : Bool) → (a && b) ≡ false → b ≡ true → a ≡ false
    first true b e f = absurd (true≢false (sym f ∙ e))
    first false b e f = refl

pub joined_only : (delayed crossed asked : ℕ) → ((j : ℕ) → bit asked j ≡ true → bit delayed j ≡ true)
    → (j : ℕ) → bit (bit_or asked (bit_and crossed delayed)) j ≡ true → bit delayed j ≡ true
joined_only delayed crossed asked h j e = go (bit asked j) refl (sym (bit_or_lem asked (bit_and crossed delayed) j) ∙ e)
  where
    go : (c : Bool) → bit asked j ≡ c → (c || bit (bit_and crossed delayed) j) ≡ true → bit delayed j ≡ true
    go true f e = h j f
    go false f e = asked_only crossed delayed j e

-- where it is asked of none, none starts
pub none_asked : (n : NetRecord) (m : Marking) (asked : ℕ) → asked ≡ 0 → ShutBut asked (readable n) m → (room : ℕ) (t : Float) (q : List Timer) (k : ℕ)
    → passes (suc k) room (readable n) t m q ≡ left [] m q
none_asked n m asked z s room t q k =
    passes_none room n t m q k (λ i h. shut_off n m asked s room t q i h (ap (λ (x : ℕ). bit x i) z ∙ bit_none i))

-- ---- a pass

module _ (n : NetRecord) (delayed : ℕ) (w : Marks n timed delayed) (m : Marking) (tried from ahead : ℕ) (a : Ahead n delayed m tried from ahead) where
  -- behind what is done and not ahead, none may start
  off : (room : ℕ) (t : Float) (q : List Timer) (i : ℕ) → from ≤ i → i < n.transitions → bit ahead i ≡ false → Off room n t m q i
  off room t q i l h e =
      shut_off n m tried a.shut room t q i h (sym (a.says i ∙ ap (λ (b : Bool). b && bit tried i) (le-leb from i l)) ∙ e)

  module _ (some : ahead ≡ 0 → ⊥) where
    pub next : ℕ
    next = count_trailing_zeros 64 ahead

    pub next_small : count_trailing_zeros 64 ahead < 64
    next_small = lowest_small 64 ahead (above ahead some) a.small

    there : (leb from (count_trailing_zeros 64 ahead) ≡ true) × (bit tried (count_trailing_zeros 64 ahead) ≡ true)
    there = both _ _ (sym (a.says (count_trailing_zeros 64 ahead)) ∙ lowest_set 64 ahead (above ahead some) a.small)

    pub next_from : from ≤ count_trailing_zeros 64 ahead
    next_from = leb-true _ _ there.0

    pub next_inside : count_trailing_zeros 64 ahead < n.transitions
    next_inside = ltb-true _ _ (both _ _ (sym (w (count_trailing_zeros 64 ahead)) ∙ a.only (count_trailing_zeros 64 ahead) there.1)).0

    -- the pass goes on there
    pub skips : (room : ℕ) (t : Float) (q : List Timer) → pass_from room n t from m q ≡ pass_from room n t (count_trailing_zeros 64 ahead) m q
    skips room t q =
        let e : from + (count_trailing_zeros 64 ahead - from) ≡ count_trailing_zeros 64 ahead = omega (arith, next_from) in
        from_skip room n t m q (count_trailing_zeros 64 ahead - from) from (omega (arith, next_from, next_inside))
        (λ i l h. off room t q i l (omega (arith, next_from, next_inside)) (below_lowest 64 ahead i (omega (arith, next_from))))
        ∙ ap (λ (k : ℕ). pass_from room n t k m q) e

  pub ends : ahead ≡ 0 → (room : ℕ) (t : Float) (q : List Timer) → pass_from room n t from m q ≡ left [] m q
  ends none room t q = from_none room n t m q from (λ i l h. off room t q i l h (ap (λ (x : ℕ). bit x i) none ∙ bit_none i))

  -- after a start, or none
  pub goes_on : {m' : Marking} {moved : ℕ} (crossed : ℕ) → Quiet (readable n) m m' moved crossed
      → (from' ahead' : ℕ) → ((j : ℕ) → bit ahead' j ≡ (leb from' j && bit (bit_or tried (bit_and crossed delayed)) j)) → ahead' < 2 ^ 64
      → Ahead n delayed m' (bit_or tried (bit_and crossed delayed)) from' ahead'
  goes_on crossed q from' ahead' s h =
      record { shut = shut_joined n crossed delayed tried w a.shut q; only = joined_only delayed crossed tried a.only; says = s; small = h }

pub so_skip : {whole rest rest' : Answer Starts} {any : Bool} → SoFar whole rest any → rest ≡ rest' → SoFar whole rest' any
so_skip {whole} {any = any} s e = subst (λ (r : Answer Starts). SoFar whole r any) e s
