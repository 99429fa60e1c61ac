-- Delayed transitions that are not enabled: those outside a word, as a pass goes on, and all of them once a step's starts are done. Assumes nothing.
use Prim.Native.Nat.{ℕ, zero, suc, ◌≤◌, ◌<◌}
use mathlib.Core.Path.{◌≡◌, refl, sym, ap, ◌∙◌, subst}
use mathlib.Core.Bool.{Bool, true, false, ◌&&◌, ◌||◌, true≢false}
use mathlib.Core.List.{List, [], ◌∷◌}
use native.Mathlib.Omega.{arith}
use lib.Bits.{bit_or, bit_and}
use lib.Dec.{ltb}
use lib.ListN.{length, get_or}
use lib.Ieee.{Float}
use borrow.Author.Tests.{lt-ltb}
use Rattle.words.specs.Bits.{bit}
use Rattle.words.proofs.Bits.{bit_or_lem, bit_and_lem}
use Rattle.net.specs.declared.Net.{Net as NetRecord}
use Rattle.net.specs.Net.{Transition, Net, Marking, pick, timed}
use Rattle.net.specs.Readable.{readable}
use Rattle.net.proofs.Lengths.{transitions_length}
use Rattle.rules.specs.Enabled.{enabled}
use Rattle.rules.specs.Moves.{transition, without_arcs, taking}
use Rattle.rules.specs.Timers.{Timer, timer_of, insert}
use Rattle.rules.specs.Step.{State, Answer, refused, given, Starts, preceded, pass, starts}
use Rattle.rules.proofs.Detours.{starts_done}
use Rattle.engine.specs.Guards.{Quiet}
use Rattle.engine.specs.Traits.{Marks}
use Rattle.kept.specs.Kept.{AllShut}
use Rattle.playing.specs.Keeping.{ShutBut}
use Rattle.playing.specs.Starts.{Begun}
use Rattle.engine.proofs.Sides.{transition_at}
use Rattle.playing.proofs.Passes.{Off}

neither : (a b : Bool) → (a || b) ≡ false → (a ≡ false) × (b ≡ false)
neither true b e = absurd (true≢false e)
neither false b e = (refl, e)

both_off : (a b : Bool) → (a ≡ true → b ≡ false) → (a && b) ≡ false
both_off true b h = h refl
both_off false b h = refl

-- a change that opens none outside its word
pub shut_quiet : (n : Net) {m m' : Marking} {moved crossed : ℕ} (asked : ℕ) → ShutBut asked n m → Quiet n m m' moved crossed
    → (word : ℕ) → ((j : ℕ) → j < length n.transitions → timed (transition n j) ≡ true → bit word j ≡ false → (bit asked j ≡ false) × (bit crossed j ≡ false))
    → ShutBut word n m'
shut_quiet n asked s q word h j l d e = let w = h j l d e in q.gates j l w.1 ∙ s j l d w.0

-- the word after a start: those asked before, and the delayed ones that it may have opened
pub shut_joined : (n : NetRecord) {m m' : Marking} {moved : ℕ} (crossed delayed asked : ℕ) → Marks n timed delayed → ShutBut asked (readable n) m
    → Quiet (readable n) m m' moved crossed → ShutBut (bit_or asked (bit_and crossed delayed)) (readable n) m'
shut_joined n crossed delayed asked w s q =
    shut_quiet (readable n) asked s q (bit_or asked (bit_and crossed delayed))
    (λ j l d e.
    let u = neither (bit asked j) (bit (bit_and crossed delayed) j) (sym (bit_or_lem asked (bit_and crossed delayed) j) ∙ e) in
    (u.0, only j l d u.1))
  where
    only : (j : ℕ) → j < length (readable n).transitions → timed (transition (readable n) j) ≡ true → bit (bit_and crossed delayed) j ≡ false → bit crossed j ≡ false
    only j l d e =
        let k : j < n.transitions = omega (arith, transitions_length n) in
        let on : bit delayed j ≡ true = w j ∙ rw (lt-ltb j n.transitions k, d) in
        first (bit crossed j) (bit delayed j) (sym (bit_and_lem crossed delayed j) ∙ e) on
      where
        first : (a b : Bool) → (a && b) ≡ false → b ≡ true → a ≡ false
        first true b e f = absurd (true≢false (sym f ∙ e))
        first false b e f = refl

-- one that is shut does not start
pub shut_off : (n : NetRecord) (m : Marking) (word : ℕ) → ShutBut word (readable n) m → (room : ℕ) (t : Float) (q : List Timer) (j : ℕ) → j < n.transitions
    → bit word j ≡ false → Off room n t m q j
shut_off n m word s room t q j h e =
    subst (λ (x : Transition). (timed x && enabled (readable n) m x) ≡ false) (transition_at n j h)
    (both_off _ _ (λ d. s j (omega (arith, transitions_length n)) d e))

-- ---- once the starts are done

abbrev NoneStarts : Answer Starts → Type 0
NoneStarts (refused c) = ⊥
NoneStarts (given b) = b.who ≡ []

cons_not_nil : {j : ℕ} {js : List ℕ} → j ∷ js ≡ [] → ⊥
cons_not_nil e = true≢false (ap some_first e)
  where
    some_first : List ℕ → Bool
    some_first [] = false
    some_first (j ∷ js) = true

not_preceded : (j : ℕ) (r : Answer Starts) → NoneStarts (preceded (j ∷ []) r) → ⊥
not_preceded j (refused c) h = h
not_preceded j (given b) h = cons_not_nil h

module _ (room : ℕ) (n : Net) (t : Float) where
  none_enabled : (j : ℕ) (ts : List Transition) (m : Marking) (q : List Timer) → NoneStarts (pass room n t j ts m q)
      → (i : ℕ) → i < length ts → (timed (get_or ts i without_arcs) && enabled n m (get_or ts i without_arcs)) ≡ false
  none_enabled j [] m q h i l = absurd (omega arith)
  none_enabled j (x ∷ ts) m q h i l = go (timed x && enabled n m x) refl h i l (λ g i l. none_enabled (suc j) ts m q g i l)
    where
      go : (c : Bool) → (timed x && enabled n m x) ≡ c
          → NoneStarts (pick c (pick (ltb (length q) room) (preceded (j ∷ []) (pass room n t (suc j) ts (taking m x.takes) (insert (timer_of t j x) q))) (refused 15)) (pass room n t (suc j) ts m q))
          → (i : ℕ) → i < length (x ∷ ts)
          → (NoneStarts (pass room n t (suc j) ts m q) → (i : ℕ) → i < length ts → (timed (get_or ts i without_arcs) && enabled n m (get_or ts i without_arcs)) ≡ false)
          → (timed (get_or (x ∷ ts) i without_arcs) && enabled n m (get_or (x ∷ ts) i without_arcs)) ≡ false
      go true e h i l ih = absurd (tried (ltb (length q) room) h)
        where
          tried : (c : Bool) → NoneStarts (pick c (preceded (j ∷ []) (pass room n t (suc j) ts (taking m x.takes) (insert (timer_of t j x) q))) (refused 15)) → ⊥
          tried true h = not_preceded j (pass room n t (suc j) ts (taking m x.takes) (insert (timer_of t j x) q)) h
          tried false h = h
      go false e h zero l ih = e
      go false e h (suc i) l ih = ih h i (omega arith)

  pub all_shut : (m : Marking) (q : List Timer) → pass room n t 0 n.transitions m q ≡ given (record { who = []; counts = m; timers = q }) → AllShut n m
  all_shut m q e j h d = second (timed (transition n j)) (enabled n m (transition n j)) (none_enabled 0 n.transitions m q (subst NoneStarts (sym e) refl) j h) d
    where
      second : (a b : Bool) → (a && b) ≡ false → a ≡ true → b ≡ false
      second true b e d = e
      second false b e d = absurd (true≢false (sym d))

pub starts_shut : (room : ℕ) (n : Net) (before : State) → length before.timers ≤ room → {m : Marking} {q : List Timer} {any : Bool} → Begun (starts room n before) m q any → AllShut n m
starts_shut room n before few {m} {q} b =
    all_shut room n before.clock m q (starts_done room n before few (record { who = b.who; counts = m; timers = q }) b.is)
