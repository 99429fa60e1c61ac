-- One place twice among the takes, slot by slot: with the places of the takes so far in a set, what is left to find is the whole. Assumes nothing.
use Prim.Native.Nat.{ℕ, ◌+◌, ◌-◌, ◌<◌}
use mathlib.Core.Path.{◌≡◌, refl, sym, ap, ◌∙◌}
use mathlib.Core.Bool.{Bool, true, false, ◌&&◌, ◌||◌, not, or-false, or-true}
use mathlib.Core.List.{List, [], ◌∷◌}
use borrow.Author.Tests.{eq-eqb, ne_eqb, eqb-true, eqb-false}
use lib.Dec.{eqb, leb}
use lib.ListN.{get_or}
use Rattle.words.specs.Bits.{bit}
use Rattle.words.proofs.Bits.{bit_none}
use Rattle.net.specs.Tests.{any, twice}
use Rattle.net.specs.Readable.{Slot, slot_at, slots}
use Rattle.net.proofs.Slots.{slots_step, any_or, taken, any_taken}

pub eqb_swap : (a b : ℕ) → eqb a b ≡ eqb b a
eqb_swap a b = go (eqb a b) refl
  where
    go : (x : Bool) → eqb a b ≡ x → x ≡ eqb b a
    go true e = sym (eq-eqb b a (sym (eqb-true a b e)))
    go false e = sym (ne_eqb b a (λ d. eqb-false a b e (sym d)))

-- ---- numbers: met before, or twice among those that are left

abbrev pub again : (ℕ → Bool) → List ℕ → Bool
again met xs = any met xs || twice xs

pub again_none : (xs : List ℕ) → again (bit 0) xs ≡ twice xs
again_none xs = ap (λ (b : Bool). b || twice xs) (none xs)
  where
    none : (xs : List ℕ) → any (bit 0) xs ≡ false
    none [] = refl
    none (x ∷ xs) = rw (bit_none x) (none xs)

any_where : (on : Bool) (f : ℕ → Bool) (xs : List ℕ) → any (λ (x : ℕ). on && f x) xs ≡ (on && any f xs)
any_where true f xs = refl
any_where false f [] = refl
any_where false f (x ∷ xs) = any_where false f xs

-- a number that the set has room for is put there, and any other looked for in what is left
pub again_turn : (room : Bool) (met : ℕ → Bool) (p : ℕ) (xs : List ℕ)
    → again met (p ∷ xs) ≡ ((met p || (not room && any (eqb p) xs)) || again (λ (q : ℕ). met q || (room && eqb p q)) xs)
again_turn room met p xs =
    shift room (met p) (any met xs) (any (eqb p) xs) (twice xs)
    ∙ ap (λ (b : Bool). (met p || (not room && any (eqb p) xs)) || (b || twice xs))
    (sym (any_or met (λ (q : ℕ). room && eqb p q) xs ∙ ap (λ (b : Bool). any met xs || b) (any_where room (eqb p) xs)))
  where
    shift : (r m a e t : Bool) → ((m || a) || (e || t)) ≡ ((m || (not r && e)) || ((a || (r && e)) || t))
    shift r true a e t = refl
    shift true false true e t = refl
    shift true false false e t = refl
    shift false false a true t = or-true a
    shift false false a false t = ap (λ (b : Bool). b || t) (sym (or-false a))

-- ---- slots

-- what is left to find in them
abbrev pub left : (ℕ → Bool) → List Slot → Bool
left met ls = again met (taken ls)

no_take : (l : Slot) (ls : List Slot) → leb l.kind 1 ≡ false → taken (l ∷ ls) ≡ taken ls
no_take l ls e = rw e

a_take : (l : Slot) (ls : List Slot) → leb l.kind 1 ≡ true → taken (l ∷ ls) ≡ l.place ∷ taken ls
a_take l ls e = rw e

module _ (k p w : List ℕ) (a e : ℕ) (met : ℕ → Bool) {t : Bool} where
  pub no_take_turn : a < e → left met (slots k p w a (e - a)) ≡ t → leb (get_or k a 0) 1 ≡ false → left met (slots k p w (a + 1) (e - (a + 1))) ≡ t
  no_take_turn h inv d =
      let rest = slots k p w (a + 1) (e - (a + 1)) in
      sym (ap (left met) (slots_step k p w a e h) ∙ ap (again met) (no_take (slot_at k p w a) rest d)) ∙ inv

  pub take_turn : (room : Bool) → a < e → left met (slots k p w a (e - a)) ≡ t → leb (get_or k a 0) 1 ≡ true
      → t
      ≡ ((met (get_or p a 0) || (not room && any (λ (l : Slot). leb l.kind 1 && eqb (get_or p a 0) l.place) (slots k p w (a + 1) (e - (a + 1)))))
      || left (λ (q : ℕ). met q || (room && eqb (get_or p a 0) q)) (slots k p w (a + 1) (e - (a + 1))))
  take_turn room h inv d =
      let rest = slots k p w (a + 1) (e - (a + 1)) in
      let q = get_or p a 0 in
      sym inv
      ∙ ap (left met) (slots_step k p w a e h)
      ∙ ap (again met) (a_take (slot_at k p w a) rest d)
      ∙ again_turn room met q (taken rest)
      ∙ ap (λ (b : Bool). (met q || (not room && b)) || left (λ (x : ℕ). met x || (room && eqb q x)) rest) (any_taken (eqb q) rest)
