-- "As often as it is met" (Forms, many): its bound is never felt, since an arc takes a byte or more (takes-arc). So it is one arc and then the
-- rest (many-next), or none (many-end). Assumes nothing.
use Prim.Native.Nat.{ℕ, zero, suc, ◌≤◌, ◌<◌}
use Prim.Native.String.{String}
use mathlib.Core.Path.{◌≡◌, refl, sym, ap, ◌∙◌}
use mathlib.Core.Bool.{Bool, true, false}
use mathlib.Core.List.{List, [], ◌∷◌, ◌++◌, append-nil, append_assoc}
use native.Mathlib.Omega.{arith}
use lib.Dec.{eqb}
use lib.ListN.{length}
use Rattle.net.specs.Net.{pick}
use Rattle.text.specs.Text.{Bytes, bytes}
use Rattle.net_text.specs.Forms.{Met, wrong, met, Form, say, behind, instead, ◌or◌, up_to, many, exactly, decimal, some_digits, digits, after_digits, is_digit_byte, next_arc, RawArc, raw_take, raw_put, raw_read, raw_block, Decimal, quoted, take_form, arc_form, ◌>>=◌, ◌>>◌}

-- a form that takes a byte or more
abbrev pub Takes : {A : Type 0} → Form A → Type 0
Takes {A} f = (t : Bytes) (a : A) (rest : Bytes) → f t ≡ met a rest → length rest < length t

-- what stands behind the first time
abbrev pub again : {A : Type 0} → ℕ → Form A → A → Form (List A)
again k f a t = behind (up_to k f t) (λ rest. say (a ∷ rest))

-- at k and at j times alike, if both are as many as the bytes
alike_by : {A : Type 0} (f : Form A) (k j : ℕ) (t : Bytes) (m : Met A)
    → ((a : A) (r : Bytes) → m ≡ met a r → up_to k f r ≡ up_to j f r)
    → instead (behind m (again k f)) (say []) t ≡ instead (behind m (again j f)) (say []) t
alike_by f k j t wrong h = refl
alike_by f k j t (met a r) h = rw (h a r refl)

nothing_left : {A : Type 0} (f : Form A) → Takes f → (j : ℕ) → up_to j f [] ≡ met [] []
nothing_left f h zero = refl
nothing_left f h (suc j) = go (f []) refl
  where
    go : (m : Met _) → f [] ≡ m → instead (behind m (again j f)) (say []) [] ≡ met [] []
    go wrong e = refl
    go (met a r) e = let short : length r < 0 = h [] a r e in absurd (omega arith)

pub alike : {A : Type 0} (f : Form A) → Takes f → (k j : ℕ) (t : Bytes) → length t ≤ k → length t ≤ j → up_to k f t ≡ up_to j f t
alike f h zero j [] p q = sym (nothing_left f h j)
alike f h zero j (b ∷ t) p q = absurd (omega arith)
alike f h (suc k) zero [] p q = nothing_left f h (suc k)
alike f h (suc k) zero (b ∷ t) p q = absurd (omega arith)
alike f h (suc k) (suc j) t p q =
    alike_by f k j t (f t) (λ a r e. let less : length r < length t = h t a r e in alike f h k j r (omega arith) (omega arith))

-- met once: then as often as it is met behind that
pub many_more : {A : Type 0} (f : Form A) → Takes f → (t : Bytes) (a : A) (r : Bytes) → f t ≡ met a r
    → many f t ≡ instead (behind (many f r) (λ rest. say (a ∷ rest))) (say []) t
many_more f h [] a r e = let short : length r < 0 = h [] a r e in absurd (omega arith)
many_more f h (b ∷ t) a r e =
    let less : length r < suc (length t) = h (b ∷ t) a r e in
    rw (e, alike f h (length t) (length r) r (omega arith) (omega arith))

-- not met: none
pub many_none : {A : Type 0} (f : Form A) (t : Bytes) → f t ≡ wrong → many f t ≡ met [] t
many_none f [] e = refl
many_none f (b ∷ t) e = rw e

-- it is always met, if only as often as never
instead_met : {A : Type 0} (m : Met (List A)) (t : Bytes) → instead m (say []) t ≡ wrong → ⊥
instead_met wrong t e = let z : ◌≡◌ {A = ℕ} 0 1 = cc in omega arith
instead_met (met a r) t e = let z : ◌≡◌ {A = ℕ} 0 1 = cc in omega arith

up_to_met : {A : Type 0} (k : ℕ) (f : Form A) (t : Bytes) → up_to k f t ≡ wrong → ⊥
up_to_met zero f t e = let z : ◌≡◌ {A = ℕ} 0 1 = cc in omega arith
up_to_met (suc k) f t e = instead_met (behind (f t) (again k f)) t e

-- the times behind those in hand
abbrev pub joined : {A : Type 0} → List A → List A → Form (List A)
joined got rest = say (got ++ rest)

next_by : {A : Type 0} (a : A) (got : List A) (t : Bytes) (m : Met (List A)) → (m ≡ wrong → ⊥)
    → behind (instead (behind m (λ rest. say (a ∷ rest))) (say []) t) (joined got) ≡ behind m (joined (got ++ (a ∷ [])))
next_by a got t wrong n = absurd (n refl)
next_by a got t (met xs r) n = ap (λ (l : List _). met l r) (sym (append_assoc got (a ∷ []) xs))

-- met once more
pub many_next : {A : Type 0} (f : Form A) → Takes f → (got : List A) (t : Bytes) (a : A) (r : Bytes) → f t ≡ met a r
    → behind (many f t) (joined got) ≡ behind (many f r) (joined (got ++ (a ∷ [])))
many_next f h got t a r e =
    ap (λ (m : Met (List _)). behind m (joined got)) (many_more f h t a r e) ∙ next_by a got t (many f r) (up_to_met (length r) f r)

-- not met any more
pub many_end : {A : Type 0} (f : Form A) (got : List A) (t : Bytes) → f t ≡ wrong → behind (many f t) (joined got) ≡ met got t
many_end f got t e = ap (λ (m : Met (List _)). behind m (joined got)) (many_none f t e) ∙ ap (λ (l : List _). met l t) (append-nil got)

-- ---- an arc takes a byte or more

-- a form that leaves no more than it was given
abbrev pub Keeps : {A : Type 0} → Form A → Type 0
Keeps {A} f = (t : Bytes) (a : A) (rest : Bytes) → f t ≡ met a rest → length rest ≤ length t

keeps_say : {A : Type 0} (a : A) → Keeps (say a)
keeps_say a t x rest e = let left : t ≡ rest = cc in omega (arith, ap length left)

then_by : {A B : Type 0} (n : ℕ) (m : Met A) (g : A → Form B) → ((a : A) (r : Bytes) → m ≡ met a r → length r ≤ n) → ((a : A) → Keeps (g a))
    → (b : B) (rest : Bytes) → behind m g ≡ met b rest → length rest ≤ n
then_by n wrong g p q b rest e = let z : ◌≡◌ {A = ℕ} 0 1 = cc in absurd (omega arith)
then_by n (met a r) g p q b rest e = omega (arith, p a r refl, q a r b rest e)

keeps_then : {A B : Type 0} (f : Form A) (g : A → Form B) → Keeps f → ((a : A) → Keeps (g a)) → Keeps (λ t. behind (f t) g)
keeps_then f g p q t b rest e = then_by (length t) (f t) g (λ a r h. p t a r h) q b rest e

takes_by : {A B : Type 0} (n : ℕ) (m : Met A) (g : A → Form B) → ((a : A) (r : Bytes) → m ≡ met a r → length r < n) → ((a : A) → Keeps (g a))
    → (b : B) (rest : Bytes) → behind m g ≡ met b rest → length rest < n
takes_by n wrong g p q b rest e = let z : ◌≡◌ {A = ℕ} 0 1 = cc in absurd (omega arith)
takes_by n (met a r) g p q b rest e = omega (arith, p a r refl, q a r b rest e)

takes_then : {A B : Type 0} (f : Form A) (g : A → Form B) → Takes f → ((a : A) → Keeps (g a)) → Takes (λ t. behind (f t) g)
takes_then f g p q t b rest e = takes_by (length t) (f t) g (λ a r h. p t a r h) q b rest e

or_by : {A : Type 0} (m : Met A) (g : Form A) (t : Bytes) → ((a : A) (r : Bytes) → m ≡ met a r → length r ≤ length t) → Keeps g
    → (a : A) (rest : Bytes) → instead m g t ≡ met a rest → length rest ≤ length t
or_by wrong g t p q a rest e = q t a rest e
or_by (met b r) g t p q a rest e = p a rest e

keeps_or : {A : Type 0} (f g : Form A) → Keeps f → Keeps g → Keeps (f or g)
keeps_or f g p q t a rest e = or_by (f t) g t (λ b r h. p t b r h) q a rest e

exactly_by : (x : Bool) (bs t : Bytes) → ((a : Unit {0}) (r : Bytes) → exactly bs t ≡ met a r → length r ≤ length t)
    → (a : Unit {0}) (rest : Bytes) → pick x (exactly bs t) wrong ≡ met a rest → length rest < suc (length t)
exactly_by true bs t earlier a rest e = omega (arith, earlier a rest e)
exactly_by false bs t earlier a rest e = let z : ◌≡◌ {A = ℕ} 0 1 = cc in absurd (omega arith)

keeps_exactly : (bs : Bytes) → Keeps (exactly bs)
keeps_exactly [] t a rest e = let left : t ≡ rest = cc in omega (arith, ap length left)
keeps_exactly (b ∷ bs) [] a rest e = let z : ◌≡◌ {A = ℕ} 0 1 = cc in absurd (omega arith)
keeps_exactly (b ∷ bs) (c ∷ t) a rest e = omega (arith, exactly_by (eqb b c) bs t (λ x r h. keeps_exactly bs t x r h) a rest e)

takes_exactly : (b : ℕ) (bs : Bytes) → Takes (exactly (b ∷ bs))
takes_exactly b bs [] a rest e = let z : ◌≡◌ {A = ℕ} 0 1 = cc in absurd (omega arith)
takes_exactly b bs (c ∷ t) a rest e = exactly_by (eqb b c) bs t (λ x r h. keeps_exactly bs t x r h) a rest e

after_by : (x : Bool) (b : ℕ) (t : Bytes) → length (after_digits t) ≤ length t → length (pick x (after_digits t) (b ∷ t)) ≤ suc (length t)
after_by true b t h = omega arith
after_by false b t h = omega arith

after_keeps : (t : Bytes) → length (after_digits t) ≤ length t
after_keeps [] = omega arith
after_keeps (b ∷ t) = after_by (is_digit_byte b) b t (after_keeps t)

some_keeps : (ds : Bytes) → Keeps (some_digits ds)
some_keeps [] t a rest e = let z : ◌≡◌ {A = ℕ} 0 1 = cc in absurd (omega arith)
some_keeps (d ∷ ds) t a rest e = let left : t ≡ rest = cc in omega (arith, ap length left)

keeps_decimal : Keeps decimal
keeps_decimal t a rest e = omega (arith, some_keeps (digits t) (after_digits t) a rest e, after_keeps t)

-- part by part, as the forms are written
keeps_quoted : {A : Type 0} (s : String) (g : Form A) → Keeps g → Keeps (◌>>◌ (quoted s) g)
keeps_quoted s g q = keeps_then (quoted s) (λ x. g) (keeps_exactly (bytes s)) (λ x. q)

keeps_number : {A : Type 0} (g : Decimal → Form A) → ((d : Decimal) → Keeps (g d)) → Keeps (◌>>=◌ decimal g)
keeps_number g q = keeps_then decimal g keeps_decimal q

keeps_take : Keeps take_form
keeps_take =
    keeps_quoted "(take " _ (keeps_number _ λ p. keeps_quoted " " _ (keeps_number _ λ w. keeps_quoted " " _ (keeps_number _ λ k.
    keeps_quoted ")" _ (keeps_say (raw_take p w k)))))

keeps_arc : (word : String) (arc : Decimal → Decimal → RawArc) → Keeps (arc_form word arc)
keeps_arc word arc =
    keeps_quoted word _ (keeps_number _ λ p. keeps_quoted " " _ (keeps_number _ λ w. keeps_quoted ")" _ (keeps_say (arc p w))))

pub takes_arc : Takes next_arc
takes_arc =
    takes_then (quoted " ") (λ x. take_form or arc_form "(put " raw_put or arc_form "(read " raw_read or arc_form "(block " raw_block)
    (takes_exactly 32 [])
    (λ x. keeps_or take_form _ keeps_take
    (keeps_or (arc_form "(put " raw_put) _ (keeps_arc "(put " raw_put)
    (keeps_or (arc_form "(read " raw_read) (arc_form "(block " raw_block) (keeps_arc "(read " raw_read) (keeps_arc "(block " raw_block))))
