-- A loop that fills cells by normal draws until one is refused. What is drawn from here on, put behind what was drawn so far, stays what the whole
-- definition yields; a draw moves one cell over, and a refusal or the end leaves nothing to draw. Assumes nothing.
use mathlib.Core.Path.{◌≡◌, refl, sym, ap, ap₂, ◌∙◌}
use mathlib.Core.List.{List, [], ◌∷◌, ◌++◌}
use Prim.Native.Nat.{ℕ, suc, ◌+◌, ◌≤◌, ◌<◌}
use native.Mathlib.Numerals.{add-one}
use native.Mathlib.Nat.{zero-add}
use native.Mathlib.Omega.{arith}
use lib.Ieee.{Float, nan}
use lib.ListN.{length, take, drop, get_or, set, length-set, length-append, take-append-drop}
use lib.Seq.{take-suc-set, drop-set-lt, drop-cons, append_snoc, length-take-le, drop-length}
use Rattle.rules.specs.Step.{Answer, refused, given}
use Rattle.normals.specs.Normal.{Sampler, normal}
use Rattle.c_face.specs.Normals.{Filled, unless_refused, filled}

abbrev made : ℕ → List Float → Sampler → Filled
made n cells s = record { count = n; cells = cells; sampler = s }

same_made : {n m : ℕ} {xs ys : List Float} (s : Sampler) → n ≡ m → xs ≡ ys → made n xs s ≡ made m ys s
same_made s e f = ap₂ (λ (k : ℕ) (l : List Float). made k l s) e f

-- behind the cells that were drawn before
abbrev behind : List Float → Filled → Filled
behind ps f = made (length ps + f.count) (ps ++ f.cells) f.sampler

behind_none : (f : Filled) → behind [] f ≡ f
behind_none f = same_made f.sampler (zero-add f.count) refl

behind_more : (ps : List Float) (z : Float) (f : Filled) → behind (ps ++ (z ∷ [])) f ≡ behind ps (made (suc f.count) (z ∷ f.cells) f.sampler)
behind_more ps z f = same_made f.sampler (omega (arith, length-append ps (z ∷ []))) (append_snoc ps z f.cells)

-- the first cell, by the draw
filled_given : (s : Sampler) (xs : List Float) (i : ℕ) (z : Float) → i < length xs → (normal s).answer ≡ given z →
    let f = filled (normal s).sampler (drop (suc i) xs) in
    filled s (drop i xs) ≡ made (suc f.count) (z ∷ f.cells) f.sampler
unfolding filled
filled_given s xs i z h e =
    let x = get_or xs i nan in
    let ys = drop (suc i) xs in
    ap (filled s) (drop-cons xs i nan h)
    ∙ ap (λ (a : Answer Float). unless_refused a (normal s).sampler (x ∷ ys) (filled (normal s).sampler ys)) e

filled_refused : (s : Sampler) (xs : List Float) (i c : ℕ) → i < length xs → (normal s).answer ≡ refused c →
    filled s (drop i xs) ≡ made 0 (drop i xs) (normal s).sampler
unfolding filled
filled_refused s xs i c h e =
    let x = get_or xs i nan in
    let ys = drop (suc i) xs in
    ap (filled s) (drop-cons xs i nan h)
    ∙ ap (λ (a : Answer Float). unless_refused a (normal s).sampler (x ∷ ys) (filled (normal s).sampler ys)) e
    ∙ ap (λ (l : List Float). made 0 l (normal s).sampler) (sym (drop-cons xs i nan h))

-- what holds after i draws, from the sampler s₀ and the cells xs₀
pub record Filling (s₀ : Sampler) (xs₀ : List Float) (s : Sampler) (xs : List Float) (i : ℕ) : Type 0 where
  pub within : i ≤ length xs
  pub same : length xs ≡ length xs₀
  pub rest : behind (take i xs) (filled s (drop i xs)) ≡ filled s₀ xs₀

pub filling_none : (s : Sampler) (xs : List Float) → Filling s xs s xs 0
filling_none s xs = record { within = omega arith; same = refl; rest = behind_none (filled s xs) }

-- a draw moves one cell over
over : (s : Sampler) (xs : List Float) (i : ℕ) (t : Sampler) (z : Float) → i < length xs → given z ≡ (normal s).answer → t ≡ (normal s).sampler →
    behind (take (suc i) (set xs i z)) (filled t (drop (suc i) (set xs i z))) ≡ behind (take i xs) (filled s (drop i xs))
over s xs i t z h e f =
    ap₂ (λ (ps ys : List Float). behind ps (filled t ys)) (take-suc-set xs i z h) (drop-set-lt (suc i) xs i z (omega arith))
    ∙ ap (λ (u : Sampler). behind (take i xs ++ (z ∷ [])) (filled u (drop (suc i) xs))) f
    ∙ behind_more (take i xs) z (filled (normal s).sampler (drop (suc i) xs))
    ∙ ap (behind (take i xs)) (sym (filled_given s xs i z h (sym e)))

pub filling_more : {s₀ : Sampler} {xs₀ : List Float} {s : Sampler} {xs : List Float} {i : ℕ} {t : Sampler} {z : Float} → Filling s₀ xs₀ s xs i →
    i < length xs → given z ≡ (normal s).answer → t ≡ (normal s).sampler → Filling s₀ xs₀ t (set xs i z) (i + 1)
filling_more {s₀} {xs₀} {s} {xs} {i} {t} {z} m h e f =
    record {
      within = omega (arith, length-set xs i z);
      same = length-set xs i z ∙ m.same;
      rest = rw add-one (over s xs i t z h e f ∙ m.rest);
    }

pub filling_stop : {s₀ : Sampler} {xs₀ : List Float} {s : Sampler} {xs : List Float} {i c : ℕ} {t : Sampler} → Filling s₀ xs₀ s xs i →
    i < length xs → refused c ≡ (normal s).answer → t ≡ (normal s).sampler → made i xs t ≡ filled s₀ xs₀
filling_stop {s₀} {xs₀} {s} {xs} {i} {c} {t} m h e f =
    ap (made i xs) f
    ∙ same_made (normal s).sampler (omega (arith, length-take-le i xs m.within)) (sym (take-append-drop i xs))
    ∙ ap (behind (take i xs)) (sym (filled_refused s xs i c h (sym e)))
    ∙ m.rest

pub filling_end : {s₀ : Sampler} {xs₀ : List Float} {s : Sampler} {xs : List Float} {i : ℕ} → Filling s₀ xs₀ s xs i → i ≡ length xs →
    made (length xs) xs s ≡ filled s₀ xs₀
unfolding filled
filling_end {s₀} {xs₀} {s} {xs} {i} m e =
    same_made s (omega (arith, e, length-take-le i xs m.within)) (sym (take-append-drop i xs) ∙ ap (λ (l : List Float). take i xs ++ l) none)
    ∙ ap (λ (l : List Float). behind (take i xs) (filled s l)) (sym none)
    ∙ m.rest
  where
    none : drop i xs ≡ []
    none = ap (λ (n : ℕ). drop n xs) e ∙ drop-length xs
