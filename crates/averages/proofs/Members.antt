-- Paths in front of others: those done so far, put in front of those that are left, are the whole. Assumes nothing.
use Rattle.std.proofs.Common.{◌≡◌, ℕ, suc, ◌+◌, ◌-◌, ◌<◌, List, [], ◌∷◌, ◌++◌, sym, refl, ap, ◌∙◌, add-one, arith}
use Rattle.rules.specs.Step.{Answer}
use Rattle.averages.specs.Members.{Members, refused_at, members, with, unless_refused, paths_from, last_of}

abbrev pub with_all : {A : Type 0} → List A → Members A → Members A
with_all [] rest = rest
with_all (a ∷ done) rest = with a (with_all done rest)

pub with_more : {A : Type 0} (done : List A) (a : A) (rest : Members A) → with_all (done ++ (a ∷ [])) rest ≡ with_all done (with a rest)
with_more [] a rest = refl
with_more (b ∷ done) a rest = ap (with b) (with_more done a rest)

pub with_refused : {A : Type 0} (done : List A) (c k : ℕ) → with_all done (refused_at c k) ≡ refused_at c k
with_refused [] c k = refl
with_refused (b ∷ done) c k = ap (with b) (with_refused done c k)

pub with_none : {A : Type 0} (done : List A) → with_all done (members []) ≡ members done
with_none [] = refl
with_none (b ∷ done) = ap (with b) (with_none done)

pub one_more : {A : Type 0} (w : ℕ → Answer A) (r k : ℕ) → k < r
    → paths_from w k (r - k) ≡ unless_refused k (w k) (paths_from w (k + 1) (r - (k + 1)))
one_more w r k h =
    let d : r - k ≡ suc (r - (k + 1)) = omega arith in
    ap (paths_from w k) d ∙ ap (λ (j : ℕ). unless_refused k (w k) (paths_from w j (r - (k + 1)))) (sym (add-one k))

pub last_more : {A : Type 0} (done : List (List A)) (a : List A) → last_of (done ++ (a ∷ [])) ≡ a
last_more [] a = refl
last_more (b ∷ []) a = refl
last_more (b ∷ (d ∷ done)) a = last_more (d ∷ done) a
