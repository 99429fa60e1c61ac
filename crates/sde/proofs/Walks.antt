-- A whole path: the first state is the initial counts as floats, and the first instant stands in front of the others. Assumes nothing.
use Prim.Native.Nat.{ℕ, zero, suc, ◌-◌, ◌≤◌}
use mathlib.Core.Path.{◌≡◌, refl, ap, ◌∙◌}
use mathlib.Core.List.{List, [], ◌∷◌, map}
use native.Mathlib.Omega.{arith}
use lib.ListN.{length, get_or, take}
use lib.Seq.{length-take-le}
use lib.Ieee.{Float}
use Rattle.net.specs.declared.Net.{Net as NetRecord}
use Rattle.net.specs.Net.{Place}
use Rattle.net.specs.Readable.{places_from, readable}
use Rattle.rules.specs.Propensity.{float}
use Rattle.rules.specs.Step.{Answer, refused, given}
use Rattle.normals.specs.declared.GaussianSampler.{GaussianSampler}
use Rattle.normals.specs.Normal.{sampler_of, seeded_sampler}
use Rattle.sde.specs.Diffusion.{State, and_then, each_from, further, over_interval, first_state, walked, cells_of}
use Rattle.sde.specs.Arrays.{preceded, Mapped, Beyond}

counts_from_lem : (initial capacity : List ℕ) (p k : ℕ) (xs : List Float) → length xs ≡ k
    → each_from (λ (q : ℕ) (v : Float). float (get_or initial q 0)) p xs ≡ map (λ (q : Place). float q.initial) (places_from initial capacity p k)
counts_from_lem initial capacity p zero [] e = refl
counts_from_lem initial capacity p zero (x ∷ xs) e = absurd (omega arith)
counts_from_lem initial capacity p (suc k) [] e = absurd (omega arith)
counts_from_lem initial capacity p (suc k) (x ∷ xs) e = ap (λ (l : List Float). float (get_or initial p 0) ∷ l) (counts_from_lem initial capacity (suc p) k xs (omega arith))

preceded_one : {A : Type 0} (a : A) (ans : Answer (List A)) → preceded (a ∷ []) ans ≡ and_then ans (λ (rest : List A). given (a ∷ rest))
preceded_one a (refused c) = refl
preceded_one a (given rest) = refl

module _ (n : NetRecord) (x x' : List Float) (long : length x ≡ 32) (small : n.places ≤ 32)
    (m : Mapped n.places (λ (p : ℕ) (v : Float). float (get_or n.initial p 0)) x x') (seed : ℕ) (s : GaussianSampler) (y : sampler_of s ≡ seeded_sampler seed) where
  abbrev first : State
  first = record { x = take n.places x'; sampler = sampler_of s }

  first_is : first ≡ first_state (readable n) (seeded_sampler seed)
  first_is =
      let e : take n.places x' ≡ map (λ (q : Place). float q.initial) (places_from n.initial n.capacity 0 n.places) =
      m.each ∙ counts_from_lem n.initial n.capacity 0 n.places (take n.places x) (length-take-le n.places x (omega arith)) in
      λ i. record { x = e i; sampler = y i }

  pub walk_made : (dt : Float) (samples : ℕ)
      → cells_of n.places (preceded (take n.places x' ∷ []) (further (samples - 1) (over_interval (readable n) dt) first))
      ≡ cells_of n.places (walked (readable n) dt samples seed)
  walk_made dt samples =
      ap (cells_of n.places)
      (preceded_one (take n.places x') (further (samples - 1) (over_interval (readable n) dt) first)
      ∙ ap (λ (v : State). and_then (further (samples - 1) (over_interval (readable n) dt) v) (λ (rest : List (List Float)). given (v.x ∷ rest))) first_is)

pub beyond_join : {cells : ℕ} {a b c : List Float} → Beyond cells a b → Beyond cells b c → Beyond cells a c
beyond_join f g = record { long = g.long ∙ f.long; stays = g.stays ∙ f.stays }
