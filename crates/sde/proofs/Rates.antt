-- Tidied rates: what is tidy stays, so that a net with its rates tidied is as sound as before, and has the same paths. Assumes nothing.
use Prim.Native.Nat.{ℕ, zero, suc, ◌+◌, ◌-◌, ◌≤◌, ◌<◌}
use mathlib.Core.Path.{◌≡◌, refl, sym, ap, ◌∙◌}
use mathlib.Core.Bool.{Bool, true, false}
use mathlib.Core.List.{List, ◌∷◌}
use native.Mathlib.Omega.{arith}
use lib.ListN.{length, get_or}
use lib.Ieee.{Float, nan, of_bits, lt, le, eq}
use Rattle.net.specs.declared.Net.{Net as NetRecord}
use Rattle.net.specs.Net.{pick, zero64, one64, rate_of}
use Rattle.net.specs.Record.{labelled}
use Rattle.net.specs.Readable.{transition, transitions_from, readable}
use Rattle.net.specs.Sound.{Sound}
use Rattle.net.specs.Tests.{rate_fits}
use Rattle.rules.specs.Step.{Answer, refused, given}
use Rattle.averages.specs.Request.{Request, seed_of}
use Rattle.averages.specs.Members.{unless_refused}
use Rattle.normals.specs.Normal.{Sampler, seeded_sampler, normal}
use Rattle.sde.specs.Diffusion.{State, Going, and_then, kinetic_of, factored, spread, pushed, pushed_all, begun, after_drift, substep, repeated, over_interval, further, first_state, step_of, cells_of}
use Rattle.sde.specs.Call.{members_from}
use Rattle.sde.specs.Summed.{path_of, walks}
use Rattle.sde.specs.Slots.{tidy, Tidied, Rated}
use Rattle.engine.proofs.Arcs.{on_bool}

-- ---- a rate

one_not_zero : eq one64 zero64 ≡ false
unfolding eq of_bits
one_not_zero = refl

tidy_again : (r d : Float) → tidy (tidy r d) d ≡ tidy r d
tidy_again r d =
    on_bool (lt zero64 d)
    (λ y. simp y)
    (λ y. on_bool (eq r zero64) (λ z. simp (y, z, one_not_zero)) (λ z. simp (y, z)))

zero_fits : rate_fits zero64 ≡ true
unfolding eq of_bits
zero_fits = refl

one_fits : rate_fits one64 ≡ true
unfolding eq le of_bits
one_fits = refl

tidy_fits : (r d : Float) → rate_fits r ≡ true → rate_fits (tidy r d) ≡ true
tidy_fits r d h =
    on_bool (lt zero64 d)
    (λ y. ap (λ (b : Bool). rate_fits (pick b zero64 (pick (eq r zero64) one64 r))) y ∙ zero_fits)
    (λ y. ap (λ (b : Bool). rate_fits (pick b zero64 (pick (eq r zero64) one64 r))) y
    ∙ on_bool (eq r zero64) (λ z. ap (λ (b : Bool). rate_fits (pick b one64 r)) z ∙ one_fits) (λ z. ap (λ (b : Bool). rate_fits (pick b one64 r)) z ∙ h))

-- ---- a net

module _ (n : NetRecord) (rates : List Float) (t : Tidied n.transitions n.rate n.delay rates) where
  abbrev tidied_net : NetRecord
  tidied_net = labelled n.places n.transitions n.initial n.capacity n.label n.lengths rates n.delay n.arcs n.kind n.place n.weight

  rate_same : (j : ℕ) → j < n.transitions → rate_of (transition tidied_net j) ≡ rate_of (transition n j)
  rate_same j h = ap (λ (r : Float). tidy r (get_or n.delay j nan)) (t j h) ∙ tidy_again (get_or n.rate j nan) (get_or n.delay j nan)

  pub rated : Rated tidied_net
  rated j h = t j h ∙ sym (rate_same j h)

  pub tidied_sound : Sound n → Sound tidied_net
  tidied_sound s =
      record {
        place_one = s.place_one;
        places = s.places;
        transitions = s.transitions;
        initial = s.initial;
        capacity = s.capacity;
        arcs = s.arcs;
        rate = λ j h. ap rate_fits (t j h) ∙ tidy_fits (get_or n.rate j nan) (get_or n.delay j nan) (s.rate j h);
        delay = s.delay;
        kind = s.kind;
        place = s.place;
        weight = s.weight;
        once = s.once;
        delayed = s.delayed;
        kinetic = s.kinetic;
      }

  -- its paths, from the transitions up

  spread_same : (j : ℕ) (a dt : Float) (g : Going) (s : Sampler) (z : Answer Float) → spread (transition tidied_net j) a dt g s z ≡ spread (transition n j) a dt g s z
  spread_same j a dt g s (refused c) = refl
  spread_same j a dt g s (given z) = refl

  pushed_same : (dt : Float) (j : ℕ) → j < n.transitions → (g : Going) → pushed dt (transition tidied_net j) g ≡ pushed dt (transition n j) g
  pushed_same dt j h g =
      let d = normal g.sampler in
      λ i.
      let a = factored g.x (rate_same j h i) (kinetic_of (transition n j).takes) in
      pick (eq a zero64) (given g) (spread_same j a dt g d.sampler d.answer i)

  all_same : (dt : Float) (j k : ℕ) → j + k ≤ n.transitions → (g : Going) → pushed_all dt (transitions_from tidied_net j k) g ≡ pushed_all dt (transitions_from n j k) g
  all_same dt j zero h g = refl
  all_same dt j (suc k) h g =
      λ i. and_then (pushed_same dt j (omega arith) g i) (λ (u : Going). all_same dt (suc j) k (omega arith) u i)

  substep_same : (dt : Float) → substep (readable tidied_net) dt ≡ substep (readable n) dt
  substep_same dt = λ i s. and_then (all_same dt 0 n.transitions (omega arith) (begun s) i) (λ (g : Going). given (after_drift g))

  interval_same : (dt : Float) → over_interval (readable tidied_net) dt ≡ over_interval (readable n) dt
  unfolding over_interval
  interval_same dt = λ i s. pick (lt zero64 dt) (repeated 20 (substep_same dt i) s) (given s)

  path_same : (samples : ℕ) (dt : Float) (seed k : ℕ) → path_of (readable tidied_net) samples dt seed k ≡ path_of (readable n) samples dt seed k
  path_same samples dt seed k =
      let s = first_state (readable n) (seeded_sampler (seed_of seed k)) in
      ap (λ (f : State → Answer State). cells_of (length (readable n).places) (and_then (further (samples - 1) f s) (λ (rest : List (List Float)). given (s.x ∷ rest))))
      (interval_same dt)

  walks_same : (samples : ℕ) (dt : Float) (seed k r : ℕ) → walks (readable tidied_net) samples dt seed k r ≡ walks (readable n) samples dt seed k r
  walks_same samples dt seed k zero = refl
  walks_same samples dt seed k (suc r) = λ i. unless_refused k (path_same samples dt seed k i) (walks_same samples dt seed (suc k) r i)

  -- the paths of a request, in substeps of its width
  pub members_made : (q : Request) {dt : Float} → dt ≡ step_of q.samples q.horizon → (k r : ℕ) → walks (readable tidied_net) q.samples dt q.seed k r ≡ members_from (readable n) q k r
  members_made q {dt} e k r = walks_same q.samples dt q.seed k r ∙ ap (λ (d : Float). walks (readable n) q.samples d q.seed k r) e
