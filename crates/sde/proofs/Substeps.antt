-- Answers, transition by transition and substep by substep: what is left to do, from the state so far, comes to the whole; and the parts of a substep
-- are the definition's. Assumes nothing.
use Prim.Native.Nat.{ℕ, suc, ◌+◌, ◌-◌, ◌*◌, ◌/◌, ◌%◌, ◌≤◌, ◌<◌}
use mathlib.Core.Path.{◌≡◌, sym, ap, ◌∙◌}
use mathlib.Core.Bool.{Bool, true, false}
use mathlib.Core.List.{List}
use native.Mathlib.Omega.{arith}
use native.Mathlib.Numerals.{add-one}
use lib.ListN.{length, get_or, take, length-take}
use lib.Seq.{get_or-take, length-take-le}
use lib.Ieee.{Float, nan, binary64, add, mul, lt, eq}
use Rattle.std.specs.Prelude.{Result, Ok, Err}
use Rattle.refusals.specs.Number.{number_of}
use Rattle.refusals.specs.declared.Refusal.{Refusal as RefusalEnum}
use Rattle.net.specs.declared.Net.{Net as NetRecord}
use Rattle.net.specs.Net.{Net, pick, zero64}
use Rattle.net.specs.Readable.{transition, transitions_from}
use Rattle.root.specs.Root.{root_of}
use Rattle.rules.specs.Step.{Answer, refused, given}
use Rattle.normals.specs.declared.GaussianSampler.{GaussianSampler}
use Rattle.normals.specs.Normal.{Drawn, sampler_of, answer_of, answered_by, normal}
use Rattle.sde.specs.declared.substep.State.{State as StateStruct}
use Rattle.sde.specs.Diffusion.{State, Going, and_then, change, propensity, drift_by, noise_by, drifted, noised, spread, pushed, pushed_all, begun, above_zero, after_drift, substep, repeated, over_interval, at}
use Rattle.sde.specs.Slots.{Changes}
use Rattle.sde.specs.Arrays.{state_of, going_of, answered, Mapped}
use Rattle.sde.proofs.Each.{each_same, each_one}

-- ---- answers

-- what follows an answer that stopped or left a
module _ {A B : Type 0} {ans : Answer A} (a : A) (r : Result Unit RefusalEnum) (e : answered r a ≡ ans) (f : A → Answer B) where
  pub then_stop : (c : RefusalEnum) → r ≡ Err c → refused (number_of c) ≡ and_then ans f
  then_stop c h = ap (λ (x : Answer A). and_then x f) (sym (ap (λ (t : Result Unit RefusalEnum). answered t a) h) ∙ e)

  pub then_go : (u : Unit) → r ≡ Ok u → f a ≡ and_then ans f
  then_go u h = ap (λ (x : Answer A). and_then x f) (sym (ap (λ (t : Result Unit RefusalEnum). answered t a) h) ∙ e)

-- ---- one transition

-- the changes of transition j, read off the table
module _ (n : NetRecord) (changes : List Float) (j places : ℕ) (h : j < n.transitions) (small : places ≤ 32) (c : Changes n changes) where
  table_change : (p : ℕ) → p < places → get_or changes (32 * j + p) nan ≡ change (transition n j) p
  table_change p g =
      let d : (32 * j + p) / 32 ≡ j = omega arith in
      let r : (32 * j + p) % 32 ≡ p = omega arith in
      c (32 * j + p) (omega arith) ∙ (λ i. change (transition n (d i)) (r i))

  module _ (u : StateStruct) (lx : length u.x ≡ 32) (ld : length u.drift ≡ 32) where
    noised_is : (noise : Float) {after : List Float} → Mapped places (λ (p : ℕ). noise_by (get_or changes (32 * j + p) nan) noise) u.x after
        → take places after ≡ noised (transition n j) noise (take places u.x)
    noised_is noise m =
        m.each
        ∙ each_same (λ (p : ℕ). noise_by (get_or changes (32 * j + p) nan) noise) (λ (p : ℕ). noise_by (change (transition n j) p) noise) (take places u.x)
        (λ i b v. ap (λ (d : Float). noise_by d noise v) (table_change i (omega (arith, length-take-le places u.x (omega arith)))))

    drifted_is : (a dt : Float) {after : List Float} → Mapped places (λ (p : ℕ). drift_by (get_or changes (32 * j + p) nan) a dt) u.drift after
        → take places after ≡ drifted (transition n j) a dt (take places u.drift)
    drifted_is a dt m =
        m.each
        ∙ each_same (λ (p : ℕ). drift_by (get_or changes (32 * j + p) nan) a dt) (λ (p : ℕ). drift_by (change (transition n j) p) a dt) (take places u.drift)
        (λ i b v. ap (λ (d : Float). drift_by d a dt v) (table_change i (omega (arith, length-take-le places u.drift (omega arith)))))

    -- with propensity a
    module _ (dt root a : Float) (e : root ≡ root_of dt) (y : a ≡ propensity (take places u.x) (transition n j)) where
      abbrev before : Going
      before = going_of places u

      abbrev after : Float → Drawn → Answer Going
      after b d = spread (transition n j) b dt before d.sampler d.answer

      pub push_nothing : eq a zero64 ≡ true → given before ≡ pushed dt (transition n j) before
      push_nothing t =
          sym (ap (λ (b : Bool). pick b (given before) (after (propensity (take places u.x) (transition n j)) (normal (sampler_of u.sampler)))) (sym (ap (λ (b : Float). eq b zero64) y) ∙ t))

      push_draw : eq a zero64 ≡ false → pushed dt (transition n j) before ≡ after a (normal (sampler_of u.sampler))
      push_draw t =
          ap (λ (b : Bool). pick b (given before) (after (propensity (take places u.x) (transition n j)) (normal (sampler_of u.sampler)))) (sym (ap (λ (b : Float). eq b zero64) y) ∙ t)
          ∙ ap (λ (b : Float). after b (normal (sampler_of u.sampler))) (sym y)

      -- r is the draw, and s the sampler after it
      module _ (t : eq a zero64 ≡ false) (r : Result Float RefusalEnum) (s : GaussianSampler) (d : answered_by r s ≡ normal (sampler_of u.sampler)) where
        pub push_refused : (c : RefusalEnum) → r ≡ Err c → refused (number_of c) ≡ pushed dt (transition n j) before
        push_refused c k =
            ap (λ (z : Result Float RefusalEnum). spread (transition n j) a dt before (sampler_of s) (answer_of z)) (sym k)
            ∙ ap (after a) d
            ∙ sym (push_draw t)

        pub push_value : (z ra : Float) (v : StateStruct) → r ≡ Ok z → ra ≡ root_of a
            → Mapped places (λ (p : ℕ). noise_by (get_or changes (32 * j + p) nan) (mul binary64 (mul binary64 ra root) z)) u.x v.x
            → Mapped places (λ (p : ℕ). drift_by (get_or changes (32 * j + p) nan) a dt) u.drift v.drift
            → v.sampler ≡ s
            → given (going_of places v) ≡ pushed dt (transition n j) before
        push_value z ra v k q m w g =
            (λ i. given (record {
              x = noised_is (mul binary64 (mul binary64 ra root) z) m i;
              drift = drifted_is a dt w i;
              sampler = sampler_of (g i);
            }))
            ∙ (λ i. given (record {
              x = noised (transition n j) (mul binary64 (mul binary64 (q i) (e i)) z) (take places u.x);
              drift = drifted (transition n j) a dt (take places u.drift);
              sampler = sampler_of s;
            }))
            ∙ ap (λ (y : Result Float RefusalEnum). spread (transition n j) a dt before (sampler_of s) (answer_of y)) (sym k)
            ∙ ap (after a) d
            ∙ sym (push_draw t)

-- ---- transition by transition

module _ (n : NetRecord) (dt : Float) (j e : ℕ) (g : Going) where
  pub all_step : j < e → pushed_all dt (transitions_from n j (e - j)) g ≡ and_then (pushed dt (transition n j) g) (pushed_all dt (transitions_from n (j + 1) (e - (j + 1))))
  all_step h =
      let d : e - j ≡ suc (e - (j + 1)) = omega arith in
      ap (λ (k : ℕ). pushed_all dt (transitions_from n j k) g) d
      ∙ ap (λ (i : ℕ). and_then (pushed dt (transition n j) g) (pushed_all dt (transitions_from n i (e - (j + 1))))) (sym (add-one j))

  pub all_end : e ≤ j → given g ≡ pushed_all dt (transitions_from n j (e - j)) g
  all_end h =
      let d : e - j ≡ 0 = omega arith in
      sym (ap (λ (k : ℕ). pushed_all dt (transitions_from n j k) g) d)

pub all_whole : (n : NetRecord) (dt : Float) (e : ℕ) (g : Going) → pushed_all dt (transitions_from n 0 (e - 0)) g ≡ pushed_all dt (transitions_from n 0 e) g
all_whole n dt e g =
    let d : e - 0 ≡ e = omega arith in
    ap (λ (k : ℕ). pushed_all dt (transitions_from n 0 k) g) d

-- ---- a substep

-- with its drift cleared
pub begun_is : (places : ℕ) (u : StateStruct) (drift : List Float) → places ≤ 32 → length u.x ≡ 32 → length u.drift ≡ 32
    → Mapped places (λ (p : ℕ) (v : Float). zero64) u.drift drift
    → ◌≡◌ {A = Going} (record { x = take places u.x; drift = take places drift; sampler = sampler_of u.sampler }) (begun (state_of places u))
begun_is places u drift small lx ld m =
    let a = length-take-le places u.x (omega arith) in
    let b = length-take-le places u.drift (omega arith) in
    ap (λ (d : List Float). record { x = take places u.x; drift = d; sampler = sampler_of u.sampler }) (m.each ∙ each_one zero64 0 (take places u.drift) (take places u.x) (omega arith))

-- with its drift added
pub after_drift_is : (places : ℕ) (u : StateStruct) (x : List Float) → Mapped places (λ (p : ℕ) (v : Float). above_zero (add binary64 v (get_or u.drift p nan))) u.x x
    → ◌≡◌ {A = State} (record { x = take places x; sampler = sampler_of u.sampler }) (after_drift (going_of places u))
after_drift_is places u x m =
    ap (λ (y : List Float). record { x = y; sampler = sampler_of u.sampler })
    (m.each
    ∙ each_same (λ (p : ℕ) (v : Float). above_zero (add binary64 v (get_or u.drift p nan))) (λ (p : ℕ) (v : Float). above_zero (add binary64 v (at (take places u.drift) p))) (take places u.x)
    (λ i b v. ap (λ (w : Float). above_zero (add binary64 v w)) (sym (get_or-take places u.drift i nan (omega (arith, length-take places u.x))))))

-- ---- substep by substep

module _ (f : State → Answer State) (k i : ℕ) (s : State) where
  pub repeated_step : i < k → repeated (k - i) f s ≡ and_then (f s) (repeated (k - (i + 1)) f)
  repeated_step h =
      let d : k - i ≡ suc (k - (i + 1)) = omega arith in
      ap (λ (m : ℕ). repeated m f s) d

  pub repeated_end : k ≤ i → given s ≡ repeated (k - i) f s
  repeated_end h =
      let d : k - i ≡ 0 = omega arith in
      sym (ap (λ (m : ℕ). repeated m f s) d)

module _ (n : Net) (dt : Float) (s : State) where
  pub interval_some : lt zero64 dt ≡ true → repeated (20 - 0) (substep n dt) s ≡ over_interval n dt s
  unfolding over_interval
  interval_some h = sym (ap (λ (b : Bool). pick b (repeated 20 (substep n dt) s) (given s)) h)

  pub interval_none : lt zero64 dt ≡ false → given s ≡ over_interval n dt s
  unfolding over_interval
  interval_none h = sym (ap (λ (b : Bool). pick b (repeated 20 (substep n dt) s) (given s)) h)

-- ---- a turn of the loops, whose whole is w

module _ (n : NetRecord) (dt : Float) (j e : ℕ) (g g' : Going) (r : Result Unit RefusalEnum) {w : Answer Going} (inv : pushed_all dt (transitions_from n j (e - j)) g ≡ w)
    (h : j < e) (y : answered r g' ≡ pushed dt (transition n j) g) where
  pub all_stop : (c : RefusalEnum) → r ≡ Err c → refused (number_of c) ≡ w
  all_stop c t = then_stop g' r y (pushed_all dt (transitions_from n (j + 1) (e - (j + 1)))) c t ∙ sym (all_step n dt j e g h) ∙ inv

  pub all_go : (u : Unit) → r ≡ Ok u → pushed_all dt (transitions_from n (j + 1) (e - (j + 1))) g' ≡ w
  all_go u t = then_go g' r y (pushed_all dt (transitions_from n (j + 1) (e - (j + 1)))) u t ∙ sym (all_step n dt j e g h) ∙ inv

module _ (f : State → Answer State) (k i : ℕ) (g g' : State) (r : Result Unit RefusalEnum) {w : Answer State} (inv : repeated (k - i) f g ≡ w) (h : i < k) (y : answered r g' ≡ f g) where
  pub repeated_stop : (c : RefusalEnum) → r ≡ Err c → refused (number_of c) ≡ w
  repeated_stop c t = then_stop g' r y (repeated (k - (i + 1)) f) c t ∙ sym (repeated_step f k i g h) ∙ inv

  pub repeated_go : (u : Unit) → r ≡ Ok u → repeated (k - (i + 1)) f g' ≡ w
  repeated_go u t = then_go g' r y (repeated (k - (i + 1)) f) u t ∙ sym (repeated_step f k i g h) ∙ inv

-- a substep: g is its beginning, g' what the transitions left, and u' what the drift left
module _ (n : Net) (dt : Float) (u : State) (g g' : Going) (r : Result Unit RefusalEnum) (b : g ≡ begun u) (y : answered r g' ≡ pushed_all dt n.transitions g) where
  pub substep_stop : (c : RefusalEnum) → r ≡ Err c → refused (number_of c) ≡ substep n dt u
  substep_stop c t = then_stop g' r (y ∙ ap (pushed_all dt n.transitions) b) (λ (x : Going). given (after_drift x)) c t

  pub substep_go : (o : Unit) → r ≡ Ok o → (u' : State) → u' ≡ after_drift g' → given u' ≡ substep n dt u
  substep_go o t u' z = ap given z ∙ then_go g' r (y ∙ ap (pushed_all dt n.transitions) b) (λ (x : Going). given (after_drift x)) o t
