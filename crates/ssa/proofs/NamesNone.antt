-- A path call is the call that names a number not below its limit. Refusal by refusal they are the same; and where they play, the rules' run is not
-- halted, so that it shows every instant and the whole table is written.
use Prim.Native.Nat.{ℕ, ◌≤◌}
use mathlib.Core.Path.{◌≡◌, refl, sym, ap, ◌∙◌}
use mathlib.Core.Bool.{Bool, true, false}
use mathlib.Core.List.{List}
use mathlib.Core.Option.{Option, none, some}
use lib.ListN.{length, length-map}
use lib.Ieee.{Float}
use Rattle.refusals.specs as Refusal
use Rattle.net.specs.declared.Net.{Net as NetRecord}
use Rattle.net.specs.Net.{pick, zero64}
use Rattle.net.specs.Readable.{readable, fault}
use Rattle.rng.specs.State.{State as Generator}
use Rattle.rules.specs.Step.{Answer, refused, given}
use Rattle.rules.specs.Shown.{instants_fit, limit_fits, worked}
use Rattle.rules.specs.Carried.{Onward, play_on, begun, path_answer}
use Rattle.rules.proofs.Demand3Held.{answered}
use Rattle.rules.proofs.Naming.{never_halts}
use Rattle.rules.proofs.Play.{rises}
use Rattle.rules.proofs.SameCounts.{fit_rises}
use Rattle.ssa.specs.Path as Path
use Rattle.ssa.specs.Path.{table_fits, called}
use Rattle.ssa.specs.Halted.{Standing, turned_down, unless_fault, played, unbegun, naming_after_net, naming, path_call}
use Rattle.playing.proofs.Columns.{with_whole}

module _ (n : NetRecord) (g : Generator) (xs : List Float) (limit number : ℕ) (t : List Float) (far : limit ≤ number) where
  abbrev places : ℕ
  places = length (readable n).places

  abbrev nothing : Standing
  nothing = unbegun n.places g

  as_path_lem : (b : Answer Onward) → ((o : Onward) → b ≡ given o → length o.shown ≡ length xs)
      → path_call (played places (length xs) 0 nothing t b) ≡ Path.played places (length xs) g t (path_answer b)
  as_path_lem (refused c) h = refl
  as_path_lem (given o) h =
      ap (λ (x : List Float). record {
        end = given o.end;
        steps = o.left.steps;
        settled = o.settled;
        peak = o.left.peak;
        rounded = o.left.rounded;
        generator = o.left.now.generator;
        table = x;
      }) (with_whole places (length xs) o.shown t (h o refl))

  whole : instants_fit xs ≡ true → limit_fits limit ≡ true
      → path_call (played places (length xs) 0 nothing t (play_on 256 (readable n) (begun (readable n) g xs limit) number))
      ≡ Path.played places (length xs) g t (worked (readable n) g xs limit)
  whole f l = as_path_lem _ shows_all ∙ ap (Path.played places (length xs) g t) never
    where
      never : path_answer (play_on 256 (readable n) (begun (readable n) g xs limit) number) ≡ worked (readable n) g xs limit
      never = never_halts (readable n) g xs limit (rises zero64 xs (fit_rises xs f)) number far

      shows_all : (o : Onward) → play_on 256 (readable n) (begun (readable n) g xs limit) number ≡ given o → length o.shown ≡ length xs
      shows_all o e =
          let is = sym never ∙ ap path_answer e in
          let answer = answered (readable n) g xs limit _ (λ i. pick (f i) (pick (l i) (is i) (refused Refusal.bad_limit)) (refused Refusal.bad_instants)) in
          ap length answer.shows ∙ length-map xs _

  pub names_none : path_call (naming n g xs limit number t) ≡ called n g xs limit t
  unfolding naming called
  names_none = go (fault n)
    where
      in_order : (a b d : Bool) → instants_fit xs ≡ a → limit_fits limit ≡ b
          → path_call (pick a (pick b (pick d (played places (length xs) 0 nothing t (play_on 256 (readable n) (begun (readable n) g xs limit) number))
          (turned_down Refusal.short_table nothing t)) (turned_down Refusal.bad_limit nothing t)) (turned_down Refusal.bad_instants nothing t))
          ≡ pick a (pick b (pick d (Path.played places (length xs) g t (worked (readable n) g xs limit))
          (Path.turned_down Refusal.short_table g t)) (Path.turned_down Refusal.bad_limit g t)) (Path.turned_down Refusal.bad_instants g t)
      in_order true true true f l = whole f l
      in_order true true false f l = refl
      in_order true false d f l = refl
      in_order false b d f l = refl

      go : (f : Option ℕ) → path_call (unless_fault f nothing t (naming_after_net n.places (readable n) g xs limit number t))
          ≡ Path.unless_fault f g t (Path.after_net (readable n) g xs limit t)
      go none = in_order (instants_fit xs) (limit_fits limit) (table_fits places (length xs) t) refl refl
      go (some c) = refl
