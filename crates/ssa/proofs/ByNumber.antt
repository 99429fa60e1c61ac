-- A call that takes up a path with other records. The run does not look at the counts that are recorded, only at how many there are.
-- So the call answers alike, and what it shows behind the records is written behind them.
use Prim.Native.Nat.{ℕ, ◌+◌, ◌*◌, ◌≤◌}
use mathlib.Core.Path.{◌≡◌, refl, sym, ap, ap₂, ◌∙◌}
use mathlib.Core.List.{List, ◌++◌, map, append_assoc}
use native.Mathlib.Omega.{arith}
use lib.ListN.{length, drop, length-append, length-map, length-drop}
use lib.Seq.{drop_at, drop-append-le}
use lib.Ieee.{Float}
use Rattle.net.specs.Net.{Net, Marking}
use Rattle.rules.specs.Step.{Answer, refused, given}
use Rattle.rules.specs.Run.{End, quiet, spent, reached, halted, Run, Outcome, outcome, entries}
use Rattle.rules.specs.Shown.{shown_from}
use Rattle.rules.specs.Carried.{Carried, run_onward, met_by, leaving, filled_by, settled_in, answering, ended, play_on}
use Rattle.rules.proofs.Allowing.{refused_given}
use Rattle.rules.proofs.Demand3Held.{reached_few}
use Rattle.rules.proofs.Recording.{met_length}
use Rattle.playing.specs.Cells.{table_with}
use Rattle.ssa.specs.Halted.{Standing, standing, played}
use Rattle.ssa.specs.Edition.{Same}
use Rattle.playing.proofs.Columns.{with_cleared, with_with}

-- ---- a path with other records

abbrev pub with_records : Carried → List Marking → Carried
with_records d ms =
    record { now = d.now; steps = d.steps; limit = d.limit; peak = d.peak; rounded = d.rounded; instants = d.instants; recorded = ms }

-- where a path stands, with so many instants recorded
abbrev recording : Standing → ℕ → Standing
recording x k = record { now = x.now; steps = x.steps; limit = x.limit; peak = x.peak; rounded = x.rounded; recorded = k }

same_settled : (e : End) (c d : Carried) → length c.recorded ≡ length d.recorded → c.instants ≡ d.instants → settled_in e c ≡ settled_in e d
same_settled quiet c d h k = ap length k
same_settled spent c d h k = h
same_settled reached c d h k = ap length k
same_settled halted c d h k = h

filled_few : (e : End) (xs : List Float) → length (filled_by e xs) ≤ length xs
filled_few quiet xs = omega arith
filled_few spent xs = omega arith
filled_few reached xs = omega arith
filled_few halted xs = omega arith

-- ---- what a run that ends so shows behind its records

module _ (n : Net) (d : Carried) (r : Run) (o : Outcome) where
  -- behind k records: what the run records, and what its end fills
  abbrev met : ℕ → List Marking
  met k = map (shown_from n d.now.counts (entries r)) (met_by (entries r) (drop k d.instants))

  abbrev filled : ℕ → List Marking
  filled k = map (λ (x : Float). o.left.counts) (filled_by o.end (drop k d.instants))

  abbrev anew : List Marking → List Marking
  anew ms = met (length ms) ++ filled (length (ms ++ met (length ms)))

  anew_few : (ms : List Marking) → length ms ≤ length d.instants → length ms + length (anew ms) ≤ length d.instants
  anew_few ms h =
      let k = length ms in
      let j = length (ms ++ met k) in
      let ys = drop k d.instants in
      let zs = drop j d.instants in
      omega (
        arith,
        length-append (met k) (filled j),
        length-append ms (met k),
        length-map (met_by (entries r) ys) (shown_from n d.now.counts (entries r)),
        met_length (entries r) ys,
        reached_few (entries r) ys,
        length-map (filled_by o.end zs) (λ (x : Float). o.left.counts),
        filled_few o.end zs,
        length-drop k d.instants,
        length-drop j d.instants,
      )

  module _ (ms : List Marking) (e : length ms ≡ length d.recorded) where
    same_many : length (ms ++ met (length ms)) ≡ length (d.recorded ++ met (length d.recorded))
    same_many =
        length-append ms (met (length ms))
        ∙ ap (λ (k : ℕ). k + length (met k)) e
        ∙ sym (length-append d.recorded (met (length d.recorded)))

    same_anew : anew ms ≡ anew d.recorded
    same_anew = ap₂ (λ (j k : ℕ). met j ++ filled k) e same_many

-- ---- the call, from a table in which d's records are written from instant `from` on

abbrev records_in : ℕ → ℕ → Carried → List Float → List Float
records_in places from d t = table_with places (length d.instants) from (drop from d.recorded) t

module _ (n : Net) (places from : ℕ) (s s' : Standing) (t : List Float) (d : Carried) (ms : List Marking) (e : length ms ≡ length d.recorded)
    (inside : from ≤ length d.recorded) (few : length d.recorded ≤ length d.instants) (room : places * length d.instants ≤ length t) where
  module _ (r : Run) (o : Outcome) where
    written : table_with places (length d.instants) (length d.recorded)
        (drop (length d.recorded) (answering o.end (leaving n (with_records d ms) r o.left)).shown) (records_in places from d t)
        ≡ table_with places (length d.instants) from (drop from (answering o.end (leaving n d r o.left)).shown) t
    written =
        let k = length d.instants in
        let m = length d.recorded in
        let old = drop from d.recorded in
        let new = anew n d r o d.recorded in
        let up : from + length old ≡ m = omega (arith, length-drop from d.recorded) in
        let behind = ap (drop m) (append_assoc ms _ _) ∙ drop_at ms (anew n d r o ms) m e ∙ same_anew n d r o ms e in
        let whole = ap (drop from) (append_assoc d.recorded _ _) ∙ drop-append-le from d.recorded new inside in
        ap (λ (sh : List Marking). table_with places k m sh (records_in places from d t)) behind
        ∙ ap (λ (i : ℕ). table_with places k i new (records_in places from d t)) (sym up)
        ∙ with_with places k from old new t (omega (arith, length-append old new, anew_few n d r o d.recorded few)) room
        ∙ ap (λ (sh : List Marking). table_with places k from sh t) (sym whole)

  pub resumed : (k : ℕ)
      → Same (played places (length d.instants) (length d.recorded) s' (records_in places from d t) (play_on 256 n (with_records d ms) k))
      (played places (length d.instants) from s t (play_on 256 n d k))
  resumed k = go (outcome (run_onward 256 n d k))
    where
      r : Run
      r = run_onward 256 n d k

      go : (o : Answer Outcome)
          → Same (played places (length d.instants) (length d.recorded) s' (records_in places from d t) (ended n (with_records d ms) r o))
          (played places (length d.instants) from s t (ended n d r o))
      go (refused c) = record {
        end = refl;
        settled = refl;
        table = with_cleared places (length d.instants) from (drop from d.recorded) t room (omega (arith, length-drop from d.recorded));
        state = λ e p. refused_given p;
      }
      go (given o) = record {
        end = refl;
        settled = same_settled o.end _ _ (same_many n d r o ms e) refl;
        table = written r o;
        state = λ e' p. ap (recording (standing (leaving n d r o.left))) (same_many n d r o ms e);
      }
