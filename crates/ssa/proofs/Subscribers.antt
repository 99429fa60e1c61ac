-- Order 7 holds of path calls: a call that is not refused has an accepted net, of which the rules' promise (crate rules, Balancing) speaks, and a cell of the
-- table is the count there as a float.
use Prim.Native.Nat.{ℕ, ◌<◌}
use mathlib.Core.Path.{◌≡◌, ap, ◌∙◌}
use mathlib.Core.List.{List, []}
use mathlib.Core.Option.{none}
use lib.ListN.{get_or, length}
use lib.Ieee.{Float}
use Rattle.net.specs.declared.Net.{Net as NetRecord}
use Rattle.net.specs.Net.{Marking}
use Rattle.net.specs.Readable.{readable}
use Rattle.rng.specs.State.{State as Generator}
use Rattle.rules.specs.Step.{given}
use Rattle.rules.specs.Run.{trace}
use Rattle.rules.specs.Shown.{shown_at, run_of}
use Rattle.rules.specs.Demand3.{instant}
use Rattle.rules.specs.Balance as Rule
use Rattle.rules.specs.Balance.{balance, counts_weigh}
use Rattle.rules.proofs.Demand3Held as Held
use Rattle.rules.proofs.TakesOnce.{takes_once_lem}
use Rattle.rules.proofs.Shows.{shown_fits}
use Rattle.rules.proofs.Balancing.{conserved}
use Rattle.ssa.specs.Subscribers.{SubscribersKept}
use Rattle.ssa.proofs.Demand3.{Whole, whole, cell_is}

pub subscribers_kept : (n : NetRecord) (ws : List ℕ) → balance (readable n) ws ≡ given none → (g : Generator) → SubscribersKept n ws g
subscribers_kept n ws b g =
    record {
      moments = λ xs k t a past h. (rule (whole n g xs k t a)).weight ws b g xs k past h.later h.parts;
      running = λ xs k t a past h j. (rule (whole n g xs k t a)).running g xs k past h.later h.parts j;
      cells = λ xs k t a i l c.
          let w = whole n g xs k t a in
          record {
            counts = get_or w.answer.shown i [];
            shows = λ p q. cell_is n g xs k t w p i q l;
            exact = λ p. shown_fits n w.sound g xs k w.answer w.works i p;
            weigh = ap (counts_weigh ws) (shown_here w i l) ∙ (rule w).shown ws b g xs k (instant xs i) c;
          };
    }
  where
    rule : {xs : List Float} {k : ℕ} {t : List Float} → Whole n g xs k t → Rule.Conserved (readable n)
    rule w = conserved (readable n) (takes_once_lem n w.sound)

    shown_here : {xs : List Float} {k : ℕ} {t : List Float} (w : Whole n g xs k t) (i : ℕ) → i < length xs
        → get_or w.answer.shown i [] ≡ shown_at (readable n) (trace (run_of (readable n) g xs k)) (instant xs i)
    shown_here {xs} {k} w i l =
        ap (λ (ms : List Marking). get_or ms i []) (Held.answered (readable n) g xs k w.answer w.works).shows
        ∙ Held.at_instant (shown_at (readable n) (trace (run_of (readable n) g xs k))) xs i l
