-- What is promised of the text. Document 02, order 14: "The text it writes is accepted, its net is the stated one". proofs/Accepted has it.
use Rattle.std.specs.Prelude.{ℕ, ◌^◌, ◌≤◌, ◌<◌, ◌≡◌, true, length}
use Rattle.net_text.specs.Reading.{given, read}
use Rattle.soak.specs.Soak.{soak_net, soak_labels, soak_run, soak_text, sized}

pub record Published (seed places transitions : ℕ) : Type 0 where
  pub accepted : read (soak_text seed places transitions) ≡ given (soak_net seed places transitions) (soak_labels places) (soak_run seed)
  pub short : length (soak_text seed places transitions) ≤ 1614

abbrev pub AllPublished : Type 0
AllPublished = (seed places transitions : ℕ) → seed < 2 ^ 64 → sized places transitions ≡ true → Published seed places transitions
