-- Which nets a text can hold: those that the reader's own tests find no fault in, place by place and transition by transition.
use Rattle.std.specs.Prelude.{ℕ, suc, ◌^◌, ◌≤◌, ◌<◌, ◌≡◌, false, List, [], ◌∷◌, ◌++◌, length, T}
use Rattle.std.proofs.Math.Option.{none}
use Rattle.std.specs.Float.{binary64}
use Rattle.std.specs.Float.Ieee.{fits}
use Rattle.net.specs.Net.{Place, Transition, Net}
use Rattle.net.specs.Tests.{first_of, empty, place_tests, move_tests}
use Rattle.net.specs.Labels.{label_tests}
use Rattle.text.specs.Text.{Bytes}
use Rattle.net_text.specs.Reading.{RunLine, given, read}
use Rattle.net_writing.specs.Writing.{net_text}

-- not 2, 4, 17 or 18, of each place behind so many places with these labels; there are as many labels as places
abbrev pub PlacesFit : ℕ → List Bytes → List Place → List Bytes → Type 0
PlacesFit before earlier [] [] = Unit {0}
PlacesFit before earlier [] (l ∷ ls) = ⊥
PlacesFit before earlier (q ∷ qs) [] = ⊥
PlacesFit before earlier (q ∷ qs) (l ∷ ls) =
    (first_of (place_tests before false q ++ label_tests earlier l) ≡ none) × PlacesFit (suc before) (earlier ++ (l ∷ [])) qs ls

-- not 2 to 7, of each transition over so many places and behind so many transitions; rate and delay are floats of 64 bits
abbrev pub MovesFit : ℕ → ℕ → List Transition → Type 0
MovesFit places before [] = Unit {0}
MovesFit places before (t ∷ ts) =
    (first_of (move_tests places before false t) ≡ none) × T (fits binary64 t.rate) × T (fits binary64 t.delay) × MovesFit places (suc before) ts

pub record Writable (n : Net) (labels : List Bytes) (r : RunLine) : Type 0 where
  pub some_place : empty n.places ≡ false
  pub places : PlacesFit 0 [] n.places labels
  pub transitions : MovesFit (length n.places) 0 n.transitions
  pub samples : r.samples < 2 ^ 64
  pub realizations : r.realizations < 2 ^ 64
  pub seed : r.seed < 2 ^ 64
  pub horizon : r.horizon < 2 ^ 64
  -- "Over 8,192 bytes: 2"
  pub short : length (net_text n labels r) ≤ 8192

-- Written, then read: the reader answers the same net, the same labels and the same run line. proofs/Reread has it.
abbrev pub ReadsBack : Type 0
ReadsBack = (n : Net) (labels : List Bytes) (r : RunLine) → Writable n labels r → read (net_text n labels r) ≡ given n labels r
