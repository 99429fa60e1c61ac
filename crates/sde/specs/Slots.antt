-- What the private functions work out of the slots of a net record. The rules are in the other files; nothing here adds to them.
use Rattle.std.specs.Prelude.{ℕ, ◌+◌, ◌*◌, ◌/◌, ◌%◌, ◌≤◌, ◌<◌, ◌≡◌, true, false, List, eqb, leb, get_or, Float}
use Rattle.std.specs.Float.{nan, binary64}
use Rattle.std.specs.Float.Ieee.{add, sub, lt, eq}
use Rattle.net.specs.declared.Net.{Net as NetRecord}
use Rattle.net.specs.Net.{pick, amount, zero64, one64, rate_of}
use Rattle.net.specs.Readable.{transition, is_put}
use Rattle.rules.specs.Propensity.{float}
pub use Rattle.engine.specs.Arcs.{Light}
use Rattle.sde.specs.Diffusion.{change}

-- ---- the table of net changes

-- d less what a slot takes from place p; d and what it puts there
abbrev pub less_slot : Float → ℕ → ℕ → ℕ → ℕ → Float
less_slot d kind place weight p = pick (leb kind 1) (pick (eqb place p) (sub binary64 d (float (amount weight))) d) d

abbrev pub more_slot : Float → ℕ → ℕ → ℕ → ℕ → Float
more_slot d kind place weight p = pick (is_put kind) (pick (eqb place p) (add binary64 d (float (amount weight))) d) d

-- cell c is that of transition c / 32 at place c % 32
abbrev pub change_of : NetRecord → ℕ → Float
change_of n c = change (transition n (c / 32)) (c % 32)

abbrev pub Changes : NetRecord → List Float → Type 0
Changes n changes = (c : ℕ) → c < 32 * n.transitions → get_or changes c nan ≡ change_of n c

-- no place from p to before q is changed, and place q is, where there is one; the changes are the cells from `from` on
pub record Skip (places from : ℕ) (changes : List Float) (p q : ℕ) : Type 0 where
  pub low : p ≤ q
  pub high : p ≤ places → q ≤ places
  pub idle : (r : ℕ) → p ≤ r → r < q → eq (get_or changes (from + r) nan) zero64 ≡ true
  pub changed : q < places → eq (get_or changes (from + q) nan) zero64 ≡ false

-- cell c is that of transition c / 33 from place c % 33 on
abbrev pub Skips : ℕ → ℕ → List Float → List ℕ → Type 0
Skips places transitions changes skips = (c : ℕ) → c < 33 * transitions → Skip places (32 * (c / 33)) changes (c % 33) (get_or skips c 0)

-- the cells of transition j
abbrev pub SkipsOf : ℕ → ℕ → List Float → List ℕ → Type 0
SkipsOf places j changes skips = (p : ℕ) → p ≤ places → Skip places (32 * j) changes p (get_or skips (33 * j + p) 0)

-- ---- the tidied rates

-- 0 where a transition runs by a timer, and 1 where no rate is given
abbrev pub tidy : Float → Float → Float
tidy rate delay = pick (lt zero64 delay) zero64 (pick (eq rate zero64) one64 rate)

abbrev pub Tidied : ℕ → List Float → List Float → List Float → Type 0
Tidied transitions rate delay rates = (j : ℕ) → j < transitions → get_or rates j nan ≡ tidy (get_or rate j nan) (get_or delay j nan)

-- the rates of the net are tidy already
abbrev pub Rated : NetRecord → Type 0
Rated n = (j : ℕ) → j < n.transitions → get_or n.rate j nan ≡ rate_of (transition n j)

-- ---- the table of ends

-- the last kinetic take of the slots from `from` to before `end` stands before slot e
pub record KineticEnd (kind : List ℕ) (from end e : ℕ) : Type 0 where
  pub low : from ≤ e
  pub high : e ≤ end
  pub idle : (a : ℕ) → e ≤ a → a < end → eqb (get_or kind a 0) 0 ≡ false

-- cell j is that of transition j
abbrev pub EndsOf : ℕ → List ℕ → List ℕ → List ℕ → Type 0
EndsOf transitions arcs kind ends = (j : ℕ) → j < transitions → KineticEnd kind (16 * j) (16 * j + get_or arcs j 0) (get_or ends j 0)

abbrev pub Ends : NetRecord → List ℕ → Type 0
Ends n ends = EndsOf n.transitions n.arcs n.kind ends

-- the three tables, over a net whose rates are tidy
pub record Prepared (n : NetRecord) (changes : List Float) (skips ends : List ℕ) : Type 0 where
  pub of_rates : Rated n
  pub of_changes : Changes n changes
  pub of_skips : Skips n.places n.transitions changes skips
  pub of_ends : Ends n ends

-- ---- a propensity

-- the slots from `from` to before `end` name places of the net
abbrev pub Inside : ℕ → ℕ → ℕ → List ℕ → Type 0
Inside places from end place = (a : ℕ) → from ≤ a → a < end → get_or place a 0 < places
