-- What an accepted net record is known to be: every bound of document 01, "Domain", and what 5, 6 and 7 rule out, over the slots that its
-- counts name; and, apart from these, what 17 and 18 rule out of its labels. proofs/Sound.antt shows both of every record that has no fault.
use Rattle.std.specs.Prelude.{ℕ, ◌+◌, ◌*◌, ◌^◌, ◌≤◌, ◌<◌, ◌≡◌, true, false, get_or}
use Rattle.std.specs.Float.{nan}
use Rattle.net.specs.declared.Net.{Net as NetRecord}
use Rattle.net.specs.Tests.{rate_fits, delay_fits, taken_twice, delayed_for_nothing, kinetic_total}
use Rattle.text.specs.Text.{same}
use Rattle.net.specs.Labels.{label_fits, label_at}
use Rattle.net.specs.Readable.{transition}

pub record Sound (n : NetRecord) : Type 0 where
  -- "Places 1..32, transitions 0..64"
  pub place_one : 1 ≤ n.places
  pub places : n.places ≤ 32
  pub transitions : n.transitions ≤ 64
  -- "Initial and capacity 0..2^53", of place p
  pub initial : (p : ℕ) → p < n.places → get_or n.initial p 0 ≤ 2 ^ 53
  pub capacity : (p : ℕ) → p < n.places → get_or n.capacity p 0 ≤ 2 ^ 53
  -- "arcs per transition 0..16"; rate and delay within their domains, of transition j
  pub arcs : (j : ℕ) → j < n.transitions → get_or n.arcs j 0 ≤ 16
  pub rate : (j : ℕ) → j < n.transitions → rate_fits (get_or n.rate j nan) ≡ true
  pub delay : (j : ℕ) → j < n.transitions → delay_fits (get_or n.delay j nan) ≡ true
  -- a known kind, a place of the net and a weight within its domain, of arc i of transition j
  pub kind : (j i : ℕ) → j < n.transitions → i < get_or n.arcs j 0 → get_or n.kind (16 * j + i) 0 ≤ 4
  pub place : (j i : ℕ) → j < n.transitions → i < get_or n.arcs j 0 → get_or n.place (16 * j + i) 0 < n.places
  pub weight : (j i : ℕ) → j < n.transitions → i < get_or n.arcs j 0 → get_or n.weight (16 * j + i) 0 ≤ 1_000_000
  -- not 5, not 6, not 7, of transition j
  pub once : (j : ℕ) → j < n.transitions → taken_twice (transition n j) ≡ false
  pub delayed : (j : ℕ) → j < n.transitions → delayed_for_nothing (transition n j) ≡ false
  pub kinetic : (j : ℕ) → j < n.transitions → kinetic_total (transition n j).takes ≤ 16

-- Apart, since what plays a net looks at no label.
pub record Labelled (n : NetRecord) : Type 0 where
  -- not 17: "1 to 16 letters a to z, digits or hyphens", of place p
  pub label : (p : ℕ) → p < n.places → label_fits (label_at n.label n.lengths p) ≡ true
  -- not 18: no earlier place q has it
  pub once : (p q : ℕ) → q < p → p < n.places → same (label_at n.label n.lengths p) (label_at n.label n.lengths q) ≡ false
