-- What holds of all that the paths of a call share. It serves the private functions; the rules are in Diffusion.
use Rattle.std.specs.Prelude.{ℕ, ◌≡◌, ◌≤◌, List, Float}
use Rattle.net.specs.declared.Net.{Net as NetRecord}
use Rattle.net.specs.Sound.{Sound}
use Rattle.root.specs.Root.{root_of}
use Rattle.sde.specs.Slots.{Prepared}

pub record Ready (net : NetRecord) (changes : List Float) (skips ends : List ℕ) (n : ℕ) (dt root : Float) : Type 0 where
  pub sound : Sound net
  pub prepared : Prepared net changes skips ends
  pub some : 1 ≤ n
  pub few : n ≤ 1024
  pub rooted : root ≡ root_of dt
