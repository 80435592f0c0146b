-- The model: a recording that stands for another one from a place on, and a world that follows the other's.
use Rattle.std.specs.Prelude.{◌≡◌, ℕ, ◌<◌, ◌≤◌, false, List, [], ◌++◌, length, map, All, None}
use Rattle.recording.specs.declared.recording.Recording.{Recording}
use Rattle.recording.specs.declared.recording.Ring.{Ring}
use Rattle.recording.specs.Steps.{places, step_at}
use Rattle.chain_plan.specs.Chain.{chain_of}
use Rattle.chain_plan.specs.Stretch.{IsApart, chains_ahead}
use Rattle.std.specs.Ordering.{nat_cmp}
use Rattle.finite_maps.specs.Table.{Table, get, pair_cmp}
use Rattle.world_parts.specs.World.{World, Broken, buffer}
use Rattle.world_parts.specs.Start.{start}

-- A ring, whether or not it has ended.
abbrev pub still_open : Ring → Ring
still_open r = record r { ended = false }

-- A ring whose slots are empty at first.
abbrev pub StartsEmpty : Ring → Type 0
StartsEmpty r = r.slots ≡ []

-- The rings of another recording are these, but for which have ended, and later ones, whose slots are empty at first.
pub record IsFrontOf (rings others : List Ring) : Type 0 where
  pub later : List Ring
  pub same : map still_open others ≡ map still_open rings ++ later
  pub empty : All StartsEmpty later

-- A recording stands for another one from a first place on, up to its own end.
pub record StandsFor (v u : Recording) (first : ℕ) : Type 0 where
  -- they have one start
  pub version : v.version ≡ u.version
  pub items : v.items ≡ u.items
  pub descriptions : v.descriptions ≡ u.descriptions
  pub descriptors : v.descriptors ≡ u.descriptors
  pub rings : IsFrontOf v.rings u.rings
  -- their steps are the same
  pub begins : first ≤ places v
  pub ends : places v ≤ places u
  pub steps : (k : ℕ) → first ≤ k → k < places v → step_at v k ≡ step_at u k
  -- no chain goes on over the first place, or over the end
  pub apart : IsApart v first
  pub apart_there : IsApart u first
  pub apart_behind : IsApart u (places v)

-- The buffers of the recording's rings are the same in two worlds. Those of later rings are missing in the one, and are in the other as at the start.
pub record BuffersFollow (v u : Recording) (few all : Table pair_cmp (List ℕ)) : Type 0 where
  pub same : (r n : ℕ) → r < length v.rings → get few (r, n) ≡ get all (r, n)
  pub missing : (r n : ℕ) → length v.rings ≤ r → get few (r, n) ≡ None
  pub at_start : (r n : ℕ) → length v.rings ≤ r → get all (r, n) ≡ buffer (start u) r n

-- The chains of the places from the first one on have broken alike in two worlds, and later chains have not.
pub record ChainsFollow (v u : Recording) (first : ℕ) (one other : Table nat_cmp Broken) : Type 0 where
  pub same : (k : ℕ) → first ≤ k → k < places v → get one (chain_of v k) ≡ get other (chain_of u k)
  pub later : (c : ℕ) → chains_ahead v (places v) ≤ c → get one c ≡ None
  pub later_there : (c : ℕ) → chains_ahead u (places v) ≤ c → get other c ≡ None

-- A world of a recording follows a world of another one, for which the recording stands from a first place on.
pub record Follows (v u : Recording) (first : ℕ) (s w : World) : Type 0 where
  pub nodes : s.nodes ≡ w.nodes
  pub descriptions : s.descriptions ≡ w.descriptions
  pub slots : s.slots ≡ w.slots
  pub descriptors : s.descriptors ≡ w.descriptors
  pub buffers : BuffersFollow v u s.buffers w.buffers
  pub chains : ChainsFollow v u first s.broken w.broken
