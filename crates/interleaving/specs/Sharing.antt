-- A helper: what access sets share.
use Rattle.std.specs.Prelude.{◌≡◌, true, ◌⊎◌}
use Rattle.interleaving.specs.System.{System}

-- an atom of both that one of them writes
abbrev pub Shares : (m : System) → m.Footprint → m.Footprint → Type 0
Shares m f g = (a : m.Atom) × (m.touches f a ≡ true) × (m.touches g a ≡ true) × ((m.writes f a ≡ true) ⊎ (m.writes g a ≡ true))
