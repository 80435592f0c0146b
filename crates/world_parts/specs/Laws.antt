-- A law: what holds of all worlds and of all access sets.
use Rattle.std.specs.Prelude.{◌≡◌, T, ◌⊎◌}
use Rattle.world_parts.specs.World.{World}
use Rattle.world_parts.specs.Items.{Atom, value, Footprint, has_atom, writes_atom, collide}

-- Two worlds with equal values of all atoms are one.
abbrev pub AtomsMakeTheWorld : Type 0
AtomsMakeTheWorld = (s u : World) → ((a : Atom) → value s a ≡ value u a) → s ≡ u

-- Two access sets share an atom that one of them writes.
abbrev pub Meet : Footprint → Footprint → Atom → Type 0
Meet f g a = T (has_atom f a) × (T (has_atom g a) × (T (writes_atom f a) ⊎ T (writes_atom g a)))

-- Access sets collide exactly where they share such an atom.
abbrev pub CollideDecides : Type 0
CollideDecides = (f g : Footprint) → (T (collide f g) → (a : Atom) × Meet f g a) × ((a : Atom) → Meet f g a → T (collide f g))
