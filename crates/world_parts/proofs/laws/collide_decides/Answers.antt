use Rattle.std.specs.Prelude.{T}
use Rattle.std.proofs.Common.{inl, inr}
use Rattle.world_parts.specs.Items.{Atom, Footprint, collide}
use Rattle.world_parts.specs.Laws.{Meet}
use Rattle.world_parts.proofs.Collision.{first_writes-collide, second_writes-collide}
use Rattle.world_parts.proofs.Sharing.{atom_of_collide}
use Rattle.world_parts.proofs.laws.collide_decides.Goals as goal

met : (f g : Footprint) (a : Atom) → Meet f g a → T (collide f g)
met f g a m = elim m.1.1 [
  | inl w ↦ first_writes-collide f g a w m.1.0
  | inr w ↦ second_writes-collide f g a m.0 w
]

pub returns : goal.returns
returns c = λ f g. (λ h. (let n = atom_of_collide f g h in (n.0, (n.1, (n.2, n.3)))), met f g)
