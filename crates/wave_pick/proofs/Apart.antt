-- The places of a round don't collide.
use Rattle.std.proofs.Common.{◌≡◌, false, inl, inr}
use Rattle.interleaving.specs.System.{Apart}
use Rattle.interleaving.proofs.Rounding.{rounds_gathered_lem}
use Rattle.recording.specs.declared.recording.Recording.{Recording}
use Rattle.recording.specs.Steps.{places}
use Rattle.recording.specs.Accepted.{IsAccepted}
use Rattle.world_parts.specs.Items.{Footprint, collide}
use Rattle.world_parts.proofs.Collision.{true_of}
use Rattle.world_parts.proofs.Sharing.{atom_of_collide}
use Rattle.foot_print.specs.Footprint.{footprint}
use Rattle.foot_print.specs.Replayed.{replayed}
use Rattle.wave_pick.specs.Lawful.{lawful}
use Rattle.wave_pick.specs.Rounds.{state_after, NoneCollide}
use Rattle.foot_print.proofs.Writing.{is_false, not_false}

-- Access sets that are apart don't collide.
pub apart_free : (t : Recording) (f g : Footprint) → Apart (replayed t) f g → collide f g ≡ false
apart_free t f g h = is_false (collide f g) (λ c.
    let met = atom_of_collide f g c in
    elim met.3 [ inl w ↦ not_false _ (h.0 met.0 (true_of _ w)) met.2 | inr w ↦ not_false _ (h.1 met.0 (true_of _ w)) met.1 ])

pub none_collide : (t : Recording) → IsAccepted t → NoneCollide t
none_collide t spelled window r j k hj hk ne =
    let s = (state_after t window r).world in
    apart_free t (footprint t j s) (footprint t k s) ((rounds_gathered_lem (replayed t) (lawful t spelled) (places t) window r).1.apart j k hj hk ne)
