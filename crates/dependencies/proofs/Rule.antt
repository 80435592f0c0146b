-- Those for whom a place waits directly are dependencies, and suffice.
use Rattle.std.specs.Prelude.{◌≡◌, ℕ}
use Rattle.std.proofs.Common.{sym, ap, ◌∙◌}
use Rattle.interleaving.specs.System.{sequential}
use Rattle.interleaving.specs.Dependencies.{depends_on}
use Rattle.interleaving.proofs.Direct.{leads_where_clashing}
use Rattle.recording.specs.declared.recording.Recording.{Recording}
use Rattle.world_parts.specs.Items.{Atom, collide}
use Rattle.foot_print.specs.Footprint.{footprint}
use Rattle.foot_print.specs.Replayed.{replayed}
use Rattle.foot_waits.specs.Rule.{clash_in, part_of}
use Rattle.foot_waits.proofs.Parts.{clash_collides, clash_from, collide_atom}
use Rattle.wave_pick.proofs.Ends.{runs_as_the_model}
use Rattle.dependencies.specs.Rule.{WaitsAreDependencies, WaitsSuffice, foot_at}

-- the access set in turn is that in the model's run
foot_is : (t : Recording) (k : ℕ) → footprint t k (sequential (replayed t) k) ≡ foot_at t k
foot_is t k = ap (footprint t k) ((runs_as_the_model t).worlds k)

depends_is : (t : Recording) (k j : ℕ) → depends_on (replayed t) k j ≡ collide (foot_at t k) (foot_at t j)
depends_is t k j = λ i. collide (foot_is t k i) (foot_is t j i)

pub waits_are_dependencies : (t : Recording) → WaitsAreDependencies t
waits_are_dependencies t k j w = depends_is t k j ∙ clash_collides (part_of w.0) (foot_at t k) (foot_at t j) w.1.clashes

pub waits_suffice : (t : Recording) → WaitsSuffice t
waits_suffice t waits n told k j lt below d =
    let by = collide_atom (foot_at t k) (foot_at t j) (sym (depends_is t k j) ∙ d) in
    let a : Atom = by.0 in
    leads_where_clashing (λ x y. clash_in (part_of a) (foot_at t x) (foot_at t y)) waits n (λ x y less h. told x y less (a, h)) k j below lt (clash_from (foot_at t k) (foot_at t j) a by.1)
