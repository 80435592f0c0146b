-- Every step leaves a world, and the numbers of other places unused; so places whose access sets don't collide commute.
use Rattle.std.specs.Prelude.{◌≡◌, ℕ, Option, Some, None, refl, [], ◌∷◌}
use mathlib.Core.Path.{sym, subst}
use Rattle.sqe_codec.specs.Answers.{each}
use Rattle.world_parts.specs.World.{IsWorld, write_buffer, apply_all}
use Rattle.op_meaning.specs.Step.{Turn, filled, registered, called, refused, canceled, runs, turn, changes_in}
use Rattle.foot_print.specs.Laws.{Awaits, StepsKeepWorlds, StepsCommute}
use Rattle.foot_print.proofs.Commute.{steps_commute}
use Rattle.foot_print.proofs.KeepNames.{Leaves}
use Rattle.foot_print.proofs.KeepContents.{contents_leave}
use Rattle.foot_print.proofs.KeepStep.{StepLeaves, leaves_step, operation_leaves, operation_steps}
use Rattle.foot_print.proofs.Cover.{all_covered, laws}
use Rattle.foot_print.proofs.Registering.{registering_leaves}

pub steps_keep_worlds : StepsKeepWorlds
steps_keep_worlds t k s w = by (turn t k s) refl
  where
    still : (x : Option Turn) → turn t k s ≡ x → Leaves t k s (each (changes_in t k s) x) → StepLeaves t k s
    still x h l = subst (λ y. IsWorld (apply_all (each (changes_in t k s) y) s) × ((j : ℕ) → ¬ (j ≡ k) → Awaits t j s → Awaits t j (apply_all (each (changes_in t k s) y) s))) (sym h) (leaves_step t k s (each (changes_in t k s) x) l)

    by : (x : Option Turn) → turn t k s ≡ x → StepLeaves t k s
    by None h = still None h (contents_leave t k s [] tt w.is_world)
    by (Some (filled r b at new)) h = still (Some (filled r b at new)) h (contents_leave t k s (write_buffer r b at new ∷ []) (tt, tt) w.is_world)
    by (Some (registered r slots)) h = still (Some (registered r slots)) h (registering_leaves t k s s r slots w.is_world w.is_world refl)
    by (Some (called r o)) h = still (Some (called r o)) h (operation_leaves t k s r o w.is_world (laws t k r o s w).keeps)
    by (Some (refused e p)) h = still (Some (refused e p)) h (contents_leave t k s [] tt w.is_world)
    by (Some (canceled p)) h = still (Some (canceled p)) h (contents_leave t k s [] tt w.is_world)
    by (Some (runs r e o)) h = operation_steps t k s r e o h w.is_world (laws t k r o s w).keeps

-- Places whose access sets don't collide commute.
pub all_commute : StepsCommute
all_commute = steps_commute all_covered steps_keep_worlds
