-- What each operation owes, and how the access sets of places are covered then.
use Rattle.std.specs.Prelude.{◌≡◌, ℕ, Bool, ◌&&◌, ◌==◌, ◌+◌, T, length, Option, Some, None, refl}
use Rattle.std.specs.List.{list_any}
use mathlib.Core.Path.{sym, subst, ap, ◌∙◌}
use lib.Dec.{eqb_refl}
use Rattle.recording.specs.declared.recording.Recording.{Recording}
use Rattle.sqe_codec.specs.Answers.{each}
use Rattle.entry_checks.specs.Operation.{Operation}
use Rattle.chain_plan.specs.Chain.{role}
use Rattle.world_parts.specs.World.{World}
use Rattle.op_meaning.specs.Step.{Turn, filled, registered, called, runs, turn, changes_in, queue_at}
use Rattle.world_parts.specs.Items.{buffer_byte, member_of, within, Use, writes_atom}
use Rattle.foot_print.specs.Footprint.{order_uses, turn_uses, footprint}
use Rattle.foot_print.specs.Laws.{Awaits, Covers, FootprintsCover}
use Rattle.world_parts.proofs.Collision.{both, either_left}
use Rattle.world_parts.proofs.Trees.{some_apart}
use Rattle.foot_print.proofs.Agreement.{in_right}
use Rattle.foot_print.proofs.CoverChanges.{SupportsAll}
use Rattle.foot_print.proofs.CoverPlace.{done_by}
use Rattle.foot_print.proofs.CoverOperation.{covers, OperationCovers}
use Rattle.foot_print.proofs.Registering.{registering_supported}

-- A place that does no operation is covered: of such places a Fill changes the bytes that it writes, and a new ring its slots.
pub idle_covers : (t : Recording) (k : ℕ) (s : World) (x : Option Turn) → turn t k s ≡ x → done_by x ≡ None → Awaits t k s → Covers t k (footprint t k s) s
idle_covers t k s x h n w = covers t k s (λ u r o g a. absurd (some_apart (sym g ∙ ap done_by h ∙ n))) (λ u v a. subst (λ y. SupportsAll (footprint t k s) u (each (changes_in t k s) y)) (sym h) (supports u x h n)) w
  where
    supports : (u : World) (y : Option Turn) → turn t k s ≡ y → done_by y ≡ None → SupportsAll (footprint t k s) u (each (changes_in t k s) y)
    supports u (Some (filled r b at new)) g m = (
      λ p l.
          let q : Use → Bool = λ (x : Use). x.written && member_of x.item (buffer_byte r b p) in
          in_right q (order_uses (queue_at t k) (role t k)) (each (turn_uses t k s) (turn t k s)) (subst (λ y. T (list_any q (each (turn_uses t k s) y))) (sym g)
          (either_left _ _ (both (r == r && b == b) (within at (at + length new) p) (both _ _ (eqb_refl r) (eqb_refl b)) l))),
      tt,
    )
    supports u (Some (registered r slots)) g m = registering_supported (footprint t k s) s u r slots
        (λ a w. in_right (λ (x : Use). x.written && member_of x.item a) (order_uses (queue_at t k) (role t k)) (each (turn_uses t k s) (turn t k s)) (subst (λ y. T (writes_atom (each (turn_uses t k s) y) a)) (sym g) w))
    supports u (Some (runs r e o)) g m = absurd (some_apart m)
    supports u (Some (called r o)) g m = absurd (some_apart m)
    supports u _ g m = tt

-- Where each operation is covered, all access sets cover their places.
pub footprints_cover : ((o : Operation) → OperationCovers o) → FootprintsCover
footprints_cover operations t k s w = by (turn t k s) refl
  where
    by : (x : Option Turn) → turn t k s ≡ x → Covers t k (footprint t k s) s
    by (Some (runs r e o)) h = operations o t k s r (ap done_by h) w
    by (Some (called r o)) h = operations o t k s r (ap done_by h) w
    by _ h = idle_covers t k s _ h refl w
