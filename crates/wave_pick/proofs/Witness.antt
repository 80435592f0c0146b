-- A place whose may-access set writes an item of the row of a later one holds that one back.
use Rattle.std.proofs.Common.{◌≡◌, ℕ, ◌<◌, true, if◌then◌else◌, [], ◌∷◌, ap, subst, ◌∙◌}
use Rattle.std.specs.Prelude.{◌&&◌, ◌||◌, T}
use Rattle.std.specs.List.{list_any}
use Rattle.std.proofs.lemmas.Bool.{true_from_ne_false}
use Rattle.interleaving.proofs.Ahead.{known-now}
use Rattle.interleaving.proofs.Skipping.{unwritten-of}
use Rattle.interleaving.specs.Machine.{has}
use Rattle.recording.specs.declared.recording.Recording.{Recording}
use Rattle.recording.specs.Steps.{places}
use Rattle.recording.specs.Accepted.{IsAccepted}
use Rattle.world_parts.specs.Items.{Item, Use, share, Footprint, collide}
use Rattle.world_parts.proofs.Collision.{both, left, right, either_right, any_passes, true_of}
use Rattle.world_parts.proofs.Sharing.{holds_true}
use Rattle.foot_print.specs.Reach.{written_by, is_met, task, order_of}
use Rattle.foot_print.specs.Replayed.{replayed}
use Rattle.foot_print.proofs.Cover.{all_covered}
use Rattle.foot_print.proofs.Holding.{drop_false}
use Rattle.foot_print.proofs.Lawful.{row_laws}
use Rattle.foot_print.proofs.ReachRows.{footprint_is_by_rows}
use Rattle.foot_print.proofs.Unmet.{unmet_part}
use Rattle.foot_print.proofs.Writing.{not_false, atom_of_writes, unwritten}
use Rattle.wave_pick.specs.Lawful.{lawful}
use Rattle.wave_pick.specs.Rounds.{state_after}
use Rattle.wave_pick.specs.Waiting.{look_after, row_after, DecidingInRow, RowWitnessHolds, RowWitnessStays}
use Rattle.wave_pick.specs.Holds.{Waits, world_after, footprint_after, reaches_after, reach_after}
use Rattle.wave_pick.proofs.Clear.{share_same}
use Rattle.wave_pick.proofs.Lists.{not_both}
use Rattle.wave_pick.proofs.Made.{made_unmet}
use Rattle.wave_pick.proofs.RowItems.{rows_meet_the_same}
use Rattle.wave_pick.proofs.Staying.{between_rounds}

-- What the may-access set of an earlier place that waits writes, the may-access sets before the later one write.
module _ (t : Recording) (window r i k : ℕ) (lt : i < k) (waits : Waits t window r i) where
  pub written_before : (x : Item) → written_by (reach_after t window r i ∷ []) x ≡ true → written_by (reaches_after t window r k) x ≡ true
  written_before x h = true_from_ne_false _ (λ e.
      let c = atom_of_writes x (reach_after t window r i) (drop_false _ (holds_true _ h)) in
      let none = unwritten-of (replayed t) c.0 (has (state_after t window r).finished) (world_after t window r) k (unwritten t (reaches_after t window r k) x c.0 e c.2) i lt waits in
      not_false _ none c.1)

  pub met_before : (f : Footprint) → is_met f (reach_after t window r i ∷ []) ≡ true → is_met f (reaches_after t window r k) ≡ true
  met_before f h = true_of _ (any_passes (λ (u : Use). written_by (reach_after t window r i ∷ []) u.item) (λ (u : Use). written_by (reaches_after t window r k) u.item)
      (λ (u : Use) m. holds_true _ (written_before u.item (true_of _ m))) f (holds_true _ h))

-- An access set that has an item that another writes collides with that other one.
met_collides : (f g : Footprint) → T (is_met f (g ∷ [])) → T (collide f g)
met_collides f g h = any_passes (λ (v : Use). written_by (g ∷ []) v.item) (λ (v : Use). list_any (λ (w : Use). (v.written || w.written) && share v.item w.item) g)
    (λ (v : Use) m. any_passes (λ (w : Use). w.written && share w.item v.item) (λ (w : Use). (v.written || w.written) && share v.item w.item)
    (λ (w : Use) n. both (v.written || w.written) _ (either_right v.written _ (left w.written _ n)) (subst T (share_same w.item v.item) (right w.written _ n))) g (drop_false _ m)) f h

pub deciding_in_row : (t : Recording) → DecidingInRow t
deciding_in_row t window r i k lt waits e = record {
  is_before = lt;
  waits = waits;
  writes = true_from_ne_false _ (λ m. not_both e (unmet_part (row_after t window r k) (look_after t window r k).deciding (reach_after t window r i ∷ [])
      (λ a h. holds_true _ ((row_laws t all_covered).look_in_row k (world_after t window r) a (true_of _ h))) m));
}

pub row_witness_holds : (t : Recording) → RowWitnessHolds t
row_witness_holds t window r i k h = (
  met_before t window r i k h.is_before h.waits (row_after t window r k) h.writes,
  λ runs. record {
    is_before = h.is_before;
    waits = h.waits;
    collides =
        let e : footprint_after t window r k ≡ row_after t window r k = footprint_is_by_rows t k (world_after t window r) ∙ ap (λ b. if b then order_of t k else row_after t window r k) runs in
        ap (λ f. collide f (reach_after t window r i)) e ∙ true_of _ (met_collides (row_after t window r k) (reach_after t window r i) (holds_true _ h.writes));
  },
)

pub row_witness_stays : (t : Recording) → IsAccepted t → RowWitnessStays t
row_witness_stays t spelled window r q i k lt waits same writes =
    let u = state_after t window q in
    let known = known-now (replayed t) (lawful t spelled) (has u.finished) u.world (between_rounds (replayed t) (lawful t spelled) (places t) window q).on.sound i waits in
    record {
      is_before = lt;
      waits = waits;
      writes = rows_meet_the_same t k (world_after t window r) (world_after t window q) (reach_after t window q i ∷ []) same
          (made_unmet t k i lt u.world (reaches_after t window q i) known (task t k)) ∙ writes;
    }
