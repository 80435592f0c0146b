-- A place rests on some of which one has a may-access set that writes one of the items by which it waits.
use Rattle.std.proofs.Common.{◌≡◌, ℕ, suc, ◌<◌, ◌≤◌, Bool, true, false, List, [], ◌∷◌, ◌++◌, inl, inr, refl, sym, ap, ◌∙◌, arith}
use Rattle.interleaving.proofs.Members.{has-here}
use Rattle.interleaving.specs.Machine.{has}
use Rattle.recording.specs.declared.recording.Recording.{Recording}
use Rattle.recording.specs.Accepted.{IsAccepted}
use Rattle.world_parts.specs.Items.{Use, Footprint}
use Rattle.world_parts.proofs.Collision.{true_of}
use Rattle.world_parts.proofs.Sharing.{holds_true}
use Rattle.foot_print.specs.Reach.{written_by, is_met, is_taken_to_run}
use Rattle.foot_print.proofs.Agreement.{in_left, in_right}
use Rattle.foot_print.proofs.Holding.{split}
use Rattle.wave_pick.specs.Waiting.{look_after, IsDecided, WritesRow, accepted_after, wide_after, row_after}
use Rattle.wave_pick.specs.Holds.{Waits, world_after, reaches_after, reach_after}
use Rattle.wave_pick.specs.Resting.{AllStay, RestsByItems, RestsDecided, RestsOnAll, RestsTogether, RestsUndecided, WriteForAll}
use Rattle.wave_pick.proofs.Deciding.{deciding_begins}
use Rattle.wave_pick.proofs.Lists.{not_both}
use Rattle.wave_pick.proofs.Orders.{accepted_reach, wide_reach}
use Rattle.wave_pick.proofs.Resting.{alone, rests_on_all, same_reach}
use Rattle.wave_pick.proofs.RestingRows.{holds_by_row, rows_next, runs_still, write_alone, write_for_all_still}
use Rattle.wave_pick.proofs.Waiting.{decided_stays}
use Rattle.wave_pick.proofs.Witness.{deciding_in_row, met_before, row_witness_holds, row_witness_stays}

-- A place that is decided, with the same look as in the first round.
module _ (t : Recording) (spelled : IsAccepted t) (window r i k : ℕ) (waits : Waits t window r k) (decided : IsDecided t window r k) (is : List ℕ) (is_one : has is i ≡ true) (h : WriteForAll t window r is k) (w : WritesRow t window r i k) where
  record StaysDecided (p : ℕ) : Type 0 where
    is_decided : IsDecided t window p k
    same_look : look_after t window p k ≡ look_after t window r k
    same_row : accepted_after t window p k ≡ accepted_after t window r k

  row_written : (p : ℕ) → r ≤ p → AllStay t window r p is → StaysDecided p → WritesRow t window p i k
  row_written p le stays d =
      let stay = stays i is_one in
      row_witness_stays t spelled window r p i k w.is_before stay.waits d.same_look (ap (λ f. is_met (row_after t window r k) (f ∷ [])) (same_reach t window r p i le stay) ∙ w.writes)

  accepted_now : (p : ℕ) → StaysDecided p → WritesRow t window p i k → reach_after t window p k ≡ accepted_after t window r k
  accepted_now p d row = accepted_reach t k (world_after t window p) (reaches_after t window p k) d.is_decided.may_run d.is_decided.unmet
      (row_witness_holds t window p i k row).0 ∙ d.same_row

  decided_here : StaysDecided r
  decided_here = record { is_decided = decided; same_look = refl; same_row = refl }

  decided_next : (p : ℕ) → r ≤ p → AllStay t window r (suc p) is → Waits t window (suc p) k → StaysDecided p → StaysDecided (suc p)
  decided_next p le stays later d =
      let kept = decided_stays t spelled window p k later d.is_decided in
      let runs = runs_still t spelled window r k is h (suc p) (omega (arith, le)) stays later decided.may_run in
      record {
        is_decided = record { may_run = runs; unmet = kept.1 };
        same_look = kept.0 ∙ d.same_look;
        same_row = (rows_next t spelled window r k is h p le stays later d.is_decided.may_run).accepted d.is_decided.unmet ∙ d.same_row;
      }

  pub decided_rests : RestsOnAll t window r is k
  decided_rests = rests_on_all t spelled window r is k StaysDecided (record {
    waits = waits;
    now = decided_here;
    told = λ p le stays later d.
        let row = row_written p le stays d in (
          accepted_now p d row ∙ sym (accepted_now r decided_here w),
          holds_by_row t window p i k is is_one d.is_decided.may_run (write_for_all_still t spelled window r k is h p le stays later) row,
        );
    next = decided_next;
  })

-- A place that may run, of which the same item is the first that the may-access set of the earlier one writes.
module _ (t : Recording) (spelled : IsAccepted t) (window r i k : ℕ) (known rest : Footprint) (first : Use) (lt : i < k) (now : Waits t window r i) (waits : Waits t window r k)
    (run : is_taken_to_run t k (world_after t window r) (reaches_after t window r k) ≡ true) (is : List ℕ) (is_one : has is i ≡ true) (h : WriteForAll t window r is k)
    (deciding : (look_after t window r k).deciding ≡ known ++ first ∷ rest) (unmet : is_met known (reaches_after t window r k) ≡ false)
    (written : is_met (first ∷ []) (reach_after t window r i ∷ []) ≡ true) where
  record StaysUndecided (p : ℕ) : Type 0 where
    runs : is_taken_to_run t k (world_after t window p) (reaches_after t window p k) ≡ true
    others : Footprint
    begins : (look_after t window p k).deciding ≡ known ++ first ∷ others
    unwritten : is_met known (reaches_after t window p k) ≡ false
    same_row : wide_after t window p k ≡ wide_after t window r k

  deciding_written : (p : ℕ) → reach_after t window p i ≡ reach_after t window r i → StaysUndecided p → is_met (look_after t window p k).deciding (reach_after t window p i ∷ []) ≡ true
  deciding_written p same d =
      let writes : Use → Bool = λ (u : Use). written_by (reach_after t window p i ∷ []) u.item in
      let here : is_met (first ∷ []) (reach_after t window p i ∷ []) ≡ true = ap (λ f. is_met (first ∷ []) (f ∷ [])) same ∙ written in
      ap (λ f. is_met f (reach_after t window p i ∷ [])) d.begins ∙ true_of _ (in_right writes known (first ∷ d.others) (in_left writes (first ∷ []) d.others (holds_true _ here)))

  wide_now : (p : ℕ) → Waits t window p i → reach_after t window p i ≡ reach_after t window r i → StaysUndecided p → reach_after t window p k ≡ wide_after t window r k
  wide_now p yet same d = wide_reach t k (world_after t window p) (reaches_after t window p k) d.runs
      (met_before t window p i k lt yet (look_after t window p k).deciding (deciding_written p same d)) ∙ d.same_row

  undecided_here : StaysUndecided r
  undecided_here = record { runs = run; others = rest; begins = deciding; unwritten = unmet; same_row = refl }

  undecided_next : (p : ℕ) → r ≤ p → AllStay t window r (suc p) is → Waits t window (suc p) k → StaysUndecided p → StaysUndecided (suc p)
  undecided_next p le stays later d =
      let kept = deciding_begins t spelled window p k known d.others first later d.runs d.begins d.unwritten in
      record {
        runs = runs_still t spelled window r k is h (suc p) (omega (arith, le)) stays later run;
        others = kept.0.0;
        begins = kept.0.1;
        unwritten = kept.1;
        same_row = (rows_next t spelled window r k is h p le stays later d.runs).wide ∙ d.same_row;
      }

  pub undecided_rests : RestsOnAll t window r is k
  undecided_rests = rests_on_all t spelled window r is k StaysUndecided (record {
    waits = waits;
    now = undecided_here;
    told = λ p le stays later d.
        let stay = stays i is_one in
        let same = same_reach t window r p i le stay in (
          wide_now p stay.waits same d ∙ sym (wide_now r now refl undecided_here),
          holds_by_row t window p i k is is_one d.runs (write_for_all_still t spelled window r k is h p le stays later) (deciding_in_row t window p i k lt stay.waits (deciding_written p same d)),
        );
    next = undecided_next;
  })

pub rests_together : (t : Recording) → IsAccepted t → RestsTogether t
rests_together t spelled window r i k is f is_one lt now waits wait h written = elim wait.by [
  | inl d ↦
      let both : is_met (d.known ++ d.first ∷ []) (reach_after t window r i ∷ []) ≡ true = ap (λ g. is_met g (reach_after t window r i ∷ [])) (sym d.here) ∙ written in
      let first : is_met (d.first ∷ []) (reach_after t window r i ∷ []) ≡ true = elim (split (λ (u : Use). written_by (reach_after t window r i ∷ []) u.item) d.known (d.first ∷ []) (holds_true _ both)) [
        | inl m ↦ not_both (met_before t window r i k lt now d.known (true_of _ m)) d.unwritten
        | inr m ↦ true_of _ m
      ] in
      undecided_rests t spelled window r i k d.known d.rest d.first lt now waits wait.runs is is_one h d.all d.unwritten first
  | inr d ↦ decided_rests t spelled window r i k waits (record { may_run = wait.runs; unmet = d.0 }) is is_one h (record { is_before = lt; waits = now; writes = ap (λ g. is_met g (reach_after t window r i ∷ [])) (sym d.1) ∙ written })
]

-- On one that does it all.
pub rests_by_items : (t : Recording) → IsAccepted t → RestsByItems t
rests_by_items t spelled window r i k f lt now waits wait h written =
    alone t window r i k (rests_together t spelled window r i k (i ∷ []) f (has-here i []) lt now waits wait (write_alone t window r i k lt now h) written)

pub rests_decided : (t : Recording) → IsAccepted t → RestsDecided t
rests_decided t spelled window r i k waits decided h w =
    alone t window r i k (decided_rests t spelled window r i k waits decided (i ∷ []) (has-here i []) (write_alone t window r i k w.is_before w.waits h) w)

pub rests_undecided : (t : Recording) → IsAccepted t → RestsUndecided t
rests_undecided t spelled window r i k known rest first lt now waits run h deciding unmet written =
    alone t window r i k (undecided_rests t spelled window r i k known rest first lt now waits run (i ∷ []) (has-here i []) (write_alone t window r i k lt now h) deciding unmet written)
