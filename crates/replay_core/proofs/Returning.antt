-- The parts of a round, put back one after another.
use Rattle.std.proofs.Common.{◌≡◌, ℕ, Bool, true, false, List, [], ◌∷◌, refl, sym, ap, subst, ◌∙◌, Some}
use Rattle.std.specs.Prelude.{T, ◌==◌, None, cond, Result, Ok, OnOk, IsSome, IfSome}
use Rattle.std.specs.List.{list_all}
use Rattle.std.specs.Cmp.{unsigned_tied}
use Rattle.std.proofs.lemmas.Bool.{eq-eqb}
use lib.Dec.{eqb→eq}
use Rattle.interleaving.specs.Machine.{State, has}
use Rattle.interleaving.proofs.Members.{has-other}
use Rattle.finite_maps.specs.Table.{empty, get, assign, number_keys, get-assign, same_table}
use Rattle.recording.specs.declared.recording.Recording.{Recording}
use Rattle.world_parts.specs.World.{World, IsWorld}
use Rattle.world_parts.specs.Items.{Footprint}
use Rattle.world_parts.specs.Part.{Part, Divided, whole}
use Rattle.world_parts.specs.Cutting.{holed, holed_by, is_narrow, PutsTo}
use Rattle.world_parts.proofs.Collision.{left, not_both}
use Rattle.op_meaning.specs.declared.reply.Reply.{Reply}
use Rattle.op_meaning.specs.Step.{step_world, step_reply}
use Rattle.op_meaning.specs.Runs.{run_on}
use Rattle.foot_print.specs.Footprint.{footprint}
use Rattle.foot_print.specs.Parts.{are_apart, AreReady, footprints, PutSteps}
use Rattle.foot_print.specs.Parts as parts
use Rattle.foot_print.specs.Replayed.{replayed}
use Rattle.foot_print.proofs.Narrow.{all_narrow}
use Rattle.foot_print.proofs.Parts.{holes_keep}
use Rattle.foot_print.proofs.Putting.{put_is_step}
use Rattle.wave_pick.specs.Rounds.{state_after}
use Rattle.replay_core.specs.Progressing.{out_for, AreOut}
use Rattle.replay_core.proofs.Cutting.{out-none}
use Rattle.replay_core.proofs.Stepping.{Steps}

all_holes_keep : (fs : List Footprint) (s : World) → IsWorld s → IsWorld (holed_by fs s)
all_holes_keep [] s w = w
all_holes_keep (f ∷ fs) s w = all_holes_keep fs (holed f s) (holes_keep f s w)

-- A place that has run on its part, which is put back before those of others.
pub record HasReturned (t : Recording) (s u : World) (p : Part) (ps : List Part) (before : Divided) (back : Part) : Type 0 where
  pub out : AreOut t s u (p ∷ ps) before
  pub run : back ≡ run_on t p.place p

module _ (t : Recording) (s u : World) (p : Part) (ps : List Part) (before : Divided) (back : Part) (h : HasReturned t s u p ps before back) where
  abbrev f : Footprint
  f = footprint t p.place s

  steps : PutSteps t s u p ps
  steps = put_is_step t s u p ps h.out.ready

  same_place : back.place ≡ p.place
  same_place = ap (λ q. q.place) h.run

  is_out : get before.out back.place ≡ Some f
  is_out = ap (get before.out) same_place ∙ h.out.out p.place ∙ ap (λ b. cond b (Some f) (out_for t s ps p.place)) (eq-eqb p.place p.place refl)

  pub left_is_world : IsWorld before.world
  left_is_world = subst IsWorld (sym h.out.world) (all_holes_keep (footprints t s (p ∷ ps)) u h.out.ready.0.awaits.is_world)

  pub part_is_out : IsSome (get before.out back.place)
  part_is_out = subst IsSome (sym is_out) refl

  pub part_is_narrow : IfSome (get before.out back.place) (λ e. T (is_narrow e))
  part_is_narrow = subst (λ o. IfSome o (λ e. T (is_narrow e))) (sym is_out) (all_narrow t p.place s)

  puts : PutsTo f before.world back.values (holed_by (footprints t s ps) (step_world t p.place u))
  puts = subst (λ (w : World). PutsTo f w back.values (holed_by (footprints t s ps) (step_world t p.place u))) (sym h.out.world)
      (subst (λ (q : Part). PutsTo f (holed_by (footprints t s (p ∷ ps)) u) q.values (holed_by (footprints t s ps) (step_world t p.place u))) (sym h.run) steps.puts)

  pub part_fits : IfSome (get before.out back.place) (λ e. (after : World) × IsWorld after × PutsTo e before.world back.values after)
  part_fits = subst (λ o. IfSome o (λ e. (after : World) × IsWorld after × PutsTo e before.world back.values after)) (sym is_out) (holed_by (footprints t s ps) (step_world t p.place u), steps.is_world, puts)

  -- no other part is of the same place
  others : (qs : List Part) → T (list_all (are_apart t s p) qs) → has (parts.places qs) p.place ≡ false
  others [] a = refl
  others (q ∷ qs) a = has-other p.place q.place (parts.places qs) (λ e. not_both (q.place == p.place) (left _ _ (left (are_apart t s p q) _ a)) (same e)) ∙ others qs (Rattle.world_parts.proofs.Collision.right (are_apart t s p q) _ a)
    where
      same : p.place ≡ q.place → T (q.place == p.place)
      same e = subst (λ b. T b) (sym (eq-eqb q.place p.place (sym e))) tt

  home : (k : ℕ) (b : Bool) → (k == p.place) ≡ b → cond b None (cond b (Some f) (out_for t s ps k)) ≡ out_for t s ps k
  home k false e = refl
  home k true e = sym (out-none t s ps k (ap (has (parts.places ps)) (eqb→eq k p.place (subst (λ b. T b) (sym e) tt)) ∙ others ps h.out.ready.1))

  pub put_one : (after : Divided) {A E : Type 0} (r : Result A E) (a : A) → r ≡ Ok a
      → IfSome (get before.out back.place) (λ e. (w : World) → PutsTo e before.world back.values w → OnOk r (after.world ≡ w))
      → after.out ≡ assign number_keys.total before.out back.place None
      → AreOut t s (step_world t p.place u) ps after
  put_one after r a ok put is_home =
      let done : after.world ≡ holed_by (footprints t s ps) (step_world t p.place u) =
      subst (λ x. OnOk x (after.world ≡ holed_by (footprints t s ps) (step_world t p.place u))) ok
      (subst (λ o. IfSome o (λ e. (w : World) → PutsTo e before.world back.values w → OnOk r (after.world ≡ w))) is_out put (holed_by (footprints t s ps) (step_world t p.place u)) puts) in
      record {
        ready = steps.others_ready;
        world = done;
        out = λ k. ap (λ o. get o k) is_home ∙ get-assign number_keys.total before.out back.place None k
            ∙ (λ i. cond (unsigned_tied k (same_place i) i) None (h.out.out k i)) ∙ home k (k == p.place) refl;
      }

  pub reply_is : step_reply t p.place p.values ≡ step_reply t p.place u
  reply_is = steps.reply

-- No part is out any more.
pub all_home : (t : Recording) (s u : World) (d : Divided) → AreOut t s u [] d → d ≡ whole u
all_home t s u d h = λ i. record { world = h.world i; out = same_table number_keys d.out empty (λ k. h.out k) i }

-- While parts are put back: what the places so far have led to, with the parts that are left still out.
pub record Returns (t : Recording) (window r : ℕ) (ps : List Part) (d : Divided) (replies : List Reply) (rounds : List ℕ) (done : List Bool) : Type 0 where
  pub state : State (replayed t)
  pub out : AreOut t (state_after t window r).world state.world ps d
  pub steps : Steps t window r (parts.places ps) state replies rounds done
