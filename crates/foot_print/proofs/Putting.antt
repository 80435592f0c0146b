-- The parts of a round, put back one after another.
use Rattle.std.specs.Prelude.{◌≡◌, not, ◌==◌, T, List, [], ◌∷◌, ◌++◌, map, refl}
use Rattle.std.specs.List.{list_all}
use mathlib.Core.Path.{sym, subst, ◌∙◌}
use lib.Dec.{eqb_refl}
use Rattle.interleaving.specs.Gather.{in_order, replies_in_order}
use Rattle.recording.specs.declared.recording.Recording.{Recording}
use Rattle.world_parts.specs.World.{World, IsWorld}
use Rattle.world_parts.specs.Items.{Atom, value, Footprint, has_atom, collide}
use Rattle.world_parts.specs.Part.{Part}
use Rattle.world_parts.specs.Cutting.{holed, holed_by, PutsTo}
use Rattle.op_meaning.specs.Step.{step_world, step_reply}
use Rattle.foot_print.specs.Footprint.{footprint}
use Rattle.foot_print.specs.Laws.{CoversAt}
use Rattle.foot_print.specs.Parts.{IsReady, are_apart, AreReady, footprints, places, PutIsStep, PutsAll, none_left, then_put, RoundIsSteps}
use Rattle.foot_print.specs.Replayed.{replayed}
use Rattle.world_parts.proofs.Collision.{both, not_both, left, right, first_unwritten, second_unwritten, writes-has}
use Rattle.world_parts.proofs.Holes.{holed-left, holed_by-alike, same_put}
use Rattle.foot_print.proofs.Awaiting.{awaits_unused}
use Rattle.foot_print.proofs.Cover.{all_covered}
use Rattle.foot_print.proofs.Holding.{all_append}
use Rattle.foot_print.proofs.Keep.{steps_keep_worlds}
use Rattle.foot_print.proofs.Parts.{part_unused, holes_keep}

all_holes_keep : (fs : List Footprint) (s : World) → IsWorld s → IsWorld (holed_by fs s)
all_holes_keep [] s w = w
all_holes_keep (f ∷ fs) s w = all_holes_keep fs (holed f s) (holes_keep f s w)

module _ (t : Recording) (s u : World) (p : Part) (ready : IsReady t s u p) where
  abbrev f : Footprint
  f = footprint t p.place s

  abbrev after : World
  after = step_world t p.place u

  on_part : CoversAt t p.place f s p.values
  on_part = all_covered t p.place s ready.awaited p.values (part_unused t p.place s p.values f (awaits_unused t p.place s ready.awaited) ready.part) ready.part.agrees

  on_world : CoversAt t p.place f s u
  on_world = all_covered t p.place s ready.awaited u (awaits_unused t p.place u ready.awaits) ready.agrees

  different : (q : Part) → T (are_apart t s p q) → ¬ (q.place ≡ p.place)
  different q h e = not_both (q.place == p.place) (left (not (q.place == p.place)) _ h) (subst (λ n. T (q.place == n)) e (eqb_refl q.place))

  free : (q : Part) → T (are_apart t s p q) → T (not (collide f (footprint t q.place s)))
  free q h = right (not (q.place == p.place)) _ h

  -- What the place has, the holes of the others spare; and its step leaves what they have.
  elsewhere : (qs : List Part) → T (list_all (are_apart t s p) qs) → (x : World) (a : Atom) → T (has_atom f a) → value (holed_by (footprints t s qs) x) a ≡ value x a
  elsewhere [] h x a m = refl
  elsewhere (q ∷ qs) h x a m =
      elsewhere qs (right (are_apart t s p q) _ h) (holed (footprint t q.place s) x) a m
      ∙ holed-left (footprint t q.place s) x a (second_unwritten f (footprint t q.place s) a (free q (left (are_apart t s p q) _ h)) m)

  still_ready : (q : Part) → T (are_apart t s p q) → IsReady t s u q → IsReady t s after q
  still_ready q h r = record {
    awaited = r.awaited;
    awaits = (steps_keep_worlds t p.place u ready.awaits).1 q.place (different q h) r.awaits;
    agrees = record { same = λ a m. r.agrees.same a m ∙ sym (on_world.nothing_else a (first_unwritten f (footprint t q.place s) a (free q h) m)) };
    part = r.part;
  }

  others_still : (qs : List Part) → T (list_all (are_apart t s p) qs) → AreReady t s u qs → AreReady t s after qs
  others_still [] h r = tt
  others_still (q ∷ qs) h r = (still_ready q (left (are_apart t s p q) _ h) r.0, r.1, others_still qs (right (are_apart t s p q) _ h) r.2)

  module _ (others : List Part) (apart : T (list_all (are_apart t s p) others)) where
    fills : PutsTo f (holed_by (footprints t s (p ∷ others)) u) (step_world t p.place p.values) (holed_by (footprints t s others) after)
    fills = record {
      given = λ a w. let m = writes-has f a w in elsewhere others apart after a m ∙ sym (on_world.agree_after.same a m) ∙ on_part.agree_after.same a m;
      kept = λ a n. holed_by-alike (footprints t s others) after (holed f u) a (on_world.nothing_else a n ∙ sym (holed-left f u a n));
    }

pub put_is_step : PutIsStep
put_is_step t s u p others r =
    let puts = fills t s u p r.0 others r.1 in
    record {
      reply = (on_part t s u p r.0).same_reply ∙ sym (on_world t s u p r.0).same_reply;
      is_world = all_holes_keep (footprints t s others) (step_world t p.place u) (steps_keep_worlds t p.place u r.0.awaits).0;
      puts = puts;
      only = λ x h. same_put (footprint t p.place s) (holed_by (footprints t s (p ∷ others)) u) (step_world t p.place p.values) x (holed_by (footprints t s others) (step_world t p.place u)) h puts;
      others_ready = others_still t s u p r.0 others r.1 r.2;
    }

module _ (t : Recording) (s : World) where
  world_after : (u w x : World) (ps : List Part) → AreReady t s u ps → w ≡ holed_by (footprints t s ps) u → PutsAll t s w ps x → x ≡ in_order (replayed t) u (places ps)
  world_after u w x [] r e none_left = e
  world_after u w x (p ∷ ps) r e (then_put {v = v} h hs) =
      let step = put_is_step t s u p ps r in
      world_after (step_world t p.place u) v x ps step.others_ready (step.only v (subst (λ y. PutsTo (footprint t p.place s) y (step_world t p.place p.values) v) e h)) hs

  replies_after : (u : World) (ps : List Part) → AreReady t s u ps → map (λ (p : Part). step_reply t p.place p.values) ps ≡ replies_in_order (replayed t) u (places ps)
  replies_after u [] r = refl
  replies_after u (p ∷ ps) r =
      let step = put_is_step t s u p ps r in
      λ i. step.reply i ∷ replies_after (step_world t p.place u) ps step.others_ready i

pub round_is_steps : RoundIsSteps
round_is_steps t s after ps r h = record { world = world_after t s s _ after ps r refl h; replies = replies_after t s s ps r }

-- One part more is ready, behind those that are.
pub ready_more : (t : Recording) (s u : World) (ps : List Part) (q : Part) → AreReady t s u ps → T (list_all (λ p. are_apart t s p q) ps) → IsReady t s u q → AreReady t s u (ps ++ q ∷ [])
ready_more t s u [] q r h k = (k, tt, tt)
ready_more t s u (p ∷ ps) q r h k = (r.0, all_append (are_apart t s p) ps (q ∷ []) r.1 (both (are_apart t s p q) _ (left (are_apart t s p q) _ h) tt), ready_more t s u ps q r.2 (right (are_apart t s p q) _ h) k)
