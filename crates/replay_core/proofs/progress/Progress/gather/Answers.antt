use Rattle.std.proofs.Common.{◌≡◌, ℕ, suc, ◌<◌, ◌≤◌, true, length, drop, ap, sym, subst, ◌∙◌, arith, Some, List, [], ◌∷◌, ◌++◌, refl}
use Rattle.std.specs.Prelude.{slice_get}
use Rattle.std.proofs.Math.ListN.{set}
use Rattle.std.proofs.lemmas.List.{length_push, length-map, drop_all}
use Rattle.std.proofs.lemmas.Option.{slice_get_read}
use Rattle.std.proofs.lemmas.Iterator.Adapters.{YieldsList-from_vec}
use Rattle.std.proofs.lemmas.Iterator.Consumers.{YieldsList-turn, YieldsList-end}
use Rattle.interleaving.proofs.Members.{has-here}
use Rattle.recording.specs.Steps.{places}
use Rattle.foot_print.specs.Parts as parts
use Rattle.world_parts.specs.Part.{Part, Divided}
use Rattle.replay_core.specs.declared.run.Run.{Run}
use Rattle.wave_pick.specs.Rounds.{state_after}
use Rattle.replay_core.specs.Progressing.{parts_of}
use Rattle.replay_core.proofs.Returning.{Returns, HasReturned, left_is_world, part_is_out, part_is_narrow, part_fits, put_one}
use Rattle.replay_core.proofs.Stepping.{as_kept, same_round-on, has_run}
use Rattle.replay_core.proofs.Rounds.{begins, goes_on, ends, IsOutcomeAt, outcome_at}
use Rattle.replay_core.proofs.progress.Progress.gather.Goals.{In_ok-reply, In-None}
use Rattle.replay_core.proofs.progress.Progress.gather.Goals as goal

pub loop-outcome-init : goal.loop-outcome-init
loop-outcome-init c =
    let s = c.args.self.now in
    record {
      next = tt;
      finite = tt;
      returns = begins c.args.trace.now c.requires.trace s.window s.round c.args.jobs.value.items s.world s.replies s.rounds.items s.done.items c.requires.round c.requires.dealt c.requires.keeps;
      rest = (refl, refl, refl, refl, refl);
    }

-- the outcome of this turn
is_outcome : (c : In_ok-reply) → IsOutcomeAt c.args.trace.now c.args.jobs.value.items (length c.loop-outcome.yielded) c.in_ok-reply.reply c.in_ok-reply.part
is_outcome c =
    let begin = c.into_iter-outcome-iterator.ensures.into_iter_gives in
    let turn = YieldsList-turn (YieldsList-from_vec {s = c.into_iter-outcome-iterator.result} c.args.outcomes.items begin.0 (begin.1 ∙ c.args.outcomes.ok.0)) c.loop-outcome.yielded c.loop-outcome.outcome-iterator c.loop-outcome.yielded_by c.next.result c.next.new.self c.in-Some.outcome c.in-Some.is c.next.ensures.steps in
    let found : slice_get c.args.outcomes.items (length c.loop-outcome.yielded) ≡ Some c.in-Some.outcome = slice_get_read c.args.outcomes.items (length c.args.outcomes.items) (length c.loop-outcome.yielded) c.in-Some.outcome refl turn.0 turn.1 in
    outcome_at c.args.trace.now c.args.jobs.value.items c.args.outcomes.items (length c.loop-outcome.yielded) c.in_ok-reply.reply c.in_ok-reply.part c.requires.dealt.trace c.requires.outcomes (found ∙ ap Some c.in_ok-reply.was)

-- the parts that are left
left : (c : In_ok-reply) → List Part
left c = drop (suc (length c.loop-outcome.yielded)) (parts_of c.args.jobs.value.items)

-- what holds before the part of this turn is put back
before : (c : In_ok-reply) → Returns c.args.trace.now c.args.self.now.window c.args.self.now.round ((is_outcome c).part ∷ left c) c.loop-outcome.self.world c.loop-outcome.self.replies c.loop-outcome.self.rounds.items c.loop-outcome.self.done.items
unfolding left
before c =
    let s = c.loop-outcome.self in
    subst (λ (ps : List Part). Returns c.args.trace.now c.args.self.now.window c.args.self.now.round ps s.world s.replies s.rounds.items s.done.items) (is_outcome c).here c.loop-outcome.invariant.returns

returned : (c : In_ok-reply) → HasReturned c.args.trace.now (state_after c.args.trace.now c.args.self.now.window c.args.self.now.round).world (before c).state.world (is_outcome c).part (left c) c.loop-outcome.self.world c.in_ok-reply.part
returned c = record { out = (before c).out; run = (is_outcome c).back_is }

pub put-requires-clause-world : goal.put-requires-clause-world
put-requires-clause-world c = let d = (goal.at.put-requires-clause-world c).In_ok-reply in left_is_world _ _ _ _ _ _ _ (returned d)

pub put-requires-clause-out : goal.put-requires-clause-out
put-requires-clause-out c = let d = (goal.at.put-requires-clause-out c).In_ok-reply in part_is_out _ _ _ _ _ _ _ (returned d)

pub put-requires-clause-narrow : goal.put-requires-clause-narrow
put-requires-clause-narrow c = let d = (goal.at.put-requires-clause-narrow c).In_ok-reply in part_is_narrow _ _ _ _ _ _ _ (returned d)

pub put-requires-clause-fits : goal.put-requires-clause-fits
put-requires-clause-fits c = let d = (goal.at.put-requires-clause-fits c).In_ok-reply in part_fits _ _ _ _ _ _ _ (returned d)

-- the place is one of the trace
within : (c : In_ok-reply) → c.in_ok-reply.part.place < places c.args.trace.now
within c =
    let o = is_outcome c in
    let lt = ((before c).steps.settled o.part.place (has-here o.part.place (parts.places (left c)))).0 in
    let same : c.in_ok-reply.part.place ≡ o.part.place = ap (λ (q : Part). q.place) o.back_is in
    omega (arith, lt, same)

pub keep-requires-clause-replies : goal.keep-requires-clause-replies
keep-requires-clause-replies c =
    let d = (goal.at.keep-requires-clause-replies c).In_ok-reply in
    let many = (before d).steps.keeps.many_replies in
    let same = ap (λ (q : Part). q.place) c.part.view_is in
    omega (arith, within d, many, same)

pub keep-requires-clause-rounds : goal.keep-requires-clause-rounds
keep-requires-clause-rounds c =
    let d = (goal.at.keep-requires-clause-rounds c).In_ok-reply in
    let many = (before d).steps.keeps.many_rounds in
    let same = ap (λ (q : Part). q.place) c.part.view_is in
    omega (arith, within d, many, same)

pub keep-requires-clause-done : goal.keep-requires-clause-done
keep-requires-clause-done c =
    let d = (goal.at.keep-requires-clause-done c).In_ok-reply in
    let many = (before d).steps.keeps.many_done in
    let same = ap (λ (q : Part). q.place) c.part.view_is in
    omega (arith, within d, many, same)

pub loop-outcome-preserved : goal.loop-outcome-preserved
unfolding left
loop-outcome-preserved c =
    let d = (goal.at.loop-outcome-preserved c).In_ok-reply in
    let t = c.args.trace.now in
    let window = c.args.self.now.window in
    let r = c.args.self.now.round in
    let s = c.loop-outcome.self in
    let o = is_outcome d in
    let part = c.in_ok-reply.part in
    let reply = c.in_ok-reply.reply in
    let parts_are = parts_of c.args.jobs.value.items in
    let here : c.part.inside.place ≡ o.part.place = ap (λ (q : Part). q.place) c.part.view_is ∙ ap (λ (q : Part). q.place) o.back_is in
    let count : suc (length c.loop-outcome.yielded) ≡ length (c.loop-outcome.yielded ++ c.in-Some.outcome ∷ []) = omega (arith, length_push c.loop-outcome.yielded c.in-Some.outcome) in
    let after = put_one t (state_after t window r).world (before d).state.world o.part (left d) s.world part (returned d) c.put.new.self c.put.result c.in_ok-put.field-0 c.in_ok-put.was c.put.ensures.world c.in_ok-put.ensures.home in
    let next = goes_on t c.requires.trace window r o.part (left d) s.world c.put.new.self s.replies s.rounds.items s.done.items reply part (before d) o.back_is after o.answer in
    let kept = c.in_ok-keep.ensures in
    record {
      next = tt;
      finite = tt;
      returns =
          subst (λ (n : ℕ). Returns t window r (drop n parts_are) c.keep.new.self.world c.keep.new.self.replies c.keep.new.self.rounds.items c.keep.new.self.done.items) count
          (subst (λ (w : Divided). Returns t window r (left d) w c.keep.new.self.replies c.keep.new.self.rounds.items c.keep.new.self.done.items) (sym kept.worlds.0)
          (as_kept (Returns t window r (left d) c.put.new.self) (kept.replies ∙ ap (λ (k : ℕ). set s.replies k reply) here)
          (kept.rounds ∙ (λ i. set s.rounds.items (here i) (c.loop-outcome.invariant.rest.1 i))) (kept.done ∙ ap (λ (k : ℕ). set s.done.items k true) here) next));
      rest = same_round-on c.args.self.now s c.keep.new.self c.loop-outcome.invariant.rest kept.rest;
    }

-- when all are back
over : (c : In-None) → Returns c.args.trace.now c.args.self.now.window c.args.self.now.round [] c.loop-outcome.self.world c.loop-outcome.self.replies c.loop-outcome.self.rounds.items c.loop-outcome.self.done.items
over c =
    let s = c.loop-outcome.self in
    let begin = c.into_iter-outcome-iterator.ensures.into_iter_gives in
    let end = YieldsList-end (YieldsList-from_vec {s = c.into_iter-outcome-iterator.result} c.args.outcomes.items begin.0 (begin.1 ∙ c.args.outcomes.ok.0)) c.loop-outcome.yielded c.loop-outcome.outcome-iterator c.loop-outcome.yielded_by c.next.result c.next.new.self c.in-None.is c.next.ensures.steps in
    let many = c.requires.outcomes.0 in
    let parts_many = length-map c.args.jobs.value.items (λ (run : Run). run.part) in
    let le : length (parts_of c.args.jobs.value.items) ≤ length c.loop-outcome.yielded = omega (arith, end.1, many, parts_many) in
    subst (λ (ps : List Part). Returns c.args.trace.now c.args.self.now.window c.args.self.now.round ps s.world s.replies s.rounds.items s.done.items) (drop_all (length c.loop-outcome.yielded) (parts_of c.args.jobs.value.items) le) c.loop-outcome.invariant.returns

pub returns : goal.returns
returns c =
    let s = c.loop-outcome.self in
    let end = ends c.args.trace.now c.requires.trace c.args.self.now.window c.args.self.now.round s.world s.replies s.rounds.items s.done.items (over (goal.at.returns c).In-None) in
    record { ran = has_run c.args.trace.now c.args.self.now s end.0 end.1 c.loop-outcome.invariant.rest }
