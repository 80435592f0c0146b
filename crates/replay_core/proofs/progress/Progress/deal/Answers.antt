use Rattle.std.proofs.Common.{◌≡◌, suc, ◌<◌, length, take, drop, List, [], ◌∷◌, ◌++◌, ap, sym, subst, refl, ◌∙◌, Some, arith}
use Rattle.std.specs.Prelude.{slice_get, T}
use Rattle.std.proofs.lemmas.List.{length_push, length-map, take-append-drop}
use Rattle.std.proofs.lemmas.Option.{slice_get_read}
use Rattle.std.proofs.lemmas.Iterator.Adapters.{YieldsList-from_vec}
use Rattle.std.proofs.lemmas.Iterator.Consumers.{YieldsList-turn, YieldsList-end}
use Rattle.interleaving.specs.Machine.{has}
use Rattle.chain_plan.proofs.Walk.{length-roles}
use Rattle.recording.specs.Steps.{places}
use Rattle.world_parts.specs.Part.{Part}
use Rattle.world_parts.specs.Cutting.{is_narrow, cut_from}
use Rattle.foot_print.specs.Footprint.{footprint}
use Rattle.foot_print.specs.Parts as parts
use Rattle.foot_print.proofs.Narrow.{all_narrow}
use Rattle.replay_core.specs.declared.progress.Progress.{Progress}
use Rattle.wave_pick.specs.Rounds.{state_after, wave_after}
use Rattle.replay_core.specs.Progressing.{parts_of, AreOut}
use Rattle.replay_core.proofs.Lists.{drop-here, take-whole}
use Rattle.replay_core.proofs.Choosing.{chosen_at, chosen_within}
use Rattle.replay_core.proofs.Cutting.{HasCut, one_cut, is_home, of-more, parts-more, wave-more}
use Rattle.replay_core.proofs.progress.Progress.deal.Goals.{In-Some}
use Rattle.replay_core.proofs.progress.Progress.deal.Goals as goal
use Rattle.interleaving.proofs.Members.{has-middle}

-- the place of this turn
is_next : (c : In-Some) → (slice_get (wave_after c.args.trace.now c.args.self.now.window c.args.self.now.round) (length c.loop-chosen.yielded) ≡ Some c.in-Some.chosen.place)
    × (c.in-Some.chosen.footprint ≡ footprint c.args.trace.now c.in-Some.chosen.place (state_after c.args.trace.now c.args.self.now.window c.args.self.now.round).world)
is_next c =
    let begin = c.into_iter-chosen-iterator.ensures.into_iter_gives in
    let turn = YieldsList-turn (YieldsList-from_vec {s = c.into_iter-chosen-iterator.result} c.into_vec-chosen-items.result.items begin.0 (begin.1 ∙ c.into_vec-chosen-items.result.ok.0)) c.loop-chosen.yielded c.loop-chosen.chosen-iterator c.loop-chosen.yielded_by c.next.result c.next.new.self c.in-Some.chosen c.in-Some.is c.next.ensures.steps in
    let found : slice_get c.into_vec-chosen-items.result.items (length c.loop-chosen.yielded) ≡ Some c.in-Some.chosen = slice_get_read c.into_vec-chosen-items.result.items (length c.into_vec-chosen-items.result.items) (length c.loop-chosen.yielded) c.in-Some.chosen refl turn.0 turn.1 in
    chosen_at c.args.trace.now c.args.self.now.window c.args.self.now.round (length c.loop-chosen.yielded) c.into_vec-chosen-items.result.items c.in-Some.chosen
    (c.into_vec-chosen-items.ensures ∙ c.requires.wave) found

order : (c : In-Some) → parts.places (parts_of c.loop-chosen.jobs.items) ++ c.in-Some.chosen.place ∷ drop (suc (length c.loop-chosen.yielded)) (wave_after c.args.trace.now c.args.self.now.window c.args.self.now.round) ≡ wave_after c.args.trace.now c.args.self.now.window c.args.self.now.round
order c =
    let ks = wave_after c.args.trace.now c.args.self.now.window c.args.self.now.round in
    let n = length c.loop-chosen.yielded in
    let behind : drop n ks ≡ c.in-Some.chosen.place ∷ drop (suc n) ks = drop-here ks n c.in-Some.chosen.place (is_next c).0 in
    (λ i. c.loop-chosen.invariant.wave i ++ sym behind i) ∙ take-append-drop n ks

pub cut-requires-clause-home : goal.cut-requires-clause-home
cut-requires-clause-home c =
    let d = (goal.at.cut-requires-clause-home c).In-Some in
    let s = c.args.self.now in
    is_home c.args.trace.now s.window s.round c.requires.trace (parts_of c.loop-chosen.jobs.items) c.in-Some.chosen.place (drop (suc (length c.loop-chosen.yielded)) (wave_after c.args.trace.now s.window s.round)) c.loop-chosen.self.world c.loop-chosen.invariant.out (order d)

pub cut-requires-clause-narrow : goal.cut-requires-clause-narrow
cut-requires-clause-narrow c =
    let d = (goal.at.cut-requires-clause-narrow c).In-Some in
    subst (λ f. T (is_narrow f)) (sym (is_next d).1) (all_narrow c.args.trace.now c.in-Some.chosen.place (state_after c.args.trace.now c.args.self.now.window c.args.self.now.round).world)

within : (c : In-Some) → c.in-Some.chosen.place < places c.args.trace.now
within c =
    let t = c.args.trace.now in
    let s = c.args.self.now in
    let k = c.in-Some.chosen.place in
    (chosen_within t c.requires.trace s.window s.round k (ap (λ ks. has ks k) (sym (order c)) ∙ has-middle (parts.places (parts_of c.loop-chosen.jobs.items)) k (drop (suc (length c.loop-chosen.yielded)) (wave_after t s.window s.round)))).0

pub role-requires : goal.role-requires
role-requires c =
    let d = (goal.at.role-requires c).In-Some in
    subst (λ n. c.in-Some.chosen.place < n) (sym (ap length c.requires.plan ∙ length-roles c.args.trace.now)) (within d)

pub invariant_of-push-clause-within : goal.invariant_of-push-clause-within
invariant_of-push-clause-within c =
    let d = (goal.at.invariant_of-push-clause-within c).In-Some in
    let n : places c.of.result.value ≡ places c.args.trace.now = ap places c.of.ensures in
    omega (arith, within d, c.in_ok-part.ensures.place, n)

pub loop-chosen-preserved : goal.loop-chosen-preserved
loop-chosen-preserved c =
    let d = (goal.at.loop-chosen-preserved c).In-Some in
    let t = c.args.trace.now in
    let s = c.args.self.now in
    let x = state_after t s.window s.round in
    let ks = wave_after t s.window s.round in
    let n = length c.loop-chosen.yielded in
    let jobs = c.loop-chosen.jobs.items in
    let k = c.in-Some.chosen.place in
    let part = c.in_ok-part.part in
    let count : suc n ≡ length (c.loop-chosen.yielded ++ c.in-Some.chosen ∷ []) = omega (arith, length_push c.loop-chosen.yielded c.in-Some.chosen) in
    let has_cut : HasCut t s.window s.round (parts_of jobs) (drop (suc n) ks) c.loop-chosen.self.world c.cut.new.self c.in-Some.chosen.footprint part = record {
      spelled = c.requires.trace;
      out = c.loop-chosen.invariant.out;
      order = ap (λ j. parts.places (parts_of jobs) ++ j ∷ drop (suc n) ks) c.in_ok-part.ensures.place ∙ order d;
      foot = (is_next d).1 ∙ ap (λ j. footprint t j x.world) (sym c.in_ok-part.ensures.place);
      cut = c.in_ok-part.ensures.part;
      left = c.in_ok-part.ensures.rest ∙ ap (λ j. cut_from c.loop-chosen.self.world j c.in-Some.chosen.footprint) (sym c.in_ok-part.ensures.place);
    } in
    record {
      next = tt;
      finite = tt;
      trace = of-more t jobs c.push.new.self.items _ c.in_ok-push.ensures.items c.of.ensures c.loop-chosen.invariant.trace;
      wave = wave-more t s.window s.round n jobs c.push.new.self.items _ k c.in_ok-push.ensures.items c.loop-chosen.invariant.wave (is_next d).0 c.in_ok-part.ensures.place ∙ ap (λ j. take j ks) count;
      out = subst (λ (ps : List Part). AreOut t x.world x.world ps c.cut.new.self) (sym (parts-more jobs c.push.new.self.items _ c.in_ok-push.ensures.items)) (one_cut t s.window s.round (parts_of jobs) (drop (suc n) ks) c.loop-chosen.self.world c.cut.new.self c.in-Some.chosen.footprint part has_cut);
      rest = ap (λ (q : Progress). record q { world = c.cut.new.self }) c.loop-chosen.invariant.rest;
    }

pub returns-clause-dealt : goal.returns-clause-dealt
returns-clause-dealt c =
    let t = c.args.trace.now in
    let s = c.args.self.now in
    let x = state_after t s.window s.round in
    let ks = wave_after t s.window s.round in
    let wave = c.into_vec-chosen-items.ensures ∙ c.requires.wave in
    let begin = c.into_iter-chosen-iterator.ensures.into_iter_gives in
    let end = YieldsList-end (YieldsList-from_vec {s = c.into_iter-chosen-iterator.result} c.into_vec-chosen-items.result.items begin.0 (begin.1 ∙ c.into_vec-chosen-items.result.ok.0)) c.loop-chosen.yielded c.loop-chosen.chosen-iterator c.loop-chosen.yielded_by c.next.result c.next.new.self c.in-None.is c.next.ensures.steps in
    let many : length ks ≡ length c.loop-chosen.yielded = sym (end.1 ∙ ap length wave ∙ length-map ks _) in
    record {
      trace = c.loop-chosen.invariant.trace;
      wave = c.loop-chosen.invariant.wave ∙ take-whole ks (length c.loop-chosen.yielded) many;
      out = c.loop-chosen.invariant.out;
    }
