use Rattle.std.proofs.Common.{◌≡◌, ◌+◌, ◌∷◌, [], ◌++◌, ◌∙◌, ap, subst, arith}
use Rattle.recording.specs.Steps.{places}
use Rattle.depend_log.specs.Places.{IsPlaceWaits}
use Rattle.depend_report.specs.Told.{Drawn}
use Rattle.depend_report.specs.Whole.{AreFirst}
use Rattle.depend_report.proofs.WholeLemmas.{first_more, none_first}
use Rattle.depend_report.proofs.whole.push_nodes.Goals as goal

pub loop-place-init : goal.loop-place-init
loop-place-init c = record { run = c.requires.run; next = c.requires.first; drawn = ([], (none_first c.args.trace.now, c.requires.head)) }

pub next-requires-clause-place : goal.next-requires-clause-place
next-requires-clause-place c = omega (arith, c.loop-place.invariant.next, c.loop-place-test.true, c.places-place-end.ensures)

pub push_place-requires : goal.push_place-requires
push_place-requires c =
    let before = c.loop-place.invariant.drawn in
    let many = ap (λ (d : Drawn). d.places) before.1.1 ∙ before.1.0.many in
    omega (arith, many, c.loop-place-test.true, c.requires.trace.sizes.places)

pub loop-place-preserved : goal.loop-place-preserved
loop-place-preserved c =
    let t = c.args.trace.now in
    let before = c.loop-place.invariant.drawn in
    let place = c.in_ok-place.place in
    let is = subst (λ k. IsPlaceWaits t k place) c.loop-place.invariant.next c.in_ok-place.ensures.waits in
    record {
      run = c.in_ok-place.ensures.run;
      next = c.in_ok-place.ensures.place ∙ ap (λ k. k + 1) c.loop-place.invariant.next;
      drawn = (before.0 ++ place ∷ [], (first_more t before.0 place c.loop-place._place before.1.0 is, c.in_ok-push_place.ensures before.0 before.1.1));
    }

pub returns : goal.returns
returns c =
    let t = c.args.trace.now in
    let all = c.loop-place.invariant.drawn in
    let end : c.loop-place._place ≡ places t = omega (arith, c.loop-place-test.false, c.places-place-end.ensures, c.loop-place.auto._place-end) in
    (all.0, (subst (AreFirst t all.0) end all.1.0, all.1.1))
