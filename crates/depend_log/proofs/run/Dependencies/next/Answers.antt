use Rattle.std.proofs.Common.{◌≡◌, ◌+◌, ◌∙◌, length, sym, ap, subst, arith}
use Rattle.foot_print.specs.Footprint.{footprint}
use Rattle.op_meaning.specs.Step.{run_world}
use Rattle.dependencies.specs.Rule.{foot_at}
use Rattle.foot_waits.specs.Told.{IsAt}
use Rattle.depend_log.specs.declared.run.Dependencies.{Dependencies}
use Rattle.depend_log.specs.Running.{AreFeet}
use Rattle.depend_log.proofs.Running.{feet_more}
use Rattle.depend_log.proofs.run.Dependencies.next.Goals as goal

pub waits_for-requires-clause-place : goal.waits_for-requires-clause-place
waits_for-requires-clause-place c = omega (arith, c.requires.place, c.requires.trace.sizes.places)

pub overflow_add-self : goal.overflow_add-self
overflow_add-self c =
    let told = ap (λ (d : Dependencies). d.place) c.in_ok-waits.ensures.rest in
    let ran = ap (λ (d : Dependencies). d.place) c.in_ok-moved.ensures.rest in
    omega (arith, told, ran, c.requires.place, c.requires.trace.sizes.places)

pub returns-clause-run : goal.returns-clause-run
returns-clause-run c =
    let t = c.args.trace.now in
    let start = c.args.self.now in
    let told = c.waits_for.new.self in
    let ran = c.run.new.self in
    let first : told ≡ record start { waits = told.waits } = c.in_ok-waits.ensures.rest in
    let second : ran ≡ record told { state = ran.state } = c.in_ok-moved.ensures.rest in
    let known = c.requires.run in
    let same_place : told.place ≡ start.place = ap (λ (d : Dependencies). d.place) first in
    let place : ran.place ≡ told.place = ap (λ (d : Dependencies). d.place) second in
    let used : c.in_ok-footprint.footprint ≡ foot_at t ran.place = c.in_ok-footprint.ensures ∙ ap (footprint t start.place) known.state ∙ ap (foot_at t) (sym (place ∙ same_place)) in
    let feet : AreFeet t told.place told.feet.items = subst (λ (d : Dependencies). AreFeet t d.place d.feet.items) (sym first) known.feet in
    let waits : IsAt told.waits (foot_at t) (told.place + 1) = subst (λ n. IsAt told.waits (foot_at t) (n + 1)) (sym same_place) c.in_ok-waits.ensures.known in
    record {
      plan = ap (λ (d : Dependencies). d.plan) second ∙ ap (λ (d : Dependencies). d.plan) first ∙ known.plan;
      many = ap (λ (d : Dependencies). length d.plan) second ∙ ap (λ (d : Dependencies). length d.plan) first ∙ known.many;
      state = c.in_ok-moved.ensures.state ∙ ap (λ n. run_world t (n + 1)) (sym place);
      feet = feet_more t ran.place ran.feet.items c.push.new.self.items c.in_ok-footprint.footprint
          (subst (λ (d : Dependencies). AreFeet t d.place d.feet.items) (sym second) feet) used c.in_ok-push.ensures.items;
      waits = subst (λ (d : Dependencies). IsAt d.waits (foot_at t) (d.place + 1)) (sym second) waits;
    }
