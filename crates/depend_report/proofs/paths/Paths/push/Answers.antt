use Rattle.std.proofs.Common.{◌*◌, ◌∙◌, ap, length, arith}
use Rattle.depend_report.specs.Paths.{heaviest_before}
use Rattle.depend_report.proofs.PathLemmas.{before_bounded, bounded_more}
use Rattle.depend_report.proofs.paths.Paths.push.Goals as goal

pub overflow_add-from : goal.overflow_add-from
overflow_add-from c =
    let weights = c.self.inside.weights.items in
    let before = before_bounded weights (length weights * 4294967295) c.args.waits.now c.self.invariant in
    let is = c.heaviest_before-before.ensures ∙ ap (λ ws. heaviest_before ws c.args.waits.now) c.as_slice.ensures.value in
    record { fits = omega (arith, before, is, c.from.ensures, c.ranges.weight.fits, c.requires, ap length c.self.view_is) }

pub invariant_of-self-2 : goal.invariant_of-self-2
invariant_of-self-2 c =
    let weights = c.self.inside.weights.items in
    let before = before_bounded weights (length weights * 4294967295) c.args.waits.now c.self.invariant in
    let is = c.heaviest_before-before.ensures ∙ ap (λ ws. heaviest_before ws c.args.waits.now) c.as_slice.ensures.value in
    bounded_more weights c.push.new.self.items 4294967295 _ c.in_ok-push.ensures.items c.self.invariant (omega (arith, before, is, c.from.ensures, c.ranges.weight.fits))
