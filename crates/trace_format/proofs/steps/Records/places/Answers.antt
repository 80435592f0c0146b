use Rattle.std.proofs.Common.{arith, length, ap}
use Rattle.trace_format.proofs.Spots.{length-steps_from, length-numbers_from}
use Rattle.trace_format.specs.Steps.{steps_from}
use Rattle.trace_format.proofs.steps.Records.places.Goals as goal

pub returns-clause-places : goal.returns-clause-places
returns-clause-places c =
    let rs = c.self.inside.items.items in
    let same = ap (λ rs. length (steps_from 0 rs)) c.self.view_is in
    omega (arith, c.self.inside.record_numbers.ok.0, ap length c.self.invariant.0, same, length-steps_from 0 rs, length-numbers_from 0 rs)
