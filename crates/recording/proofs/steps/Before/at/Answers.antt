use Rattle.std.proofs.Common.{arith, length, ap}
use Rattle.std.proofs.lemmas.List.FromFn.{length-map-range_with_len}
use Rattle.recording.specs.Forgotten.{filling}
use Rattle.recording.specs.Kept.{steps_before}
use Rattle.recording.proofs.Blanks.{filling_at}
use Rattle.recording.proofs.steps.Before.at.Goals as goal

pub returns-in-Blank : goal.returns-in-Blank
returns-in-Blank c =
    let many = length-map-range_with_len (filling c.in-Blank.slots) 0 c.in-Blank.count in
    rw c.in-Blank.is (filling_at c.in-Blank.slots c.in-Blank.count c.args.place (omega (arith, c.requires, ap (λ b. length (steps_before b)) c.in-Blank.is, many)))
