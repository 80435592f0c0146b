use Rattle.std.proofs.Common.{arith, length, ap, length-append}
use Rattle.recording.specs.Kept.{steps_before}
use Rattle.recording.specs.Records.{Later}
use Rattle.recording.proofs.Blanks.{length-blanks}
use Rattle.recording.proofs.steps.Steps.let_go.Goals as goal

pub invariant_of-self : goal.invariant_of-self
invariant_of-self c =
    let before = steps_before c.self.inside.before in
    omega (
      arith,
      ap (λ (l : Later). l.first) c.let_go.ensures,
      c.self.invariant,
      c.len.ensures.steps,
      ap length c.self.view_is,
      length-append before c.self.inside.grown.steps,
      ap length c.blanks.ensures,
      length-blanks c.len.result,
    )
