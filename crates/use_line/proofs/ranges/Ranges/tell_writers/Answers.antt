use Rattle.std.proofs.Common.{◌≡◌, ◌∙◌, ap, arith, subst}
use Rattle.use_line.specs.Known.{RangeUses, is_among}
use Rattle.use_line.specs.Steps.{IsLevel, step_at}
use Rattle.use_line.proofs.Writers.{writers_joined}
use Rattle.use_line.proofs.ranges.Ranges.tell_writers.Goals as goal

pub loop-end-preserved : goal.loop-end-preserved
loop-end-preserved c =
    let inv = c.loop-end.invariant in
    let part = c.last_part-start.ensures in
    let ws = c.args.self.now.writers in
    let same : c.self.inside.writers ≡ ws = ap (λ (u : RangeUses). u.writers) c.self.view_is in
    let level = subst (λ es. IsLevel es c.last_part-start.result.0 c.loop-end.end) same part.level in
    let value = part.value ∙ ap (λ es. step_at es c.last_part-start.result.0) same in
    record {
      from = part.from;
      to = omega (arith, part.to, inv.to);
      told = λ j. writers_joined ws c.last_part-start.result.0 c.loop-end.end c.args.high j c.last_part-start.result.1
          (is_among c.args.told.now.items j) (is_among c.loop-end.told.items j) (is_among c.tell_writer.new.told.items j)
          part.to inv.to level value (inv.told j) (c.in_ok-tell_writer.ensures j);
    }
