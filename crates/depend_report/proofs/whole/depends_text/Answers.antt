use Rattle.std.proofs.lemmas.Result.{IfOk-weaker}
use Rattle.depend_report.proofs.whole.depends_text.Goals as goal

pub returns : goal.returns
returns c =
    let t = c.args.trace.now in
    let all = c.in_ok-push_lines.ensures in
    IfOk-weaker c.finish.result _ _ (λ bytes is. record { ps = all.0; waits = all.1.0; text = is }) (c.finish.ensures t all.0 all.1.1)
