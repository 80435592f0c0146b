use Rattle.std.proofs.Common.{rules}
use Rattle.std.specs.Prelude.{codes}
use Rattle.std.proofs.lemmas.Result.{IfOk-weaker}
use Rattle.clap.specs.Words.{new_app}
use Rattle.program_words.specs.Words.{HasApp}
use Rattle.program_words.proofs.CommandLemmas.{argued}
use Rattle.program_words.proofs.words.diff_command.Goals as goal

pub returns : goal.returns
returns c =
    let new : HasApp (new_app (codes "diff")) c.about.result = (search rules, search rules) in
    let strict = argued c.about.result c.in_ok-arg.field-0 c.strict_flag.result _ _ new c.strict_flag.ensures c.in_ok-arg.ensures in
    let truncated = argued c.in_ok-arg.field-0 c.in_ok-arg-2.field-0 c.truncated_flag.result _ _ strict c.truncated_flag.ensures c.in_ok-arg-2.ensures in
    IfOk-weaker c.arg-3.result _ _ (λ command h. argued _ _ _ _ _ truncated c.show_option.ensures h) c.arg-3.ensures
