use Rattle.std.proofs.Common.{rules}
use Rattle.std.specs.Prelude.{codes}
use Rattle.std.proofs.lemmas.Result.{IfOk-weaker}
use Rattle.clap.specs.Words.{new_app}
use Rattle.program_words.specs.Words.{HasApp}
use Rattle.program_words.proofs.CommandLemmas.{argued}
use Rattle.program_words.proofs.words.compare_command.Goals as goal

pub returns : goal.returns
returns c =
    let new : HasApp (new_app (codes "compare")) c.about.result = (search rules, search rules) in
    let first = argued c.about.result c.in_ok-arg.field-0 c.workers_option.result _ _ new c.workers_option.ensures c.in_ok-arg.ensures in
    let second = argued c.in_ok-arg.field-0 c.in_ok-arg-2.field-0 c.window_option.result _ _ first c.window_option.ensures c.in_ok-arg-2.ensures in
    IfOk-weaker c.arg-3.result _ _ (λ command h. argued _ _ _ _ _ second c.eager_flag.ensures h) c.arg-3.ensures
