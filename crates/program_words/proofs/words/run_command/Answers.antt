use Rattle.std.proofs.Common.{rules}
use Rattle.std.specs.Prelude.{codes}
use Rattle.std.proofs.lemmas.Result.{IfOk-weaker}
use Rattle.clap.specs.Words.{new_app}
use Rattle.program_words.specs.Words.{HasApp}
use Rattle.program_words.proofs.CommandLemmas.{argued}
use Rattle.program_words.proofs.words.run_command.Goals as goal

pub returns : goal.returns
returns c =
    let new : HasApp (new_app (codes "run")) c.about.result = (search rules, search rules) in
    let first = argued c.about.result c.in_ok-arg.field-0 c.workers_option.result _ _ new c.workers_option.ensures c.in_ok-arg.ensures in
    let second = argued c.in_ok-arg.field-0 c.in_ok-arg-2.field-0 c.window_option.result _ _ first c.window_option.ensures c.in_ok-arg-2.ensures in
    let third = argued c.in_ok-arg-2.field-0 c.in_ok-arg-3.field-0 c.sums_flag.result _ _ second c.sums_flag.ensures c.in_ok-arg-3.ensures in
    let fourth = argued c.in_ok-arg-3.field-0 c.in_ok-arg-4.field-0 c.all_sums_flag.result _ _ third c.all_sums_flag.ensures c.in_ok-arg-4.ensures in
    let fifth = argued c.in_ok-arg-4.field-0 c.in_ok-arg-5.field-0 c.names_flag.result _ _ fourth c.names_flag.ensures c.in_ok-arg-5.ensures in
    IfOk-weaker c.arg-6.result _ _ (λ command h. argued _ _ _ _ _ fifth c.eager_flag.ensures h) c.arg-6.ensures
