use Rattle.std.proofs.Common.{rules}
use Rattle.std.specs.Prelude.{codes}
use Rattle.std.proofs.lemmas.Result.{IfOk-weaker}
use Rattle.clap.specs.Words.{new_app}
use Rattle.program_words.specs.Words.{HasApp}
use Rattle.program_words.proofs.CommandLemmas.{argued}
use Rattle.program_words.proofs.words.show_command.Goals as goal

pub returns : goal.returns
returns c =
    let new : HasApp (new_app (codes "show")) c.about.result = (search rules, search rules) in
    let first = argued c.about.result c.in_ok-arg.field-0 c.places_flag.result _ _ new c.places_flag.ensures c.in_ok-arg.ensures in
    IfOk-weaker c.arg-2.result _ _ (λ command h. argued _ _ _ _ _ first c.first_option.ensures h) c.arg-2.ensures
