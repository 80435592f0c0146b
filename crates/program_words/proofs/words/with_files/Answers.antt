use Rattle.std.proofs.lemmas.Result.{IfOk-weaker}
use Rattle.program_words.proofs.CommandLemmas.{argued}
use Rattle.program_words.proofs.words.with_files.Goals as goal

pub returns : goal.returns
returns c =
    λ app given.
    let has = rw c.in_ok-command.was at given in
    let first = argued c.in_ok-command.field-0 c.in_ok-arg.field-0 c.file_argument.result _ _ has c.file_argument.ensures c.in_ok-arg.ensures in
    IfOk-weaker c.arg-2.result _ _ (λ command h. argued _ _ _ _ _ first c.output_option.ensures h) c.arg-2.ensures
