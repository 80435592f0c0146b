use Rattle.std.proofs.lemmas.Result.{IfOk-weaker}
use Rattle.program_words.proofs.CommandLemmas.{argued}
use Rattle.program_words.proofs.words.with_cut.Goals as goal

pub returns : goal.returns
returns c =
    λ app given.
    let has = rw c.in_ok-command.was at given in
    IfOk-weaker c.arg.result _ _ (λ command h. argued _ _ _ _ _ has c.cut_flag.ensures h) c.arg.ensures
