use Rattle.std.proofs.lemmas.Result.{IfOk-weaker}
use Rattle.replay_program.proofs.JsonPieces.{formed}
use Rattle.replay_program.proofs.session.output_in_rounds.Goals as goal

pub returns-clause-ok : goal.returns-clause-ok
returns-clause-ok g c =
    IfOk-weaker c.pieces_as.result _ _
    (λ output written. formed c.args.options.now c.args.form c.args.trace.now c.in_ok-text.text output c.requires.report c.in_ok-text.ensures.ok written)
    c.pieces_as.ensures.ok
