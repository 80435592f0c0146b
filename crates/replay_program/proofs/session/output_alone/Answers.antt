use Rattle.std.proofs.lemmas.Result.{IfOk-weaker}
use Rattle.replay_program.proofs.JsonPieces.{alone_is_no_comparison, formed}
use Rattle.replay_program.proofs.session.output_alone.Goals as goal

pub returns-clause-ok : goal.returns-clause-ok
returns-clause-ok c =
    IfOk-weaker c.pieces_as.result _ _
    (λ output written. formed c.args.options.now c.args.form c.args.trace.now c.in_ok-text.text output (alone_is_no_comparison c.args.options.now.mode c.requires.mode) c.in_ok-text.ensures.ok written)
    c.pieces_as.ensures.ok
