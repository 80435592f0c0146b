use Rattle.std.proofs.Common.{subst, sym}
use Rattle.replay_stream.specs.Replayed.{HasRun, HasRunNext}
use Rattle.report_stream.proofs.turn.run_next.Goals as goal

-- the box holds the replay that has run the record
pub returns-in-Ok : goal.returns-in-Ok
returns-in-Ok c = λ b front run spelled.
    subst (HasRunNext b front c.args.next) (sym c.in-Ok.ensures.ok)
    (c.in_ok-ran.ensures b front (subst (HasRun b front) (sym c.into_inner.ensures) run) spelled)
