use Rattle.std.proofs.lemmas.Result.{IfOk-weaker}
use Rattle.replay_report.specs.Sums.{shown}
use Rattle.replay_report.proofs.SumLemmas.{same_given}
use Rattle.replay_report.proofs.sums.holders_of.Goals as goal

pub returns : goal.returns
returns c = IfOk-weaker c.by_length.result _ _ (λ holders are. rw are (same_given (λ it. it.1) c.add_shown.new.set.keys (shown c.args.image.now) c.in_ok-add_shown.ensures)) c.by_length.ensures
