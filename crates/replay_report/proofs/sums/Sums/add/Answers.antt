use Rattle.replay_report.specs.Sums.{IsSum}
use Rattle.replay_report.proofs.SumLemmas.{entry_more, same_holder}
use Rattle.replay_report.proofs.sums.Sums.add.Goals as goal

pub loop-summed-preserved : goal.loop-summed-preserved
loop-summed-preserved c = λ world old all.
    rw c.in_ok-insert.ensures.entries (entry_more _ same_holder (λ e. IsSum world (record { holder = e.0; sum = e.1 })) c.loop-summed.self.known.entries (c.loop-summed.invariant world old all) _ _ (all c.loop-summed.summed-index _ c.loop-summed-test.true))
