use Rattle.std.proofs.Common.{[], ap, sym, subst}
use Rattle.std.proofs.lemmas.Result.{IfOk-weaker}
use Rattle.round_scheduler.specs.Scheduling.{AreFirst, HaveSeen, LooksOver}
use Rattle.round_scheduler.specs.Telling.{Surveys}
use Rattle.round_scheduler.proofs.Between.{begins}
use Rattle.round_scheduler.proofs.scheduler.Scheduler.survey.Goals as goal

pub returns-clause-seen : goal.returns-clause-seen
returns-clause-seen c =
    let t = c.args.trace.now in
    let w = c.args.world.now.world in
    let s = c.args.self.now in
    let first = c.args.first.now in
    let begun = c.in_ok-begin.ensures in
    let mid = c.begin.new.self in
    let later = c.look_over.new.self in
    let round = ap (λ z. z.round) begun.rest in
    IfOk-weaker c.look_over.result (λ free. LooksOver t w first mid later free.items) (λ free. Surveys t w first s later free.items)
    (λ free h. λ window a remembers.
    subst (λ n. HaveSeen t window n first later free.items) round
    (h window (subst (λ n. AreFirst t window w n first) (sym round) a)
    (subst (λ n. HaveSeen t window n [] mid []) (sym round) (begins t window s mid remembers begun.index begun.others begun.rest)))) c.look_over.ensures.seen
