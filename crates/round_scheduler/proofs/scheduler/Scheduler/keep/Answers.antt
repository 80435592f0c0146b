use Rattle.std.proofs.Common.{◌∙◌, inl, inr, ap}
use Rattle.std.proofs.lemmas.Result.{on_ok_weaker}
use Rattle.interleaving.specs.Machine.{has}
use Rattle.round_scheduler.proofs.Listing.{keeps_so, lists_none}
use Rattle.round_scheduler.proofs.scheduler.Scheduler.keep.Goals as goal

pub returns-in-Some : goal.returns-in-Some
returns-in-Some c =
    on_ok_weaker c.list.result
    (λ lists. keeps_so c.args.place c.args.view c.args.self.now c.add.new.self _ c.renew.new.self c.list.new.self (record { writes = c.in_ok-add.ensures.written; touches = c.in_ok-add.ensures.touched }) c.renew.ensures c.as_slice.result.now lists
    (elim lists.rests [
      | inl stays ↦ inl stays
      | inr all ↦ inr (c.in-Some.rest, (c.in-Some.is, λ i e. all i (ap (λ is. has is i) (rw c.in-Some.is at c.as_slice.ensures.value) ∙ e)))
    ]))
    c.list.ensures

pub returns-in-None : goal.returns-in-None
returns-in-None c = keeps_so c.args.place c.args.view c.args.self.now c.add.new.self _ c.renew.new.self c.renew.new.self (record { writes = c.in_ok-add.ensures.written; touches = c.in_ok-add.ensures.touched }) c.renew.ensures _ (lists_none c.args.place c.renew.new.self) (inl (λ e. e))
