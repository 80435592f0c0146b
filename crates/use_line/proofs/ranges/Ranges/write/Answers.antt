use Rattle.std.proofs.lemmas.Result.{on_ok_weaker}
use Rattle.use_line.proofs.Chain.{written_known}
use Rattle.use_line.proofs.ranges.Ranges.write.Goals as goal

pub returns : goal.returns
returns c = rw (← c.self.view_is) (on_ok_weaker c.clear.result (λ clear. written_known c.self.inside.writers c.set.new.self c.self.inside.readers c.clear.new.self c.self.inside.reads.items c.args.low c.args.high clear c.args.place c.in_ok-set.ensures.set) c.clear.ensures.set)
