use Rattle.std.proofs.lemmas.Result.{on_ok_weaker}
use Rattle.use_line.proofs.Telling.{keeps_next}
use Rattle.use_line.proofs.line.Line.add.Goals as goal

pub returns : goal.returns
returns c = on_ok_weaker c.write_all.result (λ write all mine keep. keeps_next c.args.self.now c.read_all.new.self c.write_all.new.self all c.args.place c.args.spans.now c.in_ok-read_all.ensures write mine keep) c.write_all.ensures
