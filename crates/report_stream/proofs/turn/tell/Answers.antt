use Rattle.report_stream.proofs.Turns.{adds_all, adds_none}
use Rattle.report_stream.proofs.turn.tell.Goals as goal

pub returns-in_ok-flush-clause-ok : goal.returns-in_ok-flush-clause-ok
returns-in_ok-flush-clause-ok g c = λ b front r before ran is.
    adds_all b _ c.args.asked.shown c.args.asked.form _ _ _ before c.push_lines.new.text.items c.flush.new.text.items (c.in_ok-push_lines.ensures b front r before ran is) c.in_ok-flush.ensures.ok c.in_ok-flush.ensures.empty

pub returns-else-len-ge-FULL-clause-ok : goal.returns-else-len-ge-FULL-clause-ok
returns-else-len-ge-FULL-clause-ok g c = λ b front r before ran is.
    adds_none b _ c.args.asked.shown c.args.asked.form _ _ before c.push_lines.new.text.items (c.in_ok-push_lines.ensures b front r before ran is)
