-- None of the may-access sets writes the item of one of the uses.
use Rattle.std.proofs.Common.{sym, ◌∙◌}
use Rattle.item_index.proofs.Clear.{none_written_before, off}
use Rattle.item_index.proofs.behind.Behind.are_clear.Goals as goal

pub returns-in-Some : goal.returns-in-Some
returns-in-Some c = λ clear. none_written_before c.args.self.now c.in-Some.among c.args.uses.now c.in-Some.is (sym c.writes_some.ensures ∙ off c.writes_some.result clear)
