use Rattle.std.proofs.Common.{arith, length-drop}
use Rattle.text_lines.proofs.Feeds.{feed_within}
use Rattle.text_lines.proofs.lines.TextLines.pass.Goals as goal

pub overflow_add-self-inside : goal.overflow_add-self-inside
overflow_add-self-inside c = grind (arith, feed_within, length-drop)

pub overflow_add-self : goal.overflow_add-self
overflow_add-self c = grind (arith, feed_within, length-drop)
