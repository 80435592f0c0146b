use Rattle.std.proofs.Common.{◌∙◌}
use Rattle.report_diff.proofs.CountLemmas.{nowhere}
use Rattle.report_diff.proofs.counting.Counts.no_difference.Goals as goal

pub returns : goal.returns
returns c = λ all counts. c.are_none.ensures ∙ rw (counts.entries.different, counts.tree.different, counts.slots.different, counts.buffers.different) (nowhere all)
