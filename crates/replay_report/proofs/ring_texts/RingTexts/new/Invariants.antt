use Rattle.std.proofs.Common.{◌≡◌, map}
use Rattle.std.specs.List.{range_with_len}
use Rattle.replay_report.specs.Report.{heading}
use Rattle.replay_report.proofs.ring_texts.RingTexts.new.Given as goal

abbrev pub invariant-loop-list : goal.invariant-loop-list
invariant-loop-list l = l.texts.items ≡ map (heading l.lines) (range_with_len 0 l.list)
