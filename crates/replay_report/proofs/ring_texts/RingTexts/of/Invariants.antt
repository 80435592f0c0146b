use Rattle.std.proofs.Common.{◌≡◌, map}
use Rattle.std.specs.List.{range_with_len, slice_get}
use Rattle.replay_report.specs.Report.{list_count}
use Rattle.replay_report.specs.RingTexts.{text_below}
use Rattle.replay_report.proofs.ring_texts.RingTexts.of.Given as goal

-- the lines of the places so far
abbrev pub invariant-loop-place : goal.invariant-loop-place
invariant-loop-place l = l.texts ≡ map (text_below l.trace (slice_get l.replies) l.lines l.place) (range_with_len 0 (list_count l.lines l.trace))
