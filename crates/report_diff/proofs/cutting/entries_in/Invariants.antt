use Rattle.std.proofs.Common.{◌≡◌, true, take}
use Rattle.std.specs.List.{list_all}
use Rattle.report_diff.specs.Lines.{line_kind, texts}
use Rattle.report_diff.specs.Places.{is_entry}
use Rattle.report_diff.proofs.cutting.entries_in.Given as goal

abbrev pub invariant-loop-place : goal.invariant-loop-place
invariant-loop-place l = list_all (λ line. is_entry (line_kind line)) (texts (take l.place l.text)) ≡ true
