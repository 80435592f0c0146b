use Rattle.std.proofs.Common.{◌≡◌, ◌<◌, ℕ, [], false, get_or}
use Rattle.report_diff.specs.Inputs.{is_end}
use Rattle.report_diff.specs.Lines.{texts}
use Rattle.report_diff.proofs.comparing.end_of.Given as goal

abbrev pub invariant-loop-place : goal.invariant-loop-place
invariant-loop-place l = (k : ℕ) → k < l.place → is_end (get_or (texts l.lines) k []) ≡ false
