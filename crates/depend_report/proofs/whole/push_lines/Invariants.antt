use Rattle.std.proofs.Common.{◌≡◌, List}
use Rattle.depend_log.specs.Running.{HasRun, next_place}
use Rattle.depend_log.specs.declared.wait.PlaceWaits.{PlaceWaits}
use Rattle.depend_report.specs.Told.{told}
use Rattle.depend_report.specs.Whole.{AreFirst}
use Rattle.depend_report.proofs.whole.push_lines.Given as goal

abbrev pub invariant-loop-place : goal.invariant-loop-place
invariant-loop-place l = record {
  run : HasRun l.trace l.known;
  next : next_place l.known ≡ l._place;
  told : (ps : List PlaceWaits) × (AreFirst l.trace ps l._place × (l.text ≡ told l.trace ps));
}
