use Rattle.std.proofs.Common.{◌≡◌, ◌++◌, ℕ, List, None, take}
use Rattle.report_diff.specs.Lines.{first_behind, texts}
use Rattle.report_diff.specs.Merging.{IsPassed}
use Rattle.report_diff.specs.Places.{RisesFrom, falls}
use Rattle.report_diff.proofs.places.all_rise.Given as goal

abbrev pub invariant-loop-place : goal.invariant-loop-place
invariant-loop-place l = (earlier : List (List ℕ)) → IsPassed l.passed earlier → record {
  next : RisesFrom l.next (earlier ++ texts (take l.place l.report));
  none : first_behind falls earlier (texts (take l.place l.report)) ≡ None;
}
