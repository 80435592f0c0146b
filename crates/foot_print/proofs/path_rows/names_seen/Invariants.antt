use Rattle.std.proofs.Common.{◌≡◌, ◌++◌}
use Rattle.entry_checks.specs.Meant.{path_meant}
use Rattle.file_tree.specs.Found.{walk_meant}
use Rattle.file_tree.specs.Steps.{steps_left}
use Rattle.file_tree.specs.Walk.{walk}
use Rattle.foot_print.proofs.Walking.{leads, names_read}
use Rattle.foot_print.specs.Footprint.{path_reads}
use Rattle.foot_print.proofs.path_rows.names_seen.Given as goal

-- the steps that are left make the access set and the place of the whole walk
abbrev pub invariant-loop-step : goal.invariant-loop-step
invariant-loop-step l = record {
  can : (goal.iterator-loop-step).can_next l.step-iterator;
  finite : (goal.iterator-loop-step).is_finite l.step-iterator;
  same : l.step-iterator.tree.now ≡ l.state.nodes;
  names : l.footprint ++ names_read (steps_left l.step-iterator) ≡ l.fn.footprint ++ path_reads l.state (path_meant l.path);
  place : leads (walk_meant l.state.nodes l.found) (steps_left l.step-iterator) ≡ walk l.state.nodes (path_meant l.path);
}
