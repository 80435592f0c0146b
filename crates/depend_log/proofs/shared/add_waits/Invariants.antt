use Rattle.std.proofs.Common.{◌≡◌, ◌++◌}
use Rattle.std.specs.List.{AllByRecursion}
use Rattle.depend_log.specs.Shared.{IsWithin, waits_of}
use Rattle.depend_log.proofs.shared.add_waits.Given as goal

-- those so far are added, and the others are there
abbrev pub invariant-loop-after : goal.invariant-loop-after
invariant-loop-after l = record {
  waits : l.waits.items ++ waits_of l.footprint l.feet l.after-iterator ≡ l.fn.waits.items ++ waits_of l.footprint l.feet l.found.entries;
  within : AllByRecursion (IsWithin l.footprint l.feet) l.after-iterator;
}
