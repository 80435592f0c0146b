use Rattle.std.proofs.Common.{◌≡◌, ◌++◌, take}
use Rattle.std.specs.List.{flat_map}
use Rattle.depend_report.specs.Depends.{wait_line}
use Rattle.depend_report.proofs.lines.push_lines.Given as goal

abbrev pub invariant-loop-wait : goal.invariant-loop-wait
invariant-loop-wait l = l.text.items ≡ l.initial.text.items ++ flat_map (wait_line l.trace l.fn.place) (take l.wait-index l.waits)
