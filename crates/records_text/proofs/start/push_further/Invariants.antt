use Rattle.std.proofs.Common.{◌≡◌, ◌++◌, take}
use Rattle.std.specs.List.{flat_map}
use Rattle.records_text.specs.Shown.{range_words}
use Rattle.records_text.proofs.start.push_further.Given as goal

abbrev pub invariant-loop-range : goal.invariant-loop-range
invariant-loop-range l = l.text.items ≡ l.initial.text.items ++ flat_map (range_words l.look) (take l.range-index l.ranges)
