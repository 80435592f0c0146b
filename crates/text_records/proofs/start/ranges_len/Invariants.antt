use Rattle.std.proofs.Common.{◌≡◌, ◌≤◌, ◌+◌, ◌*◌, length, drop}
use Rattle.std.specs.List.{flat_map}
use Rattle.trace_records.specs.Spelling.{range_bytes}
use Rattle.text_records.proofs.start.ranges_len.Given as goal

abbrev pub invariant-loop-range : goal.invariant-loop-range
invariant-loop-range l = record {
  passed : l.len + length (flat_map range_bytes (drop l.range-index l.ranges)) ≡ length (flat_map range_bytes l.ranges);
  small : l.len ≤ l.range-index * 18446744073709551628;
}
