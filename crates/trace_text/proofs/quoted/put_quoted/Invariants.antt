use Rattle.std.proofs.Common.{◌≡◌, ◌≤◌, ◌*◌, ◌-◌, take}
use Rattle.std.specs.List.{flat_map}
use Rattle.text_forms.specs.Strings.{quoted_byte}
use Rattle.trace_text.proofs.quoted.put_quoted.Given as goal

abbrev pub invariant-loop-at : goal.invariant-loop-at
invariant-loop-at l = record {
  within : l.at ≤ l.count;
  few : l.used ≤ 4 * l.at;
  quoted : take l.used l.room ≡ flat_map quoted_byte (take l.at l.bytes);
}

abbrev pub decreases-loop-at : goal.decreases-loop-at
decreases-loop-at l = l.count - l.at
