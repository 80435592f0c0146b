use Rattle.std.proofs.Common.{◌≡◌, take}
use Rattle.std.specs.List.{flat_map}
use Rattle.records_text.specs.Below.{kept_lines, place_lines}
use Rattle.records_text.proofs.below.places_of.Given as goal

abbrev pub invariant-loop-made : goal.invariant-loop-made
invariant-loop-made l = kept_lines l.places.items ≡ flat_map place_lines (take l.made-index l.records)
