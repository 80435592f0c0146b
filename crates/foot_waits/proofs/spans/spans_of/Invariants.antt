use Rattle.std.proofs.Common.{◌≡◌, map, take}
use Rattle.foot_waits.specs.Names.{KeepsNumbers}
use Rattle.foot_waits.specs.Spots.{AllFit, span_for}
use Rattle.world_parts.specs.Uses.{use_meant}
use Rattle.foot_waits.proofs.spans.spans_of.Given as goal

-- the uses so far have their ranges
abbrev pub invariant-loop-used : goal.invariant-loop-used
invariant-loop-used l = record {
  kept : KeepsNumbers l.fn.names l.names;
  spans : l.spans.items ≡ map (span_for l.names) (map use_meant (take l.used-index l.used-items));
  fit : AllFit l.names (map use_meant (take l.used-index l.used-items));
}
