use Rattle.std.proofs.Common.{◌≡◌, ◌+◌, ◌++◌, length}
use Rattle.recording.specs.Whole.{rings_from}
use Rattle.recording.proofs.whole.rings_of.Given as goal

-- with those of the rings that are left they are all
abbrev pub invariant-loop-ring : goal.invariant-loop-ring
invariant-loop-ring l = record {
  all : l.made.items ++ rings_from (length l.made.items) l.ring-iterator.rest.items ≡ rings_from 0 l.fn.rings.items;
  count : length l.made.items + length l.ring-iterator.rest.items ≡ length l.fn.rings.items;
}
