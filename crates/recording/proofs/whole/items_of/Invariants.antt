use Rattle.std.proofs.Common.{◌≡◌, ◌++◌, map}
use Rattle.recording.specs.Whole.{item_of}
use Rattle.recording.proofs.whole.items_of.Given as goal

-- with those of the names that are left they are all
abbrev pub invariant-loop-item : goal.invariant-loop-item
invariant-loop-item l = l.made.items ++ map item_of l.item-iterator.rest.items ≡ map item_of l.fn.items.items
