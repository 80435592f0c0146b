use Rattle.std.proofs.Common.{◌≡◌, ◌||◌, ◌<◌, ℕ, length}
use Rattle.item_index.specs.Spans.{AreApart, covers}
use Rattle.world_parts.specs.Items.{within}
use Rattle.item_index.proofs.spans.absorb.Given as goal

-- the pieces that are left and the range so far have the numbers that there were
abbrev pub invariant-loop-first : goal.invariant-loop-first
invariant-loop-first l = record {
  range : l.start < l.end;
  same : (p : ℕ) → (covers l.ends.entries p || within l.start l.end p) ≡ (covers l.fn.ends.entries p || within l.fn.low l.fn.high p);
  rest : AreApart l.ends.entries;
}

abbrev pub decreases-loop-first : goal.decreases-loop-first
decreases-loop-first l = length l.ends.entries
