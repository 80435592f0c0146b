use Rattle.std.proofs.Common.{◌≡◌, take}
use Rattle.item_index.specs.Ahead.{one_at, touched, written}
use Rattle.item_index.specs.Touching.{touches_item, writes_item}
use Rattle.world_parts.specs.Items.{Item}
use Rattle.round_scheduler.proofs.scheduler.index_of.Given as goal

-- the index has the may-access sets of the places so far
abbrev pub invariant-loop-place : goal.invariant-loop-place
invariant-loop-place l = record {
  written : (x : Item) → written l.ahead x ≡ one_at l.reaches (take l.place-index l.places) (λ f. writes_item f x);
  touched : (x : Item) → touched l.ahead x ≡ one_at l.reaches (take l.place-index l.places) (λ f. touches_item f x);
}
