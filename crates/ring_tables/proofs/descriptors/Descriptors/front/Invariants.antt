use Rattle.std.proofs.Common.{◌≡◌, ◌*◌, ◌<◌, ℕ, false}
use Rattle.std.specs.Prelude.{is_none}
use Rattle.finite_maps.specs.Table.{get}
use Rattle.ring_tables.proofs.descriptors.Descriptors.front.Given as goal

-- the numbers of the blocks that were passed are taken
abbrev pub invariant-loop-block : goal.invariant-loop-block
invariant-loop-block l = (n : ℕ) → n < l.block * 256 → is_none (get l.self n) ≡ false
