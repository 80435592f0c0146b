use Rattle.std.proofs.Common.{◌≡◌, ◌≤◌, ◌<◌, ℕ, false}
use Rattle.std.specs.Prelude.{is_none}
use Rattle.finite_maps.specs.Table.{get, number_keys}
use Rattle.finite_maps.specs.Maps.{table_of}
use Rattle.ring_tables.proofs.descriptors.free_from.Given as goal

-- the numbers that were passed are taken
abbrev pub invariant-loop-number : goal.invariant-loop-number
invariant-loop-number l = (n : ℕ) → l.first ≤ n → n < l.number-counter → is_none (get (table_of number_keys.total l.entries.entries) n) ≡ false
