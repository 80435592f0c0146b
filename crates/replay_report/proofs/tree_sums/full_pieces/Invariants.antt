use Rattle.std.proofs.Common.{[]}
use Rattle.std.specs.List.{flat_map, range_with_len}
use Rattle.std.specs.Prelude.{unwrap_or}
use Rattle.sha2.specs.Hashers.{Holds256}
use Rattle.sha2.specs.Sha256.{sha256}
use Rattle.world_parts.specs.World.{bytes}
use Rattle.replay_report.specs.TreeSum.{most_summed, piece}
use Rattle.replay_report.proofs.tree_sums.full_pieces.Given as goal

abbrev pub invariant-loop-number : goal.invariant-loop-number
invariant-loop-number l =
    Holds256 l.hasher (flat_map (λ number. sha256 (piece most_summed (unwrap_or (bytes l.world l.node) []) number)) (range_with_len 0 l.number))
