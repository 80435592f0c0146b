use Rattle.std.proofs.Common.{◌≡◌, ◌≤◌, [], All, length, map, take}
use Rattle.std.specs.Option.{option_map}
use Rattle.replay_core.specs.Waits.{waited_meant}
use Rattle.round_report.specs.Summary.{path_lengths}
use Rattle.round_report.proofs.summary.path_lengths.Given as goal

abbrev pub invariant-loop-wait : goal.invariant-loop-wait
invariant-loop-wait l = record {
  many : length l.lengths.items ≡ l.wait-index;
  bounded : All (λ n. n ≤ length l.lengths.items) l.lengths.items;
  so_far : l.lengths.items ≡ path_lengths [] (map (option_map waited_meant) (take l.wait-index l.waits));
}
