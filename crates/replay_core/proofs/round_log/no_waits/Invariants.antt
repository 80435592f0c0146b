use Rattle.std.proofs.Common.{◌≡◌, map, replicate}
use Rattle.std.specs.Prelude.{None}
use Rattle.std.specs.Option.{option_map}
use Rattle.replay_core.specs.Waits.{waited_meant}
use Rattle.replay_core.proofs.round_log.no_waits.Given as goal

abbrev pub invariant-loop-place : goal.invariant-loop-place
invariant-loop-place l = map (option_map waited_meant) l.waits.items ≡ replicate l._place None
