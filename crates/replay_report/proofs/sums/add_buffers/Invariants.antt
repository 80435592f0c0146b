use Rattle.std.proofs.Common.{◌++◌, take}
use Rattle.std.specs.List.{flat_map}
use Rattle.replay_report.specs.Sums.{HaveSame, buffer_to_sum}
use Rattle.replay_report.proofs.sums.add_buffers.Given as goal

abbrev pub invariant-loop-buffer : goal.invariant-loop-buffer
invariant-loop-buffer l = HaveSame l.shown.keys (l.initial.shown.keys ++ flat_map buffer_to_sum (take l.buffer-index l.buffers))
