use Rattle.std.proofs.Common.{◌≡◌, ◌++◌, take, string_bytes}
use Rattle.replay_report.specs.Sums.{shown_of}
use Rattle.std.specs.List.{flat_map}
use Rattle.replay_report.specs.Report.{buffer_shown}
use Rattle.replay_report.proofs.world_lines.push_buffers.Given as goal

abbrev pub invariant-loop-buffer : goal.invariant-loop-buffer
invariant-loop-buffer l = string_bytes l.text ≡ string_bytes l.initial.text ++ flat_map (buffer_shown l.rings l.world (shown_of l.sums)) (take l.buffer-index l.buffers)
