use Rattle.std.proofs.Common.{◌≡◌, ◌++◌, take}
use Rattle.std.specs.List.{flat_map}
use Rattle.trace_format.specs.Spelling.{buffer_bytes}
use Rattle.trace_records.proofs.writing.put_buffers.Given as goal

abbrev pub invariant-loop-buffer : goal.invariant-loop-buffer
invariant-loop-buffer l = l.out.items ≡ l.fn.out.items ++ flat_map buffer_bytes (take l.buffer-index l.buffers)
