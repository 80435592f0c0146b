use Rattle.std.proofs.Common.{◌≡◌, ◌≤◌, ◌-◌, length, take}
use Rattle.std.specs.Io.KnownBytes.{Appends}
use Rattle.byte_transfer.proofs.transfer.write_text.Given as goal

abbrev pub invariant-loop-done : goal.invariant-loop-done
invariant-loop-done g l = record {
  grown : Appends (g.K.Sink.written l.initial.sink) (g.K.Sink.written l.sink) (take l.done l.bytes);
  bound : l.done ≤ length l.bytes;
  failures : g.K.Sink.failures l.sink ≡ g.K.Sink.failures l.initial.sink;
}

abbrev pub decreases-loop-done : goal.decreases-loop-done
decreases-loop-done g l = length l.bytes - l.done
