use Rattle.std.proofs.Common.{◌<◌, ◌^◌}
use Rattle.trace_text.proofs.Digits.{AreRead}
use Rattle.trace_text.proofs.below.number_of.Given as goal

abbrev pub invariant-loop-byte : goal.invariant-loop-byte
invariant-loop-byte l = record {
  read : AreRead l.word l.byte-index l.number;
  fits : l.number < 2 ^ 64;
}
