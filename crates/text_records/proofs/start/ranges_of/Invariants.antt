use Rattle.std.proofs.Common.{[]}
use Rattle.text_words.specs.Read.{rest_of}
use Rattle.text_words.proofs.Loops.{Left}
use Rattle.text_records.specs.Start.{more_ranges}
use Rattle.text_records.proofs.start.ranges_of.Given as goal

abbrev pub invariant-loop : goal.invariant-loop
invariant-loop l = record {
  read : Left more_ranges l.end l.counter (l.ranges.items, rest_of l.source) ([], rest_of l.fn.source);
}
