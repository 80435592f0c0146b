use Rattle.std.proofs.Common.{◌≡◌, ◌≤◌, [], length}
use Rattle.text_words.specs.Read.{rest_of}
use Rattle.text_words.proofs.Loops.{Left}
use Rattle.text_trace.specs.Records.{more_entries}
use Rattle.text_trace.proofs.lines.entries_of.Given as goal

abbrev pub invariant-loop : goal.invariant-loop
invariant-loop l = record {
  read : Left (more_entries l.most) l.end l.counter (l.entries, l.lines.items, rest_of l.source) ([], l.initial.lines.items, rest_of l.fn.source);
  counted : l.count ≡ length l.entries;
  within : l.count ≤ l.most;
}
