use Rattle.std.proofs.Common.{◌≡◌, ◌-◌, ◌^◌, ◌++◌, ℕ, List, length}
use Rattle.std.specs.Io.KnownBytes.{Consumes}
use Rattle.text_lines.proofs.lines.TextLines.read_line.Given as goal

-- what came so far came behind
abbrev pub invariant-loop-alloc : goal.invariant-loop-alloc
invariant-loop-alloc g l = record {
  more : List ℕ;
  taken : Consumes (g.R.Source.left l.initial.reader) (g.R.Source.left l.reader) more;
  is : l.self ≡ l.initial.self ++ more;
  failures : g.R.Source.failures l.reader ≡ g.R.Source.failures l.initial.reader;
}

abbrev pub decreases-loop-alloc : goal.decreases-loop-alloc
decreases-loop-alloc g l = 2 ^ 63 - length l.self
