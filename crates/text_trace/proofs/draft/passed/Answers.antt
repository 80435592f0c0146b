use Rattle.text_trace.proofs.Looks.{ends, stays}
use Rattle.text_trace.proofs.draft.passed.Goals as goal
use Rattle.text_trace.proofs.draft.passed.Goals.{then-is_some-via-then-is_some, then-is_some-via-else-is_some+then-is_empty}

pub returns-then-is_some : goal.returns-then-is_some
returns-then-is_some c bytes more e = elim c.then-is_some.branch [
  | then-is_some-via-then-is_some w ↦ stays _ _ _ w.if-is_some.ensures
  | then-is_some-via-else-is_some+then-is_empty w ↦ ends c.args.search.found c.args.search.at c.args.search.lines.now bytes more w.if-is_empty.ensures
]
