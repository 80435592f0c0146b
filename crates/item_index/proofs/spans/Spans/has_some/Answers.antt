use Rattle.item_index.proofs.Pieces.{some_unless_empty}
use Rattle.item_index.proofs.spans.Spans.has_some.Goals as goal

pub returns : goal.returns
returns c = rw (← c.self.view_is)
    (some_unless_empty c.self.inside.ends.entries c.is_empty.result c.self.invariant c.is_empty.ensures.0 c.is_empty.ensures.1)
