use Rattle.std.proofs.Common.{◌∙◌}
use Rattle.std.specs.Ordering.{nat_cmp}
use Rattle.world_parts.specs.Items.{within}
use Rattle.item_index.proofs.Pieces.{absent, added, apart_more}
use Rattle.item_index.proofs.spans.Spans.insert.Goals as goal

pub invariant_of-self : goal.invariant_of-self
invariant_of-self c = rw c.in_ok-insert.ensures.entries
    (apart_more c.in-Some.start c.in-Some.end c.in-Some.ensures.range c.absorb.new.ends.entries c.in-Some.ensures.rest c.in-Some.ensures.apart)

pub returns-in_ok-insert : goal.returns-in_ok-insert
returns-in_ok-insert c = λ p.
    let low = c.in-Some.start in
    let high = c.in-Some.end in
    let rest = c.absorb.new.ends.entries in
    let new = absent low high c.in-Some.ensures.range rest c.in-Some.ensures.rest c.in-Some.ensures.apart in
    rw (c.in_ok-insert.ensures.entries, ← c.self.view_is) (added nat_cmp (λ r. within r.0 r.1 p) rest low high new ∙ c.in-Some.ensures.same p)
