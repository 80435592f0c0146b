-- The field is the length of the list.
use Rattle.std.proofs.Common.{arith, sym}
use Rattle.extent_bytes.specs.Kept.{pages_in}
use Rattle.extent_bytes.proofs.ExtentFacts.{length_seen}
use Rattle.extent_bytes.proofs.extents.Extents.len.Goals as goal

pub returns-clause-value : goal.returns-clause-value
returns-clause-value c = sym (length_seen (pages_in c.self.inside.stored) c.self.inside.start c.self.inside.len c.args.self.now c.self.view_is)

pub returns-clause-bound : goal.returns-clause-bound
returns-clause-bound c = let e = length_seen (pages_in c.self.inside.stored) c.self.inside.start c.self.inside.len c.args.self.now c.self.view_is in omega (arith, c.self.invariant)
