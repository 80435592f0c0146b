use Rattle.std.proofs.Common.{arith, ap, ◌∙◌}
use Rattle.extent_bytes.specs.Kept.{pages_in}
use Rattle.extent_bytes.specs.Pages.{bytes_of}
use Rattle.extent_bytes.proofs.ExtentFacts.{begins_with-zeros, length_seen}
use Rattle.extent_bytes.proofs.extents.Extents.zeros_ahead.Goals as goal

pub returns-clause-within : goal.returns-clause-within
returns-clause-within c =
    let long = length_seen (pages_in c.self.inside.stored) c.self.inside.start c.self.inside.len c.args.self.now c.self.view_is in omega (arith, long, c.zeros_ahead.ensures.within)

pub returns-clause-zeros : goal.returns-clause-zeros
returns-clause-zeros c =
    let mine = ap (λ q. bytes_of q c.self.inside.start c.self.inside.len) c.pages.ensures ∙ c.self.view_is in
    begins_with-zeros c.pages.result.now c.self.inside.start c.self.inside.len c.zeros_ahead.result c.args.self.now mine (omega (arith, c.zeros_ahead.ensures.within)) c.zeros_ahead.ensures.zeros
