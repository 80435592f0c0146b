use Rattle.std.proofs.Common.{length, arith, ap, sym, ◌∙◌}
use Rattle.extent_bytes.specs.Pages.{byte_in}
use Rattle.extent_bytes.proofs.ExtentFacts.{length-bytes_from}
use Rattle.extent_bytes.proofs.page_run.PageRun.len.Goals as goal

pub returns-clause-value : goal.returns-clause-value
returns-clause-value c = sym (ap length (sym c.self.view_is) ∙ length-bytes_from (byte_in c.self.inside.pages.items) c.self.inside.start c.self.inside.len)

pub returns-clause-bound : goal.returns-clause-bound
returns-clause-bound c =
    let e = ap length (sym c.self.view_is) ∙ length-bytes_from (byte_in c.self.inside.pages.items) c.self.inside.start c.self.inside.len in
    omega (arith, e, c.self.invariant)
