use Rattle.std.proofs.Common.{ap, ◌∙◌}
use Rattle.extent_bytes.specs.Kept.{byte_held}
use Rattle.extent_bytes.specs.Pages.{byte_in, bytes_from}
use Rattle.extent_bytes.proofs.Runs.{bytes_from-agree}
use Rattle.extent_bytes.proofs.page_run.PageRun.agrees.Goals as goal

pub returns : goal.returns
returns c =
    let s = c.self.inside.start in
    let len = c.self.inside.len in
    let mine = ap (λ ps. bytes_from (byte_in ps) s len) c.deref.ensures.value ∙ c.self.view_is in
    let same = bytes_from-agree (byte_in c.deref.result.now) (byte_held c.args.other.now) s c.args.other_start len c.args.self.now mine in
    ((λ e. same.0 (c.run_agrees.ensures.0 e)), (λ e. c.run_agrees.ensures.1 (same.1 e)))
