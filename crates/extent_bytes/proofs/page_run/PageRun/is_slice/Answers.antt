use Rattle.std.proofs.Common.{length, ap, sym, ◌∙◌}
use Rattle.std.proofs.lemmas.Bool.Decides.{Decides-eqb}
use Rattle.extent_bytes.specs.Pages.{byte_in, bytes_from}
use Rattle.extent_bytes.proofs.Compares.{all_held}
use Rattle.extent_bytes.proofs.ExtentFacts.{length-bytes_from}
use Rattle.extent_bytes.proofs.page_run.PageRun.is_slice.Goals as goal

pub returns-then-self-bytes : goal.returns-then-self-bytes
returns-then-self-bytes c =
    let s = c.self.inside.start in
    let len = c.self.inside.len in
    let mine = ap (λ ps. bytes_from (byte_in ps) s len) c.deref.ensures.value ∙ c.self.view_is in
    let held = all_held (byte_in c.deref.result.now) s len c.args.self.now c.args.bytes.now mine c.if-self-bytes.true in
    ((λ e. held.0 (c.holds.ensures.0 e)), (λ e. c.holds.ensures.1 (held.1 e)))

pub returns-else-self-bytes : goal.returns-else-self-bytes
returns-else-self-bytes c =
    let mine = sym (length-bytes_from (byte_in c.self.inside.pages.items) c.self.inside.start c.self.inside.len) ∙ ap length c.self.view_is in
    ((λ e. absurd (c.if-self-bytes.false ((Decides-eqb _ _).0 e))), (λ e. absurd (c.if-self-bytes.false (mine ∙ ap length e))))
