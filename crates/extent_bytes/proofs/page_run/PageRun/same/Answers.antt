use Rattle.std.proofs.Common.{length, ap, sym, ◌∙◌}
use Rattle.std.proofs.lemmas.Bool.Decides.{Decides-eqb}
use Rattle.extent_bytes.specs.Pages.{byte_in, bytes_from}
use Rattle.extent_bytes.proofs.ExtentFacts.{length-bytes_from}
use Rattle.extent_bytes.proofs.page_run.PageRun.same.Goals as goal

pub returns-then-self-other : goal.returns-then-self-other
returns-then-self-other c =
    let t = c.other.inside.start in
    let l = ap length (sym c.self.view_is) ∙ length-bytes_from (byte_in c.self.inside.pages.items) c.self.inside.start c.self.inside.len ∙ c.if-self-other.true in
    let theirs = ap (bytes_from (byte_in c.deref.result.now) t) l ∙ ap (λ ps. bytes_from (byte_in ps) t c.other.inside.len) c.deref.ensures.value ∙ c.other.view_is in
    ((λ e. c.agrees.ensures.0 e ∙ theirs), (λ e. c.agrees.ensures.1 (e ∙ sym theirs)))

pub returns-else-self-other : goal.returns-else-self-other
returns-else-self-other c =
    let mine = ap length (sym c.self.view_is) ∙ length-bytes_from (byte_in c.self.inside.pages.items) c.self.inside.start c.self.inside.len in
    let theirs = ap length (sym c.other.view_is) ∙ length-bytes_from (byte_in c.other.inside.pages.items) c.other.inside.start c.other.inside.len in
    ((λ e. absurd (c.if-self-other.false ((Decides-eqb _ _).0 e))), (λ e. absurd (c.if-self-other.false (sym mine ∙ ap length e ∙ theirs))))
