use Rattle.std.proofs.Common.{◌≡◌, ◌+◌, length, arith, ap, sym, ◌∙◌, refl}
use Rattle.std.proofs.lemmas.Result.{IfOk-weaker}
use Rattle.extent_bytes.specs.Bytes.{range_of}
use Rattle.extent_bytes.specs.Pages.{byte_in, bytes_from}
use Rattle.extent_bytes.proofs.ExtentFacts.{bytes_from-range, length-bytes_from}
use Rattle.extent_bytes.proofs.page_run.PageRun.read.Goals as goal

pub overflow_add-self-inside : goal.overflow_add-self-inside
overflow_add-self-inside c =
    let e = ap length (sym c.self.view_is) ∙ length-bytes_from (byte_in c.self.inside.pages.items) c.self.inside.start c.self.inside.len in omega (arith, e, c.self.invariant)

pub overflow_add-self-inside-2 : goal.overflow_add-self-inside-2
overflow_add-self-inside-2 c =
    let e = ap length (sym c.self.view_is) ∙ length-bytes_from (byte_in c.self.inside.pages.items) c.self.inside.start c.self.inside.len in omega (arith, e, c.self.invariant)

pub read-requires-clause-small : goal.read-requires-clause-small
read-requires-clause-small c =
    let e = ap length (sym c.self.view_is) ∙ length-bytes_from (byte_in c.self.inside.pages.items) c.self.inside.start c.self.inside.len in omega (arith, e, c.self.invariant)

pub returns : goal.returns
returns c =
    let ps = c.deref.result.now in
    let s = c.self.inside.start in
    let len = c.self.inside.len in
    let lo = c.args.lo in
    let hi = c.args.hi in
    let e = ap length (sym c.self.view_is) ∙ length-bytes_from (byte_in c.self.inside.pages.items) s len in
    IfOk-weaker c.read.result _ (λ v. v.items ≡ range_of c.args.self.now lo hi)
    (λ v d.
    d ∙ ap (λ n. bytes_from (byte_in ps) (s + lo) n) (omega arith)
    ∙ bytes_from-range (byte_in ps) (byte_in ps) s len (s + lo) lo hi c.requires.forward (omega (arith, e)) (λ i h. refl)
    ∙ ap (λ xs. range_of xs lo hi) (ap (λ xs. bytes_from (byte_in xs) s len) c.deref.ensures.value ∙ c.self.view_is))
    c.read.ensures.value
