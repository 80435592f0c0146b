-- Bytes in one page are copied, and others are read page by page.
use Rattle.std.proofs.Common.{◌+◌, ◌-◌, ◌%◌, length, arith, ap, ◌∙◌, refl}
use Rattle.std.proofs.lemmas.Result.{IfOk-weaker}
use Rattle.extent_bytes.specs.Kept.{pages_in}
use Rattle.extent_bytes.specs.Bytes.{range_of}
use Rattle.extent_bytes.specs.Pages.{bytes_of}
use Rattle.extent_bytes.proofs.ExtentFacts.{bytes_of-range, length-bytes_of, length_seen}
use Rattle.extent_bytes.proofs.extents.Extents.read.Goals as goal

pub overflow_add-at : goal.overflow_add-at
overflow_add-at c = let e = length_seen (pages_in c.self.inside.stored) c.self.inside.start c.self.inside.len c.args.self.now c.self.view_is in omega (arith, c.self.invariant)

pub overflow_add-stop : goal.overflow_add-stop
overflow_add-stop c = let e = length_seen (pages_in c.self.inside.stored) c.self.inside.start c.self.inside.len c.args.self.now c.self.view_is in omega (arith, c.self.invariant)

pub returns-then-stop-le-PAGE-clause-value : goal.returns-then-stop-le-PAGE-clause-value
returns-then-stop-le-PAGE-clause-value c =
    let m = c.pages-pages.result.now in
    let s = c.self.inside.start in
    let lo = c.args.lo in
    let hi = c.args.hi in
    let e = length_seen (pages_in c.self.inside.stored) c.self.inside.start c.self.inside.len c.args.self.now c.self.view_is in
    IfOk-weaker c.copy_of_part.result _ _
    (λ v d.
    d ∙ ap (λ p. bytes_of m p ((s + lo) % 4096 + (hi - lo) - (s + lo) % 4096)) (omega arith)
    ∙ ap (λ n. bytes_of m (s + lo) n) (omega arith)
    ∙ bytes_of-range m m s c.self.inside.len (s + lo) lo hi c.requires.forward (omega (arith, e)) (λ i h. refl)
    ∙ ap (λ xs. range_of xs lo hi) (ap (λ q. bytes_of q s c.self.inside.len) c.pages-pages.ensures ∙ c.self.view_is))
    c.copy_of_part.ensures

pub returns-then-stop-le-PAGE-clause-len : goal.returns-then-stop-le-PAGE-clause-len
returns-then-stop-le-PAGE-clause-len c =
    IfOk-weaker c.copy_of_part.result _ _ (λ v d. v.ok.0 ∙ ap length d ∙ length-bytes_of c.pages-pages.result.now _ _ ∙ omega arith) c.copy_of_part.ensures

pub overflow_add-self-inside : goal.overflow_add-self-inside
overflow_add-self-inside c = let e = length_seen (pages_in c.self.inside.stored) c.self.inside.start c.self.inside.len c.args.self.now c.self.view_is in omega (arith, c.self.invariant)

pub read-requires-clause-small : goal.read-requires-clause-small
read-requires-clause-small c = let e = length_seen (pages_in c.self.inside.stored) c.self.inside.start c.self.inside.len c.args.self.now c.self.view_is in omega (arith, c.self.invariant)

pub returns-clause-value : goal.returns-clause-value
returns-clause-value c =
    let m = c.pages-pages.result.now in
    let s = c.self.inside.start in
    let lo = c.args.lo in
    let hi = c.args.hi in
    let e = length_seen (pages_in c.self.inside.stored) c.self.inside.start c.self.inside.len c.args.self.now c.self.view_is in
    IfOk-weaker c.read.result _ _
    (λ v d.
    d ∙ ap (bytes_of m (s + lo)) (omega arith)
    ∙ bytes_of-range m m s c.self.inside.len (s + lo) lo hi c.requires.forward (omega (arith, e)) (λ i h. refl)
    ∙ ap (λ xs. range_of xs lo hi) (ap (λ q. bytes_of q s c.self.inside.len) c.pages-pages.ensures ∙ c.self.view_is))
    c.read.ensures.value
