use Rattle.std.proofs.Common.{◌+◌, ◌-◌, ◌%◌, arith, ap, ◌∙◌, refl}
use Rattle.std.proofs.lemmas.Result.{IfOk-weaker}
use Rattle.std.proofs.lemmas.Option.{IfSome_then}
use Rattle.extent_bytes.specs.Bytes.{range_of}
use Rattle.extent_bytes.specs.Kept.{pages_in}
use Rattle.extent_bytes.specs.Pages.{bytes_of}
use Rattle.extent_bytes.proofs.ExtentFacts.{bytes_of-range, length_seen}
use Rattle.extent_bytes.proofs.extents.Extents.part.Goals as goal

pub overflow_add-at : goal.overflow_add-at
overflow_add-at c = let e = length_seen (pages_in c.self.inside.stored) c.self.inside.start c.self.inside.len c.args.self.now c.self.view_is in omega (arith, c.self.invariant)

pub overflow_add-stop : goal.overflow_add-stop
overflow_add-stop c = let e = length_seen (pages_in c.self.inside.stored) c.self.inside.start c.self.inside.len c.args.self.now c.self.view_is in omega (arith, c.self.invariant)

pub returns : goal.returns
returns c =
    let m = c.pages-pages.result.now in
    let s = c.self.inside.start in
    let lo = c.args.lo in
    let hi = c.args.hi in
    let e = length_seen (pages_in c.self.inside.stored) s c.self.inside.len c.args.self.now c.self.view_is in
    IfOk-weaker c.shared_part.result _ _
    (λ found given. IfSome_then found given
    (λ part d.
    d ∙ ap (λ p. bytes_of m p ((s + lo) % 4096 + (hi - lo) - (s + lo) % 4096)) (omega arith)
    ∙ ap (λ n. bytes_of m (s + lo) n) (omega arith)
    ∙ bytes_of-range m m s c.self.inside.len (s + lo) lo hi c.requires.forward (omega (arith, e)) (λ i h. refl)
    ∙ ap (λ xs. range_of xs lo hi) (ap (λ q. bytes_of q s c.self.inside.len) c.pages-pages.ensures ∙ c.self.view_is)))
    c.shared_part.ensures
