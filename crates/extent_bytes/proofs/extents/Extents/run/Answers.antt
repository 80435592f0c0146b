use Rattle.std.proofs.Common.{◌+◌, arith, ap, ◌∙◌, refl}
use Rattle.std.proofs.lemmas.Result.{IfOk-weaker}
use Rattle.std.proofs.lemmas.Option.{IfSome_then}
use Rattle.extent_bytes.specs.Bytes.{range_of}
use Rattle.extent_bytes.specs.Kept.{pages_in}
use Rattle.extent_bytes.specs.Pages.{bytes_of}
use Rattle.extent_bytes.proofs.ExtentFacts.{bytes_of-range, length_seen}
use Rattle.extent_bytes.proofs.extents.Extents.run.Goals as goal

pub overflow_add-self-inside : goal.overflow_add-self-inside
overflow_add-self-inside c = let e = length_seen (pages_in c.self.inside.stored) c.self.inside.start c.self.inside.len c.args.self.now c.self.view_is in omega (arith, c.self.invariant)

pub overflow_add-self-inside-2 : goal.overflow_add-self-inside-2
overflow_add-self-inside-2 c = let e = length_seen (pages_in c.self.inside.stored) c.self.inside.start c.self.inside.len c.args.self.now c.self.view_is in omega (arith, c.self.invariant)

pub of-requires-clause-few : goal.of-requires-clause-few
of-requires-clause-few c = let e = length_seen (pages_in c.self.inside.stored) c.self.inside.start c.self.inside.len c.args.self.now c.self.view_is in omega (arith, c.self.invariant)

pub of-requires-clause-small : goal.of-requires-clause-small
of-requires-clause-small c = let e = length_seen (pages_in c.self.inside.stored) c.self.inside.start c.self.inside.len c.args.self.now c.self.view_is in omega (arith, c.self.invariant)

pub returns : goal.returns
returns c =
    let m = c.pages-pages.result.now in
    let s = c.self.inside.start in
    let lo = c.args.lo in
    let hi = c.args.hi in
    let e = length_seen (pages_in c.self.inside.stored) s c.self.inside.len c.args.self.now c.self.view_is in
    IfOk-weaker c.of.result _ _
    (λ found given. IfSome_then found given
    (λ run d.
    d ∙ ap (bytes_of m (s + lo)) (omega arith)
    ∙ bytes_of-range m m s c.self.inside.len (s + lo) lo hi c.requires.forward (omega (arith, e)) (λ i h. refl)
    ∙ ap (λ xs. range_of xs lo hi) (ap (λ q. bytes_of q s c.self.inside.len) c.pages-pages.ensures ∙ c.self.view_is)))
    c.of.ensures
