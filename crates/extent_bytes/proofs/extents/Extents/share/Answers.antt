-- The part's pages are those of the range.
use Rattle.std.proofs.Common.{◌+◌, ◌-◌, ◌/◌, ◌%◌, arith, ap, ◌∙◌, refl}
use Rattle.extent_bytes.specs.Kept.{pages_in}
use Rattle.extent_bytes.specs.Bytes.{range_of}
use Rattle.extent_bytes.proofs.Moves.{shared_range}
use Rattle.extent_bytes.proofs.ExtentFacts.{bytes_of-range, length-bytes_of, length_seen}
use Rattle.extent_bytes.proofs.extents.Extents.share.Goals as goal

pub overflow_add-from : goal.overflow_add-from
overflow_add-from c = let e = length_seen (pages_in c.self.inside.stored) c.self.inside.start c.self.inside.len c.args.self.now c.self.view_is in omega (arith, c.self.invariant)

pub overflow_add-to : goal.overflow_add-to
overflow_add-to c = let e = length_seen (pages_in c.self.inside.stored) c.self.inside.start c.self.inside.len c.args.self.now c.self.view_is in omega (arith, c.self.invariant)

pub invariant_of-result : goal.invariant_of-result
invariant_of-result c =
    let e = length_seen (pages_in c.self.inside.stored) c.self.inside.start c.self.inside.len c.args.self.now c.self.view_is in (omega arith, omega (arith, c.self.invariant))

pub returns-clause-len : goal.returns-clause-len
returns-clause-len c = length-bytes_of _ _ _

pub returns-clause-value : goal.returns-clause-value
returns-clause-value c =
    let s = c.self.inside.start in
    let lo = c.args.lo in
    let hi = c.args.hi in
    let e = length_seen (pages_in c.self.inside.stored) c.self.inside.start c.self.inside.len c.args.self.now c.self.view_is in
    bytes_of-range (pages_in c.self.inside.stored) (pages_in c.in_ok-share.field-0) s c.self.inside.len ((s + lo) % 4096) lo hi c.requires.forward (omega (arith, e))
    (shared_range (pages_in c.self.inside.stored) (pages_in c.in_ok-share.field-0) (s + lo) (hi - lo) ((s + lo) / 4096) c.div_ceil.result refl (omega (arith, c.div_ceil.ensures)) c.in_ok-share.ensures)
    ∙ ap (λ xs. range_of xs lo hi) c.self.view_is
