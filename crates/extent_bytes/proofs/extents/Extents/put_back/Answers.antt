-- The part's bytes lie over those of the range.
use Rattle.std.proofs.Common.{◌+◌, ◌-◌, ◌%◌, arith, ap, sym, ◌∙◌, refl}
use Rattle.extent_bytes.specs.Kept.{pages_in}
use Rattle.extent_bytes.specs.Bytes.{overwritten}
use Rattle.extent_bytes.specs.Pages.{bytes_of}
use Rattle.std.proofs.lemmas.Result.{on_err_weaker, on_ok_weaker, IfOk-from_err}
use Rattle.extent_bytes.proofs.Outcomes.{ok_of, err_of}
use Rattle.extent_bytes.proofs.Kept.{same_range}
use Rattle.extent_bytes.proofs.Lists.{overwritten_all, overwritten_none}
use Rattle.extent_bytes.proofs.ExtentFacts.{bytes_of-put_back, bytes_of-same, length-bytes_of, length_seen}
use Rattle.extent_bytes.proofs.extents.Extents.put_back.Goals as goal

pub returns-then-len-eq0-clause-ok : goal.returns-then-len-eq0-clause-ok
returns-then-len-eq0-clause-ok c =
    let e = length_seen (pages_in c.part.inside.stored) c.part.inside.start c.part.inside.len c.args.part c.part.view_is in
    sym (overwritten_none c.args.self.now c.args.lo c.args.part (omega (arith, e, c.if-len-eq0.true)) (omega (arith, c.requires)))

pub overflow_add-from : goal.overflow_add-from
overflow_add-from c =
    let e = length_seen (pages_in c.self.inside.stored) c.self.inside.start c.self.inside.len c.args.self.now c.self.view_is in
    let d = length_seen (pages_in c.part.inside.stored) c.part.inside.start c.part.inside.len c.args.part c.part.view_is in omega (arith, c.self.invariant, c.requires)

pub overflow_add-from-2 : goal.overflow_add-from-2
overflow_add-from-2 c =
    let e = length_seen (pages_in c.self.inside.stored) c.self.inside.start c.self.inside.len c.args.self.now c.self.view_is in
    let d = length_seen (pages_in c.part.inside.stored) c.part.inside.start c.part.inside.len c.args.part c.part.view_is in omega (arith, c.self.invariant, c.requires)

pub overlay-requires-clause-small : goal.overlay-requires-clause-small
overlay-requires-clause-small c =
    let e = length_seen (pages_in c.self.inside.stored) c.self.inside.start c.self.inside.len c.args.self.now c.self.view_is in
    let d = length_seen (pages_in c.part.inside.stored) c.part.inside.start c.part.inside.len c.args.part c.part.view_is in omega (arith, c.self.invariant, c.requires)

pub returns-clause-ok : goal.returns-clause-ok
returns-clause-ok c =
    let e = length_seen (pages_in c.self.inside.stored) c.self.inside.start c.self.inside.len c.args.self.now c.self.view_is in
    let d = length_seen (pages_in c.part.inside.stored) c.part.inside.start c.part.inside.len c.args.part c.part.view_is in
    on_ok_weaker c.overlay.result
    (λ o.
    bytes_of-put_back (pages_in c.self.inside.stored) (pages_in c.overlay.new.self) (pages_in c.part.inside.stored) c.in_ok-patch.patch c.self.inside.start c.self.inside.len c.args.lo c.part.inside.start c.part.inside.len
    (omega (arith, c.requires)) o
    (same_range (pages_in c.part.inside.stored) c.in_ok-into_pages.field-0 c.in_ok-patch.patch c.part.inside.start ((c.self.inside.start + c.args.lo) % 4096) (c.part.inside.start + c.part.inside.len - c.part.inside.start) c.in_ok-into_pages.ensures c.in_ok-patch.ensures)
    ∙ ap (λ xs. overwritten xs c.args.lo (bytes_of (pages_in c.part.inside.stored) c.part.inside.start c.part.inside.len)) c.self.view_is
    ∙ ap (λ ys. overwritten c.args.self.now c.args.lo ys) c.part.view_is)
    c.overlay.ensures.ok

pub returns-clause-err : goal.returns-clause-err
returns-clause-err c =
    on_err_weaker c.overlay.result
    (λ h. bytes_of-same (pages_in c.self.inside.stored) (pages_in c.overlay.new.self) c.self.inside.start c.self.inside.len h ∙ c.self.view_is)
    c.overlay.ensures.err

pub returns-clause-len : goal.returns-clause-len
returns-clause-len c =
    let e = length_seen (pages_in c.self.inside.stored) c.self.inside.start c.self.inside.len c.args.self.now c.self.view_is in
    ok_of c.overlay.result (length-bytes_of (pages_in c.overlay.new.self) c.self.inside.start c.self.inside.len ∙ sym e)

pub returns-then-len-self-clause-ok : goal.returns-then-len-self-clause-ok
returns-then-len-self-clause-ok c =
    let e = length_seen (pages_in c.self.inside.stored) c.self.inside.start c.self.inside.len c.args.self.now c.self.view_is in
    let d = length_seen (pages_in c.part.inside.stored) c.part.inside.start c.part.inside.len c.args.part c.part.view_is in
    ap (λ n. bytes_of (pages_in c.part.inside.stored) c.part.inside.start n) (sym c.if-len-self.true)
    ∙ c.part.view_is
    ∙ sym (overwritten_all c.args.self.now c.args.lo c.args.part c.if-lo-eq0.true (d ∙ c.if-len-self.true ∙ sym e))

pub returns-then-len-self-clause-len : goal.returns-then-len-self-clause-len
returns-then-len-self-clause-len c =
    let e = length_seen (pages_in c.self.inside.stored) c.self.inside.start c.self.inside.len c.args.self.now c.self.view_is in
    length-bytes_of (pages_in c.part.inside.stored) c.part.inside.start c.self.inside.len ∙ sym e

pub returns-in_err-into_pages : goal.returns-in_err-into_pages
returns-in_err-into_pages c =
    let out = c.from_residual in record { ok = IfOk-from_err out.result _ out.ensures.0; len = IfOk-from_err out.result _ out.ensures.0; err = err_of out.result refl }

pub returns-in_err-patch : goal.returns-in_err-patch
returns-in_err-patch c =
    let out = c.from_residual-in_err-patch in record { ok = IfOk-from_err out.result _ out.ensures.0; len = IfOk-from_err out.result _ out.ensures.0; err = err_of out.result refl }

pub invariant_of-self : goal.invariant_of-self
invariant_of-self c = (c.part.invariant.0, c.self.invariant.1)

pub invariant_of-self-2 : goal.invariant_of-self-2
invariant_of-self-2 c = c.self.invariant
