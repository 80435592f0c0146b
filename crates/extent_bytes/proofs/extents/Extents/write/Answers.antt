-- The pages are written, and the list ends where it did or where the write does.
use Rattle.std.proofs.Common.{◌≡◌, ◌+◌, ℕ, min, max, length, arith, ap, subst, sym, ◌∙◌}
use Rattle.extent_bytes.specs.Kept.{pages_in}
use Rattle.extent_bytes.specs.Bytes.{overwritten}
use Rattle.extent_bytes.specs.Pages.{bytes_of, WrittenAt}
use Rattle.extent_bytes.proofs.Outcomes.{err_of}
use Rattle.extent_bytes.proofs.ExtentFacts.{bytes_of-below, bytes_of-written, length-bytes_of, length_seen}
use Rattle.extent_bytes.proofs.extents.Extents.write.Goals as goal

pub returns-in_err-write_range-clause-err : goal.returns-in_err-write_range-clause-err
returns-in_err-write_range-clause-err c =
    err_of _ (bytes_of-below (pages_in c.self.inside.stored) (pages_in c.write_range.new.self) c.self.inside.start c.self.inside.len c.in_err-write_range.ensures.err ∙ c.self.view_is)

pub returns-clause-ok : goal.returns-clause-ok
returns-clause-ok c =
    let m = (pages_in c.self.inside.stored) in
    let n = (pages_in c.write_range.new.self) in
    let s = c.self.inside.start in
    let len = c.self.inside.len in
    let bs = c.args.bytes.now in
    let P : ℕ → Type 0 = λ k. WrittenAt m n k (s + c.args.at) bs in
    let e : min (s + c.args.at) (s + len) ≡ s + min c.args.at len = omega arith in
    ap (λ k. bytes_of n s k) c.max-self-inside.ensures
    ∙ bytes_of-written m n s len c.args.at bs (subst P e c.in_ok-write_range.ensures.ok)
    ∙ ap (λ xs. overwritten xs c.args.at bs) c.self.view_is

pub returns-clause-len : goal.returns-clause-len
returns-clause-len c =
    let e = length_seen (pages_in c.self.inside.stored) c.self.inside.start c.self.inside.len c.args.self.now c.self.view_is in
    length-bytes_of _ _ _ ∙ c.max-self-inside.ensures ∙ ap (λ k. max k (c.args.at + length c.args.bytes.now)) (sym e)
