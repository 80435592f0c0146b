-- What lay past the end is zeros once the list is longer, and out of sight once it is shorter.
use Rattle.std.proofs.Common.{◌+◌, ◌/◌, arith, ap, ◌∙◌}
use Rattle.extent_bytes.specs.Kept.{pages_in}
use Rattle.extent_bytes.specs.Bytes.{resized}
use Rattle.extent_bytes.proofs.Outcomes.{err_of}
use Rattle.extent_bytes.proofs.PageFacts.{byte_at-kept}
use Rattle.extent_bytes.proofs.ExtentFacts.{bytes_of-extended, bytes_of-same, bytes_of-shortened, length-bytes_of}
use Rattle.extent_bytes.proofs.extents.Extents.set_len.Goals as goal

pub returns-in_err-zero_range-clause-err : goal.returns-in_err-zero_range-clause-err
returns-in_err-zero_range-clause-err c =
    err_of _ (bytes_of-same (pages_in c.self.inside.stored) (pages_in c.zero_range.new.self) c.self.inside.start c.self.inside.len c.in_err-zero_range.ensures.err ∙ c.self.view_is)

pub returns-then-self-len-clause-ok : goal.returns-then-self-len-clause-ok
returns-then-self-len-clause-ok c =
    bytes_of-extended (pages_in c.self.inside.stored) (pages_in c.zero_range.new.self) c.self.inside.start c.self.inside.len c.args.len (omega arith) c.in_ok-zero_range.ensures.ok
    ∙ ap (λ xs. resized xs c.args.len) c.self.view_is

pub returns-clause-ok : goal.returns-clause-ok
returns-clause-ok c =
    let s = c.self.inside.start in
    bytes_of-shortened (pages_in c.self.inside.stored) (pages_in c.truncate.new.self) s c.self.inside.len c.args.len c.if-self-len.false
    (λ i h. byte_at-kept (pages_in c.self.inside.stored) (pages_in c.truncate.new.self) (s + i) (c.in_ok-truncate.ensures.below ((s + i) / 4096) (omega (arith, c.div_ceil-end.ensures))))
    ∙ ap (λ xs. resized xs c.args.len) c.self.view_is

pub returns-then-self-len-clause-len : goal.returns-then-self-len-clause-len
returns-then-self-len-clause-len c = length-bytes_of _ _ _

pub returns-clause-len : goal.returns-clause-len
returns-clause-len c = length-bytes_of _ _ _

pub returns-in_err-truncate-clause-err : goal.returns-in_err-truncate-clause-err
returns-in_err-truncate-clause-err c =
    err_of _ (bytes_of-same (pages_in c.self.inside.stored) (pages_in c.truncate.new.self) c.self.inside.start c.self.inside.len c.in_err-truncate.ensures.err ∙ c.self.view_is)
