-- The pages of the range are zeros.
use Rattle.std.proofs.Common.{arith, ap, sym, ◌∙◌}
use Rattle.extent_bytes.specs.Kept.{pages_in}
use Rattle.extent_bytes.specs.Bytes.{zeroed}
use Rattle.std.proofs.lemmas.Result.{on_err_weaker, on_ok_weaker}
use Rattle.extent_bytes.proofs.Outcomes.{ok_of}
use Rattle.extent_bytes.proofs.ExtentFacts.{bytes_of-cleared, bytes_of-same, bytes_of-zeroed, length-bytes_of, length_seen}
use Rattle.extent_bytes.proofs.extents.Extents.zero.Goals as goal

pub overflow_add-self-inside : goal.overflow_add-self-inside
overflow_add-self-inside c = let e = length_seen (pages_in c.self.inside.stored) c.self.inside.start c.self.inside.len c.args.self.now c.self.view_is in omega (arith, c.self.invariant)

pub overflow_add-self-inside-2 : goal.overflow_add-self-inside-2
overflow_add-self-inside-2 c = let e = length_seen (pages_in c.self.inside.stored) c.self.inside.start c.self.inside.len c.args.self.now c.self.view_is in omega (arith, c.self.invariant)

pub zero_range-requires-clause-small : goal.zero_range-requires-clause-small
zero_range-requires-clause-small c = let e = length_seen (pages_in c.self.inside.stored) c.self.inside.start c.self.inside.len c.args.self.now c.self.view_is in omega (arith, c.self.invariant)

pub returns-clause-ok : goal.returns-clause-ok
returns-clause-ok c =
    let e = length_seen (pages_in c.self.inside.stored) c.self.inside.start c.self.inside.len c.args.self.now c.self.view_is in
    on_ok_weaker c.zero_range.result
    (λ o. bytes_of-zeroed (pages_in c.self.inside.stored) (pages_in c.zero_range.new.self) c.self.inside.start c.self.inside.len c.args.lo c.args.hi c.requires.forward (omega (arith, e)) o
    ∙ ap (λ xs. zeroed xs c.args.lo c.args.hi) c.self.view_is)
    c.zero_range.ensures.ok

pub returns-clause-err : goal.returns-clause-err
returns-clause-err c =
    on_err_weaker c.zero_range.result
    (λ h. bytes_of-same (pages_in c.self.inside.stored) (pages_in c.zero_range.new.self) c.self.inside.start c.self.inside.len h ∙ c.self.view_is)
    c.zero_range.ensures.err

pub returns-clause-len : goal.returns-clause-len
returns-clause-len c =
    let e = length_seen (pages_in c.self.inside.stored) c.self.inside.start c.self.inside.len c.args.self.now c.self.view_is in
    ok_of c.zero_range.result (length-bytes_of (pages_in c.zero_range.new.self) c.self.inside.start c.self.inside.len ∙ sym e)

pub returns-then-hi-self-clause-ok : goal.returns-then-hi-self-clause-ok
returns-then-hi-self-clause-ok c =
    bytes_of-cleared (pages_in c.self.inside.stored) (pages_in c.new.result) c.self.inside.start c.self.inside.len c.args.lo c.args.hi c.if-lo-eq0.true c.if-hi-self.true c.new.ensures
    ∙ ap (λ xs. zeroed xs c.args.lo c.args.hi) c.self.view_is

pub returns-then-hi-self-clause-len : goal.returns-then-hi-self-clause-len
returns-then-hi-self-clause-len c =
    let e = length_seen (pages_in c.self.inside.stored) c.self.inside.start c.self.inside.len c.args.self.now c.self.view_is in
    length-bytes_of (pages_in c.new.result) c.self.inside.start c.self.inside.len ∙ sym e
