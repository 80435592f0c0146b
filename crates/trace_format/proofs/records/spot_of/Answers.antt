use Rattle.std.proofs.Common.{arith, refl, rules}
use Rattle.trace_format.specs.Entries.{entry_at}
use Rattle.trace_format.specs.Sources.{with_rest}
use Rattle.trace_format.specs.Text.{entry}
use Rattle.trace_format.proofs.Exits.{goes_out}
use Rattle.trace_format.proofs.Spotted.{lies}
use Rattle.trace_format.proofs.records.spot_of.Goals as goal

pub returns-in_err-bytes-clause-read : goal.returns-in_err-bytes-clause-read
unfolding entry
returns-in_err-bytes-clause-read c =
    goes_out (λ x. with_rest (entry_at c.args.source.text.now.value.items x.0, x.1)) _ _ _ _ c.from_residual.ensures.1 c.in_err-bytes.ensures.read (λ f e. rw e refl)

pub returns-in_err-len-clause-read : goal.returns-in_err-len-clause-read
unfolding entry
returns-in_err-len-clause-read c =
    goes_out (λ x. with_rest (entry_at c.args.source.text.now.value.items x.0, x.1)) _ _ _ _ c.from_residual-in_err-len.ensures.1 c.in_err-len.ensures.read (λ f e. rw (c.in_ok-bytes.ensures.read, e) refl)

pub returns-in_err-side-clause-read : goal.returns-in_err-side-clause-read
unfolding entry
returns-in_err-side-clause-read c =
    goes_out (λ x. with_rest (entry_at c.args.source.text.now.value.items x.0, x.1)) _ _ _ _ c.from_residual-in_err-side.ensures.1 c.in_err-side.ensures.read (λ f e. rw (c.in_ok-bytes.ensures.read, c.in_ok-len.ensures.read, e) refl)

pub overflow_cast-at : goal.overflow_cast-at
overflow_cast-at c =
    let there = lies _ _ _ _ _ _ _ _ _ _ _ _ c.args.source.end c.in_ok-bytes.ensures.read c.in_ok-len.ensures.read c.in_ok-side.ensures.read in
    omega (arith, there.inside, c.args.source.short)

pub returns-clause-read : goal.returns-clause-read
unfolding entry
returns-clause-read c =
    let there = lies _ _ _ _ _ _ _ _ _ _ _ _ c.args.source.end c.in_ok-bytes.ensures.read c.in_ok-len.ensures.read c.in_ok-side.ensures.read in
    rw (there.same) (search rules)

pub returns-clause-inside : goal.returns-clause-inside
returns-clause-inside c =
    let there = lies _ _ _ _ _ _ _ _ _ _ _ _ c.args.source.end c.in_ok-bytes.ensures.read c.in_ok-len.ensures.read c.in_ok-side.ensures.read in
    there.inside
