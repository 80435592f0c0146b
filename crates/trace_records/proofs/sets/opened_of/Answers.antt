use Rattle.std.proofs.Common.{ap, refl, ◌∙◌}
use Rattle.trace_records.specs.Sources.{with_rest}
use Rattle.trace_records.specs.Records.{is_call_path, opened}
use Rattle.trace_records.proofs.Exits.{goes_out}
use Rattle.trace_records.proofs.sets.opened_of.Goals as goal

pub returns-in_err-flags : goal.returns-in_err-flags
unfolding opened
returns-in_err-flags c =
    goes_out with_rest _ _ _ _ c.from_residual.ensures.1 c.in_err-flags.ensures (λ f e. rw e refl)

pub returns-then-not-are_open_flags : goal.returns-then-not-are_open_flags
unfolding opened
returns-then-not-are_open_flags c =
    rw (c.refused.ensures, c.in_ok-flags.ensures, ← c.if-not-are_open_flags.ensures) refl

pub returns-in_err-position : goal.returns-in_err-position
unfolding opened
returns-in_err-position c =
    goes_out with_rest _ _ _ _ c.from_residual-in_err-position.ensures.1 c.in_err-position.ensures (λ f e. rw (c.in_ok-flags.ensures, ← c.if-not-are_open_flags.ensures, e) refl)

pub returns-in_err-len : goal.returns-in_err-len
unfolding opened
returns-in_err-len c =
    goes_out with_rest _ _ _ _ c.from_residual-in_err-len.ensures.1 c.in_err-len.ensures (λ f e. rw (c.in_ok-flags.ensures, ← c.if-not-are_open_flags.ensures, c.in_ok-position.ensures, e) refl)

pub returns-in_err-path : goal.returns-in_err-path
unfolding opened
returns-in_err-path c =
    goes_out with_rest _ _ _ _ c.from_residual-in_err-path.ensures.1 c.in_err-path.ensures (λ f e. rw (c.in_ok-flags.ensures, ← c.if-not-are_open_flags.ensures, c.in_ok-position.ensures, c.in_ok-len.ensures, e) refl)

pub returns-then-not-is_call_path : goal.returns-then-not-is_call_path
unfolding opened
returns-then-not-is_call_path c =
    let bad = c.if-not-is_call_path.ensures ∙ ap is_call_path c.as_slice.ensures in
    rw (c.refused-then-not-is_call_path.ensures, c.in_ok-flags.ensures, ← c.if-not-are_open_flags.ensures, c.in_ok-position.ensures, c.in_ok-len.ensures, c.in_ok-path.ensures, ← bad) refl

pub returns : goal.returns
unfolding opened
returns c =
    let good = c.if-not-is_call_path.ensures ∙ ap is_call_path c.as_slice.ensures in
    rw (c.in_ok-flags.ensures, ← c.if-not-are_open_flags.ensures, c.in_ok-position.ensures, c.in_ok-len.ensures, c.in_ok-path.ensures, ← good) refl
