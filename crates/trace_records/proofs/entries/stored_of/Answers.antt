use Rattle.std.proofs.Common.{◌≡◌, ◌+◌, true, refl, arith}
use Rattle.std.proofs.lemmas.Bool.{le-leb}
use Rattle.std.specs.Prelude.{nat_le, ◌-◌, ◌^◌}
use Rattle.trace_records.specs.Sources.{with_rest}
use Rattle.trace_records.specs.Records.{stored}
use Rattle.trace_records.proofs.Exits.{goes_out}
use Rattle.trace_records.proofs.entries.stored_of.Goals as goal

pub returns-in_err-len : goal.returns-in_err-len
unfolding stored
returns-in_err-len c =
    goes_out with_rest _ _ _ _ c.from_residual.ensures.1 c.in_err-len.ensures (λ f e. rw e refl)

pub returns-in_err-bytes : goal.returns-in_err-bytes
unfolding stored
returns-in_err-bytes c =
    let room : nat_le (c.in_ok-len.source.place + c.in_ok-len.len) (c.args.begin + (2 ^ 32 - 1)) ≡ true = le-leb _ _ (omega arith) in
    goes_out with_rest _ _ _ _ c.from_residual-in_err-bytes.ensures.1 c.in_err-bytes.ensures (λ f e. rw (c.in_ok-len.ensures, room, e) refl)
