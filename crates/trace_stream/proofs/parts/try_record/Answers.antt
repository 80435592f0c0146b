use Rattle.std.proofs.Common.{◌≡◌, ◌⊎◌, sym}
use Rattle.trace_format.specs.Grammar.{Breaks, fault}
use Rattle.trace_format.specs.declared.fault.Kind.TheVariants.{Memory}
use Rattle.trace_records.specs.Records.{next}
use Rattle.trace_stream.proofs.Grows.{out_of, stops_there}
use Rattle.trace_stream.proofs.parts.try_record.Goals as goal

pub returns-in_err-more_for-in-Err-clause-err : goal.returns-in_err-more_for-in-Err-clause-err
returns-in_err-more_for-in-Err-clause-err g c =
    let h = c.args.held.now in
    let rule = next c.args.start.now c.args.front.now in
    let why : (c.in-Err.fault ≡ fault Memory 0) ⊎ Breaks rule h.place h.rest c.in-Err.fault = rw (sym c.place.ensures, sym c.slice.ensures.rest) c.in-Err.ensures.fault in
    out_of _ _ _ _ c.from_residual.ensures.1 c.in_err-more_for-in-Err.ensures.err (λ e s. stops_there rule h _ _ c.in-Err.fault e why s)
