use Rattle.std.proofs.Common.{◌≡◌, ◌⊎◌, sym}
use Rattle.trace_format.specs.Grammar.{Breaks, fault}
use Rattle.trace_format.specs.declared.fault.Kind.TheVariants.{Memory}
use Rattle.trace_records.specs.Start.{start}
use Rattle.trace_stream.proofs.Grows.{out_of, stops_there}
use Rattle.trace_stream.proofs.parts.try_start.Goals as goal

pub returns-in_err-more_for-in-Err-clause-err : goal.returns-in_err-more_for-in-Err-clause-err
returns-in_err-more_for-in-Err-clause-err g c =
    let h = c.args.held.now in
    let why : (c.in-Err.fault ≡ fault Memory 0) ⊎ Breaks start h.place h.rest c.in-Err.fault = rw (c.requires.first, sym c.rest.ensures.rest) c.in-Err.ensures.fault in
    out_of _ _ _ _ c.from_residual.ensures.1 c.in_err-more_for-in-Err.ensures.err (λ e s. stops_there start h _ _ c.in-Err.fault e why s)
