use Rattle.std.proofs.Common.{◌≡◌, ◌⊎◌, ℕ, List, Option, Some, ap, sym}
use Rattle.trace_format.specs.Blobs.{sliced}
use Rattle.trace_format.specs.Grammar.{Breaks, fault}
use Rattle.trace_format.specs.declared.fault.Kind.TheVariants.{Memory}
use Rattle.trace_records.specs.Records.{next}
use Rattle.trace_stream.proofs.Goes.{goes_on, next_breaks, with_front}
use Rattle.trace_stream.proofs.Grows.{out_of, reads_held, stops_there, uses_taken}
use Rattle.trace_stream.specs.Held.{Stops}
use Rattle.trace_stream.specs.declared.fault.StreamFault.{StreamFault}
use Rattle.trace_stream.proofs.stream.Stream.read_held.Goals as goal

pub returns-in_ok-add-in-Some-clause-some : goal.returns-in_ok-add-in-Some-clause-some
returns-in_ok-add-in-Some-clause-some c = λ left.
    let s = c.args.self.now in
    let rule = next s.core s.front in
    let taken = c.in-Ok.ensures.taken in
    let uses = uses_taken rule s.held c.skip.new.self (sliced c.slice.result) c.place-place.result c.in-Ok.count (Some c.in-Some.record) c.in-Ok.next c.slice.ensures.rest c.place-place.ensures taken.1 taken.2 c.in-Some.is c.skip.ensures.rest c.skip.ensures.place in
    goes_on left left s _ c.skip.new.self c.in-Some.record (ap (with_front c.skip.new.self s.core) c.in_ok-add-in-Some.ensures.added) (reads_held rule s.held c.skip.new.self left (Some c.in-Some.record) uses)

pub returns-in_err-stop_at-in-Err-clause-err : goal.returns-in_err-stop_at-in-Err-clause-err
returns-in_err-stop_at-in-Err-clause-err c =
    let s = c.args.self.now in
    let h = s.held in
    let rule = next s.core s.front in
    let why : (c.in-Err.fault ≡ fault Memory 0) ⊎ Breaks rule h.place h.rest c.in-Err.fault = rw (sym c.place-place.ensures, sym c.slice.ensures.rest) c.in-Err.ensures.fault in
    out_of _ _ (λ (e : StreamFault). (left : Option (List ℕ)) → Stops c.in-Err.fault left left e) _ c.from_residual-in_err-stop_at-in-Err.ensures.1 c.in_err-stop_at-in-Err.ensures.err (λ e stops left. next_breaks left left s e (stops_there rule h left left c.in-Err.fault e why (stops left)))
