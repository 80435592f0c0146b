-- Reading stops at the first fault, and the rest is read on from what was read.
use Rattle.std.proofs.Common.{◌≡◌, Result, Ok, Err, IsErrAnd}
use Rattle.trace_format.specs.declared.fault.TraceFault.{TraceFault}
use Rattle.trace_records.specs.declared.fault.ReadError.{ReadError}
use Rattle.trace_records.specs.declared.fault.ReadError.TheVariants as errors
use Rattle.trace_records.specs.Read.{Fails, Gives}

-- an error of a part is one of the whole, where a fault of the part is
pub goes_out : {X Y Z : Type 0} (view : X → Y) (out : Result X ReadError) (e : ReadError) (part : Result Z TraceFault) (whole : Result Y TraceFault) → IsErrAnd out (λ y. y ≡ e) → Fails e part → ((f : TraceFault) → part ≡ Err f → whole ≡ Err f) → Gives view out whole
goes_out view (Ok x) e part whole h fails on = absurd h
goes_out view (Err y) errors.OutOfMemory part whole h fails on = rw h tt
goes_out view (Err y) (errors.Fault f) part whole h fails on = rw h (on f fails)

-- where memory was refused, all is open
pub no_memory : {X Y : Type 0} (view : X → Y) (out : Result X ReadError) (whole : Result Y TraceFault) → IsErrAnd out (λ y. y ≡ errors.OutOfMemory) → Gives view out whole
no_memory view (Ok x) whole h = absurd h
no_memory view (Err y) whole h = rw h tt
