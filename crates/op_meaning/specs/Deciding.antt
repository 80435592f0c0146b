-- A view of code: what is decided of an operation on an open file before it is done.
use Rattle.std.specs.Prelude.{◌≡◌, ◌==◌, ◌-◌, ℕ, List, [], length, take, Result, Ok, Err, MatchResult, Option, if◌then◌else◌}
use Rattle.sqe_codec.specs.declared.errno.Errno.{Errno}
use Rattle.entry_checks.specs.Operation.{Span, file_limit}
use Rattle.world_parts.specs.World.{World}
use Rattle.op_meaning.specs.declared.handles.OpenFile.{OpenFile}
use Rattle.op_meaning.specs.declared.transfers.BufferWrite.{BufferWrite}
use Rattle.op_meaning.specs.Decision.{buffer_written}
use Rattle.op_meaning.specs.Handles.{handle_meant}
use Rattle.op_meaning.specs.Meaning.{Effect, Handle, Site, done, into, read_effect, read_meaning, reply, span_destination, write_effect, write_meaning}

-- the effect of an operation, by the value that was decided on, or its error
abbrev pub Decides : {A : Type 0} → Result Effect Errno → (A → Effect) → Result A Errno → Type 0
Decides x effect result = MatchResult result (λ a. x ≡ Ok (effect a)) (λ e. x ≡ Err e)

-- of every read into the reply: the file that it is from
abbrev pub DecidesReads : World → (offset : ℕ) → Option Handle → Result OpenFile Errno → Type 0
DecidesReads s o there result = MatchResult result
    (λ x. (n : ℕ) → read_meaning s o n there (Ok reply) ≡ Ok (if n == 0 then done [] else read_effect s o n (handle_meant s x) reply))
    (λ e. (n : ℕ) → read_meaning s o n there (Ok reply) ≡ Err e)

-- of every read into a span: that file, and where in the buffer the bytes go
abbrev pub DecidesFixedReads : Site → World → (offset : ℕ) → Span → Option Handle → Result (OpenFile × ℕ) Errno → Type 0
DecidesFixedReads site s o span there result = MatchResult result
    (λ x. (n : ℕ) → read_meaning s o n there (span_destination site span) ≡ Ok (if n == 0 then done [] else read_effect s o n (handle_meant s x.0) (into site.ring span.index x.1)))
    (λ e. (n : ℕ) → read_meaning s o n there (span_destination site span) ≡ Err e)

-- of every write of so many bytes: the file that it is to, and where in it they go
abbrev pub DecidesWrites : World → (offset count : ℕ) → Option Handle → Result (OpenFile × ℕ) Errno → Type 0
DecidesWrites s o count there result = MatchResult result
    (λ x. (new : List ℕ) → length new ≡ count → write_meaning s o there (Ok new) ≡ Ok (if length new == 0 then done [] else write_effect o (handle_meant s x.0) x.1 (take (file_limit - x.1) new)))
    (λ e. (new : List ℕ) → length new ≡ count → write_meaning s o there (Ok new) ≡ Err e)

-- a write of a buffer's bytes, of which there may be none
abbrev pub buffer_written_if_any : World → ℕ → BufferWrite → Effect
buffer_written_if_any s r x = if x.count == 0 then done [] else buffer_written s r x
