-- A view of code: the answer of a check.
use Rattle.std.specs.Prelude.{ℕ, not, ltb, ◌==◌, List, Result, Ok, Err}
use Rattle.sqe_codec.specs.Answers.{◌>>◌, require}
use Rattle.sqe_codec.specs.declared.errno.Errno.{Errno}
use Rattle.sqe_codec.specs.declared.errno.Errno.TheVariants.{EINVAL, EOPNOTSUPP}
use Rattle.sqe_codec.specs.declared.sqe.Sqe.{Sqe}
use Rattle.trace_format.specs.Sides.{lengths_in, total, vector_is_short}
use Rattle.entry_checks.specs.declared.operation.Op.{Op}
use Rattle.entry_checks.specs.Operation.{Operation}
use Rattle.entry_checks.specs.Meant.{meant}
use Rattle.entry_checks.specs.Check.{has, buffer_select, Row}

-- The operation that is meant, or the error.
abbrev pub answer : Result Op Errno → Result Operation Errno
answer (Ok op) = Ok (meant op)
answer (Err e) = Err e

-- The tests of every entry whose opcode is served.
abbrev pub check_submission : Sqe → Result (Unit {0}) Errno
check_submission e = do
  require (ltb e.flags 128) EINVAL
  require (e.personality == 0) EINVAL
  require (not (has e.flags buffer_select)) EOPNOTSUPP

-- The tests of every entry, and then the row of an opcode.
abbrev pub checked : Row → Row
checked row v e side = do
  check_submission e
  row v e side

-- The sum of the lengths of a vectored transfer, where they pass their test.
abbrev pub check_vector : Sqe → List ℕ → Result ℕ Errno
check_vector e side = do
  require (vector_is_short e side) EINVAL
  Ok (total (lengths_in e.len side))
