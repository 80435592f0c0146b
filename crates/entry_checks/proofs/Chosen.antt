-- The row of a table that an opcode's number names.
use Rattle.std.proofs.Common.{◌≡◌, ℕ, Bool, List, Result, Some, sym, ap, ◌∙◌, arith}
use Rattle.std.specs.Prelude.{not, ltb, ◌==◌}
use Rattle.sqe_codec.specs.Answers.{◌>>◌, require}
use Rattle.sqe_codec.specs.declared.errno.Errno.{Errno}
use Rattle.sqe_codec.specs.declared.errno.Errno.TheVariants.{EINVAL, EOPNOTSUPP}
use Rattle.sqe_codec.specs.declared.sqe.Sqe.{Sqe}
use Rattle.trace_format.specs.declared.version.Version.{Version}
use Rattle.entry_checks.specs.Operation.{Operation}
use Rattle.entry_checks.specs.Check.{has, buffer_select, Row, row_of, check_fields}
use Rattle.entry_checks.specs.Answer.{checked}

-- three tests and then the rest
one_by_one : {X : Type 0} (a b c : Bool) (e f g : Errno) (rest : Result X Errno) → ((require a e >> (require b f >> require c g)) >> rest) ≡ (require a e >> (require b f >> (require c g >> rest)))
one_by_one a b c e f g rest = grind arith

-- what a row answers is what the table does
pub from_row : {said : Result Operation Errno} (v : Version) (e sqe : Sqe) (s side : List ℕ) (row : Row) → sqe ≡ e → side ≡ s → row_of v sqe.opcode ≡ Some row → said ≡ checked row v sqe side → said ≡ check_fields v e s
from_row v e sqe s side row is_sqe is_side found answers =
    let here : row_of v e.opcode ≡ Some row = sym (ap (λ (x : Sqe). row_of v x.opcode) is_sqe) ∙ found in
    rw (here, ← is_sqe, ← is_side) (answers ∙ one_by_one (ltb sqe.flags 128) (sqe.personality == 0) (not (has sqe.flags buffer_select)) EINVAL EINVAL EOPNOTSUPP (row v sqe side))
