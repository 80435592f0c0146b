-- The model: what an entry asks for, or the error that its submission gives, each test in the order in which it is made.
use Rattle.std.specs.Prelude.{ℕ, ℤ, pos, negsuc, zero, suc, unwrap_or, Bool, false, not, ◌&&◌, ◌||◌, ◌==◌, ltb, leb, ◌-◌, ◌*◌, ◌%◌, ◌^◌, List, [], ◌∷◌, ◌++◌, length, take, drop, Option, None, Some, Result, Ok, Err, ok_or, bit_or, if◌then◌else◌}
use Rattle.std.specs.List.{find}
use Rattle.std.specs.Option.{option_map}
use Rattle.sqe_codec.specs.declared.errno.Errno.{Errno}
use Rattle.sqe_codec.specs.declared.errno.Errno.TheVariants.{EBADF, EINVAL, EOPNOTSUPP, Other}
use Rattle.sqe_codec.specs.declared.sqe.Sqe.{Sqe}
use Rattle.trace_format.specs.declared.entry.Entry.{Entry}
use Rattle.trace_format.specs.declared.given.Given.{Given}
use Rattle.trace_format.specs.declared.given.Given.TheVariants.{Passed, Refused}
use Rattle.trace_format.specs.declared.version.Version.{Version}
use Rattle.trace_format.specs.Versions.{rules}
use Rattle.std.specs.Int.{w16, w32, from_le_bytes, cast_signed, cast_unsigned}
pub use Rattle.trace_records.specs.Opens.{check_path, are_open_flags}
pub use Rattle.trace_format.specs.Sides.{lengths_in, total, vector_is_short}
use Rattle.sqe_codec.specs.Answers.{◌>>=◌, ◌>>◌, require}
pub use Rattle.sqe_codec.specs.Flags.{has, fixed_file, io_drain, io_link, io_hardlink, buffer_select, skip_success}
use Rattle.entry_checks.specs.Operation.{Operation, nop, readv, writev, fsync, read_fixed, write_fixed, fallocate, openat, close, read, write, renameat, unlinkat, mkdirat, linkat, ftruncate, sync_file_range, fadvise, statx, statx_file, statx_root, given, File, in_slot, at_descriptor, Span, Path, OpenFlags}

-- The old one of two paths, behind its length of two bytes, and the new one behind it.
abbrev pub old_path : List ℕ → List ℕ
old_path side = take (from_le_bytes w16 (take 2 side)) (drop 2 side)

abbrev pub new_path : List ℕ → List ℕ
new_path side = drop (from_le_bytes w16 (take 2 side)) (drop 2 side)

-- A transfer has no flags of its own but those of the version; an operation on paths or slots has no registered file.
abbrev pub check_transfer_flags : Version → Sqe → Result (Unit {0}) Errno
check_transfer_flags v e = require (bit_or e.op_flags (rules v).transfer_flags == (rules v).transfer_flags) EOPNOTSUPP

abbrev pub check_no_registered_file : Sqe → Result (Unit {0}) Errno
check_no_registered_file e = require (not (has e.flags fixed_file)) EBADF

-- The number of a file is taken without its sign, so that a negative one is above all that are there.
abbrev pub file_number : Sqe → ℕ
file_number e = cast_unsigned w32 e.fd

-- The file, the span and the flags of open(2) that an entry names.
abbrev pub file_of : Sqe → File
file_of e = if has e.flags fixed_file then in_slot (file_number e) else at_descriptor (file_number e)

-- The registered file that a file index names: it is one more than the file's number, and 0 names none.
abbrev pub slot_of : ℕ → Option ℕ
slot_of zero = None
slot_of (suc n) = Some n

-- What a close closes: the registered file of its file index, or its descriptor.
abbrev pub file_closed : Sqe → File
file_closed e = unwrap_or (option_map in_slot (slot_of e.file_index)) (at_descriptor (file_number e))

abbrev pub span_of : Sqe → Span
span_of e = record { index = e.buf_index; address = e.addr; length = e.len }

abbrev pub path_of : ℤ → List ℕ → Path
path_of d text = record { directory = d; text = text }

abbrev pub open_flags_of : ℕ → OpenFlags
open_flags_of f = record { access = f % 4; create = has f 64; exclusive = has f 128; truncate = has f 512; append = has f 1024; directory = has f 65536 }

-- Whether a signed number is zero.
abbrev pub is_zero : ℤ → Bool
is_zero (pos n) = n == 0
is_zero (negsuc n) = false

-- The row of an opcode: its tests, in order, and the operation that is left.
abbrev pub Row : Type 0
Row = Version → Sqe → List ℕ → Result Operation Errno

abbrev pub nop_row : Row
nop_row v e side = Ok nop

abbrev pub readv_row : Row
readv_row v e side = do
  check_transfer_flags v e
  require (vector_is_short e side) EINVAL
  Ok (readv (file_of e) e.off (total (lengths_in e.len side)))

abbrev pub writev_row : Row
writev_row v e side = do
  check_transfer_flags v e
  require (vector_is_short e side) EINVAL
  Ok (writev (file_of e) e.off (drop (8 * e.len) side))

abbrev pub fsync_row : Row
fsync_row v e side = do
  require (leb e.op_flags 1) EINVAL
  Ok (fsync (file_of e))

abbrev pub read_fixed_row : Row
read_fixed_row v e side = do
  check_transfer_flags v e
  Ok (read_fixed (file_of e) e.off (span_of e))

abbrev pub write_fixed_row : Row
write_fixed_row v e side = do
  check_transfer_flags v e
  Ok (write_fixed (file_of e) e.off (span_of e))

abbrev pub fallocate_row : Row
fallocate_row v e side = Ok (fallocate (file_of e) e.off e.addr e.len)

abbrev pub openat_row : Row
openat_row v e side = do
  check_no_registered_file e
  require (are_open_flags e.op_flags e.file_index) EINVAL
  check_path side
  Ok (openat (path_of e.fd side) (open_flags_of e.op_flags) (slot_of e.file_index))

abbrev pub close_row : Row
close_row v e side = do
  check_no_registered_file e
  require (e.file_index == 0 || is_zero e.fd) EINVAL
  require (not (e.file_index == 2 ^ 32 - 1)) EINVAL
  Ok (close (file_closed e))

abbrev pub read_row : Row
read_row v e side = do
  check_transfer_flags v e
  Ok (read (file_of e) e.off e.len)

abbrev pub write_row : Row
write_row v e side = do
  check_transfer_flags v e
  Ok (write (file_of e) e.off side)

abbrev pub renameat_row : Row
renameat_row v e side = do
  check_no_registered_file e
  require (leb e.op_flags (rules v).most_rename_flags) EINVAL
  check_path (old_path side)
  check_path (new_path side)
  Ok (renameat (path_of e.fd (old_path side)) (path_of (cast_signed w32 e.len) (new_path side)) e.op_flags)

abbrev pub unlinkat_row : Row
unlinkat_row v e side = do
  check_no_registered_file e
  require (e.op_flags == 0 || e.op_flags == 512) EINVAL
  check_path side
  Ok (unlinkat (path_of e.fd side) (e.op_flags == 512))

abbrev pub mkdirat_row : Row
mkdirat_row v e side = do
  check_no_registered_file e
  check_path side
  Ok (mkdirat (path_of e.fd side))

abbrev pub linkat_row : Row
linkat_row v e side = do
  check_no_registered_file e
  require (e.op_flags == 0 || e.op_flags == 1024) EINVAL
  check_path (old_path side)
  check_path (new_path side)
  Ok (linkat (path_of e.fd (old_path side)) (path_of (cast_signed w32 e.len) (new_path side)))

abbrev pub ftruncate_row : Row
ftruncate_row v e side = Ok (ftruncate (file_of e) e.off)

abbrev pub sync_file_range_row : Row
sync_file_range_row v e side = Ok (sync_file_range (file_of e) e.off e.len e.op_flags)

-- How many bytes advice is for: those of the address, or where that is 0 of the length.
abbrev pub advised_length : Sqe → ℕ
advised_length e = if e.addr == 0 then e.len else e.addr

abbrev pub fadvise_row : Row
fadvise_row v e side = Ok (fadvise (file_of e) (advised_length e) e.op_flags)

-- The flags of statx(2): no other bit, and not both that ask a server of files.
abbrev pub are_statx_flags : ℕ → Bool
are_statx_flags f = (bit_or f 30976 == 30976) && not (has f 8192 && has f 16384)

-- Whether an empty path stands for what is open at the descriptor.
abbrev pub has_no_path : Sqe → List ℕ → Bool
has_no_path e side = length side == 0 && has e.op_flags 4096

-- That is the root where the descriptor is the working directory.
abbrev pub statx_of_descriptor : Sqe → Operation
statx_of_descriptor e = if file_number e == 2 ^ 32 - 100 then statx_root else statx_file (at_descriptor (file_number e))

abbrev pub statx_row : Row
statx_row v e side = do
  check_no_registered_file e
  require (ltb e.len (2 ^ 31)) EINVAL
  require (are_statx_flags e.op_flags) EINVAL
  if has_no_path e side then Ok (statx_of_descriptor e) else (check_path side >> Ok (statx (path_of e.fd side)))

-- The opcodes that every version serves, by their numbers in io_uring.h.
abbrev pub rows : List (ℕ × Row)
rows = (0, nop_row) ∷ (1, readv_row) ∷ (2, writev_row) ∷ (3, fsync_row) ∷
    (4, read_fixed_row) ∷ (5, write_fixed_row) ∷ (17, fallocate_row) ∷ (18, openat_row) ∷
    (19, close_row) ∷ (22, read_row) ∷ (23, write_row) ∷ (35, renameat_row) ∷
    (36, unlinkat_row) ∷ (37, mkdirat_row) ∷ (39, linkat_row) ∷ (55, ftruncate_row) ∷ []

-- Those that a version serves beside them.
abbrev pub later_rows : List (ℕ × Row)
later_rows = (8, sync_file_range_row) ∷ (21, statx_row) ∷ (24, fadvise_row) ∷ []

abbrev pub rows_beside : Version → List (ℕ × Row)
rows_beside v = if (rules v).has_later_opcodes then later_rows else []

-- The row of a number, if the version serves it.
abbrev pub row_of : Version → ℕ → Option Row
row_of v n = option_map (λ p. p.1) (find (λ p. p.0 == n) (rows ++ rows_beside v))

-- The operation that the fields of an entry and the bytes beside it ask for, or the error of its submission.
abbrev pub check_fields : Version → Sqe → List ℕ → Result Operation Errno
check_fields v e side = do
  row ← ok_or (row_of v e.opcode) EINVAL
  require (ltb e.flags 128) EINVAL
  require (e.personality == 0) EINVAL
  require (not (has e.flags buffer_select)) EOPNOTSUPP
  row v e side

-- The operation of an entry whose answer the trace gives, or the error that it gives.
abbrev pub check_given : Given → Result Operation Errno
check_given (Passed r fails) = Ok (given r fails)
check_given (Refused error) = Err (Other error)

-- The operation that an entry asks for, or the error of its submission: what the trace gives, whatever the fields say.
abbrev pub check : Version → Entry → Result Operation Errno
check v entry = by entry.given
  where
    by : Option Given → Result Operation Errno
    by None = check_fields v entry.sqe entry.side
    by (Some answer) = check_given answer
