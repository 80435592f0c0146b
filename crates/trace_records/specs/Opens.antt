-- The model: the tests that a call makes of a path, and openat of its flags.
use Rattle.std.specs.Prelude.{ℕ, bytes_eq, unwrap_or, Bool, not, ◌&&◌, ◌||◌, ◌==◌, leb, ◌-◌, ◌%◌, ◌^◌, List, [], ◌∷◌, length, None, Result, bit_or}
use Rattle.std.specs.List.{list_any, last_or}
use Rattle.sqe_codec.specs.declared.errno.Errno.{Errno}
use Rattle.sqe_codec.specs.declared.errno.Errno.TheVariants.{ENOENT, EINVAL, ENAMETOOLONG}
use Rattle.sqe_codec.specs.Answers.{◌>>◌, require}
use Rattle.sqe_codec.specs.Flags.{has}
use Rattle.trace_format.specs.Paths.{components}

-- `.` and `..` are no components here.
abbrev pub is_dots : List ℕ → Bool
is_dots name = bytes_eq name (46 ∷ []) || bytes_eq name (46 ∷ 46 ∷ [])

-- The tests of a path.
abbrev pub check_path : List ℕ → Result (Unit {0}) Errno
check_path path = do
  require (not (length path == 0)) ENOENT
  require (leb (length path) 4095) ENAMETOOLONG
  require (not (unwrap_or (last_or None path) 0 == 47)) EINVAL
  require (not (list_any is_dots (components path))) EINVAL

-- The tests of openat's flags: no access 3, no bit outside 0x1fdfc3, and no flag that its file index forbids.
abbrev pub are_open_flags : ℕ → ℕ → Bool
are_open_flags f index =
    not (f % 4 == 3) && (bit_or f 2088899 == 2088899) && not (has f 64 && has f 65536) && not (has f 524288 && not (index == 0)) && not (index == 2 ^ 32 - 1)
