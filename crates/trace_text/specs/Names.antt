-- The model: operations and flags by their names.
use Rattle.std.specs.Prelude.{ℕ, zero, suc, ◌+◌, ◌/◌, ◌%◌, ◌^◌, ◌==◌, ◌||◌, Bool, true, false, List, [], ◌∷◌, ◌++◌, length, codes, slice_index_or, if◌then◌else◌}
use Rattle.std.specs.Fmt.{decimal}
use Rattle.text_forms.specs.Names.{opcode_name}
use Rattle.text_forms.specs.Numbers.{hexadecimal}
use Rattle.trace_text.specs.declared.names.FlagSet.{FlagSet}
use Rattle.trace_text.specs.declared.names.FlagSet.TheVariants.{Open, Transfer, Sync, Rename, Unlink, Link, Allocate}

-- An operation: its name, or its number where it has none.
abbrev pub opcode_text : ℕ → List ℕ
opcode_text opcode = if length (opcode_name opcode) == 0 then codes "OP_" ++ decimal opcode else opcode_name opcode

-- The flags of an entry by their bits.
unfoldable pub entry_flag_names : List (List ℕ)
entry_flag_names =
    codes "FIXED_FILE" ∷ codes "IO_DRAIN" ∷ codes "IO_LINK" ∷ codes "IO_HARDLINK" ∷ codes "ASYNC" ∷ codes "BUFFER_SELECT" ∷ codes "CQE_SKIP_SUCCESS" ∷
    codes "0x80" ∷ []

unfoldable pub entry_flag_name : ℕ → List ℕ
entry_flag_name bit = slice_index_or entry_flag_names bit []

-- The flags of an entry, bare, each behind a space: so many bits, from one on.
abbrev pub entry_flag : Bool → ℕ → List ℕ
entry_flag is_set bit = if is_set then 32 ∷ entry_flag_name bit else []

abbrev pub entry_flags_from : ℕ → ℕ → ℕ → List ℕ
entry_flags_from zero bit flags = []
entry_flags_from (suc n) bit flags = entry_flag (flags % 2 == 1) bit ++ entry_flags_from n (bit + 1) (flags / 2)

unfoldable pub entry_flags : ℕ → List ℕ
entry_flags flags = entry_flags_from 8 0 flags

-- The flags of a field of an operation by their bits; nothing where a bit has no name.
unfoldable pub flag_names : FlagSet → List (List ℕ)
flag_names Open =
    codes "O_WRONLY" ∷ codes "O_RDWR" ∷ [] ∷ [] ∷ [] ∷ [] ∷ codes "O_CREAT" ∷ codes "O_EXCL" ∷ codes "O_NOCTTY" ∷ codes "O_TRUNC" ∷ codes "O_APPEND" ∷
    codes "O_NONBLOCK" ∷ codes "O_DSYNC" ∷ [] ∷ codes "O_DIRECT" ∷ codes "O_LARGEFILE" ∷ codes "O_DIRECTORY" ∷ codes "O_NOFOLLOW" ∷ codes "O_NOATIME" ∷
    codes "O_CLOEXEC" ∷ [] ∷ codes "O_PATH" ∷ []
flag_names Transfer = codes "RWF_HIPRI" ∷ codes "RWF_DSYNC" ∷ codes "RWF_SYNC" ∷ codes "RWF_NOWAIT" ∷ codes "RWF_APPEND" ∷ []
flag_names Sync = codes "IORING_FSYNC_DATASYNC" ∷ []
flag_names Rename = codes "RENAME_NOREPLACE" ∷ codes "RENAME_EXCHANGE" ∷ codes "RENAME_WHITEOUT" ∷ []
flag_names Unlink = [] ∷ [] ∷ [] ∷ [] ∷ [] ∷ [] ∷ [] ∷ [] ∷ [] ∷ codes "AT_REMOVEDIR" ∷ []
flag_names Link = [] ∷ [] ∷ [] ∷ [] ∷ [] ∷ [] ∷ [] ∷ [] ∷ [] ∷ [] ∷ codes "AT_SYMLINK_FOLLOW" ∷ [] ∷ codes "AT_EMPTY_PATH" ∷ []
flag_names Allocate =
    codes "FALLOC_FL_KEEP_SIZE" ∷ codes "FALLOC_FL_PUNCH_HOLE" ∷ [] ∷ codes "FALLOC_FL_COLLAPSE_RANGE" ∷ codes "FALLOC_FL_ZERO_RANGE" ∷
    codes "FALLOC_FL_INSERT_RANGE" ∷ []

unfoldable pub flag_name : FlagSet → ℕ → List ℕ
flag_name set bit = slice_index_or (flag_names set) bit []

-- A bit: its name, or its value where it has none.
abbrev pub flag_text : FlagSet → ℕ → List ℕ
flag_text set bit = if length (flag_name set bit) == 0 then hexadecimal (2 ^ bit) else flag_name set bit

-- what stands before a flag
abbrev pub bar : Bool → List ℕ
bar true = 124 ∷ []
bar false = []

-- Flags with bars between them: so many bits, from one on; whether some came before.
abbrev pub flag : FlagSet → Bool → Bool → ℕ → List ℕ
flag set is_set some bit = if is_set then bar some ++ flag_text set bit else []

abbrev pub flags_from : FlagSet → ℕ → ℕ → Bool → ℕ → List ℕ
flags_from set zero bit some flags = []
flags_from set (suc n) bit some flags = flag set (flags % 2 == 1) some bit ++ flags_from set n (bit + 1) (some || flags % 2 == 1) (flags / 2)

unfoldable pub flags_text : FlagSet → ℕ → List ℕ
flags_text set flags = flags_from set 32 0 false flags
