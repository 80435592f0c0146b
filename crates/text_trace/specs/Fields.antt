-- The model: operations, and the fields of their entries.
use Rattle.std.specs.Prelude.{ℕ, ◌^◌, ◌==◌, ◌&&◌, ◌||◌, nat_lt, nat_eq, Bool, List, length, drop, Option, None, Some, codes, option_map, slice_index, if◌then◌else◌}
use Rattle.std.specs.List.{position_from, starts_with}
use Rattle.std.specs.Str.{bytes_eq}
use Rattle.text_forms.specs.Names.{opcode_names}
use Rattle.trace_text.specs.Names.{entry_flag_names}
use Rattle.trace_text.specs.Fields.{fd_key, off_key, len_key}
use Rattle.trace_text.specs.declared.names.FlagSet.TheVariants.{Open, Transfer, Sync, Rename, Unlink, Link, Allocate}
use Rattle.text_words.specs.Numbers.{decimal_of}
use Rattle.text_words.specs.declared.numbers.Style.{Style}
use Rattle.text_words.specs.declared.numbers.Style.TheVariants.{Plain, Descriptor, Flags}
use Rattle.text_trace.specs.declared.fields.Field.{Field}
use Rattle.text_trace.specs.declared.fields.Field.TheVariants as field

-- the number of a name in a list
abbrev pub named_in : List (List ℕ) → List ℕ → Option ℕ
named_in names word = if length word == 0 then None else position_from (λ name. bytes_eq name word) 0 names

-- a number of 8 bits, decimal, with no zero in front
unfoldable pub decimal_byte : List ℕ → Option ℕ
decimal_byte digits = if nat_lt 1 (length digits) && slice_index digits 0 == 48 then None else decimal_of digits 255

-- the operation of a number behind OP_
unfoldable pub numbered_opcode : List ℕ → Option ℕ
numbered_opcode word = if starts_with nat_eq word (codes "OP_") then decimal_byte (drop 3 word) else None

-- the operation that a word names
unfoldable pub opcode_of : List ℕ → Option ℕ
opcode_of word = elim (named_in opcode_names word) [ Some opcode ↦ Some opcode | None ↦ numbered_opcode word ]

-- the value of the flag of an entry that a word names
unfoldable pub entry_flag_of : List ℕ → Option ℕ
entry_flag_of word = option_map (λ bit. 2 ^ bit) (named_in entry_flag_names word)

-- whether an operation has a RWF_ flag in op_flags
abbrev pub is_transfer : ℕ → Bool
is_transfer op = op == 1 || op == 2 || op == 4 || op == 5 || op == 22 || op == 23

-- the key of the field op_flags
abbrev pub op_flags_key : ℕ → List ℕ
op_flags_key op =
    if is_transfer op then codes "rw_flags" else if op == 3 then codes "fsync_flags" else if op == 18 then codes "open_flags"
    else if op == 35 then codes "rename_flags" else if op == 36 then codes "unlink_flags" else if op == 39 then codes "hardlink_flags"
    else codes "op_flags"

-- its flags
abbrev pub op_flags_style : ℕ → Style
op_flags_style op =
    if is_transfer op then Flags Transfer else if op == 3 then Flags Sync else if op == 18 then Flags Open
    else if op == 35 then Flags Rename else if op == 36 then Flags Unlink else if op == 39 then Flags Link
    else Plain

-- the key of the field addr
abbrev pub addr_key : ℕ → List ℕ
addr_key op = if op == 17 then codes "length" else codes "addr"

-- the field that struct io_uring_sqe names so
abbrev pub rare_field : List ℕ → Option Field
rare_field key =
    if bytes_eq key (codes "buf_index") then Some field.BufIndex else if bytes_eq key (codes "file_index") then Some field.FileIndex
    else if bytes_eq key (codes "ioprio") then Some field.Ioprio else if bytes_eq key (codes "personality") then Some field.Personality
    else if bytes_eq key (codes "addr3") then Some field.Addr3 else if bytes_eq key (codes "pad") then Some field.Pad
    else None

abbrev pub plain_field : List ℕ → Option Field
plain_field key =
    if bytes_eq key (codes "user_data") then Some field.UserData else if bytes_eq key (codes "fd") then Some field.Fd
    else if bytes_eq key (codes "off") then Some field.Off else if bytes_eq key (codes "addr") then Some field.Addr
    else if bytes_eq key (codes "len") then Some field.Len else if bytes_eq key (codes "op_flags") then Some field.OpFlags
    else rare_field key

-- the field that a key names in an operation: by the operation's own name, or by that of struct io_uring_sqe
unfoldable pub field_of : ℕ → List ℕ → Option Field
field_of op key =
    if bytes_eq key (fd_key op) then Some field.Fd else if bytes_eq key (off_key op) then Some field.Off
    else if bytes_eq key (addr_key op) then Some field.Addr else if bytes_eq key (len_key op) then Some field.Len
    else if bytes_eq key (op_flags_key op) then Some field.OpFlags
    else plain_field key

-- how many bits a field has
abbrev pub bits_of : Field → ℕ
bits_of field.Fd = 32
bits_of field.Off = 64
bits_of field.Addr = 64
bits_of field.Len = 32
bits_of field.OpFlags = 32
bits_of field.BufIndex = 16
bits_of field.FileIndex = 32
bits_of field.Ioprio = 16
bits_of field.Personality = 16
bits_of field.Addr3 = 64
bits_of field.Pad = 64
bits_of field.UserData = 64

-- what the number of a field may be beside its digits
abbrev pub len_style : ℕ → Style
len_style op = if op == 17 then Flags Allocate else if op == 35 || op == 39 then Descriptor else Plain

abbrev pub style_of : ℕ → Field → Style
style_of op field.Fd = Descriptor
style_of op field.Len = len_style op
style_of op field.OpFlags = op_flags_style op
style_of op _ = Plain
