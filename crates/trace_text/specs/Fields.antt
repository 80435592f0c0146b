-- The model: the fields of an entry as words. One that is left out is 0.
use Rattle.std.specs.Prelude.{ℕ, ◌-◌, ◌^◌, ◌==◌, ◌||◌, nat_lt, List, [], ◌∷◌, ◌++◌, codes, if◌then◌else◌}
use Rattle.std.specs.Fmt.{decimal, signed_decimal}
use Rattle.std.specs.Int.{w32, cast_signed}
use Rattle.sqe_codec.specs.declared.sqe.Sqe.{Sqe}
use Rattle.text_forms.specs.Numbers.{hexadecimal, octal}
use Rattle.trace_text.specs.Names.{flags_text}
use Rattle.trace_text.specs.declared.names.FlagSet.TheVariants.{Open, Transfer, Sync, Rename, Unlink, Link, Allocate}

-- A field with its key, behind a space.
abbrev pub field : List ℕ → List ℕ → List ℕ
field key value = (32 ∷ key) ++ codes "=" ++ value

-- A field that is left out where it has this value.
abbrev pub unless : ℕ → ℕ → List ℕ → List ℕ
unless default n text = if n == default then [] else text

-- A descriptor: AT_FDCWD, or a number with its sign.
abbrev pub descriptor_text : ℕ → List ℕ
descriptor_text n = if n == 2 ^ 32 - 100 then codes "AT_FDCWD" else signed_decimal (cast_signed w32 n)

-- The key of the field fd, and its number as 32 bits.
abbrev pub fd_key : ℕ → List ℕ
fd_key op =
    if op == 18 || op == 36 || op == 37 then codes "dfd"
    else if op == 35 || op == 39 then codes "old_dfd"
    else codes "fd"

abbrev pub fd_word : ℕ → ℕ → List ℕ
fd_word op n = unless 0 n (field (fd_key op) (descriptor_text n))

-- The field off.
abbrev pub off_key : ℕ → List ℕ
off_key op = if op == 35 || op == 39 then codes "addr2" else if op == 55 then codes "length" else codes "off"

abbrev pub off_text : ℕ → ℕ → List ℕ
off_text op n = if op == 35 || op == 39 then hexadecimal n else if n == 2 ^ 64 - 1 then codes "-1" else decimal n

abbrev pub off_word : ℕ → ℕ → List ℕ
off_word op n = unless 0 n (field (off_key op) (off_text op n))

-- The field addr.
abbrev pub addr_word : ℕ → ℕ → List ℕ
addr_word op n = unless 0 n (if op == 17 then field (codes "length") (decimal n) else field (codes "addr") (hexadecimal n))

-- The field len, which has another value where it is left out.
abbrev pub len_key : ℕ → List ℕ
len_key op = if op == 17 || op == 18 || op == 37 then codes "mode" else if op == 35 || op == 39 then codes "new_dfd" else codes "len"

abbrev pub len_text : ℕ → ℕ → List ℕ
len_text op n =
    if op == 17 then flags_text Allocate n
    else if op == 18 || op == 37 then octal n
    else if op == 35 || op == 39 then descriptor_text n
    else decimal n

abbrev pub len_word : ℕ → ℕ → ℕ → List ℕ
len_word op default n = unless default n (field (len_key op) (if n == 0 then codes "0" else len_text op n))

-- The field op_flags.
abbrev pub op_flags_field : ℕ → ℕ → List ℕ
op_flags_field op n =
    if op == 1 || op == 2 || op == 4 || op == 5 || op == 22 || op == 23 then field (codes "rw_flags") (flags_text Transfer n)
    else if op == 3 then field (codes "fsync_flags") (flags_text Sync n)
    else if op == 18 then field (codes "open_flags") (flags_text Open n)
    else if op == 35 then field (codes "rename_flags") (flags_text Rename n)
    else if op == 36 then field (codes "unlink_flags") (flags_text Unlink n)
    else if op == 39 then field (codes "hardlink_flags") (flags_text Link n)
    else field (codes "op_flags") (hexadecimal n)

abbrev pub op_flags_word : ℕ → ℕ → List ℕ
op_flags_word op n = unless 0 n (op_flags_field op n)

-- A field that every operation names alike.
abbrev pub decimal_word : List ℕ → ℕ → List ℕ
decimal_word key n = unless 0 n (field key (decimal n))

abbrev pub address_word : List ℕ → ℕ → List ℕ
address_word key n = unless 0 n (field key (hexadecimal n))

-- The field user_data: decimal where it has 32 bits.
abbrev pub user_word : ℕ → List ℕ
user_word n = unless 0 n (field (codes "user_data") (if nat_lt n (2 ^ 32) then decimal n else hexadecimal n))

-- Those fields that every operation names alike.
abbrev pub plain_words : Sqe → List ℕ
plain_words e =
    decimal_word (codes "buf_index") e.buf_index ++ decimal_word (codes "file_index") e.file_index ++ decimal_word (codes "ioprio") e.ioprio
    ++ decimal_word (codes "personality") e.personality ++ address_word (codes "addr3") e.addr3 ++ address_word (codes "pad") e.last ++ user_word e.user_data

-- The fields behind what stands beside the entry.
abbrev pub later_words : Sqe → ℕ → List ℕ
later_words e default =
    off_word e.opcode e.off ++ addr_word e.opcode e.addr ++ len_word e.opcode default e.len ++ op_flags_word e.opcode e.op_flags ++ plain_words e
