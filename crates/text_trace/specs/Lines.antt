-- The model: each line of a text by itself, but those of entries.
use Rattle.std.specs.Prelude.{ℕ, ◌+◌, ◌-◌, ◌^◌, ◌==◌, ◌||◌, not, nat_le, nat_lt, nat_eq, Bool, true, false, List, [], ◌∷◌, ◌++◌, length, replicate, Option, None, Some, Result, Ok, Err, codes, is_some, unwrap_or, if◌then◌else◌}
use Rattle.std.specs.List.{starts_with}
use Rattle.std.specs.Str.{bytes_eq}
use Rattle.trace_format.specs.declared.version.Version.{Version}
use Rattle.trace_format.specs.declared.version.Version.TheVariants.{One, Two}
use Rattle.trace_format.specs.declared.trace.Node.{Node}
use Rattle.trace_format.specs.declared.trace.Node.TheVariants.{Directory, File, OtherName}
use Rattle.trace_format.specs.declared.trace.Access.{Access}
use Rattle.trace_format.specs.declared.trace.Access.TheVariants as access
use Rattle.trace_format.specs.declared.trace.Description.{Description}
use Rattle.trace_format.specs.declared.trace.Buffer.{Buffer}
use Rattle.trace_format.specs.declared.trace.Record.{Record}
use Rattle.trace_format.specs.declared.trace.Record.TheVariants.{Fill}
use Rattle.text_words.specs.declared.fault.Fault.{Fault}
use Rattle.text_words.specs.declared.fault.Reason.{Reason}
use Rattle.text_words.specs.declared.fault.Reason.TheVariants as why
use Rattle.text_words.specs.Numbers.{count_at, number, number_in}
use Rattle.text_words.specs.declared.numbers.Style.TheVariants.{Plain}
use Rattle.text_words.specs.Paths.{path_at}
use Rattle.text_words.specs.Read.{Rest, Word, ◌>>=◌, fault, known, refuse_if, repeated}
use Rattle.text_trace.specs.declared.lines.ItemKind.{ItemKind}
use Rattle.text_trace.specs.declared.lines.ItemKind.TheVariants as kind
use Rattle.text_words.specs.Strings.{strings_of}
use Rattle.text_words.specs.Words.{behind_first, behind_next, first_word, is_at_end, line_end, next_word, value_at, word_behind}
use Rattle.text_trace.specs.Fields.{opcode_of}

-- the version that a word names
abbrev pub version_named : List ℕ → Option Version
version_named word = if bytes_eq word (codes "1") then Some One else if bytes_eq word (codes "2") then Some Two else None

-- the first line
unfoldable pub version_of : Rest → Result (Version × Rest) Fault
version_of r = do
  _ ← refuse_if (not (bytes_eq (first_word r).bytes (codes "uring-trace"))) (fault why.FirstLine (first_word r).left)
  version ← known (version_named (next_word (behind_first r)).bytes) (fault why.FirstLine (next_word (behind_first r)).left)
  rest ← line_end (behind_next (behind_first r))
  Ok (version, rest)

-- the next word, which is a path
unfoldable pub next_path : Rest → Result (List ℕ × Rest) Fault
next_path r = do
  _ ← refuse_if (is_at_end r) (fault why.Path (next_word r).left)
  path ← path_at (next_word r)
  Ok (path, behind_next r)

-- the number of an item: behind @, or by its path as names have it; 0 for the root
unfoldable pub node_at : (List ℕ → Option ℕ) → Word → Result ℕ Fault
node_at names word =
    if starts_with nat_eq word.bytes (codes "@") then number 32 (word_behind 1 word)
    else path_at word >>= λ path. if bytes_eq path (codes "/") then Ok 0 else known (names path) (fault why.Node word.left)

-- a number behind a key, where the next word has that
unfoldable pub keyed : ℕ → List ℕ → Rest → Result (Option ℕ × Rest) Fault
keyed bits key r = elim (value_at (next_word r) key) [
  | None ↦ Ok (None, r)
  | Some value ↦ number bits value >>= λ n. Ok (Some n, behind_next r)
]

-- what a file has
unfoldable pub file_of : Rest → Result (Node × Rest) Fault
file_of r = do
  size ← keyed 64 (codes "size") r
  stored ← strings_of size.1
  rest ← line_end stored.1
  Ok (File (unwrap_or size.0 (length stored.0)) stored.0, rest)

-- the file that another name leads to
unfoldable pub other_of : (List ℕ → Option ℕ) → Rest → Result (Node × Rest) Fault
other_of names r = do
  value ← known (value_at (next_word r) (codes "of")) (fault why.Of (next_word r).left)
  item ← node_at names value
  rest ← line_end (behind_next r)
  Ok (OtherName item, rest)

-- a directory has nothing
unfoldable pub directory_of : Rest → Result (Node × Rest) Fault
directory_of r = do
  rest ← line_end r
  Ok (Directory, rest)

-- what the line of an item has behind its path, by its first word
abbrev pub node_of : (List ℕ → Option ℕ) → ItemKind → Rest → Result (Node × Rest) Fault
node_of names kind.Directory r = directory_of r
node_of names kind.File r = file_of r
node_of names kind.Name r = other_of names r

-- the kind of an item, by the first word of its line
abbrev pub kind_of : List ℕ → Option ItemKind
kind_of word =
    if bytes_eq word (codes "dir") then Some kind.Directory else if bytes_eq word (codes "file") then Some kind.File
    else if bytes_eq word (codes "name") then Some kind.Name else None

-- whether a word is a number
abbrev pub is_number : ℕ → Result ℕ Reason → Bool
is_number n (Ok told) = told == n
is_number n (Err _) = false

-- the next word, which has to be a number
unfoldable pub next_number : ℕ → Rest → Result Rest Fault
next_number n r = do
  _ ← refuse_if (not (is_number n (number_in Plain (next_word r).bytes 64))) (fault (why.Next n) (next_word r).left)
  Ok (behind_next r)

-- what a description lets its holder do, and whether it writes at the end
abbrev pub access_of : List ℕ → Option (Access × Bool)
access_of word =
    if bytes_eq word (codes "O_RDONLY") then Some (access.Read, false) else if bytes_eq word (codes "O_WRONLY") then Some (access.Write, false)
    else if bytes_eq word (codes "O_RDWR") then Some (access.Both, false) else if bytes_eq word (codes "O_RDONLY|O_APPEND") then Some (access.Read, true)
    else if bytes_eq word (codes "O_WRONLY|O_APPEND") then Some (access.Write, true) else if bytes_eq word (codes "O_RDWR|O_APPEND") then Some (access.Both, true)
    else None

-- the next word, which is an item
unfoldable pub next_node : (List ℕ → Option ℕ) → Rest → Result (ℕ × Rest) Fault
next_node names r = do
  _ ← refuse_if (is_at_end r) (fault why.Path (next_word r).left)
  item ← node_at names (next_word r)
  Ok (item, behind_next r)

-- the next word, which is an access
unfoldable pub next_access : Rest → Result (Access × Bool × Rest) Fault
next_access r = do
  x ← known (access_of (next_word r).bytes) (fault why.Access (next_word r).left)
  Ok (x.0, x.1, behind_next r)

-- a description behind so many
unfoldable pub description_of : (List ℕ → Option ℕ) → ℕ → Rest → Result (Description × Rest) Fault
description_of names n r = do
  start ← next_number n (behind_first r)
  item ← next_node names start
  mode ← next_access item.1
  position ← keyed 64 (codes "pos") mode.2
  rest ← line_end position.1
  Ok (record { node = item.0; access = mode.0; append = mode.1; position = unwrap_or position.0 0 }, rest)

-- how many empty slots a word is, if it is some
unfoldable pub empty_slots : Word → Result (Option ℕ) Fault
empty_slots word =
    if bytes_eq word.bytes (codes "-") then Ok (Some 1)
    else if starts_with nat_eq word.bytes (codes "-*") then (count_at (word_behind 2 word) >>= λ count. Ok (Some count))
    else Ok None

-- a slot with a description, behind others
unfoldable pub full_slot : List ℕ → Word → Result (List ℕ) Fault
full_slot slots word = do
  n ← number 32 word
  _ ← refuse_if (n == 2 ^ 32 - 1) (fault (why.Bits 32) word.left)
  _ ← refuse_if (nat_le 1024 (length slots)) (fault why.TooMany word.left)
  Ok (slots ++ (n + 1) ∷ [])

-- the slots of a word behind others: at most 1,024 in all
unfoldable pub add_slots : List ℕ → Word → Result (List ℕ) Fault
add_slots slots word = do
  empty ← empty_slots word
  elim empty [
    | None ↦ full_slot slots word
    | Some count ↦ refuse_if (nat_lt 1024 (length slots + count)) (fault why.TooMany word.left) >>= λ _. Ok (slots ++ replicate count 0)
  ]

-- one word of slots more
unfoldable pub next_slots : List ℕ → Rest → Result (List ℕ × Rest) Fault
next_slots slots r = do
  more ← add_slots slots (next_word r)
  Ok (more, behind_next r)

-- the same, up to the end of the line
abbrev pub more_slots : List ℕ × Rest → Option (Result (List ℕ × Rest) Fault)
more_slots s = if is_at_end s.1 then None else Some (next_slots s.0 s.1)

-- all slots of a line
unfoldable pub all_slots : Rest → Result (List ℕ × Rest) Fault
all_slots r = repeated (length r.text) more_slots ([], r)

unfoldable pub slots_of : Rest → Result (List ℕ × Rest) Fault
slots_of r = do
  _ ← refuse_if (is_at_end (behind_first r)) (fault why.Slot (next_word (behind_first r)).left)
  slots ← all_slots (behind_first r)
  rest ← line_end slots.1
  Ok (slots.0, rest)

-- the next word, which is a number
abbrev pub next_of : ℕ → Rest → Result (ℕ × Rest) Fault
next_of bits r = number bits (next_word r) >>= λ n. Ok (n, behind_next r)

-- a registered buffer behind so many
unfoldable pub buffer_of : ℕ → Rest → Result (Buffer × Rest) Fault
buffer_of n r = do
  start ← next_number n (behind_first r)
  address ← next_of 64 start
  len ← next_of 32 address.1
  rest ← line_end len.1
  Ok (record { address = address.0; len = len.0 }, rest)

-- the line of a ring behind so many
unfoldable pub ring_line : ℕ → Rest → Result Rest Fault
ring_line n r = do
  start ← next_number n (behind_first r)
  line_end start

-- the ring that entries were handed to
unfoldable pub enter_line : Rest → Result (ℕ × Rest) Fault
enter_line r = do
  ring ← next_of 8 (behind_first r)
  rest ← line_end ring.1
  Ok (ring.0, rest)

-- the buffer of a ring that a fill puts bytes into
unfoldable pub fill_buffer : Rest → Result (ℕ × ℕ × Rest) Fault
fill_buffer r = do
  ring ← next_of 8 (behind_first r)
  value ← known (value_at (next_word ring.1) (codes "buffer")) (fault why.Buffer (next_word ring.1).left)
  buffer ← number 16 value
  Ok (ring.0, buffer, behind_next ring.1)

-- bytes for a part of a registered buffer
unfoldable pub fill_of : Rest → Result (Record × Rest) Fault
fill_of r = do
  buffer ← fill_buffer r
  offset ← keyed 32 (codes "at") buffer.2
  bytes ← strings_of offset.1
  rest ← line_end bytes.1
  Ok (Fill buffer.0 buffer.1 (unwrap_or offset.0 0) bytes.0, rest)

-- whether a word begins a line that stands in a fixed order
abbrev pub is_ordered : List ℕ → Bool
is_ordered word =
    bytes_eq word (codes "dir") || bytes_eq word (codes "file") || bytes_eq word (codes "name") || bytes_eq word (codes "open")
    || bytes_eq word (codes "descriptors") || bytes_eq word (codes "ring") || bytes_eq word (codes "slots") || bytes_eq word (codes "buffer")

-- why a line cannot stand where it does, by its first word
abbrev pub stray : List ℕ → Reason
stray word = if is_ordered word then why.Order else if is_some (opcode_of word) then why.Entry else why.Line

-- the end of the text, where nothing but the lines of a trace stands before it
unfoldable pub text_end : Rest → Result Bool Fault
text_end r = refuse_if (not (length (first_word r).bytes == 0)) (fault (stray (first_word r).bytes) (first_word r).left)
