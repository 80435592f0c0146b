-- The model: the text of a trace of version 3, line by line. What it shares with other versions is in trace_text.
use Rattle.std.specs.Prelude.{ℕ, ◌+◌, ◌-◌, ◌==◌, true, false, List, [], ◌∷◌, ◌++◌, codes, if◌then◌else◌, Option, None, Some}
use Rattle.std.specs.List.{flat_map}
use Rattle.std.specs.Fmt.{decimal, signed_decimal}
use Rattle.sqe_codec.specs.declared.sqe.Sqe.{Sqe}
use Rattle.trace_format.specs.declared.given.Given.{Given}
use Rattle.trace_format.specs.declared.given.Given.TheVariants as given
use Rattle.trace_format.specs.declared.trace.Description.{Description}
use Rattle.trace_records.specs.declared.start.Range.{Range}
use Rattle.trace_records.specs.declared.start.Node.{Node}
use Rattle.trace_records.specs.declared.start.Node.TheVariants.{Directory, File, OtherName}
use Rattle.trace_records.specs.declared.start.Item.{Item}
use Rattle.trace_records.specs.declared.start.Descriptor.{Descriptor}
use Rattle.trace_records.specs.declared.start.Start.{Start}
use Rattle.trace_records.specs.declared.record.Beside.{Beside}
use Rattle.trace_records.specs.declared.record.Beside.TheVariants as beside
use Rattle.trace_records.specs.declared.record.Entry.{Entry}
use Rattle.trace_records.specs.declared.record.Filling.{Filling}
use Rattle.trace_records.specs.declared.record.Filling.TheVariants.{Stored, Zeros}
use Rattle.trace_records.specs.declared.record.Holder.{Holder}
use Rattle.trace_records.specs.declared.record.Holder.TheVariants as holder
use Rattle.trace_records.specs.declared.record.FileAt.{FileAt}
use Rattle.trace_records.specs.declared.record.FileAt.TheVariants as files
use Rattle.trace_records.specs.declared.record.Content.{Content}
use Rattle.trace_records.specs.declared.record.Content.TheVariants as contents
use Rattle.trace_records.specs.declared.record.FullSlot.{FullSlot}
use Rattle.trace_records.specs.declared.record.Ring.{Ring}
use Rattle.trace_records.specs.declared.record.Record.{Record}
use Rattle.trace_records.specs.declared.record.Record.TheVariants.{Enter, Fill, Set, Seek, RingStarts, RingEnds}
use Rattle.trace_records.specs.declared.trace.Trace.{Trace}
use Rattle.trace_records.specs.Fields.{end_of}
use Rattle.trace_records.specs.Front.{places_of}
use Rattle.trace_records.specs.Start.{range_end}
use Rattle.trace_records.specs.Tallies.{rings}
use Rattle.text_forms.specs.Strings.{path_text}
use Rattle.trace_text.specs.Fields.{unless, field, decimal_word, op_flags_word, later_words}
use Rattle.trace_text.specs.Entry.{data_text, default_len, front_words, head_words, place_comment, words_of}
use Rattle.trace_text.specs.Shown.{buffer_line, empty_slots, enter_line, fill_words, node_by, numbered, opened}
use Rattle.trace_text.specs.declared.look.Look.{Look}

-- An item by its number.
abbrev pub node_text : List Item → ℕ → List ℕ
node_text items n = node_by (λ i. i.path) items n

-- A range behind another: where it begins, and its bytes.
abbrev pub range_words : Look → Range → List ℕ
range_words look r = field (codes "at") (decimal r.offset) ++ data_text look (codes " \\\n  ") r.bytes

-- The ranges of a file. Of the first the offset is left out where it is 0.
abbrev pub ranges_words : Look → List Range → List ℕ
ranges_words look [] = []
ranges_words look (r ∷ rs) = decimal_word (codes "at") r.offset ++ data_text look (codes " \\\n  ") r.bytes ++ flat_map (range_words look) rs

-- The size is left out where the file ends with its last range, and where an empty file has none.
abbrev pub file_words : Look → ℕ → List Range → List ℕ
file_words look size ranges = unless (end_of range_end 0 ranges) size (field (codes "size") (decimal size)) ++ ranges_words look ranges

-- An initial name.
abbrev pub item_kind : Node → List ℕ
item_kind Directory = codes "dir "
item_kind (File size ranges) = codes "file "
item_kind (OtherName number) = codes "name "

abbrev pub node_words : Look → List Item → Node → List ℕ
node_words look items Directory = []
node_words look items (File size ranges) = file_words look size ranges
node_words look items (OtherName number) = field (codes "of") (node_text items number)

abbrev pub item_line : Look → List Item → Item → List ℕ
item_line look items i = item_kind i.node ++ path_text i.path ++ node_words look items i.node ++ codes "\n"

-- An open file description, by its number.
abbrev pub description_line : List Item → ℕ → Description → List ℕ
description_line items n d = opened n (node_text items d.node) d

-- A table of so many slots from this one on, of which some are full: each by its number and its word, and the empty ones before it and behind the last.
abbrev pub table_from : {X : Type 0} → (X → ℕ) → (X → List ℕ) → ℕ → ℕ → List X → List ℕ
table_from number word size next [] = empty_slots (size - next)
table_from number word size next (x ∷ xs) = (empty_slots (number x - next) ++ codes " " ++ word x) ++ table_from number word size (number x + 1) xs

-- Its line, where it has slots.
abbrev pub table_line : {X : Type 0} → List ℕ → (X → ℕ) → (X → List ℕ) → ℕ → List X → List ℕ
table_line kind number word size full = if size == 0 then [] else kind ++ table_from number word size 0 full ++ codes "\n"

-- The table of ordinary descriptors.
abbrev pub descriptor_word : Descriptor → List ℕ
descriptor_word d = decimal d.description

abbrev pub descriptors_line : Start → List ℕ
descriptors_line s = table_line (codes "descriptors") (λ d. d.number) descriptor_word s.table_size s.descriptors

-- A slot or a descriptor.
abbrev pub file_text : FileAt → List ℕ
file_text (files.Slot ring number) = decimal ring ++ codes ":" ++ decimal number
file_text (files.Descriptor number) = codes "fd:" ++ decimal number

-- What a slot of a new ring gets.
abbrev pub holder_text : Holder → List ℕ
holder_text (holder.Slot ring number) = file_text (files.Slot ring number)
holder_text (holder.Descriptor number) = file_text (files.Descriptor number)
holder_text (holder.Description number) = decimal number

abbrev pub full_slot_word : FullSlot → List ℕ
full_slot_word s = holder_text s.holds

-- The queue that a ring continues, where it has none of its own.
abbrev pub queue_word : Option ℕ → List ℕ
queue_word None = []
queue_word (Some ring) = field (codes "queue") (decimal ring)

-- A new ring, by its number.
abbrev pub ring_lines : ℕ → Ring → List ℕ
ring_lines n r =
    codes "ring " ++ decimal n ++ queue_word r.queue ++ codes "\n" ++ table_line (codes "  slots") (λ s. s.number) full_slot_word r.slots r.full
    ++ numbered buffer_line 0 r.buffers

-- The end of a ring.
abbrev pub end_line : ℕ → List ℕ
end_line n = codes "ring " ++ decimal n ++ codes " ends\n"

-- How many zeros stand for bytes.
abbrev pub zeros_word : ℕ → List ℕ
zeros_word len = field (codes "zeros") (decimal len)

-- The words of an entry that writes zeros. Its length is left out as if these were stored.
abbrev pub zeros_len : Sqe → List ℕ → ℕ → ℕ
zeros_len e lengths len = if e.opcode == 23 then len else default_len e lengths

abbrev pub zeros_words : Sqe → List ℕ → ℕ → List ℕ
zeros_words e lengths len = front_words e lengths (zeros_len e lengths len) ++ zeros_word len ++ codes "\n"

-- What is given of an entry.
abbrev pub given_word : Given → List ℕ
given_word (given.Passed result false) = field (codes "given") (signed_decimal result)
given_word (given.Passed result true) = field (codes "failed") (signed_decimal result)
given_word (given.Refused error) = field (codes "refused") (codes "-" ++ decimal error)

-- The words of an entry that is given, which has nothing beside it.
abbrev pub given_words : Sqe → Given → List ℕ
given_words e g = head_words e ++ later_words e 0 ++ given_word g ++ codes "\n"

-- The words of an entry.
abbrev pub words_by : Look → Sqe → Beside → List ℕ
words_by look e (beside.Stored bytes) = words_of look e bytes
words_by look e (beside.Zeros lengths len) = zeros_words e lengths len
words_by look e (beside.Given g) = given_words e g

unfoldable pub submitted_words : Look → Entry → List ℕ
submitted_words look e = words_by look e.sqe e.beside

-- The line of the entry at a place.
abbrev pub submitted_line : Look → ℕ → Entry → List ℕ
submitted_line look place e = place_comment look (codes "  ") place ++ submitted_words look e

-- What is put into a buffer.
abbrev pub filling_words : Look → Filling → List ℕ
filling_words look (Stored bytes) = data_text look (codes " \\\n  ") bytes
filling_words look (Zeros len) = zeros_word len

-- What it holds from then on. The flags of a new description are those of OPENAT, and they and its position are left out where they are 0.
abbrev pub content_words : Content → List ℕ
content_words contents.Nothing = codes " nothing"
content_words (contents.Path flags position path) = field (codes "path") (path_text path) ++ op_flags_word 18 flags ++ decimal_word (codes "pos") position
content_words (contents.Copy of) = field (codes "of") (file_text of)
content_words contents.Taken = codes " taken"

abbrev pub set_line : FileAt → Content → List ℕ
set_line file content = codes "set " ++ file_text file ++ content_words content ++ codes "\n"

-- The position of what it holds.
abbrev pub seek_line : FileAt → ℕ → List ℕ
seek_line file position = codes "seek " ++ file_text file ++ field (codes "pos") (decimal position) ++ codes "\n"

-- What a record has, from a place on, behind so many rings.
abbrev pub record_lines : Look → ℕ → ℕ → Record → List ℕ
record_lines look place n (Enter ring entries) = enter_line ring ++ numbered (submitted_line look) place entries
record_lines look place n (Fill ring buffer offset filling) =
    place_comment look [] place ++ fill_words ring buffer offset ++ filling_words look filling ++ codes "\n"
record_lines look place n (Set file content) = place_comment look [] place ++ set_line file content
record_lines look place n (Seek file position) = place_comment look [] place ++ seek_line file position
record_lines look place n (RingStarts ring) = place_comment look [] place ++ ring_lines n ring
record_lines look place n (RingEnds ring) = end_line ring

-- All records, from a place on, behind so many rings.
abbrev pub records_from : Look → ℕ → ℕ → List Record → List ℕ
records_from look place n [] = []
records_from look place n (r ∷ rs) = record_lines look place n r ++ records_from look (place + places_of r) (n + rings (r ∷ [])) rs

-- The text of a trace.
unfoldable pub text_of : Look → Trace → List ℕ
text_of look t =
    codes "uring-trace 3\n" ++ flat_map (item_line look t.start.items) t.start.items ++ numbered (description_line t.start.items) 0 t.start.descriptions
    ++ descriptors_line t.start ++ records_from look 0 0 t.records
