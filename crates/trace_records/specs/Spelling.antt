-- The model: the bytes of a trace, part by part; the law that a trace has one spelling at the end.
use Rattle.std.specs.Prelude.{◌≡◌, ℕ, ◌-◌, ◌^◌, List, [], ◌∷◌, ◌++◌, length, codes, Option, None, Some}
use Rattle.std.specs.List.{flat_map}
use Rattle.std.specs.Int.{w16, w32, w64, to_le_bytes, cast_unsigned}
use Rattle.sqe_codec.specs.Fields.{entry_bytes, IsBytes}
use Rattle.trace_format.specs.Spelling.{flag, description_bytes, buffer_bytes}
use Rattle.trace_format.specs.declared.given.Given.TheVariants.{Passed, Refused}
use Rattle.trace_records.specs.declared.start.Range.{Range}
use Rattle.trace_records.specs.declared.start.Node.{Node}
use Rattle.trace_records.specs.declared.start.Node.TheVariants.{Directory, File, OtherName}
use Rattle.trace_records.specs.declared.start.Item.{Item}
use Rattle.trace_records.specs.declared.start.Descriptor.{Descriptor}
use Rattle.trace_records.specs.declared.start.Start.{Start}
use Rattle.trace_records.specs.declared.record.Entry.{Entry}
use Rattle.trace_records.specs.declared.record.Beside.{Beside}
use Rattle.trace_records.specs.declared.record.Beside.TheVariants.{Stored, Zeros, Given}
use Rattle.trace_records.specs.declared.record.Filling.{Filling}
use Rattle.trace_records.specs.declared.record.Filling.TheVariants as filling
use Rattle.trace_records.specs.declared.record.Holder.{Holder}
use Rattle.trace_records.specs.declared.record.Holder.TheVariants as holder
use Rattle.trace_records.specs.declared.record.FileAt.{FileAt}
use Rattle.trace_records.specs.declared.record.FileAt.TheVariants as files
use Rattle.trace_records.specs.declared.record.Content.{Content}
use Rattle.trace_records.specs.declared.record.Content.TheVariants as contents
use Rattle.trace_records.specs.declared.record.FullSlot.{FullSlot}
use Rattle.trace_records.specs.declared.record.Ring.{Ring}
use Rattle.trace_records.specs.declared.record.Record.{Record}
use Rattle.trace_records.specs.declared.record.Record.TheVariants.{Enter, Fill, Set, Seek, RingStarts, RingEnds}
use Rattle.trace_records.specs.declared.trace.Trace.{Trace}
use Rattle.trace_records.specs.Records.{own_queue}
use Rattle.trace_records.specs.Whole.{SpellsTrace}

-- offset, length and bytes
abbrev pub range_bytes : Range → List ℕ
range_bytes r = to_le_bytes w64 r.offset ++ to_le_bytes w32 (length r.bytes) ++ r.bytes

-- the number in front of an item, by what it leads to
abbrev pub kind_of : Node → ℕ
kind_of Directory = 1
kind_of (File _ _) = 2
kind_of (OtherName _) = 3

-- what follows the path of an item
abbrev pub node_bytes : Node → List ℕ
node_bytes Directory = []
node_bytes (File size ranges) = to_le_bytes w64 size ++ to_le_bytes w32 (length ranges) ++ flat_map range_bytes ranges
node_bytes (OtherName item) = to_le_bytes w32 item

-- kind, path with its length, and what it leads to
abbrev pub item_bytes : Item → List ℕ
item_bytes i = kind_of i.node ∷ to_le_bytes w16 (length i.path) ++ i.path ++ node_bytes i.node

-- number and description
abbrev pub descriptor_bytes : Descriptor → List ℕ
descriptor_bytes d = to_le_bytes w32 d.number ++ to_le_bytes w32 d.description

-- version, how many of each follow, and a word that is zero
abbrev pub header_bytes : Start → List ℕ
header_bytes s = codes "URINGTRC" ++ to_le_bytes w32 3 ++ to_le_bytes w32 (length s.items) ++ to_le_bytes w32 (length s.descriptions) ++ to_le_bytes w32 s.table_size ++ to_le_bytes w32 (length s.descriptors) ++ to_le_bytes w32 0

-- all that stands before the records
abbrev pub start_bytes : Start → List ℕ
start_bytes s = header_bytes s ++ flat_map item_bytes s.items ++ flat_map description_bytes s.descriptions ++ flat_map descriptor_bytes s.descriptors

-- form and length, and what is stored; or form and result, and whether that is a failure
abbrev pub beside_bytes : Beside → List ℕ
beside_bytes (Stored bytes) = 0 ∷ to_le_bytes w32 (length bytes) ++ bytes
beside_bytes (Zeros lengths len) = 1 ∷ to_le_bytes w32 len ++ lengths
beside_bytes (Given (Passed result fails)) = 2 ∷ to_le_bytes w32 (cast_unsigned w32 result) ++ flag fails ∷ []
beside_bytes (Given (Refused error)) = 3 ∷ to_le_bytes w32 (2 ^ 32 - error)

-- the 64 bytes of an entry, and those beside it
unfoldable pub entry_text : Entry → List ℕ
entry_text e = entry_bytes e.sqe ++ beside_bytes e.beside

-- form, and the part of the buffer
abbrev pub filling_bytes : ℕ → Filling → List ℕ
filling_bytes offset (filling.Stored bytes) = 0 ∷ to_le_bytes w32 offset ++ to_le_bytes w32 (length bytes) ++ bytes
filling_bytes offset (filling.Zeros len) = 1 ∷ to_le_bytes w32 offset ++ to_le_bytes w32 len

-- whether it is a descriptor, its ring, and its number
abbrev pub file_bytes : FileAt → List ℕ
file_bytes (files.Slot ring number) = 0 ∷ to_le_bytes w32 ring ++ to_le_bytes w32 number
file_bytes (files.Descriptor number) = 1 ∷ to_le_bytes w32 0 ++ to_le_bytes w32 number

-- a slot, a descriptor, or the number of a description
abbrev pub holder_bytes : Holder → List ℕ
holder_bytes (holder.Slot ring number) = file_bytes (files.Slot ring number)
holder_bytes (holder.Descriptor number) = file_bytes (files.Descriptor number)
holder_bytes (holder.Description number) = 2 ∷ to_le_bytes w32 0 ++ to_le_bytes w32 number

-- number, and what it gets
abbrev pub full_slot_bytes : FullSlot → List ℕ
full_slot_bytes s = to_le_bytes w32 s.number ++ holder_bytes s.holds

-- the number of a queue
abbrev pub queue_number : Option ℕ → ℕ
queue_number None = own_queue
queue_number (Some ring) = ring

-- queue, slots and buffers
abbrev pub ring_bytes : Ring → List ℕ
ring_bytes r = to_le_bytes w32 (queue_number r.queue) ++ to_le_bytes w32 r.slots ++ to_le_bytes w32 (length r.full) ++ flat_map full_slot_bytes r.full ++ to_le_bytes w16 (length r.buffers) ++ flat_map buffer_bytes r.buffers

-- what it is, and what it has
abbrev pub content_bytes : Content → List ℕ
content_bytes contents.Nothing = 0 ∷ []
content_bytes (contents.Path flags position path) = 1 ∷ to_le_bytes w32 flags ++ to_le_bytes w64 position ++ to_le_bytes w16 (length path) ++ path
content_bytes (contents.Copy of) = 2 ∷ file_bytes of
content_bytes contents.Taken = 3 ∷ []

-- kind, and what the kind has
abbrev pub record_bytes : Record → List ℕ
record_bytes (Enter ring entries) = 1 ∷ to_le_bytes w32 ring ++ to_le_bytes w16 (length entries) ++ flat_map entry_text entries
record_bytes (Fill ring buffer offset filling) = 2 ∷ to_le_bytes w32 ring ++ to_le_bytes w16 buffer ++ filling_bytes offset filling
record_bytes (Set file content) = 3 ∷ file_bytes file ++ content_bytes content
record_bytes (Seek file position) = 4 ∷ file_bytes file ++ to_le_bytes w64 position
record_bytes (RingStarts ring) = 5 ∷ ring_bytes ring
record_bytes (RingEnds ring) = 6 ∷ to_le_bytes w32 ring

-- the record that ends a trace
abbrev pub end_bytes : List ℕ
end_bytes = 7 ∷ []

-- the whole text
abbrev pub trace_bytes : Trace → List ℕ
trace_bytes t = start_bytes t.start ++ flat_map record_bytes t.records ++ end_bytes

-- a trace has one spelling
abbrev pub HasOneSpelling : Type 0
HasOneSpelling = (bytes : List ℕ) (t : Trace) → IsBytes bytes → SpellsTrace bytes t → bytes ≡ trace_bytes t
