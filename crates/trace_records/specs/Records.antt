-- The model: the text of a record, by the start of the trace and the records before it.
use Rattle.std.specs.Prelude.{ℕ, suc, ◌+◌, ◌-◌, ◌==◌, ◌^◌, Bool, ◌&&◌, ◌||◌, not, is_ok, List, [], ◌++◌, length, replicate, Option, None, Some, nat_le, nat_lt, min, if◌then◌else◌}
use Rattle.std.specs.Int.{w8, w16, w32, w64, cast_signed}
use Rattle.sqe_codec.specs.declared.sqe.Sqe.{Sqe}
use Rattle.sqe_codec.specs.Fields.{entry_of}
use Rattle.trace_format.specs.Grammar.{Grammar, Done, Bytes, Place, Test, Known, Choice, ◌>>=◌, fault, number, number_to, several}
use Rattle.trace_records.specs.Opens.{check_path, are_open_flags}
use Rattle.trace_format.specs.Sides.{vector_len, is_side_of, has_zero}
use Rattle.trace_format.specs.Text.{buffer}
use Rattle.trace_format.specs.declared.fault.Kind.TheVariants.{Limit, Path, Reference, Side}
use Rattle.trace_format.specs.declared.given.Given.TheVariants.{Passed, Refused}
use Rattle.trace_records.specs.Fields.{number_in, number_of, end_of}
use Rattle.trace_records.specs.Front.{Front, ring_at, slots_in, buffer_len, places_limit}
use Rattle.trace_records.specs.declared.start.Start.{Start}
use Rattle.trace_records.specs.declared.record.Entry.{Entry}
use Rattle.trace_records.specs.declared.record.Beside.{Beside}
use Rattle.trace_records.specs.declared.record.Beside.TheVariants.{Stored, Zeros, Given}
use Rattle.trace_records.specs.declared.record.Filling.TheVariants as filling
use Rattle.trace_records.specs.declared.record.Holder.{Holder}
use Rattle.trace_records.specs.declared.record.Holder.TheVariants.{Slot, Descriptor, Description}
use Rattle.trace_records.specs.declared.record.FileAt.{FileAt}
use Rattle.trace_records.specs.declared.record.FileAt.TheVariants as files
use Rattle.trace_records.specs.declared.record.Content.{Content}
use Rattle.trace_records.specs.declared.record.Content.TheVariants as contents
use Rattle.trace_records.specs.declared.record.FullSlot.{FullSlot}
use Rattle.trace_records.specs.declared.record.Ring.{Ring}
use Rattle.trace_records.specs.declared.record.Record.{Record}
use Rattle.trace_records.specs.declared.record.Record.TheVariants.{Enter, Fill, Set, Seek, RingStarts, RingEnds}

-- the number of a ring that is there
abbrev pub ring_there : Front → Grammar ℕ
ring_there front = do
  place ← Place
  ring ← number w32
  _ ← Known (ring_at front.rings ring) (fault Reference place)
  Done ring

-- the bytes in memory that an entry speaks of: those stored, its lengths and zeros, or none where it is given
abbrev pub meant : Beside → List ℕ
meant (Stored bytes) = bytes
meant (Zeros lengths len) = lengths ++ replicate (len - length lengths) 0
meant (Given given) = []

-- WRITE and WRITEV may have zeros
abbrev pub may_be_zeros : Sqe → Bool
may_be_zeros e = e.opcode == 23 || e.opcode == 2

-- how many bytes of lengths stand in front of zeros
abbrev pub lengths_len : Sqe → ℕ → ℕ
lengths_len e len = min len (if e.opcode == 2 then vector_len e else 0)

-- bytes that are stored, in a record that began there and has at most 2^32 - 1 bytes
unfoldable pub stored : ℕ → Sqe → Grammar Beside
stored begin e = do
  place ← Place
  len ← number w32
  here ← Place
  _ ← Test (nat_le (here + len) (begin + (2 ^ 32 - 1))) (fault Limit place)
  bytes ← Bytes len
  _ ← Test (is_side_of e bytes) (fault Side place)
  Done (Stored bytes)

-- lengths, and zeros that do not stand there
unfoldable pub zeros : Sqe → Grammar Beside
zeros e = do
  place ← Place
  len ← number w32
  lengths ← Bytes (lengths_len e len)
  _ ← Test (is_side_of e (meant (Zeros lengths len))) (fault Side place)
  Done (Zeros lengths len)

-- a given result, and whether it is a failure
unfoldable pub passed : Grammar Beside
passed = do
  result ← number w32
  fails ← number_to w8 1
  Done (Given (Passed (cast_signed w32 result) (fails == 1)))

-- a given error: a result from -4,095 to -1
unfoldable pub refused : Grammar Beside
refused = do
  place ← Place
  result ← number w32
  _ ← Test (nat_le (2 ^ 32 - 4095) result) (fault Limit place)
  Done (Given (Refused (2 ^ 32 - result)))

-- an entry may have this form: stored, zeros, or given in one of two ways
abbrev pub is_form : Sqe → ℕ → Bool
is_form e form = form == 0 || (form == 1 && may_be_zeros e) || form == 2 || form == 3

-- what an entry of this form has behind it
abbrev pub beside : ℕ → Sqe → ℕ → Grammar Beside
beside begin e form = Choice (form == 0) (stored begin e) (Choice (form == 1) (zeros e) (Choice (form == 2) passed refused))

-- a submitted entry, its form, and what the form has
unfoldable pub entry : ℕ → Grammar Entry
entry begin = do
  bytes ← Bytes 64
  place ← Place
  form ← number w8
  _ ← Test (is_form (entry_of bytes) form) (fault Limit place)
  b ← beside begin (entry_of bytes) form
  Done (record { sqe = entry_of bytes; beside = b })

-- entries of one ring, in a record that began there
unfoldable pub enter : Front → ℕ → Grammar Record
enter front begin = do
  ring ← ring_there front
  place ← Place
  count ← number_to w16 32768
  _ ← Test (nat_le (front.places + count) places_limit) (fault Limit place)
  entries ← several count (λ _. entry begin) []
  Done (Enter ring entries)

-- a form, a part of a buffer of this length, and its bytes or zeros
unfoldable pub filled : ℕ → ℕ → ℕ → Grammar Record
filled ring buffer buffer_len = do
  form ← number_to w8 1
  place ← Place
  offset ← number w32
  len ← number w32
  _ ← Test (nat_le (offset + len) buffer_len) (fault Reference place)
  bytes ← Bytes (if form == 0 then len else 0)
  Done (Fill ring buffer offset (if form == 0 then filling.Stored bytes else filling.Zeros len))

-- bytes for a part of a registered buffer
unfoldable pub fill : Front → Grammar Record
fill front = do
  ring ← ring_there front
  place ← Place
  buffer ← number w16
  len ← Known (buffer_len front.rings ring buffer) (fault Reference place)
  filled ring buffer len

-- a slot of a ring that is there
unfoldable pub slot_holder : Front → Grammar Holder
slot_holder front = do
  ring ← ring_there front
  number ← number_of w32 (slots_in front.rings ring)
  Done (Slot ring number)

-- one of so many, of no ring
unfoldable pub other_holder : ℕ → Grammar ℕ
other_holder count = do
  _ ← number_to w32 0
  number_of w32 count

-- how many descriptors there are, or descriptions
abbrev pub others : Start → ℕ → ℕ
others start what = if what == 1 then start.table_size else length start.descriptions

-- a descriptor, or a description
abbrev pub other : ℕ → ℕ → Holder
other what number = if what == 1 then Descriptor number else Description number

-- what a slot of a new ring gets: what a slot or a descriptor holds, or a description of the start
unfoldable pub holder : Start → Front → Grammar Holder
holder start front = do
  what ← number_to w8 2
  Choice (what == 0) (slot_holder front) (do
    number ← other_holder (others start what)
    Done (other what number))

-- the number behind that of a full slot
abbrev pub slot_end : FullSlot → ℕ
slot_end s = suc s.number

-- a full slot of so many, above those before it
unfoldable pub full_slot : Start → Front → ℕ → List FullSlot → Grammar FullSlot
full_slot start front slots earlier = do
  number ← number_in w32 (end_of slot_end 0 earlier) slots
  holds ← holder start front
  Done (record { number = number; holds = holds })

-- the number for a queue of a ring's own
abbrev pub own_queue : ℕ
own_queue = 4294967295

-- a queue of its own, or that of an earlier ring, which may have ended
unfoldable pub queue : Front → Grammar (Option ℕ)
queue front = do
  place ← Place
  n ← number w32
  _ ← Test (n == own_queue || nat_lt n (length front.rings)) (fault Reference place)
  Done (if n == own_queue then None else Some n)

-- a ring with its slots and buffers
unfoldable pub ring : Start → Front → Grammar Ring
ring start front = do
  queue ← queue front
  slots ← number_to w32 1048576
  count ← number_to w32 slots
  full ← several count (full_slot start front slots) []
  count ← number_to w16 16384
  buffers ← several count buffer []
  Done (record { queue = queue; slots = slots; full = full; buffers = buffers })

-- a slot of a ring that is there
unfoldable pub slot_at : Front → Grammar FileAt
slot_at front = do
  ring ← ring_there front
  number ← number_of w32 (slots_in front.rings ring)
  Done (files.Slot ring number)

-- one of the descriptors
abbrev pub descriptor_at : Start → Grammar FileAt
descriptor_at start = do
  number ← other_holder start.table_size
  Done (files.Descriptor number)

-- a slot or a descriptor
unfoldable pub file_at : Start → Front → Grammar FileAt
file_at start front = do
  what ← number_to w8 1
  Choice (what == 0) (slot_at front) (descriptor_at start)

-- a position of a description
abbrev pub position : Grammar ℕ
position = number_to w64 (2 ^ 63 - 1)

-- a path that passes the tests of a path, and has no zero byte
abbrev pub is_call_path : List ℕ → Bool
is_call_path path = is_ok (check_path path) && not (has_zero path)

-- flags of openat that pass its tests, a position, and the path
unfoldable pub opened : Grammar Content
opened = do
  place ← Place
  flags ← number w32
  _ ← Test (are_open_flags flags 0) (fault Limit place)
  position ← position
  len ← number w16
  place ← Place
  path ← Bytes len
  _ ← Test (is_call_path path) (fault Path place)
  Done (contents.Path flags position path)

-- what another slot or descriptor holds
abbrev pub copied : Start → Front → Grammar Content
copied start front = do
  of ← file_at start front
  Done (contents.Copy of)

-- nothing, a new description of a path, what another one holds, or what is no file of the tree
unfoldable pub content : Start → Front → Grammar Content
content start front = do
  what ← number_to w8 3
  Choice (what == 0) (Done contents.Nothing) (Choice (what == 1) opened (Choice (what == 2) (copied start front) (Done contents.Taken)))

-- what a slot or a descriptor holds from here on
unfoldable pub set : Start → Front → Grammar Record
set start front = do
  file ← file_at start front
  content ← content start front
  Done (Set file content)

-- the position of what a slot or a descriptor holds
unfoldable pub seek : Start → Front → Grammar Record
seek start front = do
  file ← file_at start front
  position ← position
  Done (Seek file position)

-- entries, a fill, a set, a seek, a ring, the end of a ring, the end
abbrev pub is_kind : ℕ → Bool
is_kind kind = nat_le 1 kind && nat_le kind 7

-- a fill, a set, a seek and a ring are a place, of which there is one more; rings have numbers below 2^20
abbrev pub is_place : ℕ → Bool
is_place kind = nat_le 2 kind && nat_le kind 5

abbrev pub has_room : Front → ℕ → Bool
has_room front kind = (not (is_place kind) || nat_lt front.places places_limit) && (not (kind == 5) || nat_lt (length front.rings) 1048576)

-- a new ring, and the end of one
abbrev pub ring_starts : Start → Front → Grammar Record
ring_starts start front = do
  r ← ring start front
  Done (RingStarts r)

abbrev pub ring_ends : Front → Grammar Record
ring_ends front = do
  n ← ring_there front
  Done (RingEnds n)

-- what follows the kind of a record
abbrev pub body : Start → Front → ℕ → ℕ → Grammar Record
body start front begin kind =
    Choice (kind == 1) (enter front begin) (Choice (kind == 2) (fill front) (Choice (kind == 3) (set start front)
    (Choice (kind == 4) (seek start front) (Choice (kind == 5) (ring_starts start front) (ring_ends front)))))

-- the next record, or none where the trace ends
unfoldable pub next : Start → Front → Grammar (Option Record)
next start front = do
  begin ← Place
  kind ← number w8
  _ ← Test (is_kind kind) (fault Limit begin)
  _ ← Test (has_room front kind) (fault Limit begin)
  Choice (kind == 7) (Done None) (do
    r ← body start front begin kind
    Done (Some r))
