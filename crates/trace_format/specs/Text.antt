-- The model: the text of a trace, field by field, and which faults a text may have; laws of that at the end.
use Rattle.std.specs.Prelude.{◌≡◌, ℕ, ◌+◌, ◌-◌, ◌<◌, ◌≤◌, ◌⊎◌, ◌++◌, ◌==◌, ◌^◌, Bool, true, false, ◌&&◌, ◌||◌, not, List, [], length, codes, slice_get, Option, Some, None, nat_le, nat_lt, if◌then◌else◌, min}
use Rattle.std.specs.List.{list_any}
use Rattle.std.specs.Str.{bytes_eq}
use Rattle.std.specs.Int.{w8, w16, w32, w64}
use Rattle.sqe_codec.specs.Fields.{entry_of}
use Rattle.trace_format.specs.Limits.{file_limit}
use Rattle.trace_format.specs.declared.fault.Kind.TheVariants.{Magic, Version, Limit, Path, NoParent, Exists, Reference, Side, Overlap, Trailing}
use Rattle.trace_format.specs.declared.version.Version.{Version as TraceVersion}
use Rattle.trace_format.specs.declared.trace.Node.{Node}
use Rattle.trace_format.specs.declared.trace.Node.TheVariants.{Directory, File, OtherName}
use Rattle.trace_format.specs.declared.trace.Item.{Item}
use Rattle.trace_format.specs.declared.trace.Access.{Access}
use Rattle.trace_format.specs.declared.trace.Access.TheVariants as access
use Rattle.trace_format.specs.declared.trace.Description.{Description}
use Rattle.trace_format.specs.declared.trace.Buffer.{Buffer}
use Rattle.trace_format.specs.declared.trace.Ring.{Ring}
use Rattle.trace_format.specs.declared.entry.Entry.{Entry}
use Rattle.trace_format.specs.declared.trace.Record.{Record}
use Rattle.trace_format.specs.declared.trace.Record.TheVariants.{Enter, Fill}
use Rattle.trace_format.specs.declared.trace.Trace.{Trace}
use Rattle.trace_format.specs.Grammar.{Grammar, Done, Bytes, Place, Test, Known, Choice, ◌>>=◌, Spells, Breaks, fault, number, number_to, several}
use Rattle.trace_format.specs.declared.fault.TraceFault.{TraceFault}
use Rattle.trace_format.specs.Paths.{is_path, parent_of, has_name, has_directory, is_directory, is_file}
use Rattle.trace_format.specs.Sides.{is_early_side_of}
use Rattle.trace_format.specs.Versions.{rules, version_of}
use Rattle.trace_format.specs.Counts.{places_in, places_limit}

-- the version, and how many of each there are
pub record Counts : Type 0 where
  pub version : TraceVersion
  pub items : ℕ
  pub descriptions : ℕ
  pub rings : ℕ
  pub records : ℕ
  pub descriptors : ℕ

-- the first 32 bytes
unfoldable pub header : Grammar Counts
header = do
  magic ← Bytes 8
  _ ← Test (bytes_eq magic (codes "URINGTRC")) (fault Magic 0)
  place ← Place
  n ← number w32
  version ← Known (version_of n) (fault Version place)
  items ← number_to w32 65535
  descriptions ← number_to w32 65535
  rings ← number_to w32 64
  records ← number_to w32 1048576
  descriptors ← number_to w32 (rules version).most_descriptors
  Done (record { version = version; items = items; descriptions = descriptions; rings = rings; records = records; descriptors = descriptors })

-- the item of a number from 1 on passes the test
abbrev pub is_item : (Node → Bool) → List Item → ℕ → Bool
is_item test items number = nat_le 1 number && (elim (slice_get items (number - 1)) [ None ↦ false | Some i ↦ test i.node ])

-- a size of at most 2^40, and the first bytes of that many
unfoldable pub file : Grammar Node
file = do
  size ← number_to w64 file_limit
  stored ← number_to w32 (min size (2 ^ 32 - 1))
  bytes ← Bytes stored
  Done (File size bytes)

-- another name of an earlier file
unfoldable pub other_name : List Item → Grammar Node
other_name earlier = do
  place ← Place
  item ← number w32
  _ ← Test (is_item is_file earlier item) (fault Reference place)
  Done (OtherName item)

-- what a name of this kind leads to
abbrev pub node : ℕ → List Item → Grammar Node
node kind earlier = Choice (kind == 1) (Done Directory) (Choice (kind == 2) file (other_name earlier))

-- a new name in a directory that is there
unfoldable pub new_path : List Item → Grammar (List ℕ)
new_path earlier = do
  len ← number w16
  place ← Place
  path ← Bytes len
  _ ← Test (is_path path) (fault Path place)
  _ ← Test (has_directory earlier (parent_of path)) (fault NoParent place)
  _ ← Test (not (has_name earlier path)) (fault Exists place)
  Done path

-- an initial name, after those before it
unfoldable pub item : List Item → Grammar Item
item earlier = do
  place ← Place
  kind ← number w8
  _ ← Test (nat_le 1 kind && nat_le kind 3) (fault Limit place)
  path ← new_path earlier
  made ← node kind earlier
  Done (record { path = path; node = made })

-- access 0, 1 and 2
abbrev pub access_of : ℕ → Access
access_of n = if n == 0 then access.Read else if n == 1 then access.Write else access.Both

-- a directory, the root among them, or a file
abbrev pub is_node : List Item → ℕ → Bool
is_node items number = number == 0 || is_item (λ n. is_directory n || is_file n) items number

-- a directory, the root among them
abbrev pub is_directory_number : List Item → ℕ → Bool
is_directory_number items number = number == 0 || is_item is_directory items number

-- an open file description; that of a directory has access 0
unfoldable pub description : List Item → Grammar Description
description items = do
  place ← Place
  number ← number w32
  _ ← Test (is_node items number) (fault Reference place)
  place ← Place
  n ← number_to w8 2
  _ ← Test (n == 0 || not (is_directory_number items number)) (fault Limit place)
  append ← number_to w8 1
  position ← number_to w64 (2 ^ 63 - 1)
  Done (record { node = number; access = access_of n; append = (append == 1); position = position })

-- 0, or the number of a description and 1
unfoldable pub slot : ℕ → Grammar ℕ
slot descriptions = do
  place ← Place
  n ← number w32
  _ ← Test (nat_le n descriptions) (fault Reference place)
  Done n

-- some address is in both buffers
abbrev pub overlap : Buffer → Buffer → Bool
overlap a b = nat_lt 0 a.len && nat_lt 0 b.len && nat_lt a.address (b.address + b.len) && nat_lt b.address (a.address + a.len)

-- a registered buffer that overlaps none before it
unfoldable pub buffer : List Buffer → Grammar Buffer
buffer earlier = do
  start ← Place
  address ← number w64
  place ← Place
  len ← number_to w32 (2 ^ 30)
  _ ← Test (nat_le (address + len) (2 ^ 64 - 1)) (fault Limit place)
  _ ← Test (not (list_any (λ b. overlap b (record { address = address; len = len })) earlier)) (fault Overlap start)
  Done (record { address = address; len = len })

-- slots and buffers, each with their number in front
unfoldable pub ring : ℕ → Grammar Ring
ring descriptions = do
  n ← number_to w16 1024
  slots ← several n (λ _. slot descriptions) []
  n ← number_to w16 1024
  buffers ← several n buffer []
  Done (record { slots = slots; buffers = buffers })

-- a submitted entry, and the bytes beside it
unfoldable pub entry : Grammar Entry
entry = do
  bytes ← Bytes 64
  place ← Place
  len ← number w32
  side ← Bytes len
  _ ← Test (is_early_side_of (entry_of bytes) side) (fault Side place)
  Done (record { sqe = entry_of bytes; side = side; given = None })

-- entries of one ring, where so many places come before them
unfoldable pub enter : ℕ → ℕ → Grammar Record
enter rings used = do
  place ← Place
  ring ← number w8
  _ ← Test (nat_lt ring rings) (fault Reference place)
  place ← Place
  count ← number_to w16 32768
  _ ← Test (nat_le (used + count) places_limit) (fault Limit place)
  entries ← several count (λ _. entry) []
  Done (Enter ring entries)

-- the length of a buffer of a ring, and none where there is no such buffer
abbrev pub buffer_len : List Ring → ℕ → ℕ → Option ℕ
buffer_len rings ring number = elim (slice_get rings ring) [
  | None ↦ None
  | Some r ↦ elim (slice_get r.buffers number) [ None ↦ None | Some b ↦ Some b.len ]
]

-- an end within a length, if there is one
abbrev pub is_within : Option ℕ → ℕ → Bool
is_within None end = false
is_within (Some len) end = nat_le end len

-- whether there is one
abbrev pub is_there : Option ℕ → Bool
is_there None = false
is_there (Some _) = true

-- bytes for a part of a registered buffer
unfoldable pub fill : List Ring → Grammar Record
fill rings = do
  place ← Place
  ring ← number w8
  _ ← Test (nat_lt ring (length rings)) (fault Reference place)
  place ← Place
  buffer ← number w16
  _ ← Test (is_there (buffer_len rings ring buffer)) (fault Reference place)
  place ← Place
  offset ← number w32
  len ← number w32
  _ ← Test (is_within (buffer_len rings ring buffer) (offset + len)) (fault Reference place)
  bytes ← Bytes len
  Done (Fill ring buffer offset bytes)

-- a record, where so many places come before it
unfoldable pub one_record : List Ring → ℕ → Grammar Record
one_record rings used = do
  place ← Place
  kind ← number w8
  _ ← Test (nat_le 1 kind && nat_le kind 2) (fault Limit place)
  _ ← Test (kind == 1 || nat_lt used places_limit) (fault Limit place)
  Choice (kind == 1) (enter (length rings) used) (fill rings)

-- a whole trace
unfoldable pub trace : Grammar Trace
trace = do
  counts ← header
  items ← several counts.items item []
  descriptions ← several counts.descriptions (λ _. description items) []
  descriptors ← several counts.descriptors (λ _. slot counts.descriptions) []
  rings ← several counts.rings (λ _. ring counts.descriptions) []
  records ← several counts.records (λ earlier. one_record rings (places_in earlier)) []
  Done (record { version = counts.version; items = items; descriptions = descriptions; descriptors = descriptors; rings = rings; records = records })

-- how many bytes a trace has at most
abbrev pub longest : ℕ
longest = 1073741824

-- The bytes spell the trace.
abbrev pub SpellsTrace : List ℕ → Trace → Type 0
SpellsTrace bytes t = (length bytes ≤ longest) × Spells trace 0 bytes t

-- Some bytes spell the trace.
abbrev pub IsSpelled : Trace → Type 0
IsSpelled t = (bytes : List ℕ) × SpellsTrace bytes t

-- The front of the bytes spells a trace, and more follows.
abbrev pub HasMore : List ℕ → TraceFault → Type 0
HasMore bytes f =
    (front rest : List ℕ) × (t : Trace) × (bytes ≡ front ++ rest) × Spells trace 0 front t × (0 < length rest) × (f ≡ fault Trailing (length front))

-- The bytes have the fault.
abbrev pub HasFault : List ℕ → TraceFault → Type 0
HasFault bytes f =
    ((longest < length bytes) × (f ≡ fault Limit longest))
    ⊎ ((length bytes ≤ longest) × (Breaks trace 0 bytes f ⊎ HasMore bytes f))

-- The bytes have the fault, and spell no trace.
pub record IsRefusal (bytes : List ℕ) (f : TraceFault) : Type 0 where
  pub broken : HasFault bytes f
  pub no_trace : (t : Trace) → SpellsTrace bytes t → ⊥

-- bytes spell one trace at most
abbrev pub SpellsOneTrace : Type 0
SpellsOneTrace = (bytes : List ℕ) (s t : Trace) → SpellsTrace bytes s → SpellsTrace bytes t → s ≡ t

-- bytes with a fault spell none
abbrev pub FaultySpellsNone : Type 0
FaultySpellsNone = (bytes : List ℕ) (f : TraceFault) (t : Trace) → HasFault bytes f → SpellsTrace bytes t → ⊥

-- bytes have one fault at most
abbrev pub HasOneFault : Type 0
HasOneFault = (bytes : List ℕ) (f g : TraceFault) → HasFault bytes f → HasFault bytes g → f ≡ g
