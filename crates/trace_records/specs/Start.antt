-- The model: the text of a trace before its records: header, items, descriptions and the table of descriptors.
use Rattle.std.specs.Prelude.{ℕ, suc, ◌+◌, ◌-◌, ◌==◌, ◌^◌, Bool, true, false, ◌&&◌, ◌||◌, not, List, [], length, codes, None, Some, nat_le}
use Rattle.std.specs.List.{list_any, slice_get}
use Rattle.std.specs.Str.{bytes_eq}
use Rattle.std.specs.Int.{w8, w16, w32, w64}
use Rattle.trace_format.specs.Grammar.{Grammar, Done, Bytes, Place, Test, Choice, ◌>>=◌, fault, number, number_to, several}
use Rattle.trace_format.specs.Limits.{file_limit}
use Rattle.trace_format.specs.Paths.{is_path, parent_of}
use Rattle.trace_format.specs.Text.{access_of}
use Rattle.trace_format.specs.declared.fault.Kind.TheVariants.{Magic, Version, Limit, Path, NoParent, Exists, Reference}
use Rattle.trace_format.specs.declared.trace.Description.{Description}
use Rattle.trace_records.specs.Fields.{number_in, number_of, end_of}
use Rattle.trace_records.specs.declared.start.Range.{Range}
use Rattle.trace_records.specs.declared.start.Node.{Node}
use Rattle.trace_records.specs.declared.start.Node.TheVariants.{Directory, File, OtherName}
use Rattle.trace_records.specs.declared.start.Item.{Item}
use Rattle.trace_records.specs.declared.start.Descriptor.{Descriptor}
use Rattle.trace_records.specs.declared.start.Start.{Start}

-- how many of each there are, and the size of the table of descriptors
pub record Counts : Type 0 where
  pub items : ℕ
  pub descriptions : ℕ
  pub table_size : ℕ
  pub descriptors : ℕ

-- the first 32 bytes
unfoldable pub header : Grammar Counts
header = do
  magic ← Bytes 8
  _ ← Test (bytes_eq magic (codes "URINGTRC")) (fault Magic 0)
  place ← Place
  version ← number w32
  _ ← Test (version == 3) (fault Version place)
  items ← number_to w32 16777216
  descriptions ← number_to w32 1048576
  table_size ← number_to w32 1048576
  descriptors ← number_to w32 table_size
  _ ← number_to w32 0
  Done (record { items = items; descriptions = descriptions; table_size = table_size; descriptors = descriptors })

-- where the bytes of a range end
abbrev pub range_end : Range → ℕ
range_end r = r.offset + length r.bytes

-- bytes of a file of this size, behind those of the ranges before
unfoldable pub range : ℕ → List Range → Grammar Range
range size earlier = do
  offset ← number_in w64 (end_of range_end 0 earlier) (size + 1)
  place ← Place
  len ← number w32
  _ ← Test (nat_le 1 len && nat_le (offset + len) size) (fault Limit place)
  bytes ← Bytes len
  Done (record { offset = offset; bytes = bytes })

-- a size of at most 2^40, and the ranges that are not zeros
unfoldable pub file : Grammar Node
file = do
  size ← number_to w64 file_limit
  count ← number w32
  ranges ← several count (range size) []
  Done (File size ranges)

abbrev pub is_directory : Node → Bool
is_directory Directory = true
is_directory _ = false

abbrev pub is_file : Node → Bool
is_file (File _ _) = true
is_file _ = false

-- the item of a number from 1 on passes the test
abbrev pub is_item : (Node → Bool) → List Item → ℕ → Bool
is_item test items number = nat_le 1 number && (elim (slice_get items (number - 1)) [ None ↦ false | Some i ↦ test i.node ])

-- another name of an earlier file
unfoldable pub other_name : List Item → Grammar Node
other_name earlier = do
  place ← Place
  item ← number w32
  _ ← Test (is_item is_file earlier item) (fault Reference place)
  Done (OtherName item)

-- what a name of this kind leads to
abbrev pub node : ℕ → List Item → Grammar Node
node kind earlier = Choice (kind == 1) (Done Directory) (Choice (kind == 2) file (other_name earlier))

-- the name is there
abbrev pub has_name : List Item → List ℕ → Bool
has_name earlier path = list_any (λ i. bytes_eq i.path path) earlier

abbrev pub is_directory_at : List ℕ → Item → Bool
is_directory_at path i = is_directory i.node && bytes_eq i.path path

-- the directory is there, the root with the empty path too
abbrev pub has_directory : List Item → List ℕ → Bool
has_directory earlier path = length path == 0 || list_any (is_directory_at path) earlier

-- a new name in a directory that is there
unfoldable pub new_path : List Item → Grammar (List ℕ)
new_path earlier = do
  len ← number w16
  place ← Place
  path ← Bytes len
  _ ← Test (is_path path) (fault Path place)
  _ ← Test (has_directory earlier (parent_of path)) (fault NoParent place)
  _ ← Test (not (has_name earlier path)) (fault Exists place)
  Done path

-- an initial name, after those before it; symbolic links, kind 4, are not served
unfoldable pub item : List Item → Grammar Item
item earlier = do
  place ← Place
  kind ← number w8
  _ ← Test (nat_le 1 kind && nat_le kind 3) (fault Limit place)
  path ← new_path earlier
  made ← node kind earlier
  Done (record { path = path; node = made })

-- a directory, the root among them, or a file
abbrev pub is_node : List Item → ℕ → Bool
is_node items number = number == 0 || is_item (λ n. is_directory n || is_file n) items number

-- a directory, the root among them
abbrev pub is_directory_number : List Item → ℕ → Bool
is_directory_number items number = number == 0 || is_item is_directory items number

-- an open file description; that of a directory has access 0
unfoldable pub description : List Item → Grammar Description
description items = do
  place ← Place
  number ← number w32
  _ ← Test (is_node items number) (fault Reference place)
  place ← Place
  n ← number_to w8 2
  _ ← Test (n == 0 || not (is_directory_number items number)) (fault Limit place)
  append ← number_to w8 1
  position ← number_to w64 (2 ^ 63 - 1)
  Done (record { node = number; access = access_of n; append = (append == 1); position = position })

-- the number behind that of a full entry
abbrev pub descriptor_end : Descriptor → ℕ
descriptor_end d = suc d.number

-- a full entry of a table of this size, above those before it, and its description
unfoldable pub descriptor : ℕ → ℕ → List Descriptor → Grammar Descriptor
descriptor table_size descriptions earlier = do
  number ← number_in w32 (end_of descriptor_end 0 earlier) table_size
  description ← number_of w32 descriptions
  Done (record { number = number; description = description })

-- all that stands before the records
unfoldable pub start : Grammar Start
start = do
  counts ← header
  items ← several counts.items item []
  descriptions ← several counts.descriptions (λ _. description items) []
  descriptors ← several counts.descriptors (descriptor counts.table_size counts.descriptions) []
  Done (record { items = items; descriptions = descriptions; table_size = counts.table_size; descriptors = descriptors })
