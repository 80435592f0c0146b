-- The model: the lines before the records: items, descriptions and the table of descriptors.
use Rattle.std.specs.Prelude.{ℕ, ◌-◌, ◌^◌, min, List, [], ◌∷◌, ◌++◌, length, map, Option, None, Some, Result, Ok, codes, unwrap_or, option_map, if◌then◌else◌}
use Rattle.std.specs.List.{flat_map, position_from, slice_get}
use Rattle.std.specs.Str.{bytes_eq}
use Rattle.trace_format.specs.declared.trace.Description.{Description}
use Rattle.trace_format.specs.Spelling.{description_bytes}
use Rattle.trace_records.specs.declared.record.FullSlot.{FullSlot}
use Rattle.trace_records.specs.declared.record.Holder.{Holder}
use Rattle.trace_records.specs.declared.record.Holder.TheVariants as holder
use Rattle.trace_records.specs.declared.start.Descriptor.{Descriptor}
use Rattle.trace_records.specs.declared.start.Item.{Item}
use Rattle.trace_records.specs.declared.start.Node.{Node}
use Rattle.trace_records.specs.declared.start.Node.TheVariants as node
use Rattle.trace_records.specs.declared.start.Range.{Range}
use Rattle.trace_records.specs.Spelling.{descriptor_bytes, item_bytes}
use Rattle.trace_records.specs.Start.{range_end}
use Rattle.text_words.specs.declared.fault.Fault.{Fault}
use Rattle.text_words.specs.declared.fault.Reason.TheVariants as why
use Rattle.text_words.specs.Read.{Rest, ◌>>=◌, fault, known, repeated}
use Rattle.text_words.specs.Strings.{is_string, more_string}
use Rattle.text_words.specs.Words.{behind_first, behind_next, first_word, is_at_end, line_end, next_word, value_at}
use Rattle.text_trace.specs.declared.lines.ItemKind.{ItemKind}
use Rattle.text_trace.specs.declared.lines.ItemKind.TheVariants as kind
use Rattle.text_trace.specs.Lines.{description_of, keyed, kind_of, next_path, node_at}
use Rattle.text_trace.specs.Parts.{begins, room_for}
use Rattle.text_records.specs.declared.pieces.Piece.{Piece}
use Rattle.text_records.specs.declared.slots.Table.TheVariants as table
use Rattle.text_records.specs.Pieces.{with_piece}
use Rattle.text_records.specs.Slots.{slots_line}

-- one string more, where a string follows
abbrev pub more_bytes : List ℕ × Rest → Option (Result (List ℕ × Rest) Fault)
more_bytes s = if is_string s.1 then Some (more_string s.0 s.1) else None

-- all strings that follow
unfoldable pub all_bytes : List ℕ → Rest → Result (List ℕ × Rest) Fault
all_bytes bytes r = repeated (length r.text) more_bytes (bytes, r)

-- one range more: its offset, 0 where none stands there, and its strings, at least one
unfoldable pub one_range : List Range → Rest → Result (List Range × Rest) Fault
one_range ranges r = do
  offset ← keyed 64 (codes "at") r
  first ← more_string [] offset.1
  bytes ← all_bytes first.0 first.1
  Ok (ranges ++ record { offset = unwrap_or offset.0 0; bytes = bytes.0 } ∷ [], bytes.1)

-- the same, up to the end of the line
abbrev pub more_ranges : List Range × Rest → Option (Result (List Range × Rest) Fault)
more_ranges s = if is_at_end s.1 then None else Some (one_range s.0 s.1)

-- all ranges of a file
unfoldable pub ranges_of : Rest → Result (List Range × Rest) Fault
ranges_of r = repeated (length r.text) more_ranges ([], r)

-- where the last range ends, as a number of 64 bits
abbrev pub end_of : List Range → ℕ
end_of ranges = elim (slice_get ranges (length ranges - 1)) [ None ↦ 0 | Some r ↦ min (range_end r) (2 ^ 64 - 1) ]

-- what a file has: its size is the end of the last range where none stands there
unfoldable pub file_of : Rest → Result (Node × Rest) Fault
file_of r = do
  size ← keyed 64 (codes "size") r
  ranges ← ranges_of size.1
  rest ← line_end ranges.1
  Ok (node.File (unwrap_or size.0 (end_of ranges.0)) ranges.0, rest)

-- the file that another name leads to
unfoldable pub other_of : (List ℕ → Option ℕ) → Rest → Result (Node × Rest) Fault
other_of names r = do
  value ← known (value_at (next_word r) (codes "of")) (fault why.Of (next_word r).left)
  item ← node_at names value
  rest ← line_end (behind_next r)
  Ok (node.OtherName item, rest)

-- a directory has nothing
unfoldable pub directory_of : Rest → Result (Node × Rest) Fault
directory_of r = do
  rest ← line_end r
  Ok (node.Directory, rest)

-- what the line of an item has behind its path, by its first word
abbrev pub node_of : (List ℕ → Option ℕ) → ItemKind → Rest → Result (Node × Rest) Fault
node_of names kind.Directory r = directory_of r
node_of names kind.File r = file_of r
node_of names kind.Name r = other_of names r

-- the number of the first item that has the path, where items are numbered from 1
abbrev pub number_of : List Item → List ℕ → Option ℕ
number_of items path = position_from (λ i. bytes_eq i.path path) 1 items

-- Below, what is read has three parts: the values, which line made which bytes, and what is left to read.

-- an item behind others, made by the next line, and what is left behind that
abbrev pub with_item : List Item × List Piece × Rest → Item → Rest → List Item × List Piece × Rest
with_item s item rest = (s.0 ++ item ∷ [], with_piece s.1 (length (item_bytes item)) (first_word s.2).left, rest)

-- one item more
unfoldable pub one_item : List Item × List Piece × Rest → ItemKind → Result (List Item × List Piece × Rest) Fault
one_item s kind = do
  _ ← room_for 16777216 (length s.0) s.2
  path ← next_path (behind_first s.2)
  made ← node_of (number_of s.0) kind path.1
  Ok (with_item s (record { path = path.0; node = made.0 }) made.1)

abbrev pub more_items : List Item × List Piece × Rest → Option (Result (List Item × List Piece × Rest) Fault)
more_items s = option_map (one_item s) (kind_of (first_word s.2).bytes)

-- all items
unfoldable pub items_of : List Piece → Rest → Result (List Item × List Piece × Rest) Fault
items_of pieces r = repeated (length r.text) more_items ([], pieces, r)

-- one description more
unfoldable pub one_description : (List ℕ → Option ℕ) → List Description × List Piece × Rest → Result (List Description × List Piece × Rest) Fault
one_description names s = do
  _ ← room_for 1048576 (length s.0) s.2
  x ← description_of names (length s.0) s.2
  Ok (s.0 ++ x.0 ∷ [], with_piece s.1 (length (description_bytes x.0)) (first_word s.2).left, x.1)

abbrev pub more_descriptions : (List ℕ → Option ℕ) → List Description × List Piece × Rest → Option (Result (List Description × List Piece × Rest) Fault)
more_descriptions names s = if begins (codes "open") s.2 then Some (one_description names s) else None

-- all descriptions
unfoldable pub descriptions_of : (List ℕ → Option ℕ) → List Piece → Rest → Result (List Description × List Piece × Rest) Fault
descriptions_of names pieces r = repeated (length r.text) (more_descriptions names) ([], pieces, r)

-- a full entry of the table, which has a description
abbrev pub number_held : Holder → ℕ
number_held (holder.Slot ring number) = number
number_held (holder.Descriptor number) = number
number_held (holder.Description number) = number

abbrev pub descriptor_of : FullSlot → Descriptor
descriptor_of s = record { number = s.number; description = number_held s.holds }

-- the table of a line
abbrev pub with_table : List Piece → Rest → ℕ → List Descriptor → Rest → ℕ × List Descriptor × List Piece × Rest
with_table pieces r size full rest = (size, full, with_piece pieces (length (flat_map descriptor_bytes full)) (first_word r).left, rest)

-- the table of descriptors, none where there is no such line: its size, and its full entries
unfoldable pub table_of : List Piece → Rest → Result (ℕ × List Descriptor × List Piece × Rest) Fault
table_of pieces r =
    if begins (codes "descriptors") r then (do
      x ← slots_line table.Descriptors r
      Ok (with_table pieces r x.0.0 (map descriptor_of x.0.1) x.1))
    else Ok (0, [], pieces, r)
