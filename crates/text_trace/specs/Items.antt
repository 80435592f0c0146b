-- The model: the items of a text, and their numbers by their paths.
use Rattle.std.specs.Prelude.{ℕ, List, [], ◌∷◌, ◌++◌, length, Option, Result, Ok, option_map}
use Rattle.std.specs.List.{position_from}
use Rattle.std.specs.Str.{bytes_eq}
use Rattle.trace_format.specs.declared.trace.Item.{Item}
use Rattle.text_words.specs.declared.fault.Fault.{Fault}
use Rattle.text_words.specs.Read.{Rest, ◌>>=◌, repeated}
use Rattle.text_words.specs.Words.{behind_first, first_word}
use Rattle.text_trace.specs.declared.lines.ItemKind.{ItemKind}
use Rattle.text_trace.specs.Lines.{kind_of, next_path, node_of}
use Rattle.text_trace.specs.Parts.{room_for, with_line}

-- the number of the first item that has the path, where items are numbered from 1
abbrev pub number_of : List Item → List ℕ → Option ℕ
number_of items path = position_from (λ i. bytes_eq i.path path) 1 items

-- one item more
unfoldable pub one_item : List Item × List ℕ × Rest → ItemKind → Result (List Item × List ℕ × Rest) Fault
one_item s kind = do
  _ ← room_for 65535 (length s.0) s.2
  path ← next_path (behind_first s.2)
  node ← node_of (number_of s.0) kind path.1
  Ok (s.0 ++ record { path = path.0; node = node.0 } ∷ [], with_line s.1 s.2, node.1)

abbrev pub more_items : List Item × List ℕ × Rest → Option (Result (List Item × List ℕ × Rest) Fault)
more_items s = option_map (one_item s) (kind_of (first_word s.2).bytes)

-- all items
unfoldable pub items_of : List ℕ → Rest → Result (List Item × List ℕ × Rest) Fault
items_of lines r = repeated (length r.text) more_items ([], lines, r)
