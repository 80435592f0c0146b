-- The model: the text of a trace, line by line.
use Rattle.std.specs.Prelude.{ℕ, ◌+◌, ◌-◌, ◌==◌, nat_le, Bool, List, [], ◌∷◌, ◌++◌, codes, length, if◌then◌else◌, Some, None}
use Rattle.std.specs.List.{flat_map, slice_get}
use Rattle.std.specs.Fmt.{decimal}
use Rattle.trace_format.specs.Versions.{rules}
use Rattle.trace_format.specs.Counts.{step_count}
use Rattle.trace_format.specs.declared.trace.Node.{Node}
use Rattle.trace_format.specs.declared.trace.Node.TheVariants.{Directory, File, OtherName}
use Rattle.trace_format.specs.declared.trace.Item.{Item}
use Rattle.trace_format.specs.declared.trace.Access.{Access}
use Rattle.trace_format.specs.declared.trace.Access.TheVariants as access
use Rattle.trace_format.specs.declared.trace.Description.{Description}
use Rattle.trace_format.specs.declared.trace.Buffer.{Buffer}
use Rattle.trace_format.specs.declared.trace.Ring.{Ring}
use Rattle.trace_format.specs.declared.trace.Record.{Record}
use Rattle.trace_format.specs.declared.trace.Record.TheVariants.{Enter, Fill}
use Rattle.trace_format.specs.declared.trace.Trace.{Trace}
use Rattle.text_forms.specs.Numbers.{hexadecimal}
use Rattle.text_forms.specs.Strings.{path_text}
use Rattle.trace_text.specs.Fields.{unless, field, decimal_word}
use Rattle.trace_text.specs.Entry.{data_text, place_comment, entry_line}
use Rattle.trace_text.specs.declared.look.Look.{Look}

-- The text of several values by their numbers, from one on.
abbrev pub numbered : {X : Type 0} → (ℕ → X → List ℕ) → ℕ → List X → List ℕ
numbered f n [] = []
numbered f n (x ∷ xs) = f n x ++ numbered f (n + 1) xs

-- An item by its number: its path where that is not long, else the number behind @. 0 is the root.
abbrev pub path_or_number : ℕ → List ℕ → List ℕ
path_or_number n path = if nat_le (length path) 64 then path_text path else codes "@" ++ decimal n

abbrev pub node_by : {X : Type 0} → (X → List ℕ) → List X → ℕ → List ℕ
node_by path items n =
    if n == 0 then codes "/" else (elim (slice_get items (n - 1)) [ None ↦ codes "@" ++ decimal n | Some i ↦ path_or_number n (path i) ])

abbrev pub node_text : List Item → ℕ → List ℕ
node_text items n = node_by (λ i. i.path) items n

-- What an initial name leads to: the word of its line, and what follows its path.
abbrev pub item_kind : Node → List ℕ
item_kind Directory = codes "dir "
item_kind (File size stored) = codes "file "
item_kind (OtherName number) = codes "name "

abbrev pub file_words : Look → ℕ → List ℕ → List ℕ
file_words look size stored = unless (length stored) size (field (codes "size") (decimal size)) ++ data_text look (codes " \\\n  ") stored

abbrev pub node_words : Look → List Item → Node → List ℕ
node_words look items Directory = []
node_words look items (File size stored) = file_words look size stored
node_words look items (OtherName number) = field (codes "of") (node_text items number)

-- An initial name.
abbrev pub item_line : Look → List Item → Item → List ℕ
item_line look items i = item_kind i.node ++ path_text i.path ++ node_words look items i.node ++ codes "\n"

-- What a description lets its holder do.
abbrev pub access_text : Access → Bool → List ℕ
access_text access.Read append = codes " O_RDONLY" ++ (if append then codes "|O_APPEND" else [])
access_text access.Write append = codes " O_WRONLY" ++ (if append then codes "|O_APPEND" else [])
access_text access.Both append = codes " O_RDWR" ++ (if append then codes "|O_APPEND" else [])

-- An open file description, by its number; and the text of its node.
abbrev pub opened : ℕ → List ℕ → Description → List ℕ
opened n node d = codes "open " ++ decimal n ++ codes " " ++ node ++ access_text d.access d.append ++ decimal_word (codes "pos") d.position ++ codes "\n"

abbrev pub description_line : List Item → ℕ → Description → List ℕ
description_line items n d = opened n (node_text items d.node) d

-- So many empty slots.
abbrev pub empty_slots : ℕ → List ℕ
empty_slots n = if n == 0 then [] else if n == 1 then codes " -" else codes " -*" ++ decimal n

-- Slots, behind so many empty ones.
abbrev pub slots_from : ℕ → List ℕ → List ℕ
slots_from empty [] = empty_slots empty
slots_from empty (s ∷ ss) = if s == 0 then slots_from (empty + 1) ss else (empty_slots empty ++ codes " " ++ decimal (s - 1)) ++ slots_from 0 ss

-- The line of slots, where there are some.
abbrev pub slots_line : List ℕ → List ℕ → List ℕ
slots_line word [] = []
slots_line word (s ∷ ss) = word ++ slots_from 0 (s ∷ ss) ++ codes "\n"

-- A registered buffer, by its number.
abbrev pub buffer_line : ℕ → Buffer → List ℕ
buffer_line n b = codes "  buffer " ++ decimal n ++ codes " " ++ hexadecimal b.address ++ codes " " ++ decimal b.len ++ codes "\n"

-- A ring, by its number.
abbrev pub ring_lines : ℕ → Ring → List ℕ
ring_lines n r = codes "ring " ++ decimal n ++ codes "\n" ++ slots_line (codes "  slots") r.slots ++ numbered buffer_line 0 r.buffers

-- The line that begins what a ring was handed, and the words that begin a fill.
abbrev pub enter_line : ℕ → List ℕ
enter_line ring = codes "enter " ++ decimal ring ++ codes "\n"

abbrev pub fill_words : ℕ → ℕ → ℕ → List ℕ
fill_words ring buffer offset = codes "fill " ++ decimal ring ++ field (codes "buffer") (decimal buffer) ++ decimal_word (codes "at") offset

-- What was recorded in one step of the recording, from a place on.
abbrev pub record_lines : Look → ℕ → Record → List ℕ
record_lines look place (Enter ring entries) = enter_line ring ++ numbered (entry_line look) place entries
record_lines look place (Fill ring buffer offset bytes) =
    place_comment look [] place ++ fill_words ring buffer offset ++ data_text look (codes " \\\n  ") bytes ++ codes "\n"

-- All records, from a place on.
abbrev pub records_from : Look → ℕ → List Record → List ℕ
records_from look place [] = []
records_from look place (r ∷ rs) = record_lines look place r ++ records_from look (place + step_count r) rs

-- The text of a trace.
unfoldable pub text_of : Look → Trace → List ℕ
text_of look t =
    codes "uring-trace " ++ decimal (rules t.version).number ++ codes "\n" ++ flat_map (item_line look t.items) t.items
    ++ numbered (description_line t.items) 0 t.descriptions ++ slots_line (codes "descriptors") t.descriptors ++ numbered ring_lines 0 t.rings
    ++ records_from look 0 t.records
