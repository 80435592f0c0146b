-- The model: recordings that a replay accepts, and that each trace gives one.
use Rattle.std.specs.Prelude.{◌≡◌, ℕ, ◌<◌, ◌≤◌, true, List, ◌∷◌, ◌++◌, length, All, Some}
use Rattle.trace_format.specs.declared.entry.Entry.{Entry}
use Rattle.trace_format.specs.declared.trace.Access.TheVariants as access
use Rattle.trace_format.specs.declared.trace.Description.{Description}
use Rattle.trace_format.specs.Limits.{file_limit}
use Rattle.trace_format.specs.Sides.{SideFits}
use Rattle.trace_format.specs.Text as whole
use Rattle.trace_format.specs.declared.trace.Trace as two
use Rattle.trace_records.specs.declared.trace.Trace as three
use Rattle.trace_records.specs.declared.start.Item.{Item}
use Rattle.trace_records.specs.declared.start.Node.{Node}
use Rattle.trace_records.specs.declared.start.Node.TheVariants.{Directory, File, OtherName}
use Rattle.trace_records.specs.declared.start.Range.{Range}
use Rattle.trace_records.specs.Start.{is_file, is_item, is_node, is_directory_number, range_end}
use Rattle.recording.specs.declared.recording.Recording.{Recording}
use Rattle.recording.specs.declared.recording.Ring.{Ring}
use Rattle.recording.specs.Limits.{places_limit, items_limit, table_limit, buffers_limit}
use Rattle.recording.specs.Rings.{slots_of}
use Rattle.recording.specs.Steps.{Step, submit, is_on_ring, places, step_at}
use Rattle.recording.specs.Whole.{of_whole}
use Rattle.recording.specs.Growing.{of_records}
use Rattle.recording.specs.Spelled as records

-- a file is at most 2^40 bytes long, and its ranges end within it; another name is one of an earlier file
abbrev pub NodeFits : List Item → Node → Type 0
NodeFits earlier Directory = Unit {0}
NodeFits earlier (File size ranges) = All (λ (r : Range). range_end r ≤ size) ranges × (size ≤ file_limit)
NodeFits earlier (OtherName number) = is_item is_file earlier number ≡ true

-- a description is one of the root, of a directory or of a file, and a directory is only read
pub record DescriptionFits (items : List Item) (d : Description) : Type 0 where
  pub leads : is_node items d.node ≡ true
  pub is_read : is_directory_number items d.node ≡ true → d.access ≡ access.Read

-- there is no more of each than its limit
pub record HasSizes (t : Recording) : Type 0 where
  pub items : length t.items ≤ items_limit
  pub descriptions : length t.descriptions ≤ table_limit
  pub descriptors : length t.descriptors ≤ table_limit
  pub rings : length t.rings ≤ table_limit
  pub slots : All (λ r. slots_of r ≤ table_limit) t.rings
  pub buffers : All (λ (r : Ring). length r.buffers ≤ buffers_limit) t.rings
  pub places : places t ≤ places_limit

-- A replay accepts it.
pub record IsAccepted (t : Recording) : Type 0 where
  pub sizes : HasSizes t
  -- what each item makes fits the items before it
  pub nodes : (before after : List Item) (x : Item) → t.items ≡ before ++ x ∷ after → NodeFits before x.node
  -- each description leads to an item or the root
  pub descriptions : All (DescriptionFits t.items) t.descriptions
  -- each slot of the start, and each descriptor, is 0 or the number of a description and 1
  pub slots : All (λ (r : Ring). All (λ n. n ≤ length t.descriptions) r.slots) t.rings
  pub descriptors : All (λ n. n ≤ length t.descriptions) t.descriptors
  -- the bytes beside each entry fit it, unless it is given
  pub fits : (k : ℕ) (s : Step) (e : Entry) → step_at t k ≡ Some s → s.action ≡ submit e → SideFits e
  -- the ring of each step is there, where what it does is done on that
  pub rings : (k : ℕ) (s : Step) → step_at t k ≡ Some s → is_on_ring s.action ≡ true → s.ring < length t.rings

-- each trace of version 1 or 2 that some bytes spell gives one
abbrev pub WholeAccepted : Type 0
WholeAccepted = (t : two.Trace) → whole.IsSpelled t → IsAccepted (of_whole t)

-- each trace of version 3 that some bytes spell gives one
abbrev pub RecordsAccepted : Type 0
RecordsAccepted = (t : three.Trace) → records.IsSpelled t → IsAccepted (of_records t)
