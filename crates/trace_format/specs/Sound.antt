-- A law: what the parts of each trace that some bytes spell say of one another.
use Rattle.std.specs.Prelude.{◌≡◌, ◌≤◌, true, List, ◌∷◌, ◌++◌, length, All}
use Rattle.trace_format.specs.Limits.{file_limit}
use Rattle.trace_format.specs.declared.trace.Access.TheVariants as access
use Rattle.trace_format.specs.declared.trace.Description.{Description}
use Rattle.trace_format.specs.declared.trace.Item.{Item}
use Rattle.trace_format.specs.declared.trace.Node.{Node}
use Rattle.trace_format.specs.declared.trace.Node.TheVariants.{Directory, File, OtherName}
use Rattle.trace_format.specs.declared.trace.Ring.{Ring}
use Rattle.trace_format.specs.declared.trace.Trace.{Trace}
use Rattle.trace_format.specs.Paths.{is_file}
use Rattle.trace_format.specs.Text.{is_item, is_node, is_directory_number, IsSpelled}

-- a file has at least the stored bytes and at most 2^40; another name is one of an earlier file
abbrev pub NodeFits : List Item → Node → Type 0
NodeFits earlier Directory = Unit {0}
NodeFits earlier (File size stored) = (length stored ≤ size) × (size ≤ file_limit)
NodeFits earlier (OtherName number) = is_item is_file earlier number ≡ true

-- a description is one of the root, of a directory or of a file, and a directory is only read
pub record DescriptionFits (items : List Item) (d : Description) : Type 0 where
  pub leads : is_node items d.node ≡ true
  pub is_read : is_directory_number items d.node ≡ true → d.access ≡ access.Read

-- the parts of a trace lead to one another
pub record IsSoundTrace (t : Trace) : Type 0 where
  -- what each item makes fits the items before it
  pub nodes : (before after : List Item) (x : Item) → t.items ≡ before ++ x ∷ after → NodeFits before x.node
  -- each description leads to an item or the root
  pub descriptions : All (DescriptionFits t.items) t.descriptions
  -- each slot, and each descriptor, is 0 or the number of a description and 1
  pub slots : All (λ (r : Ring). All (λ n. n ≤ length t.descriptions) r.slots) t.rings
  pub descriptors : All (λ n. n ≤ length t.descriptions) t.descriptors

-- a trace that is spelled is one of this kind
abbrev pub SpelledSound : Type 0
SpelledSound = (t : Trace) → IsSpelled t → IsSoundTrace t
