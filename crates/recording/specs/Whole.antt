-- The model: the recording of a trace of version 1 or 2.
use Rattle.std.specs.Prelude.{ℕ, suc, List, [], ◌∷◌, map, false}
use Rattle.trace_format.specs.Steps as narrow
use Rattle.trace_format.specs.declared.trace.Trace.{Trace}
use Rattle.trace_format.specs.declared.trace.Item as two_item
use Rattle.trace_format.specs.declared.trace.Node as two_node
use Rattle.trace_format.specs.declared.trace.Node.TheVariants as two
use Rattle.trace_format.specs.declared.trace.Ring as two_ring
use Rattle.trace_records.specs.declared.start.Item.{Item}
use Rattle.trace_records.specs.declared.start.Node.{Node}
use Rattle.trace_records.specs.declared.start.Node.TheVariants.{Directory, File, OtherName}
use Rattle.recording.specs.declared.recording.Recording.{Recording}
use Rattle.recording.specs.declared.recording.Ring.{Ring}
use Rattle.recording.specs.Kept.{widened}

-- what an initial name leads to; the stored bytes of a file are its first
abbrev pub node_of : two_node.Node → Node
node_of two.Directory = Directory
node_of (two.File size stored) = File size (record { offset = 0; bytes = stored } ∷ [])
node_of (two.OtherName number) = OtherName number

abbrev pub item_of : two_item.Item → Item
item_of i = record { path = i.path; node = node_of i.node }

-- a ring that is there from the start, with a queue of its own
abbrev pub ring_of : ℕ → two_ring.Ring → Ring
ring_of n r = record { slots = r.slots; spare = 0; buffers = r.buffers; queue = n; ended = false }

abbrev pub rings_from : ℕ → List two_ring.Ring → List Ring
rings_from n [] = []
rings_from n (r ∷ rs) = ring_of n r ∷ rings_from (suc n) rs

abbrev pub of_whole : Trace → Recording
of_whole t = record {
  version = t.version;
  in_place_order = false;
  items = map item_of t.items;
  descriptions = t.descriptions;
  descriptors = t.descriptors;
  rings = rings_from 0 t.rings;
  steps = map widened (narrow.steps_from 0 t.records);
}
