use Rattle.std.proofs.Common.{◌+◌, ◌≤◌, List, length, get_or, arith}
use Rattle.std.specs.Prelude.{All}
use Rattle.recording.specs.declared.recording.Ring.{Ring}
use Rattle.recording.specs.Limits.{table_limit}
use Rattle.recording.specs.Rings.{slots_of}
use Rattle.world_parts.proofs.state.State.register.Goals as goal

-- no ring lists more slots than it has
listed_slots : (rings : List Ring) → All (λ r. slots_of r ≤ table_limit) rings → All (λ (r : Ring). length r.slots ≤ table_limit) rings
listed_slots rings h k d lt =
    let all : length (get_or rings k d).slots + (get_or rings k d).spare ≤ table_limit = h k d lt in
    omega arith

pub add_all_slots-requires-clause-rings : goal.add_all_slots-requires-clause-rings
add_all_slots-requires-clause-rings c = rw c.as_slice.ensures c.requires.trace.sizes.rings

pub add_all_slots-requires-clause-slots : goal.add_all_slots-requires-clause-slots
add_all_slots-requires-clause-slots c = rw c.as_slice.ensures (listed_slots c.args.trace.now.rings c.requires.trace.sizes.slots)

pub add_all_buffers-requires-clause-rings : goal.add_all_buffers-requires-clause-rings
add_all_buffers-requires-clause-rings c = rw c.as_slice-2.ensures c.requires.trace.sizes.rings

pub add_all_buffers-requires-clause-buffers : goal.add_all_buffers-requires-clause-buffers
add_all_buffers-requires-clause-buffers c = rw c.as_slice-2.ensures c.requires.trace.sizes.buffers
