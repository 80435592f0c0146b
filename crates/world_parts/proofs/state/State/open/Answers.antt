use Rattle.world_parts.proofs.state.State.open.Goals as goal

pub add_descriptions-requires-clause-count : goal.add_descriptions-requires-clause-count
add_descriptions-requires-clause-count c = rw c.as_slice.ensures c.requires.trace.sizes.descriptions

pub add_descriptors-requires-clause-count : goal.add_descriptors-requires-clause-count
add_descriptors-requires-clause-count c = rw c.as_slice-2.ensures c.requires.trace.sizes.descriptors
