use Rattle.world_parts.proofs.Copies.{on_ok_two}
use Rattle.world_parts.proofs.CopiesOfNodes.{count_copied, size_copied}
use Rattle.world_parts.proofs.Cuts.{IsOther, other_copied}
use Rattle.world_parts.proofs.state.State.copy_use.Goals as goal

pub returns-in_default : goal.returns-in_default
returns-in_default c =
    let other : IsOther c.args.used.now.item = record {
      no_chain = c.in_default.not-Chain;
      no_slot = c.in_default.not-Slot;
      no_descriptor = c.in_default.not-Descriptor;
      no_description = c.in_default.not-Description;
      no_position = c.in_default.not-Position;
      no_size = c.in_default.not-Size;
      no_bytes = c.in_default.not-Bytes;
      no_name = c.in_default.not-Name;
      no_names = c.in_default.not-Names;
      no_buffer = c.in_default.not-Buffer;
      no_descriptors = c.in_default.not-AllDescriptors;
    } in
    other_copied c.args.from.now c.args.self.now c.args.used.now.item c.args.used.now.written c.requires.shadow other c.requires.narrow

pub returns-in-Size : goal.returns-in-Size
returns-in-Size c =
    rw c.in-Size.is (on_ok_two c.copy_node.result (size_copied c.args.from.now c.args.self.now c.copy_node.new.self c.in-Size.node) c.copy_node.ensures.nearer c.copy_node.ensures.node)

pub returns-in-Names : goal.returns-in-Names
returns-in-Names c =
    rw c.in-Names.is
    (on_ok_two c.copy_node-in-Names.result (count_copied c.args.from.now c.args.self.now c.copy_node-in-Names.new.self c.in-Names.directory) c.copy_node-in-Names.ensures.nearer c.copy_node-in-Names.ensures.node)
