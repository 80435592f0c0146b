-- A view of code: files that are open, and ways to allocate.
use Rattle.std.specs.Prelude.{Option, Result, Ok, Err}
use Rattle.std.specs.Option.{option_map}
use Rattle.sqe_codec.specs.declared.errno.Errno.{Errno}
use Rattle.world_parts.specs.World.{World, opened_by}
use Rattle.op_meaning.specs.Meaning.{Handle}
use Rattle.op_meaning.specs.Meaning as model
use Rattle.op_meaning.specs.declared.handles.OpenFile.{OpenFile}
use Rattle.op_meaning.specs.declared.allocating.Allocation.{Allocation}
use Rattle.op_meaning.specs.declared.allocating.Allocation.TheVariants.{Extend, Reserve, Punch, ZeroExtend, ZeroWithin}

-- the handle that is meant, in a world
abbrev pub handle_meant : World → OpenFile → Handle
handle_meant s x = record { description = x.number; opened = opened_by s x.description }

-- the handle of what is open, if a file is
abbrev pub opened_meant : World → Option OpenFile → Option Handle
opened_meant s x = option_map (handle_meant s) x

-- the handle, or the error of the test that it fails
abbrev pub found : World → Result OpenFile Errno → Result Handle Errno
found s (Ok x) = Ok (handle_meant s x)
found s (Err e) = Err e

-- the way to allocate that is meant
abbrev pub allocation_meant : Allocation → model.Allocation
allocation_meant Extend = model.extend
allocation_meant Reserve = model.reserve
allocation_meant Punch = model.punch
allocation_meant ZeroExtend = model.zero_extend
allocation_meant ZeroWithin = model.zero_within
