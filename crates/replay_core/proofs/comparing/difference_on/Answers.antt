use denote.Exit.{no}
use denote.Param.Send.{IsSync, param_sync, arg_sync, sendable}
use Rattle.std.proofs.Crossing.{crosses}
use Rattle.std.specs.contracts.alloc.Global as Global
use Rattle.std.specs.contracts.impls.GlobalAllocator.TheImpl.{ghosts}
use Rattle.std.specs.contracts.vec.Vec as Vec
use denote.Builtin.{u64}
use Rattle.op_meaning.specs.contracts.replies.Replies as Replies
use Rattle.op_meaning.proofs.Crossing.{borrowed_sync, replies_sync}
use Rattle.replay_core.proofs.comparing.difference_on.Goals as goal

pub map_indices-requires-sync-F : goal.map_indices-requires-sync-F
map_indices-requires-sync-F g c κs within =
    let ends : IsSync (Vec.the_row u64 Global.the_row ghosts) = search (crosses, sendable) depth 20 in
    param_sync 3 _ (arg_sync _ no _ (borrowed_sync _ _ _ _ Replies.the_row Replies.the_row (Vec.the_row u64 Global.the_row ghosts) tt tt tt replies_sync replies_sync ends))
