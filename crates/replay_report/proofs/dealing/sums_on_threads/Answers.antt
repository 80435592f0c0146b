use denote.Exit.{no}
use denote.Param.Send.{IsSync, param_sync, arg_sync, sendable}
use Rattle.std.proofs.Crossing.{crosses}
use Rattle.std.specs.contracts.alloc.Global as Global
use Rattle.std.specs.contracts.impls.GlobalAllocator.TheImpl.{ghosts}
use Rattle.std.specs.contracts.vec.Vec as Vec
use Rattle.world_parts.specs.contracts.state.State as State
use Rattle.world_parts.proofs.Crossing.{state_sync}
use Rattle.op_meaning.proofs.Crossing.{borrowed_sync}
use Rattle.replay_report.specs.contracts.dealing.Share as Share
use Rattle.replay_report.proofs.dealing.sums_on_threads.Goals as goal

pub map_indices-requires-sync-F : goal.map_indices-requires-sync-F
map_indices-requires-sync-F g c κs within =
    let alloc : IsSync Global.the_row = search (crosses, sendable) depth 20 in
    let shares : IsSync (Vec.the_row Share.the_row Global.the_row ghosts) = search (crosses, sendable) depth 20 in
    param_sync 3 _ (arg_sync _ no _ (borrowed_sync _ _ _ _ Global.the_row State.the_row (Vec.the_row Share.the_row Global.the_row ghosts) tt tt tt alloc state_sync shares))
