use denote.Exit.{no}
use denote.Param.{param}
use denote.Param.Send.{IsSync, param_send, arg_send, sendable}
use Rattle.std.proofs.Crossing.{crosses}
use Rattle.replay_core.proofs.Crossing.{seat_send, taken_send}
use Rattle.replay_core.proofs.round.+fan_out.Goals as goal

pub spawn_with-requires-send-F : goal.spawn_with-requires-send-F
spawn_with-requires-send-F g t c κs within =
    let shared : IsSync (param 2 g.row.G) = search (crosses, sendable) depth 20 in
    param_send 2 _ (arg_send _ no _ (taken_send _ g.row.G _ _ _ shared))

pub spawn_with-requires-send-T : goal.spawn_with-requires-send-T
spawn_with-requires-send-T g t c κs within = param_send 3 _ (arg_send _ no _ seat_send)
