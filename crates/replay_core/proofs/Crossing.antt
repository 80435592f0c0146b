-- A run of a place, what comes of it, and a seat with such runs may go to another thread.
use mathlib.Core.List.{List, [], ◌∷◌}
use denote.RattleType.{RattleType}
use denote.Param.{param}
use denote.Param.Send.{IsSend, IsSync, recorded_send, struct_send, shr_send, sendable}
use denote.Struct.Declared.{shape}
use denote.Struct.Field.{shr_ref_field}
use denote.Struct.Tuple.{Tuple, TupleAt, type_at, field_at, tuple_type, tuple_field}
use denote.Ref.{NamedLft}
use mir.Syntax.{Sym}
use Rattle.std.proofs.Crossing.{crosses}
use Rattle.std.specs.contracts.alloc.AllocError as AllocError
use Rattle.std.specs.contracts.alloc.Global as Global
use Rattle.std.specs.contracts.result.Result as Result
use Rattle.recording.specs.contracts.recording.Recording as Recording
use Rattle.recording.proofs.recording.Recording.TheSendSync as recording
use Rattle.world_parts.specs.contracts.part.Part as Part
use Rattle.world_parts.proofs.Crossing.{part_send}
use Rattle.op_meaning.specs.contracts.reply.Reply as Reply
use Rattle.op_meaning.proofs.Crossing.{reply_send}
use Rattle.deal_desk.specs.contracts.desk.Desk as Desk
use Rattle.deal_desk.specs.contracts.desk.DeskSeat as DeskSeat
use Rattle.deal_desk.proofs.desk.Desk.TheSendSync as desk
use Rattle.deal_desk.proofs.desk.DeskSeat.TheSendSync as seat
use Rattle.replay_core.specs.contracts.run.Run as Run
use Rattle.replay_core.specs.contracts.run.RunJob.TheImpl.{ghosts}

-- a part crosses as it is proved of its type, and the role and the trace's snapshot have no memory of their own
run_send : IsSend Run.the_row
run_send = recorded_send Run.the_field.row _ _ Run.the_type.to_one (struct_send (shape Run.the_type) (part_send, (search (crosses, sendable) depth 20, (search (crosses, sendable) depth 20, tt))))

abbrev outcome : List RattleType
outcome = Reply.the_row ∷ Part.the_row ∷ []

abbrev done : RattleType
done = Result.the_row (Tuple outcome) AllocError.the_row

outcome_send : IsSend (Tuple outcome)
outcome_send = recorded_send (tuple_field outcome).row _ _ (tuple_type outcome).to_one (struct_send (shape (tuple_type outcome)) (reply_send, (part_send, tt)))

done_send : IsSend done
done_send = search (outcome_send, crosses, sendable) depth 20

pub seat_send : IsSend (DeskSeat.the_row Run.the_row done ghosts)
seat_send = seat.the_send Run.the_row done ghosts run_send done_send

desk_sync : IsSync (Desk.the_row Run.the_row done ghosts)
desk_sync = desk.the_sync Run.the_row done ghosts run_send done_send

-- what a helper's thread takes with it
module _ (ν : Sym) (G : RattleType) (ℓ ℓ' ℓ'' : NamedLft) where
  abbrev taken : List RattleType
  taken = Global.the_row ∷ (shr_ref_field ℓ (Desk.the_row Run.the_row done ghosts) tt).row ∷ DeskSeat.the_row Run.the_row done ghosts ∷ (shr_ref_field ℓ' Recording.the_row tt).row ∷ (shr_ref_field ℓ'' (param 2 G) tt).row ∷ []

  pub taken_send : IsSync (param 2 G) → IsSend (TupleAt ν taken)
  taken_send shared = recorded_send (field_at ν taken).row _ _ (type_at ν taken).to_one (struct_send (shape (type_at ν taken)) (
    (search (crosses, sendable) depth 20),
    (shr_send _ _ _ desk_sync, (seat_send, (shr_send _ _ _ recording.the_sync, (shr_send _ _ _ shared, tt)))),
  ))
