-- A reply may go to another thread, and threads may share a list of replies, since they may what was read. A closure that borrows
-- three values may be shared where these may.
use mathlib.Core.List.{List, [], ◌∷◌}
use denote.Builtin.{One}
use denote.Param.Send.{IsSend, IsSync, recorded_send, recorded_sync, struct_send, struct_sync, shr_sync, sendable}
use denote.RattleType.{RattleType}
use denote.Ref.{NamedLft}
use denote.Struct.Declared as Struct
use denote.Struct.Field.{shr_ref_field}
use denote.Struct.Tuple.{TupleAt, type_at, field_at}
use mir.Syntax.{Sym}
use Rattle.std.proofs.Crossing.{crosses}
use Rattle.extent_bytes.proofs.Crossing.{read_bytes_send, read_bytes_sync}
use Rattle.op_meaning.specs.contracts.replies.Replies as Replies
use Rattle.op_meaning.specs.contracts.replies.Replies.TheInside as Inside
use Rattle.op_meaning.specs.contracts.reply.Reply as Reply

pub reply_send : IsSend Reply.the_row
reply_send = recorded_send Reply.the_field.row _ _ Reply.the_type.to_one (struct_send (Struct.shape Reply.the_type)
    (search (crosses, sendable) depth 20, (read_bytes_send, (search (crosses, sendable) depth 20, tt))))

inside_sync : IsSync Inside.the_row
inside_sync = recorded_sync Inside.the_field.row _ _ Inside.the_type.to_one (struct_sync (Struct.shape Inside.the_type)
    (search (crosses, sendable) depth 20, (search (crosses, sendable) depth 20, (search (read_bytes_sync, crosses, sendable) depth 20, tt))))

pub replies_sync : IsSync Replies.the_row
replies_sync = search (inside_sync, crosses, sendable) depth 20

module _ (ν : Sym) (ℓ ℓ' ℓ'' : NamedLft) (A B C : RattleType) (u : One A.mir) (v : One B.mir) (w : One C.mir) where
  abbrev borrowed : List RattleType
  borrowed = (shr_ref_field ℓ A u).row ∷ (shr_ref_field ℓ' B v).row ∷ (shr_ref_field ℓ'' C w).row ∷ []

  pub borrowed_sync : IsSync A → IsSync B → IsSync C → IsSync (TupleAt ν borrowed)
  borrowed_sync a b c = recorded_sync (field_at ν borrowed).row _ _ (type_at ν borrowed).to_one (struct_sync (Struct.shape (type_at ν borrowed)) (shr_sync _ _ _ a, (shr_sync _ _ _ b, (shr_sync _ _ _ c, tt))))
