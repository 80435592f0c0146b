use Rattle.trace_text.proofs.Adds.{add, add_last}
use Rattle.trace_text.proofs.fields.push_later.Goals as goal

pub returns : goal.returns
returns c = add_last _ _ _ _ _ _ (add _ _ _ _ _ (add _ _ _ _ _ (add _ _ _ _ _ c.in_ok-push_off.ensures c.in_ok-push_addr.ensures) c.in_ok-push_len.ensures) c.in_ok-push_op_flags.ensures) c.push_rest.ensures
