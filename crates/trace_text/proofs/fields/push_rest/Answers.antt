use Rattle.trace_text.proofs.Adds.{add, add_last}
use Rattle.trace_text.proofs.fields.push_rest.Goals as goal

pub returns : goal.returns
returns c = add_last _ _ _ _ _ _ (add _ _ _ _ _ (add _ _ _ _ _ (add _ _ _ _ _ (add _ _ _ _ _ (add _ _ _ _ _ c.in_ok-push_number.ensures c.in_ok-push_number-2.ensures) c.in_ok-push_number-3.ensures) c.in_ok-push_number-4.ensures) c.in_ok-push_address.ensures) c.in_ok-push_address-2.ensures) c.push_user.ensures
