use Rattle.std.proofs.Common.{sym, ap, ◌∙◌}
use Rattle.trace_text.specs.Names.{flag_name, flag_names}
use Rattle.trace_text.proofs.names.flag_name.Goals as goal

pub returns-in-Open : goal.returns-in-Open
unfolding flag_name flag_names
returns-in-Open c = c.name_at.ensures ∙ ap (λ set. flag_name set c.args.bit) (sym c.in-Open.is)

pub returns-in-Transfer : goal.returns-in-Transfer
unfolding flag_name flag_names
returns-in-Transfer c = c.name_at-in-Transfer.ensures ∙ ap (λ set. flag_name set c.args.bit) (sym c.in-Transfer.is)

pub returns-in-Sync : goal.returns-in-Sync
unfolding flag_name flag_names
returns-in-Sync c = c.name_at-in-Sync.ensures ∙ ap (λ set. flag_name set c.args.bit) (sym c.in-Sync.is)

pub returns-in-Rename : goal.returns-in-Rename
unfolding flag_name flag_names
returns-in-Rename c = c.name_at-in-Rename.ensures ∙ ap (λ set. flag_name set c.args.bit) (sym c.in-Rename.is)

pub returns-in-Unlink : goal.returns-in-Unlink
unfolding flag_name flag_names
returns-in-Unlink c = c.name_at-in-Unlink.ensures ∙ ap (λ set. flag_name set c.args.bit) (sym c.in-Unlink.is)

pub returns-in-Link : goal.returns-in-Link
unfolding flag_name flag_names
returns-in-Link c = c.name_at-in-Link.ensures ∙ ap (λ set. flag_name set c.args.bit) (sym c.in-Link.is)

pub returns-in-Allocate : goal.returns-in-Allocate
unfolding flag_name flag_names
returns-in-Allocate c = c.name_at-in-Allocate.ensures ∙ ap (λ set. flag_name set c.args.bit) (sym c.in-Allocate.is)
