use Rattle.trace_text.specs.Names.{entry_flag_name, entry_flag_names}
use Rattle.trace_text.proofs.names.entry_flag_name.Goals as goal

pub returns : goal.returns
unfolding entry_flag_name entry_flag_names
returns c = c.name_at.ensures
