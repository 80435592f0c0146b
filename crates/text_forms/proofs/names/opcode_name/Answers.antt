use Rattle.text_forms.specs.Names.{opcode_name, opcode_names}
use Rattle.text_forms.proofs.names.opcode_name.Goals as goal

pub returns : goal.returns
unfolding opcode_name opcode_names
returns c = c.name_at.ensures
