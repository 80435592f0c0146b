use Rattle.text_laws.proofs.Entry.{entry_comes_back, entry_line_comes_back}
use Rattle.text_laws.proofs.Keys.{opcode_comes_back}
use Rattle.text_laws.proofs.laws.entries_come_back.Goals as goal

pub returns : goal.returns
returns c = record { opcode = opcode_comes_back; words = entry_comes_back; line = entry_line_comes_back }
