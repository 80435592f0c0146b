use Rattle.text_laws.proofs.Strings.{strings_come_back}
use Rattle.text_laws.proofs.laws.strings_come_back.Goals as goal

pub returns : goal.returns
returns c = strings_come_back
