-- The model: the form of an output, by what is asked for.
use Rattle.json_lines.specs.declared.form.Form.{Form}
use Rattle.json_lines.specs.declared.form.Form.TheVariants.{Text}
use Rattle.program_words.specs.declared.words.Mode.{Mode}
use Rattle.program_words.specs.declared.words.Mode.TheVariants.{Compare}

-- The line of a comparison is text in any form.
abbrev pub form_in : Mode → Form → Form
form_in (Compare workers window eager) form = Text
form_in mode form = form
