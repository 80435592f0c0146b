use Rattle.std.proofs.Common.{◌∙◌, sym}
use Rattle.trace_records.specs.Start.{is_directory}
use Rattle.trace_records.proofs.Numbered.{not_there, one_there}
use Rattle.trace_records.proofs.descriptions.is_directory_number.Goals as goal

pub returns-in-None : goal.returns-in-None
returns-in-None c = sym (not_there is_directory c.args.items.now c.args.number c.if-number-eq0.false c.in-None.ensures.lookup.3)

pub returns-in-Some : goal.returns-in-Some
returns-in-Some c =
    c.is_directory.ensures ∙ sym (one_there is_directory c.args.items.now c.args.number c.in-Some.item.now c.if-number-eq0.false c.in-Some.ensures.lookup.3.0 c.in-Some.ensures.lookup.1)
