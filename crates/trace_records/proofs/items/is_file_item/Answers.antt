use Rattle.std.proofs.Common.{◌∙◌, sym}
use Rattle.trace_records.specs.Start.{is_file}
use Rattle.trace_records.proofs.Numbered.{no_item, an_item}
use Rattle.trace_records.proofs.items.is_file_item.Goals as goal

pub returns-in-None : goal.returns-in-None
returns-in-None c = sym (no_item is_file c.args.items.now c.args.number c.in-None.ensures.lookup.3)

pub returns-in-Some : goal.returns-in-Some
returns-in-Some c =
    c.is_file.ensures ∙ sym (an_item is_file c.args.items.now c.args.number c.in-Some.item.now c.if-number-eq0.false c.in-Some.ensures.lookup.3.0 c.in-Some.ensures.lookup.1)
