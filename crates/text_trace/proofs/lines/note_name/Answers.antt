use Rattle.std.proofs.Common.{sym}
use Rattle.text_trace.proofs.Copies.{is_same}
use Rattle.text_trace.proofs.Numbered.{added_one}
use Rattle.text_trace.proofs.lines.note_name.Goals as goal

pub returns : goal.returns
returns c =
    added_one c.args.names.now c.insert.new.self c.in_ok-clone.field-0.items c.args.path.now.items c.args.number (is_same _ _ c.in_ok-clone.ensures.cases.0)
    c.in_ok-insert.ensures.updates (sym c.if-contains_key.ensures)
