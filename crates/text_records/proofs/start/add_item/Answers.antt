use Rattle.std.proofs.Common.{arith}
use Rattle.text_records.proofs.Numbered.{has_more}
use Rattle.text_records.proofs.start.add_item.Goals as goal

pub returns-clause-names : goal.returns-clause-names
returns-clause-names c =
    rw c.in_ok-push.ensures.items
    (has_more c.args.names.now c.note_name.new.names c.args.items.now.items (record { path = c.in_ok-path-2.path; node = c.in_ok-node.node })
    c.in_ok-path.path.items _ c.requires c.in_ok-note_name.ensures c.in_ok-path-2.ensures (omega arith))
