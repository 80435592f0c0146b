use Rattle.std.proofs.Common.{List, ◌++◌, ℕ, ap, sym, ◌∙◌}
use Rattle.std.specs.List.{flat_map}
use Rattle.trace_format.specs.Spelling.{slot_bytes}
use Rattle.text_trace.specs.Found.{found_in}
use Rattle.text_trace.proofs.Looks.{slots_len, table_is}
use Rattle.text_trace.proofs.draft.in_table.Goals as goal

pub returns : goal.returns
returns c more =
    c.passed.ensures (flat_map slot_bytes c.args.table.now) more (slots_len c.args.table.now)
    ∙ ap (λ (l : List (List ℕ)). found_in c.args.search (l ++ more)) (sym (table_is c.args.table.now c.if-is_empty.ensures))
