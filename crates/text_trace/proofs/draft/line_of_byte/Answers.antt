use Rattle.std.proofs.Common.{◌≡◌, ℕ, ◌-◌, List, [], ◌++◌, map, ap, sym, ◌∙◌}
use Rattle.std.specs.List.{flat_map}
use Rattle.trace_format.specs.Spelling.{description_bytes, item_bytes}
use Rattle.text_trace.specs.Made.{line_at, line_of_byte, record_lines, ring_lines, table_lines}
use Rattle.text_trace.proofs.Looks.{in_turn, or_none}
use Rattle.text_trace.proofs.draft.line_of_byte.Goals as goal

pub returns : goal.returns
unfolding line_of_byte
returns c =
    let t = c.args.trace.now in
    let items = rw c.as_slice.ensures at c.in_items-search.ensures in
    let descriptions = rw c.as_slice-2.ensures at c.in_descriptions-search.ensures in
    let table = rw c.as_slice-3.ensures at c.in_table-search.ensures in
    let rings = rw c.as_slice-4.ensures at c.in_rings-search.ensures in
    let records = rw c.as_slice-5.ensures at c.in_records.ensures in
    let after_records = flat_map record_lines t.records ++ [] in
    let after_rings = flat_map ring_lines t.rings ++ after_records in
    let after_table = table_lines t.descriptors ++ after_rings in
    let after_descriptions = map description_bytes t.descriptions ++ after_table in
    let start : c.saturating_sub.result ≡ c.args.at - 32 = c.saturating_sub.ensures in
    sym (or_none c.in_records.result.found)
    ∙ records [] ∙ rings after_records ∙ table after_rings ∙ descriptions after_table ∙ items after_descriptions
    ∙ ap (λ (at : ℕ). line_at at (map item_bytes t.items ++ after_descriptions) c.args.lines.now) start
    ∙ ap (λ (l : List (List ℕ)). line_at (c.args.at - 32) l c.args.lines.now)
    (in_turn (map item_bytes t.items) (map description_bytes t.descriptions) (table_lines t.descriptors) (flat_map ring_lines t.rings)
    (flat_map record_lines t.records))
