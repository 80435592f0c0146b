-- A report in place order is its parts.
use Rattle.std.proofs.Common.{◌≡◌, Bool, true, List, ◌++◌, append_assoc, ap, ◌∙◌, subst, sym}
use Rattle.std.specs.List.{flat_map, range_with_len, slice_get}
use Rattle.std.specs.Prelude.{codes}
use Rattle.std.proofs.lemmas.List.{append-nil}
use Rattle.recording.specs.declared.recording.Recording.{Recording}
use Rattle.recording.specs.Steps.{places}
use Rattle.op_meaning.specs.declared.reply.Reply.{Reply}
use Rattle.replay_report.specs.declared.showing.Lines.{Lines}
use Rattle.replay_report.specs.Report.{line, lines_of, list_count, list_lines, title, world_lines}
use Rattle.replay_report.specs.InOrder.{LinesAreShown, ReportsInOrder, entry_lines, last_lines}
use Rattle.replay_report.proofs.RingTextsLemmas.{line_shown}

-- Lines in the order of places stand in one list, which has no heading.
abbrev IsOneList : Recording → List Reply → Bool → Bool → Type 0
IsOneList t replies names in_order =
    let lines : Lines = record { names = names; in_order = in_order } in
    flat_map (list_lines t replies lines) (range_with_len 0 (list_count lines t)) ≡ entry_lines t (slice_get replies) lines (places t)

one_list : (t : Recording) (replies : List Reply) (names : Bool) → IsOneList t replies names true
one_list t replies names = append-nil (entry_lines t (slice_get replies) (record { names = names; in_order = true }) (places t))

pub reports_in_order : ReportsInOrder
reports_in_order t s replies shown in_order =
    let lines = lines_of t shown.names in
    let front = title lines ++ flat_map (list_lines t replies lines) (range_with_len 0 (list_count lines t)) in
    append_assoc front (world_lines t.rings s shown.sums) (line (codes "end"))
    ∙ ap (λ text. title lines ++ text ++ last_lines t s shown) (subst (IsOneList t replies shown.names) (sym in_order) (one_list t replies shown.names))

pub lines_are_shown : LinesAreShown
lines_are_shown lines place step answer reply shown = line_shown lines place step.ring step.action answer reply shown
