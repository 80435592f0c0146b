-- Lines of entries are whole.
use Rattle.std.proofs.Common.{◌++◌, [], ◌∷◌, ℕ, List, Option, None, Some, sym, subst}
use Rattle.std.specs.Prelude.{codes}
use Rattle.std.specs.List.{flat_map, range_with_len}
use Rattle.json_lines.specs.Forms.{IsWhole}
use Rattle.json_lines.proofs.Whole.{both_whole, empty_whole, line_whole}
use Rattle.sqe_codec.specs.Answers.{each}
use Rattle.trace_records.specs.declared.record.Record.{Record}
use Rattle.trace_records.specs.declared.start.Start.{Start}
use Rattle.recording.specs.declared.recording.Recording.{Recording}
use Rattle.recording.specs.Steps.{Action, fill, register, set, seek, step_at, submit}
use Rattle.op_meaning.specs.declared.reply.Reply.{Reply}
use Rattle.op_meaning.specs.Step.{sequential_reply}
use Rattle.stream_laws.specs.Streamed.{recording_of}
use Rattle.replay_report.specs.declared.showing.Lines.{Lines}
use Rattle.replay_report.specs.declared.showing.Shown.{Shown}
use Rattle.replay_report.specs.InOrder.{entry_lines, line_at, line_of}
use Rattle.replay_report.specs.Report.{action_line, title}
use Rattle.report_stream.specs.Written.{IsTextTo, lines_in}

all_whole : {A : Type 0} (f : A → List ℕ) (xs : List A) → ((x : A) → IsWhole (f x)) → IsWhole (flat_map f xs)
all_whole f [] whole = empty_whole
all_whole f (x ∷ xs) whole = both_whole (f x) (flat_map f xs) (whole x) (all_whole f xs whole)

each_whole : {A : Type 0} (f : A → List ℕ) (x : Option A) → ((y : A) → IsWhole (f y)) → IsWhole (each f x)
each_whole f None whole = empty_whole
each_whole f (Some y) whole = whole y

action_whole : (lines : Lines) (place ring : ℕ) (action : Action) (reply : Reply) → IsWhole (action_line lines place ring action reply)
action_whole lines place ring (submit entry) reply = line_whole _
action_whole lines place ring (fill buffer offset bytes) reply = empty_whole
action_whole lines place ring (register slots) reply = empty_whole
action_whole lines place ring (set file content) reply = empty_whole
action_whole lines place ring (seek file position) reply = empty_whole

entries_whole : (t : Recording) (replies : ℕ → Option Reply) (lines : Lines) (n : ℕ) → IsWhole (entry_lines t replies lines n)
entries_whole t replies lines n =
    all_whole (line_at t replies lines) (range_with_len 0 n)
    (λ place. each_whole (λ step. each (line_of lines place step) (replies place)) (step_at t place)
    (λ step. each_whole (line_of lines place step) (replies place) (action_whole lines place step.ring step.action)))

-- the first line and the lines up to a place
pub text_whole : (b : Start) (rs : List Record) (shown : Shown) (place : ℕ) (text : List ℕ) → IsTextTo b rs shown place text → IsWhole text
text_whole b rs shown place text is =
    let t = recording_of b (rs ++ []) in
    let lines = lines_in shown in
    subst IsWhole (sym (is.is [])) (both_whole (title lines) (entry_lines t (sequential_reply t) lines place) (line_whole (codes "uring-report 2")) (entries_whole t (sequential_reply t) lines place))
