-- The model: the lines of entries in the order of their places.
use Rattle.std.specs.Prelude.{◌≡◌, ℕ, true, List, ◌++◌, codes, Option}
use Rattle.std.specs.List.{flat_map, range_with_len, slice_get}
use Rattle.sqe_codec.specs.Answers.{each}
use Rattle.recording.specs.declared.recording.Recording.{Recording}
use Rattle.recording.specs.Steps.{Step, places, step_at}
use Rattle.op_meaning.specs.declared.reply.Reply.{Reply}
use Rattle.world_parts.specs.World.{World}
use Rattle.replay_report.specs.declared.showing.Lines.{Lines}
use Rattle.replay_report.specs.declared.showing.Shown.{Shown}
use Rattle.replay_report.specs.RingTexts.{IsShown}
use Rattle.replay_report.specs.Report.{action_line, line, lines_of, report_of, title, world_lines}

-- The line of a step that replied.
abbrev pub line_of : Lines → ℕ → Step → Reply → List ℕ
line_of lines place step reply = action_line lines place step.ring step.action reply

-- The line of a place, by what places reply; and the lines of the first n places.
abbrev pub line_at : Recording → (ℕ → Option Reply) → Lines → ℕ → List ℕ
line_at t reply lines place = each (λ step. each (line_of lines place step) (reply place)) (step_at t place)

abbrev pub entry_lines : Recording → (ℕ → Option Reply) → Lines → ℕ → List ℕ
entry_lines t reply lines n = flat_map (line_at t reply lines) (range_with_len 0 n)

-- What follows the lines of entries: what the world shows, and the last line.
abbrev pub last_lines : Recording → World → Shown → List ℕ
last_lines t s shown = world_lines t.rings s shown.sums ++ line (codes "end")

-- A report in place order is its first line, the lines of all places, and what follows them.
abbrev pub ReportsInOrder : Type 0
ReportsInOrder =
    (t : Recording) (s : World) (replies : List Reply) (shown : Shown) → t.in_place_order ≡ true
    → report_of t s replies shown ≡ title (lines_of t shown.names) ++ entry_lines t (slice_get replies) (lines_of t shown.names) (places t) ++ last_lines t s shown

-- What is shown of a reply makes the line of the reply.
abbrev pub LinesAreShown : Type 0
LinesAreShown = (lines : Lines) (place : ℕ) (step : Step) (answer reply : Reply) → IsShown answer reply → line_of lines place step answer ≡ line_of lines place step reply
