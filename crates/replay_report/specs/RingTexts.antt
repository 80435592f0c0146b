-- A view of code: the text of each list of entries, as it grows by the lines of places.
use Rattle.std.specs.Prelude.{◌≡◌, ℕ, Bool, true, false, List, [], ◌++◌, map, take, Option, if◌then◌else◌, slice_index_or, slice_set}
use Rattle.std.specs.List.{flat_map, range_with_len}
use Rattle.sqe_codec.specs.Answers.{each}
use Rattle.recording.specs.declared.recording.Recording.{Recording}
use Rattle.recording.specs.Steps.{Action, Step, fill, register, set, seek, step_at, submit}
use Rattle.op_meaning.specs.declared.reply.Reply.{Reply}
use Rattle.replay_report.specs.declared.showing.Lines.{Lines}
use Rattle.replay_report.specs.Report.{action_line, heading, list_count, list_of, step_line}

-- The headings of the lists before the first place.
abbrev pub headings : Lines → Recording → List (List ℕ)
headings lines t = map (heading lines) (range_with_len 0 (list_count lines t))

-- The line of a place in a list, by what places reply.
abbrev pub line_in : Recording → (ℕ → Option Reply) → Lines → ℕ → ℕ → List ℕ
line_in t reply lines list place = each (λ step. each (step_line lines list place step) (reply place)) (step_at t place)

-- The text of a list, once the first n places have run; and of each list.
abbrev pub text_below : Recording → (ℕ → Option Reply) → Lines → ℕ → ℕ → List ℕ
text_below t reply lines n list = heading lines list ++ flat_map (line_in t reply lines list) (range_with_len 0 n)

abbrev pub texts_below : Recording → (ℕ → Option Reply) → Lines → ℕ → List (List ℕ)
texts_below t reply lines n = map (text_below t reply lines n) (range_with_len 0 (list_count lines t))

-- Whether a step submits an entry.
abbrev pub submits : Action → Bool
submits (submit entry) = true
submits (fill buffer offset bytes) = false
submits (register slots) = false
submits (set file content) = false
submits (seek file position) = false

-- The texts once a place more has run.
abbrev pub with_line : Lines → ℕ → Step → Reply → List (List ℕ) → List (List ℕ)
with_line lines place step reply texts =
    if submits step.action
    then slice_set texts (list_of lines step) (slice_index_or texts (list_of lines step) [] ++ action_line lines place step.ring step.action reply)
    else texts

-- What the line of an entry shows of a reply: all but the bytes behind the first 33.
pub record IsShown (answer reply : Reply) : Type 0 where
  pub res : answer.res ≡ reply.res
  pub posted : answer.posted ≡ reply.posted
  pub bytes : answer.bytes ≡ take 33 reply.bytes
