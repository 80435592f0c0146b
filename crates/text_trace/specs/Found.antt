-- A view of code: the line that looking for a byte comes to.
use Rattle.std.specs.Prelude.{ℕ, List, Option}
use Rattle.std.specs.Option.{option_or}
use Rattle.text_trace.specs.declared.draft.Search.{Search}
use Rattle.text_trace.specs.Made.{line_at}

-- the line that is found, or that is to be found among those that make these bytes
abbrev pub found_in : Search → List (List ℕ) → Option ℕ
found_in s more = option_or s.found (line_at s.at more s.lines.now)
