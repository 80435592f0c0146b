-- The model: recordings of a start of version 3 and the records so far, whose steps may be forgotten; laws that a replay accepts them.
use Rattle.std.specs.Prelude.{◌≡◌, ℕ, List, [], ◌∷◌, ◌++◌}
use Rattle.trace_records.specs.declared.record.Record.{Record}
use Rattle.trace_records.specs.declared.start.Start.{Start}
use Rattle.trace_records.specs.Whole.{IsFront}
use Rattle.recording.specs.declared.recording.Recording.{Recording}
use Rattle.recording.specs.Accepted.{IsAccepted}
use Rattle.recording.specs.Growing.{HasRoom, grown_in, let_go, of_records, of_start, with_next}
use Rattle.recording.specs.Steps.{places}

-- some bytes spell the start and the records, and nothing else
abbrev pub IsSpelledFront : Start → List Record → Type 0
IsSpelledFront s rs = (bytes : List ℕ) × IsFront bytes (record { start = s; records = rs })

-- the recording of them
abbrev pub front : Start → List Record → Recording
front s rs = of_records (record { start = s; records = rs })

-- It is theirs but for its steps, of which there are as many, and a replay accepts it.
pub record IsOfFront (v : Recording) (s : Start) (rs : List Record) : Type 0 where
  pub accepted : IsAccepted v
  pub same : v ≡ record (front s rs) { steps = v.steps }
  pub many : places v ≡ places (front s rs)

-- so is the recording of the start
abbrev pub StartIsOfFront : Type 0
StartIsOfFront = (s : Start) → IsSpelledFront s [] → IsOfFront (of_start s) s []

-- so it is with one record more, for which there is room
abbrev pub NextIsOfFront : Type 0
NextIsOfFront = (v : Recording) (s : Start) (rs : List Record) (r : Record) → IsOfFront v s rs → IsSpelledFront s (rs ++ r ∷ []) → HasRoom (grown_in v) r × IsOfFront (with_next v r) s (rs ++ r ∷ [])

-- so it is once its steps are forgotten
abbrev pub ForgottenIsOfFront : Type 0
ForgottenIsOfFront = (v : Recording) (s : Start) (rs : List Record) → IsOfFront v s rs → IsOfFront (let_go v) s rs
