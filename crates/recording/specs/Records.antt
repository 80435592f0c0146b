-- The model: the steps of a list of records, and where each stands: by the index of its record, and by the place of that record's first step.
use Rattle.std.specs.Prelude.{ℕ, suc, ◌+◌, List, [], ◌∷◌, ◌++◌, map, length, replicate}
use Rattle.recording.specs.declared.record.Record.{Record}
use Rattle.recording.specs.declared.record.Record.TheVariants.{Enter, Fill, Register, Set, Seek}
use Rattle.recording.specs.Actions.{Step, submit, fill, register, set, seek, ring_of}

-- Steps that came one after another, behind so many places.
pub record Later : Type 0 where
  pub first : ℕ
  pub steps : List Step

-- how many steps a record has
abbrev pub step_count : Record → ℕ
step_count (Enter ring entries) = length entries
step_count (Fill ring buffer offset bytes) = 1
step_count (Register ring slots) = 1
step_count (Set file content) = 1
step_count (Seek file position) = 1

-- the steps of a record, of which the first has this place
abbrev pub record_steps : ℕ → Record → List Step
record_steps p (Enter ring entries) = map (λ e. record { ring = ring; from_record = p; action = submit e }) entries
record_steps p (Fill ring buffer offset bytes) = record { ring = ring; from_record = p; action = fill buffer offset bytes } ∷ []
record_steps p (Register ring slots) = record { ring = ring; from_record = p; action = register slots } ∷ []
record_steps p (Set file content) = record { ring = ring_of file; from_record = p; action = set file content } ∷ []
record_steps p (Seek file position) = record { ring = ring_of file; from_record = p; action = seek file position } ∷ []

-- the steps of records, where places are numbered from p
abbrev pub steps_from : ℕ → List Record → List Step
steps_from p [] = []
steps_from p (r ∷ rs) = record_steps p r ++ steps_from (p + step_count r) rs

-- of each step the index of its record, where records are numbered from n
abbrev pub indexes_from : ℕ → List Record → List ℕ
indexes_from n [] = []
indexes_from n (r ∷ rs) = replicate (step_count r) n ++ indexes_from (suc n) rs

-- of each record the place of its first step, where places are numbered from p
abbrev pub firsts_from : ℕ → List Record → List ℕ
firsts_from p [] = []
firsts_from p (r ∷ rs) = p ∷ firsts_from (p + step_count r) rs
