-- The model: rings of a recording by their numbers.
use Rattle.std.specs.Prelude.{ℕ, ◌+◌, length, Some, None}
use Rattle.std.specs.List.{slice_get}
use Rattle.recording.specs.declared.recording.Recording.{Recording}
use Rattle.recording.specs.declared.recording.Ring.{Ring}

-- how many slots a ring has
abbrev pub slots_of : Ring → ℕ
slots_of r = length r.slots + r.spare

-- the ring whose queue a ring submits to
abbrev pub queue_of : Recording → ℕ → ℕ
queue_of t ring = elim (slice_get t.rings ring) [ None ↦ ring | Some r ↦ r.queue ]
