-- A view of code: how the line of an entry begins.
use Rattle.std.specs.Prelude.{ℕ, List, [], ◌++◌, codes, Option, Some, None}
use Rattle.std.specs.Fmt.{decimal, signed_decimal}
use Rattle.replay_report.specs.declared.entry_line.Head.{Head}

-- the ring, where it is told
abbrev pub ring_text : Option ℕ → List ℕ
ring_text None = []
ring_text (Some ring) = codes " ring=" ++ decimal ring

abbrev pub head_text : Head → List ℕ
head_text h = decimal h.place ++ ring_text h.ring ++ codes " user=" ++ decimal h.user_data ++ codes " res=" ++ signed_decimal h.res ++ codes " "
