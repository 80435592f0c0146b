-- A view of code: where a text has entries, and entries that stand elsewhere.
use Rattle.std.specs.Prelude.{ℕ, ◌+◌, ◌≤◌, ⊤, List, length, take, drop, None}
use Rattle.sqe_codec.specs.Fields.{entry_of}
use Rattle.trace_format.specs.Submitted.{Submitted}
use Rattle.trace_format.specs.declared.entries.Spot.{Spot}
use Rattle.trace_format.specs.declared.entry.Stand.{Stand}
use Rattle.trace_format.specs.declared.entry.Stand.TheVariants.{Within, Apart}

-- the entry at a spot of a text: its 64 bytes, four more, and the bytes beside it
abbrev pub entry_at : List ℕ → Spot → Submitted
entry_at text s = record { sqe = entry_of (take 64 (drop s.at text)); side = take s.len (drop (s.at + 68) text); given = None }

-- the spot is inside
abbrev pub IsInside : List ℕ → Spot → Type 0
IsInside text s = s.at + 68 + s.len ≤ length text

-- the entry that a text has, by where it stands
abbrev pub stands_at : List ℕ → Stand → Submitted
stands_at text (Within spot) = entry_at text spot
stands_at text (Apart entry) = entry.now

-- it is inside
abbrev pub IsThere : List ℕ → Stand → Type 0
IsThere text (Within spot) = IsInside text spot
IsThere text (Apart entry) = ⊤
