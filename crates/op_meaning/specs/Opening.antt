-- A view of code: what openat does.
use Rattle.std.specs.Prelude.{ℕ, List, Result, Ok, Err}
use Rattle.sqe_codec.specs.declared.errno.Errno.{Errno}
use Rattle.entry_checks.specs.Operation.{File, OpenFlags}
use Rattle.entry_checks.specs.Meant.{file_meant, flags_meant}
use Rattle.entry_checks.specs.declared.operation.FileNumber.{FileNumber}
use Rattle.file_tree.specs.Tree.{Tree}
use Rattle.file_tree.specs.Found.{place_meant}
use Rattle.file_tree.specs.Walk.{Place}
use Rattle.world_parts.specs.World.{Change}
use Rattle.op_meaning.specs.declared.opening.Opening.{Opening}
use Rattle.op_meaning.specs.Meaning.{Effect, Site, open_as, open_changes}

-- the room that was found, or the error
abbrev pub room_found : Result FileNumber Errno → Result File Errno
room_found (Ok x) = Ok (file_meant x)
room_found (Err e) = Err e

-- what openat does that opens where a path leads
abbrev pub opened_as : Site → Tree → Opening → Effect
opened_as site tree x = open_as site (flags_meant x.flags) (file_meant x.room) (place_meant tree x.place)

-- what openat changes where its path leads
abbrev pub changes_at : OpenFlags → ℕ → Place → List Change
changes_at g i p = open_changes g i p p.target
