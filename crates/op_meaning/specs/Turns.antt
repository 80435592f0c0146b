-- A view of code: what a place does, as a value of the program.
use Rattle.std.specs.Prelude.{ℕ, ◌≤◌, IfSome}
use Rattle.trace_format.specs.Sides.{most_moved}
use Rattle.recording.specs.declared.recording.Recording.{Recording}
use Rattle.entry_checks.specs.Meant.{meant}
use Rattle.entry_checks.specs.Operation.{Operation, asked, seek}
use Rattle.world_parts.specs.World.{World, apply_all}
use Rattle.op_meaning.specs.Step.{Turn, filled, registered, called, refused, canceled, runs, changes_in, file_in, set_operation}
use Rattle.op_meaning.specs.declared.turn.Call.{Call}
use Rattle.op_meaning.specs.declared.turn.Call.TheVariants.{Set, Seek}
use Rattle.op_meaning.specs.declared.turn.Turn as code
use Rattle.op_meaning.specs.declared.turn.TurnKind.{TurnKind}
use Rattle.op_meaning.specs.declared.turn.TurnKind.TheVariants.{Fills, Registers, Calls, Refused, Canceled, Runs}

-- the operation of a call
abbrev pub call_meant : Call → Operation
call_meant (Set file content) = set_operation file content.now
call_meant (Seek file position) = seek (file_in file) position

-- what is meant by it, in a ring
abbrev pub kind_meant : ℕ → TurnKind → Turn
kind_meant r (Fills b at bytes) = filled r b at bytes.now
kind_meant r (Registers slots) = registered r slots.now
kind_meant r (Calls c) = called r (call_meant c)
kind_meant r (Refused e posted) = refused e posted
kind_meant r (Canceled posted) = canceled posted
kind_meant r (Runs e o) = runs r e (meant o)

abbrev pub turn_meant : code.Turn → Turn
turn_meant x = kind_meant x.ring x.kind

-- a transfer that runs asks for no more than one moves
abbrev pub IsShort : TurnKind → Type 0
IsShort (Runs e o) = IfSome (asked (meant o)) (λ n. n ≤ most_moved)
IsShort _ = Unit {0}

-- the world that a turn leaves
abbrev pub turn_world : Recording → ℕ → World → Turn → World
turn_world t k s x = apply_all (changes_in t k s x) s
