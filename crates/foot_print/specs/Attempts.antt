-- A view of code: how the uses of an operation are taken, and what is used of a number and a name of the code.
use Rattle.std.specs.Prelude.{ℕ, ◌==◌, [], ◌∷◌, if◌then◌else◌}
use Rattle.entry_checks.specs.Operation.{at_position}
use Rattle.file_tree.specs.declared.walk.Place as code
use Rattle.foot_print.specs.declared.attempt.Taken as attempts
use Rattle.foot_print.specs.declared.attempt.Taken.TheVariants.{Tried, Foreseen}
use Rattle.foot_print.specs.Footprint.{Taken, tried, foreseen}
use Rattle.world_parts.specs.Items.{one, position_of, name_at, names_in, writes, Footprint}

-- how the uses of an operation are taken, by a value of the program
abbrev pub taken_meant : attempts.Taken → Taken
taken_meant (Tried b) = tried b
taken_meant Foreseen = foreseen

-- the position of a description, where a transfer uses it
abbrev pub position_at : ℕ → ℕ → Footprint
position_at d o = if o == at_position then writes (one (position_of d)) ∷ [] else []

-- the name of a place, and the number of names of its directory
abbrev pub written_name : code.Place → Footprint
written_name p = writes (one (name_at p.parent p.name.now)) ∷ writes (one (names_in p.parent)) ∷ []
