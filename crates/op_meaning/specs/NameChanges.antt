-- A view of code: what an operation does to names.
use Rattle.std.specs.Prelude.{ℕ, [], ◌∷◌, Some, Result, Ok, Err}
use Rattle.std.specs.Option.{option_map}
use Rattle.sqe_codec.specs.declared.errno.Errno.{Errno}
use Rattle.file_tree.specs.Tree.{Tree, a_directory, target}
use Rattle.file_tree.specs.Found.{place_meant}
use Rattle.file_tree.specs.declared.walk.Place.{Place}
use Rattle.world_parts.specs.World.{World, Change, make_node, set_name}
use Rattle.op_meaning.specs.Meaning.{Effect, Site, done, exchanged, made_node, move_meaning, new_directory}
use Rattle.op_meaning.specs.declared.names.NameChange.{NameChange}
use Rattle.op_meaning.specs.declared.names.NameChanges.{NameChanges}
use Rattle.op_meaning.specs.declared.names.NameChanges.TheVariants.{Nothing, One, Two}

-- the change of a name that is meant, with the kind of the node
abbrev pub change_meant : Tree → NameChange → Change
change_meant tree x = set_name x.directory x.name.now (option_map (target tree) x.node)

abbrev pub changes_meant : Tree → NameChanges → Effect
changes_meant tree Nothing = done []
changes_meant tree (One x) = done (change_meant tree x ∷ [])
changes_meant tree (Two x y) = done (change_meant tree x ∷ change_meant tree y ∷ [])

-- the changes that were decided on, or the error
abbrev pub decision_meant : Tree → Result NameChanges Errno → Result Effect Errno
decision_meant tree (Ok x) = Ok (changes_meant tree x)
decision_meant tree (Err e) = Err e

-- the move of a node's name to another place, and the exchange of two names
abbrev pub move_meant : World → Place → Place → ℕ → Result Effect Errno
move_meant s p q i = move_meaning s (place_meant s.nodes p) (place_meant s.nodes q) (target s.nodes i) (option_map (target s.nodes) q.node)

abbrev pub exchange_meant : Tree → Place → Place → ℕ → ℕ → Effect
exchange_meant tree p q i j = exchanged (place_meant tree p) (place_meant tree q) (target tree i) (target tree j)

-- a directory that a place makes where a path leads
abbrev pub directory_effect : Site → Place → Effect
directory_effect site p = done (make_node (made_node site.trace site.place) a_directory ∷ set_name p.parent p.name.now (Some (new_directory (made_node site.trace site.place))) ∷ [])
