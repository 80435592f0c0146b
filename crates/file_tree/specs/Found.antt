-- The model: the number of the node that a name leads to. Below it, a view of code: what a walk found.
use Rattle.std.specs.Prelude.{ℕ, Option, Result, Ok, Err}
use Rattle.std.specs.Option.{option_map}
use Rattle.sqe_codec.specs.declared.errno.Errno.{Errno}
use Rattle.file_tree.specs.Tree.{Tree, Target, target}
use Rattle.file_tree.specs.Walk.{Place}
use Rattle.file_tree.specs.declared.walk.Place as code

-- the number of what a name leads to
abbrev pub node_of : Option Target → Option ℕ
node_of t = option_map (λ (y : Target). y.node) t

-- the place that is meant, with the kind of the node
abbrev pub place_meant : Tree → code.Place → Place
place_meant tree p = record { parent = p.parent; name = p.name.now; target = option_map (target tree) p.node }

abbrev pub walk_meant : Tree → Result code.Place Errno → Result Place Errno
walk_meant tree (Ok p) = Ok (place_meant tree p)
walk_meant tree (Err e) = Err e
