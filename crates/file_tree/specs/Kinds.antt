-- A view of code: kinds of nodes.
use Rattle.file_tree.specs.Tree.{Kind, a_directory, a_file}
use Rattle.file_tree.specs.declared.node.Kind as code
use Rattle.file_tree.specs.declared.node.Kind.TheVariants.{Directory, File}

-- the kind that is meant
abbrev pub kind_meant : code.Kind → Kind
kind_meant Directory = a_directory
kind_meant File = a_file
