-- A view of code: the nodes that a tree keeps.
use Rattle.file_tree.specs.Tree.{Node, directory, file}
use Rattle.file_tree.specs.declared.node.Content.{Content}
use Rattle.file_tree.specs.declared.node.Content.TheVariants.{Directory, File}

-- a directory with its names and how many others it has, or a file with its bytes
abbrev pub node_of : Content → Node
node_of (Directory names others) = directory names others
node_of (File bytes) = file bytes
