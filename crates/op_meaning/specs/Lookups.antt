-- A view of code: what the file number or the paths of an operation lead to.
use Rattle.std.specs.Prelude.{◌≡◌, ◌⊎◌, Option, None, Result, Err}
use Rattle.sqe_codec.specs.declared.errno.Errno.{Errno}
use Rattle.sqe_codec.specs.declared.errno.Errno.TheVariants.{ENOENT}
use Rattle.entry_checks.specs.Operation.{File, Path}
use Rattle.file_tree.specs.Found.{walk_meant}
use Rattle.file_tree.specs.Walk.{walk}
use Rattle.file_tree.specs.declared.walk.Place.{Place}
use Rattle.world_parts.specs.World.{World}
use Rattle.op_meaning.specs.Shape.{Look, at_nothing, at_file, at_path, at_paths}
use Rattle.op_meaning.specs.Handles.{opened_meant}
use Rattle.op_meaning.specs.Meaning.{Found, Site, handle}
use Rattle.op_meaning.specs.declared.handles.OpenFile.{OpenFile}
use Rattle.op_meaning.specs.declared.lookup.Lookup.{Lookup}
use Rattle.op_meaning.specs.declared.lookup.Lookup.TheVariants as code

-- the open file that was found, and where the only or old path leads, and the new one; none, and nowhere, where nothing was looked up
abbrev pub file_found : Lookup → Option OpenFile
file_found (code.File x) = x
file_found _ = None

abbrev pub place_found : Lookup → Result Place Errno
place_found (code.Path p) = p
place_found (code.Paths p q) = p
place_found _ = Err ENOENT

abbrev pub new_place_found : Lookup → Result Place Errno
new_place_found (code.Paths p q) = q
new_place_found _ = Err ENOENT

-- whether it is what a file number stands for, and what a path leads to, the old one of two, and the new one
abbrev pub FindsFile : Site → World → File → Lookup → Type 0
FindsFile site s f x = opened_meant s (file_found x) ≡ handle site s f

abbrev pub FindsPlace : World → Path → Lookup → Type 0
FindsPlace s p x = walk_meant s.nodes (place_found x) ≡ walk s.nodes p

abbrev pub FindsNewPlace : World → Path → Lookup → Type 0
FindsNewPlace s p x = walk_meant s.nodes (new_place_found x) ≡ walk s.nodes p

abbrev pub FindsPlaces : World → Path → Path → Lookup → Type 0
FindsPlaces s old new x = FindsPlace s old x × FindsNewPlace s new x

-- whether it is what is found where an operation looks
abbrev pub Finds : Site → World → Look → Lookup → Type 0
Finds site s at_nothing x = Unit {0}
Finds site s (at_file f) x = FindsFile site s f x
Finds site s (at_path p) x = FindsPlace s p x
Finds site s (at_paths old new) x = FindsPlaces s old new x

-- what is meant by it, in a world
abbrev pub found_meant : World → Lookup → Found
found_meant s x = record { file = opened_meant s (file_found x); place = walk_meant s.nodes (place_found x); new_place = walk_meant s.nodes (new_place_found x) }

-- what is found is right, where something was looked up
abbrev pub Tells : Lookup → Type 0 → Type 0
Tells x IsRight = (x ≡ code.Nothing) ⊎ IsRight
