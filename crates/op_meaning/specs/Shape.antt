-- The model: the shapes of operations, by which what they look up and what they use go.
use Rattle.std.specs.Prelude.{ℕ, Bool, Option}
use Rattle.entry_checks.specs.Operation.{File, Span, Path, OpenFlags}

-- What the uses of an operation depend on. A transfer moves so many bytes into its file or out of it, through a span of a buffer or none.
pub data Shape : Type 0 where
  idle : Shape
  looking : (file : File) → Shape
  moving : (into_file : Bool) (file : File) (offset count : ℕ) (span : Option Span) → Shape
  allocating : (file : File) (offset size mode : ℕ) → Shape
  resizing : (file : File) (size : ℕ) → Shape
  closing : (file : File) → Shape
  opening : (path : Path) (flags : OpenFlags) (slot : Option ℕ) → Shape
  measuring : (path : Path) → Shape
  making : (path : Path) → Shape
  freeing : (path : Path) (removes_directory : Bool) → Shape
  linking : (old new : Path) → Shape
  renaming : (old new : Path) → Shape
  holding : (file : File) → Shape
  holding_path : (file : File) (path : Path) (flags : OpenFlags) → Shape
  holding_copy : (file : File) (ring : ℕ) (source : File) → Shape
  holding_other : (file : File) → Shape
  seeking : (file : File) → Shape

-- What an operation looks up before anything else is decided: nothing, what is open at a file number, where a path leads, or where each of two does.
pub data Look : Type 0 where
  at_nothing : Look
  at_file : (file : File) → Look
  at_path : (path : Path) → Look
  at_paths : (old new : Path) → Look

abbrev pub look : Shape → Look
look idle = at_nothing
look (looking f) = at_nothing
look (moving w f o n x) = at_file f
look (allocating f o n mode) = at_file f
look (resizing f n) = at_file f
look (closing f) = at_nothing
look (opening p g asked) = at_path p
look (measuring p) = at_path p
look (making p) = at_path p
look (freeing p removes) = at_path p
look (linking old new) = at_paths old new
look (renaming old new) = at_paths old new
look (holding f) = at_nothing
look (holding_path f p g) = at_path p
look (holding_copy f r source) = at_nothing
look (holding_other f) = at_nothing
look (seeking f) = at_file f
