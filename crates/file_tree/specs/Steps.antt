-- A view of code: the steps of a walk, which lead to the place of each name of its path in turn.
use Rattle.std.specs.Prelude.{◌≡◌, ℕ, List, [], ◌∷◌, Option, Some, None, Result, Ok, Err, IfErr, if◌then◌else◌}
use Rattle.std.specs.Option.{option_map}
use Rattle.sqe_codec.specs.declared.errno.Errno.{Errno}
use Rattle.sqe_codec.specs.declared.errno.Errno.TheVariants.{EBADF, ENAMETOOLONG}
use Rattle.sqe_codec.specs.Answers.{◌>>=◌, ◌>>◌, require, each_ok}
use Rattle.trace_format.specs.Paths.{Path, components}
use Rattle.file_tree.specs.Found.{walk_meant}
use Rattle.file_tree.specs.Tree.{Tree, name, target}
use Rattle.file_tree.specs.Walk.{Place, directory_at, fits_name, starts_at_root}
use Rattle.file_tree.specs.declared.steps.Reached.{Reached}
use Rattle.file_tree.specs.declared.steps.Reached.TheVariants.{Nowhere, Root, Node}
use Rattle.file_tree.specs.declared.steps.Steps.{Steps}
use Rattle.file_tree.specs.declared.walk.Place as code

-- one step: the place of a name in the directory that the walk has come to, if it has come to one
abbrev pub step : Tree → Result ℕ Errno → List ℕ → Result Place Errno
step tree from n = do
  d ← from
  require (fits_name n) ENAMETOOLONG
  Ok (record { parent = d; name = n; target = name tree d n })

-- the steps over components: each goes on where the one before it leads, and an error is the last
abbrev pub steps_from : Tree → Result ℕ Errno → List (List ℕ) → List (Result Place Errno)
steps_from tree from [] = []
steps_from tree from (n ∷ ns) = step tree from n ∷ each_ok (λ p. steps_from tree (directory_at p.target) ns) (step tree from n)

-- the steps of a path: an error alone where it does not start at the root
abbrev pub steps : Tree → Path → List (Result Place Errno)
steps tree p = if starts_at_root p then steps_from tree (Ok 0) (components p.text) else (Err EBADF ∷ [])

-- the directory that a walk has come to, or the error that another name meets
abbrev pub come_to : Tree → Reached → Result ℕ Errno
come_to tree Nowhere = Err EBADF
come_to tree Root = Ok 0
come_to tree (Node i) = directory_at (option_map (target tree) i)

-- the steps over the names of a text, from where a walk has come to
abbrev pub steps_at : Tree → Reached → List ℕ → List (Result Place Errno)
steps_at tree Nowhere text = Err EBADF ∷ []
steps_at tree r text = steps_from tree (come_to tree r) (components text)

-- the steps that are left
abbrev pub steps_left : Steps → List (Result Place Errno)
steps_left s = steps_at s.tree.now s.reached s.rest.now

-- a call gave the first step that was left, an error as the last, or `None` where none was left, and then none is
abbrev pub GivesStep : Steps → Option (Result code.Place Errno) → Steps → Type 0
GivesStep old None new = (steps_left old ≡ []) × (steps_left new ≡ [])
GivesStep old (Some r) new = (steps_left old ≡ walk_meant old.tree.now r ∷ steps_left new) × IfErr r (λ _. steps_left new ≡ []) × (new.tree.now ≡ old.tree.now)
