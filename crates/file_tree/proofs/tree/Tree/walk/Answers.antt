use native.Mathlib.Omega.{arith}
use Rattle.std.proofs.Common.{◌≡◌, List, [], ◌∷◌, map, Option, Some, None, Result, Err, sym, ◌∙◌, ap, refl}
use Rattle.std.specs.Prelude.{unwrap_or}
use Rattle.std.specs.List.{last_or}
use Rattle.std.specs.Option.{option_map}
use Rattle.std.proofs.Math.Facts.{to_z-of_z}
use Rattle.std.proofs.lemmas.Iterator.{items_from_drains}
use Rattle.sqe_codec.specs.declared.errno.Errno.{Errno}
use Rattle.sqe_codec.specs.declared.errno.Errno.TheVariants.{ENOENT}
use Rattle.trace_format.specs.Paths.{Path}
use Rattle.file_tree.specs.Found.{walk_meant}
use Rattle.file_tree.specs.Steps.{steps, steps_left}
use Rattle.file_tree.specs.Tree.{Tree}
use Rattle.file_tree.specs.Walk.{Place}
use Rattle.file_tree.specs.declared.walk.Place as code
use Rattle.file_tree.proofs.Walks.{steps_yielded, last_of_steps}
use Rattle.file_tree.proofs.tree.Tree.walk.Goals as goal

module _ {X Y : Type 0} (f : X → Y) where
  last_of : (xs : List X) (o : Option X) → option_map f (last_or o xs) ≡ last_or (option_map f o) (map f xs)
  last_of [] o = refl
  last_of (x ∷ xs) o = last_of xs (Some x)

  or_of : (o : Option X) (x : X) → f (unwrap_or o x) ≡ unwrap_or (option_map f o) (f x)
  or_of o x = grind arith

pub returns : goal.returns
returns c =
    let path : Path = record { directory = c.args.directory; text = c.args.path.now } in
    let tree = c.args.self.now in
    let meant : Result code.Place Errno → Result Place Errno = walk_meant c.steps.result.tree.now in
    let left : steps_left c.steps.result ≡ steps tree path = rw (to_z-of_z c.ranges.directory) at c.steps.ensures.left in
    let run = c.last.ensures.ran in
    let items : map meant run.0 ≡ steps tree path = items_from_drains run.0 (run.1.1.0, run.1.1.1, λ _. (run.1.0, run.1.1.2)) (steps_yielded c.steps.result) ∙ left in
    let last : option_map meant c.last.result ≡ last_or None (steps tree path) = ap (option_map meant) run.2 ∙ last_of meant run.0 None ∙ ap (last_or None) items in
    ap (λ (t : Tree). walk_meant t c.unwrap_or.result) (sym c.steps.ensures.same)
    ∙ ap meant c.unwrap_or.ensures ∙ or_of meant c.last.result (Err ENOENT) ∙ ap (λ o. unwrap_or o (Err ENOENT)) last ∙ last_of_steps tree path
