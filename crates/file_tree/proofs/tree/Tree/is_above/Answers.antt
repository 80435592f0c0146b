use native.Mathlib.Omega.{arith}
use Rattle.std.proofs.Common.{◌≡◌, ℕ, false, List, [], ◌∷◌, Result, Ok, Err, ◌∙◌, ap, refl, rules, tests}
use Rattle.std.specs.Prelude.{◌==◌, Bool}
use Rattle.std.specs.List.{list_any}
use Rattle.std.proofs.Math.Facts.{to_z-of_z}
use Rattle.std.proofs.lemmas.Iterator.Search.{any_from_yields_List}
use Rattle.sqe_codec.specs.declared.errno.Errno.{Errno}
use Rattle.trace_format.specs.Paths.{Path}
use Rattle.file_tree.specs.Steps.{steps, steps_left}
use Rattle.file_tree.specs.Walk.{Place}
use Rattle.file_tree.proofs.Walks.{names_of, names_of_steps, steps_yielded}
use Rattle.file_tree.proofs.tree.Tree.is_above.Goals as goal

-- whether a step looks a name up in a node
abbrev looks_in : ℕ → Result Place Errno → Bool
looks_in i (Ok p) = p.parent == i
looks_in i (Err e) = false

any_name : (i : ℕ) (ss : List (Result Place Errno)) → list_any (looks_in i) ss ≡ list_any (λ e. e.0 == i) (names_of ss)
any_name i [] = refl
any_name i (s ∷ ss) = grind (arith, any_name i ss)

pub returns : goal.returns
returns c =
    let found = any_from_yields_List (looks_in c.args.node) _ _ c.any.result c.any.ensures.ran (steps_yielded c.steps-steps.result) (λ x b q k. search (rules, tests)) in
    let path : Path = record { directory = c.args.directory; text = c.args.path.now } in
    let looks : List (ℕ × List ℕ) → Bool = list_any (λ e. e.0 == c.args.node) in
    let left : steps_left c.steps-steps.result ≡ steps c.args.self.now path = rw (to_z-of_z c.ranges.directory) at c.steps-steps.ensures.left in
    found ∙ any_name c.args.node (steps_left c.steps-steps.result) ∙ ap (λ ss. looks (names_of ss)) left ∙ ap looks (names_of_steps c.args.self.now path)
