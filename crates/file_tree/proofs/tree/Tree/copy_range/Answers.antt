use Rattle.std.proofs.Common.{◌≡◌, ◌≤◌, ℕ, List, [], length, ap, Some, sym, subst, ◌∙◌}
use Rattle.std.specs.Prelude.{Option, IfSome, unwrap_or}
use Rattle.std.specs.Option.{option_and_then, option_map}
use Rattle.std.proofs.lemmas.Result.{on_ok_weaker}
use Rattle.extent_bytes.specs.Bytes.{overwritten, range_of}
use Rattle.finite_maps.specs.Table.{adjust_number, number_keys}
use Rattle.finite_maps.proofs.Indexed.{get-of, rewritten_none, rewritten_err, rewritten_through}
use Rattle.finite_maps.proofs.Maps.{rewritten-same}
use Rattle.file_tree.specs.Tree.{Node, bytes_of_node, rewritten_node}
use Rattle.file_tree.specs.Tree as tree
use Rattle.file_tree.proofs.Ranges.{nothing_put, fits}
use Rattle.file_tree.proofs.tree.Tree.copy_range.Goals as goal

-- the change that the range is
abbrev change : ℕ → ℕ → Option (List ℕ) → Node → Node
change lo hi o = rewritten_node (λ old. overwritten old lo (range_of (unwrap_or o []) lo hi))

pub returns-in_default-clause-ok : goal.returns-in_default-clause-ok
returns-in_default-clause-ok c =
    let none = sym c.in_default.ensures in
    let empty : c.args.hi ≤ 0 = subst (λ o. c.args.hi ≤ length (unwrap_or o [])) none c.requires.there in
    rewritten-same number_keys c.args.self.now c.args.node (change c.args.lo c.args.hi (tree.bytes c.args.source.now c.args.node))
    (subst (λ o. (x : Node) → change c.args.lo c.args.hi o x ≡ x) (sym none) (nothing_put c.args.lo c.args.hi c.requires.forward empty))

pub returns-in_default-get_mut-clause-ok : goal.returns-in_default-get_mut-clause-ok
returns-in_default-get_mut-clause-ok c =
    rewritten_none c.self.inside.nodes c.get_mut.follows.lender-at-none c.args.self.now c.args.node c.self.view_is (change c.args.lo c.args.hi (tree.bytes c.args.source.now c.args.node)) c.get_mut.follows.holds-at-none c.in_default-get_mut.ensures.value

pub copy_range-requires-clause-inside : goal.copy_range-requires-clause-inside
copy_range-requires-clause-inside c =
    let kept = get-of c.self.inside.nodes.entries c.args.self.now c.args.node c.self.view_is in
    let P : Option Node → Type 0 = λ o. IfSome (option_map length (option_and_then bytes_of_node o)) (λ size. c.args.hi ≤ size) in
    fits c.args.hi (bytes_of_node c.in-Some-get_mut.found.now) (subst P (kept ∙ sym c.in-Some-get_mut.ensures.value) c.requires.inside)

pub returns-clause-ok : goal.returns-clause-ok
returns-clause-ok c =
    let w = c.copy_range.new.self in
    on_ok_weaker c.copy_range.result
    (λ e.
    rewritten_through c.self.inside.nodes (c.get_mut.follows.lender w) c.args.self.now c.args.node c.self.view_is c.in-Some-get_mut.found.now w (c.get_mut.follows.holds w) c.in-Some-get_mut.ensures.value (change c.args.lo c.args.hi (Some c.in-Some.bytes.now)) e
    ∙ ap (λ o. adjust_number (change c.args.lo c.args.hi o) c.args.self.now c.args.node) c.in-Some.ensures)
    c.copy_range.ensures.ok

pub returns-clause-err : goal.returns-clause-err
returns-clause-err c =
    let w = c.copy_range.new.self in
    rewritten_err c.self.inside.nodes (c.get_mut.follows.lender w) c.args.self.now c.args.node c.self.view_is c.in-Some-get_mut.found.now w (c.get_mut.follows.holds w) c.in-Some-get_mut.ensures.value c.copy_range.result c.copy_range.ensures.err
