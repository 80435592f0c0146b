use Rattle.std.proofs.Common.{◌≤◌, ◌+◌, length, sym, subst, ◌∙◌}
use Rattle.std.specs.Prelude.{Option, IfSome}
use Rattle.std.specs.Option.{option_and_then, option_map}
use Rattle.extent_bytes.specs.Bytes.{overwritten}
use Rattle.finite_maps.proofs.Indexed.{get-of, rewritten_none, rewritten_err, rewritten_ok}
use Rattle.file_tree.specs.Tree.{Node, bytes_of_node, rewritten_node}
use Rattle.file_tree.proofs.tree.Tree.put_back.Goals as goal
use Rattle.file_tree.proofs.Ranges.{fits}

pub returns-in_default-clause-ok : goal.returns-in_default-clause-ok
returns-in_default-clause-ok c =
    rewritten_none c.self.inside.nodes c.get_mut.follows.lender-at-none c.args.self.now c.args.node c.self.view_is (rewritten_node (λ old. overwritten old c.args.lo c.args.part)) c.get_mut.follows.holds-at-none c.in_default.ensures.value

pub returns : goal.returns
returns c =
    let w = c.put_back.new.self in
    record {
      ok = rewritten_ok c.self.inside.nodes (c.get_mut.follows.lender w) c.args.self.now c.args.node c.self.view_is c.in-Some.found.now w (c.get_mut.follows.holds w) c.in-Some.ensures.value c.put_back.result (rewritten_node (λ old. overwritten old c.args.lo c.args.part)) c.put_back.ensures.ok;
      err = rewritten_err c.self.inside.nodes (c.get_mut.follows.lender w) c.args.self.now c.args.node c.self.view_is c.in-Some.found.now w (c.get_mut.follows.holds w) c.in-Some.ensures.value c.put_back.result c.put_back.ensures.err;
    }

pub put_back-requires : goal.put_back-requires
put_back-requires c =
    let kept = get-of c.self.inside.nodes.entries c.args.self.now c.args.node c.self.view_is in
    let end = c.args.lo + length c.args.part in
    let P : Option Node → Type 0 = λ o. IfSome (option_map length (option_and_then bytes_of_node o)) (λ size. end ≤ size) in
    fits end (bytes_of_node c.in-Some.found.now) (subst P (kept ∙ sym c.in-Some.ensures.value) c.requires)
