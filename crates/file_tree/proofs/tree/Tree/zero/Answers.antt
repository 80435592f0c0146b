use Rattle.extent_bytes.specs.Bytes.{zeroed}
use Rattle.file_tree.specs.Tree.{rewritten_node}
use Rattle.file_tree.proofs.tree.Tree.zero.Goals as goal
use Rattle.finite_maps.proofs.Indexed.{rewritten_none, rewritten_err, rewritten_ok}

pub returns-in_default-clause-ok : goal.returns-in_default-clause-ok
returns-in_default-clause-ok c =
    rewritten_none c.self.inside.nodes c.get_mut.follows.lender-at-none c.args.self.now c.args.node c.self.view_is (rewritten_node (λ old. zeroed old c.args.lo c.args.hi)) c.get_mut.follows.holds-at-none c.in_default.ensures.value

pub returns : goal.returns
returns c =
    let w = c.zero.new.self in
    record {
      ok = rewritten_ok c.self.inside.nodes (c.get_mut.follows.lender w) c.args.self.now c.args.node c.self.view_is c.in-Some.found.now w (c.get_mut.follows.holds w) c.in-Some.ensures.value c.zero.result (rewritten_node (λ old. zeroed old c.args.lo c.args.hi)) c.zero.ensures.ok;
      err = rewritten_err c.self.inside.nodes (c.get_mut.follows.lender w) c.args.self.now c.args.node c.self.view_is c.in-Some.found.now w (c.get_mut.follows.holds w) c.in-Some.ensures.value c.zero.result c.zero.ensures.err;
    }
