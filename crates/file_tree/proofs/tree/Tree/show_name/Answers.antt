use Rattle.file_tree.specs.Tree.{shown_node}
use Rattle.file_tree.proofs.tree.Tree.show_name.Goals as goal
use Rattle.finite_maps.proofs.Indexed.{rewritten_none, rewritten_err, rewritten_ok}

pub returns-in_default-clause-ok : goal.returns-in_default-clause-ok
returns-in_default-clause-ok c =
    rewritten_none c.self.inside.nodes c.get_mut.follows.lender-at-none c.args.self.now c.args.directory c.self.view_is (shown_node c.args.name.now c.args.node) c.get_mut.follows.holds-at-none c.in_default.ensures.value

pub returns : goal.returns
returns c =
    let w = c.show_name.new.self in
    record {
      ok = rewritten_ok c.self.inside.nodes (c.get_mut.follows.lender w) c.args.self.now c.args.directory c.self.view_is c.in-Some.listing.now w (c.get_mut.follows.holds w) c.in-Some.ensures.value c.show_name.result (shown_node c.args.name.now c.args.node) c.show_name.ensures.ok;
      err = rewritten_err c.self.inside.nodes (c.get_mut.follows.lender w) c.args.self.now c.args.directory c.self.view_is c.in-Some.listing.now w (c.get_mut.follows.holds w) c.in-Some.ensures.value c.show_name.result c.show_name.ensures.err;
    }
