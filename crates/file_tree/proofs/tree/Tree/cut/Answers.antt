use Rattle.std.proofs.Common.{ℕ, List, [], ap, sym, ◌∙◌}
use Rattle.std.specs.Prelude.{Option, unwrap_or}
use Rattle.std.specs.Option.{option_and_then}
use Rattle.std.proofs.lemmas.Result.{IfOk-weaker}
use Rattle.extent_bytes.specs.Bytes.{range_of, zeroed}
use Rattle.finite_maps.proofs.Indexed.{get-of, rewritten_none, rewritten_err, rewritten_ok}
use Rattle.file_tree.specs.Tree.{Node, bytes_of_node, rewritten_node}
use Rattle.file_tree.proofs.tree.Tree.cut.Goals as goal
use Rattle.extent_bytes.proofs.Lists.{range_of-none}

pub returns-in_default-clause-rest : goal.returns-in_default-clause-rest
returns-in_default-clause-rest c =
    rewritten_none c.self.inside.nodes c.get_mut.follows.lender-at-none c.args.self.now c.args.node c.self.view_is (rewritten_node (λ old. zeroed old c.args.lo c.args.hi)) c.get_mut.follows.holds-at-none c.in_default.ensures.value

pub returns-clause-rest : goal.returns-clause-rest
returns-clause-rest c =
    let w = c.cut.new.self in
    rewritten_ok c.self.inside.nodes (c.get_mut.follows.lender w) c.args.self.now c.args.node c.self.view_is c.in-Some.found.now w (c.get_mut.follows.holds w) c.in-Some.ensures.value c.cut.result (rewritten_node (λ old. zeroed old c.args.lo c.args.hi)) c.cut.ensures.rest

pub returns-clause-err : goal.returns-clause-err
returns-clause-err c =
    let w = c.cut.new.self in
    rewritten_err c.self.inside.nodes (c.get_mut.follows.lender w) c.args.self.now c.args.node c.self.view_is c.in-Some.found.now w (c.get_mut.follows.holds w) c.in-Some.ensures.value c.cut.result c.cut.ensures.err

abbrev held : ℕ → ℕ → Option Node → List ℕ
held lo hi o = range_of (unwrap_or (option_and_then bytes_of_node o) []) lo hi

pub returns-in_default-clause-part : goal.returns-in_default-clause-part
returns-in_default-clause-part c =
    let kept = get-of c.self.inside.nodes.entries c.args.self.now c.args.node c.self.view_is in
    c.new.ensures ∙ sym (ap (held c.args.lo c.args.hi) (kept ∙ sym c.in_default.ensures.value) ∙ range_of-none c.args.lo c.args.hi)

pub returns-clause-part : goal.returns-clause-part
returns-clause-part c =
    let kept = get-of c.self.inside.nodes.entries c.args.self.now c.args.node c.self.view_is in
    IfOk-weaker c.cut.result _ _ (λ part e. e ∙ sym (ap (held c.args.lo c.args.hi) (kept ∙ sym c.in-Some.ensures.value))) c.cut.ensures.part
