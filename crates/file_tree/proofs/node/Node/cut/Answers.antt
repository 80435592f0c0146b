use Rattle.std.proofs.Common.{ℕ, List, [], ap, sym, subst, ◌≡◌, ◌∙◌}
use Rattle.std.specs.Prelude.{IfOk, unwrap_or}
use Rattle.std.proofs.lemmas.Result.{IfOk-weaker}
use Rattle.extent_bytes.specs.Bytes.{range_of}
use Rattle.file_tree.specs.Tree.{Node, bytes_of_node}
use Rattle.file_tree.specs.Nodes.{node_of}
use Rattle.file_tree.proofs.node.Node.cut.Goals.{in-Directory, in-File}
use Rattle.file_tree.proofs.node.Node.cut.Goals as goal
use Rattle.extent_bytes.proofs.Lists.{range_of-none}

abbrev held : ℕ → ℕ → Node → List ℕ
held lo hi n = range_of (unwrap_or (bytes_of_node n) []) lo hi

pub returns-clause-part : goal.returns-clause-part
returns-clause-part c =
    let lo = c.args.lo in
    let hi = c.args.hi in
    elim c.match-self.branch [
      | in-Directory w ↦ subst (λ r. IfOk r (λ part. part ≡ held lo hi c.args.self.now)) (sym w.result-is)
          (w.new.ensures ∙ sym (ap (held lo hi) (sym c.self.view_is ∙ ap node_of w.in-Directory.is) ∙ range_of-none lo hi))
      | in-File w ↦ subst (λ r. IfOk r (λ part. part ≡ held lo hi c.args.self.now)) (sym w.result-is)
          (IfOk-weaker w.cut.result _ _ (λ part e. e ∙ w.within-lo.ensures.taken ∙ sym (ap (held lo hi) (sym c.self.view_is ∙ ap node_of w.in-File.is))) w.cut.ensures.part)
    ]
