use Rattle.std.proofs.Common.{ap, sym, ◌∙◌}
use Rattle.std.proofs.lemmas.Result.{on_ok_weaker}
use Rattle.file_tree.specs.Kinds.{kind_meant}
use Rattle.finite_maps.specs.Table.{get}
use Rattle.world_parts.specs.Copying.{outline}
use Rattle.world_parts.proofs.Copies.{nearer_to}
use Rattle.world_parts.proofs.CopiesOfNodes.{unkinded, file_laid, listing_laid}
use Rattle.world_parts.proofs.state.State.copy_node.Goals as goal

pub returns-in-Some : goal.returns-in-Some
returns-in-Some c =
    let s = c.args.from.now in
    let p = c.args.self.now in
    let absent = unkinded kind_meant c.kind.result (get p.nodes c.args.node) c.kind.ensures c.if-is_some.ensures in
    let laid = file_laid s p c.requires c.args.node c.in-Some.size absent c.in-Some.ensures.value in
    record {
      nearer = on_ok_weaker c.add_zeros.result (nearer_to s p _ c.add_zeros.new.self laid.0) c.add_zeros.ensures;
      node = on_ok_weaker c.add_zeros.result (λ e. ap (λ w. outline w c.args.node) e ∙ laid.1) c.add_zeros.ensures;
    }

pub returns : goal.returns
returns c =
    let s = c.args.from.now in
    let p = c.args.self.now in
    let absent = unkinded kind_meant c.kind.result (get p.nodes c.args.node) c.kind.ensures c.if-is_some.ensures in
    let laid = listing_laid s p c.requires c.args.node c.in-Some-2.count absent (sym c.in-Some-2.is ∙ c.in_ok-count.ensures) in
    record {
      nearer = on_ok_weaker c.add_listing.result (nearer_to s p _ c.add_listing.new.self laid.0) c.add_listing.ensures;
      node = on_ok_weaker c.add_listing.result (λ e. ap (λ w. outline w c.args.node) e ∙ laid.1) c.add_listing.ensures;
    }
