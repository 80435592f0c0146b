use Rattle.std.proofs.Common.{◌≡◌, ◌++◌, ◌∷◌, ◌∙◌, [], ap, subst, sym}
use Rattle.std.specs.Prelude.{◌&&◌}
use Rattle.item_index.specs.Ahead.{written_before}
use Rattle.item_index.specs.Touching.{writes_item}
use Rattle.world_parts.specs.Items.{chain_flag, one, all_descriptors}
use Rattle.round_scheduler.specs.Grounds.{AddsGround}
use Rattle.round_scheduler.proofs.Grounds.{rests_on_grounds}
use Rattle.round_scheduler.proofs.scheduler.waits_on.Goals.{then-outlook, else-outlook}
use Rattle.round_scheduler.proofs.scheduler.waits_on.Goals as goal

pub returns : goal.returns
returns c =
    let o = c.args.outlook.now in
    let chain = c.args.role.now.chain in
    let w = written_before c.args.behind.now in
    let earlier = c.args.earlier.now in
    let reaches = c.args.reaches.now in
    let alone = c.push.new.self.items in
    let two = c.add_writer.new.on.items in
    let all = c.add_writer-2.new.on.items in
    let lowest : c.if-outlook.lowest ≡ (o.takes_lowest && w all_descriptors) = elim c.if-outlook.branch [
      | then-outlook b ↦ b.lowest-is ∙ b.writes-lowest.ensures ∙ ap (λ t. t && w all_descriptors) (sym b.if-outlook.true)
      | else-outlook b ↦ b.lowest-is ∙ b.if-outlook.false ∙ ap (λ t. t && w all_descriptors) (sym b.if-outlook.false)
    ] in
    let flag = subst (λ a. AddsGround a (λ g. writes_item g (one (chain_flag chain))) earlier reaches alone two) c.writes-chained.ensures (c.in_ok-add_writer.ensures c.if-not-branch.false) in
    let last = subst (λ a. AddsGround a (λ g. writes_item g all_descriptors) earlier reaches two all) lowest (c.in_ok-add_writer-2.ensures c.if-not-branch-2.false) in
    rests_on_grounds o chain w earlier reaches c.in-Some.items.now (sym c.in-Some.ensures) c.in-Some-latest_on.found.place c.in-Some-latest_on.ensures alone two all
    (c.in_ok-push.ensures.items ∙ ap (λ xs. xs ++ c.in-Some-latest_on.found.place ∷ []) c.new-on.ensures.items) flag last
