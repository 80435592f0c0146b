use Rattle.std.proofs.Common.{None, ap, ◌∙◌}
use Rattle.finite_maps.specs.Table.{assign, number_keys}
use Rattle.finite_maps.proofs.Indexed.{seen-assign}
use Rattle.world_parts.proofs.state.State.put_chain.Goals as goal

pub returns-in_default : goal.returns-in_default
returns-in_default c = λ i. record (c.self.view_is i) {
  broken = (seen-assign c.self.inside.broken c.swap_remove.new.self c.args.self.now.broken c.args.chain None (ap (λ w. w.broken) c.self.view_is) c.swap_remove.ensures.updates ∙ ap (assign number_keys.total c.args.self.now.broken c.args.chain) c.in_default.ensures) i;
}
