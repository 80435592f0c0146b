use Rattle.std.proofs.Common.{Some, ap}
use Rattle.finite_maps.proofs.Indexed.{seen-assign}
use Rattle.world_parts.specs.Uses.{broken_meant}
use Rattle.world_parts.proofs.state.State.break_chain.Goals as goal

pub returns : goal.returns
returns c = λ i. record (c.self.view_is i) {
  broken = seen-assign c.self.inside.broken c.insert.new.self c.args.self.now.broken c.args.chain (Some (broken_meant c.args.broken)) (ap (λ w. w.broken) c.self.view_is) c.in_ok-insert.ensures.updates i;
}
