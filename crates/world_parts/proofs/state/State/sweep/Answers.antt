use Rattle.std.proofs.Common.{ap, nat_eq, refl}
use Rattle.indexmap.specs.IndexSet.{contains}
use Rattle.finite_maps.specs.Table.{number_keys}
use Rattle.finite_maps.specs.Maps.{table_of}
use Rattle.world_parts.proofs.Swept.{swept_by}
use Rattle.world_parts.proofs.state.State.sweep.Goals as goal

pub returns-clause-ok : goal.returns-clause-ok
returns-clause-ok c =
    swept_by c.args.started _ c.args.self.now _ c.self.view_is (λ d. contains nat_eq c.in_ok-held.held d) (λ i. contains nat_eq c.in_ok-led.led i)
    c.in_ok-held.ensures c.in_ok-led.ensures c.keep_only.ensures c.keep_only-2.ensures refl refl refl (ap (table_of number_keys.total) c.clear.ensures.empty)
