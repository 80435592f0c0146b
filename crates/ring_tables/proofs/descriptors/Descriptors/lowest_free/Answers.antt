use Rattle.std.proofs.Common.{◌∙◌}
use Rattle.std.specs.Prelude.{is_none}
use Rattle.finite_maps.specs.Table.{get}
use Rattle.ring_tables.proofs.Fronts.{find-behind, taken-seen}
use Rattle.ring_tables.proofs.descriptors.Descriptors.lowest_free.Goals as goal

pub returns : goal.returns
returns c =
    let found = c.free_from-lowest in
    c.then_some.ensures
    ∙ find-behind (λ n. is_none (get c.args.self.now n)) c.front.result c.args.count found.result c.front.ensures.taken
    (λ n from below. taken-seen c.self.view_is n (found.ensures.taken n from below)) found.ensures.most (λ below. taken-seen c.self.view_is found.result (found.ensures.free below))
