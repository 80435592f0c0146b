use Rattle.std.proofs.Common.{ap, sym, ◌∙◌, slice_index_or, false}
use Rattle.std.specs.Prelude.{not}
use Rattle.interleaving.specs.Machine.{has}
use Rattle.replay_core.proofs.Fronts.{filter-same}
use Rattle.replay_core.proofs.front.drop_ran.Goals as goal

pub returns-then-ran-le-FEW : goal.returns-then-ran-le-FEW
returns-then-ran-le-FEW c =
    c.drop_each.ensures ∙ filter-same (λ k. not (has c.args.ran.now k)) (λ k. not (slice_index_or c.args.done.now k false)) c.args.front.now.items (λ k m. ap not (sym (c.requires.ran k m)))
