use Rattle.std.proofs.Common.{◌∙◌, ap, arith, set, sym}
use Rattle.std.proofs.lemmas.List.Edits.{map_over_more}
use Rattle.world_parts.specs.Uses.{only_read}
use Rattle.world_parts.proofs.footprint.make_reads.Goals as goal

pub loop-used-preserved : goal.loop-used-preserved
loop-used-preserved c =
    ap (λ u. set c.loop-used.uses c.loop-used.used-index (only_read u)) (sym c.used-item.is)
    ∙ map_over_more only_read c.args.uses.now c.loop-used.uses c.loop-used.used-index c.used-item.result (omega arith) c.loop-used.invariant c.used-item.is
