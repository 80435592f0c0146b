use Rattle.std.proofs.Common.{take, ap, sym, ◌∙◌}
use Rattle.std.specs.Prelude.{map}
use Rattle.trace_records.specs.declared.start.Range.{Range}
use Rattle.world_parts.specs.Start.{range_written}
use Rattle.world_parts.specs.World.{apply, apply_all}
use Rattle.world_parts.proofs.Starts.{written-more}
use Rattle.world_parts.proofs.state.State.write_ranges.Goals as goal

pub loop-range-preserved : goal.loop-range-preserved
loop-range-preserved c =
    let i = c.args.number in
    let r = c.range-item.result in
    let before = apply_all (map (range_written i) (take c.loop-range.range-index c.args.ranges.now)) c.args.self.now in
    c.in_ok-write_from_blob.ensures ∙ ap (apply (range_written i r)) c.loop-range.invariant
    ∙ ap (λ (x : Range). apply (range_written i x) before) c.range-item.is
    ∙ sym (written-more c.args.self.now i c.args.ranges.now c.loop-range.range-index r c.loop-range-test.true)
