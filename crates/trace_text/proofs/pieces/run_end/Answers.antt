use Rattle.std.proofs.Common.{arith}
use Rattle.trace_text.proofs.Runs.{longer}
use Rattle.trace_text.proofs.pieces.run_end.Goals as goal

pub loop-end-preserved : goal.loop-end-preserved
loop-end-preserved c =
    let h = c.loop-end.invariant in
    let next = c.alike-end.ensures in
    record {
      behind = omega (arith, h.behind);
      within = next.within;
      same = longer c.args.bytes.now c.args.from c.loop-end.end c.alike-end.result h.behind h.same c.if-bytes-end.true next.same;
    }
