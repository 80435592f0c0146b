use Rattle.std.proofs.Common.{◌∙◌, arith}
use Rattle.std.proofs.lemmas.Result.{on_ok_weaker}
use Rattle.trace_text.proofs.Runs.{long_run, none_left, short_run, skip}
use Rattle.trace_text.proofs.pieces.push_pieces.Goals as goal

pub loop-run-preserved-then-bytes-run : goal.loop-run-preserved-then-bytes-run
loop-run-preserved-then-bytes-run c =
    let h = c.loop-run.invariant in
    record {
      ordered = omega (arith, h.ordered);
      within = omega (arith, c.loop-run-test.true);
      left = skip c.args.before.now c.args.bytes.now c.loop-run.text.items _ c.loop-run.start c.loop-run.run h.ordered (omega (arith, c.loop-run-test.true)) c.if-bytes-run.true h.left;
    }

pub loop-run-preserved-in_ok-push_ended : goal.loop-run-preserved-in_ok-push_ended
loop-run-preserved-in_ok-push_ended c =
    let h = c.loop-run.invariant in
    let end = c.run_end-end.ensures in
    record {
      ordered = omega arith;
      within = end.within;
      left = long_run c.args.before.now c.args.bytes.now c.loop-run.text.items c.push_ended.new.text.items _ c.loop-run.start c.loop-run.run c.run_end-end.result end.behind end.within
          c.if-end-run-ge-LEAST_RUN.true end.same end.other c.in_ok-push_ended.ensures h.left;
    }

pub loop-run-preserved : goal.loop-run-preserved
loop-run-preserved c =
    let h = c.loop-run.invariant in
    let end = c.run_end-end.ensures in
    record {
      ordered = omega (arith, h.ordered, end.behind);
      within = end.within;
      left = short_run c.args.before.now c.args.bytes.now c.loop-run.text.items _ c.loop-run.start c.loop-run.run c.run_end-end.result h.ordered end.behind end.within
          c.if-end-run-ge-LEAST_RUN.false end.same end.other h.left;
    }

pub returns : goal.returns
returns c =
    let h = c.loop-run.invariant in
    on_ok_weaker c.push_plains.result
    (λ e. e ∙ none_left c.args.before.now c.args.bytes.now c.loop-run.text.items _ c.loop-run.start c.loop-run.run h.ordered h.within (omega (arith, c.loop-run-test.false)) h.left)
    c.push_plains.ensures
