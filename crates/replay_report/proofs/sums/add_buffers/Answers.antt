use Rattle.std.proofs.Common.{◌++◌, take, refl, subst}
use Rattle.std.specs.List.{flat_map}
use Rattle.std.proofs.lemmas.List.{take_all}
use Rattle.replay_report.specs.Sums.{HaveSame, buffer_to_sum}
use Rattle.replay_report.proofs.ReportLemmas.{list_grown}
use Rattle.replay_report.proofs.SumLemmas.{exact_shown, same_itself, same_more}
use Rattle.replay_report.proofs.sums.add_buffers.Goals as goal

pub loop-buffer-init : goal.loop-buffer-init
loop-buffer-init c = same_itself c.args.shown.now.keys

pub loop-buffer-preserved : goal.loop-buffer-preserved
loop-buffer-preserved c =
    let old = c.args.shown.now.keys in
    let now = old ++ flat_map buffer_to_sum (take c.loop-buffer.buffer-index c.args.buffers.now) in
    subst (HaveSame c.insert.new.self.keys) (list_grown old now _ buffer_to_sum c.args.buffers.now c.loop-buffer.buffer-index
    (record { ring = 0; index = 0; len = 0 }) c.loop-buffer-test.true refl refl)
    (rw c.in_ok-insert.ensures.keys (same_more _ exact_shown _ c.loop-buffer.shown.keys now c.loop-buffer.invariant))

pub returns : goal.returns
returns c = rw (take_all c.loop-buffer.buffer-index c.args.buffers.now c.loop-buffer-test.false) at c.loop-buffer.invariant
