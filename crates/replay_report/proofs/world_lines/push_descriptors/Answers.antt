use Rattle.std.proofs.Common.{string_bytes}
use Rattle.replay_report.specs.Report.{descriptor_line}
use Rattle.replay_report.proofs.ReportLemmas.{list_grown}
use Rattle.replay_report.proofs.world_lines.push_descriptors.Goals as goal

pub loop-descriptor-preserved : goal.loop-descriptor-preserved
loop-descriptor-preserved c =
    list_grown (string_bytes c.args.text.now) (string_bytes c.loop-descriptor.text) (string_bytes c.push_descriptor.new.text) descriptor_line c.args.descriptors.now c.loop-descriptor.descriptor-index
    (record { number = 0; description = 0; node = 0; position = 0 }) c.loop-descriptor-test.true c.loop-descriptor.invariant c.in_ok-push_descriptor.ensures
