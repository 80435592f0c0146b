use Rattle.std.proofs.Common.{◌+◌, ◌≤◌, arith, length}
use Rattle.recording.specs.Limits.{places_limit}
use Rattle.recording.proofs.Spots.{counted, kept_more, steps_more}
use Rattle.recording.proofs.kept.Grown.with.Goals as goal

pub add_record-requires : goal.add_record-requires
add_record-requires c = omega (arith, c.requires, counted _ _ c.self.inside.records.items _ c.self.invariant.0 c.self.view_is, c.step_count-count.ensures)

pub invariant_of-result : goal.invariant_of-result
invariant_of-result c =
    let count = counted _ _ c.self.inside.records.items _ c.self.invariant.0 c.self.view_is in
    let room : c.self.inside.first + length c.self.inside.indexes.items + c.step_count-count.result ≤ places_limit = omega (arith, c.requires, count, c.step_count-count.ensures) in
    kept_more _ _ _ _ _ _ c.self.inside.records.items _ c.len-2.result _ _ _ c.self.invariant c.in_ok-push.ensures.items (omega (arith, c.len.ensures, c.self.inside.indexes.ok.0)) (omega (arith, c.len-2.ensures, c.self.inside.records.ok.0)) c.step_count-count.ensures c.if-count-eq0.false room (c.in_ok-add_record.ensures.indexes, c.in_ok-add_record.ensures.firsts)

pub returns : goal.returns
returns c = steps_more _ c.self.inside.records.items _ _ _ c.self.view_is c.in_ok-push.ensures.items
