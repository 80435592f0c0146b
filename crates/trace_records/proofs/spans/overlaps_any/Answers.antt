use Rattle.std.proofs.Common.{◌+◌, ◌<◌, arith}
use Rattle.std.proofs.lemmas.Map.Keys.{ge_from_not_lt}
use Rattle.trace_format.proofs.KnownSpans.{empty_overlaps_none, first_overlaps_none, last_decides, less, lt_from_less}
use Rattle.trace_records.proofs.spans.overlaps_any.Goals as goal

pub returns-then-buffer-eq0 : goal.returns-then-buffer-eq0
returns-then-buffer-eq0 c earlier knows = empty_overlaps_none earlier c.args.buffer.now c.if-buffer-eq0.true

pub returns-in-None : goal.returns-in-None
returns-in-None c earlier knows =
    first_overlaps_none c.args.spans.now earlier c.args.buffer.now knows (λ q lt. (c.range.ensures.in_range tt).5 c.in-None.ensures.steps.0 q (tt, less q (c.args.buffer.now.address + c.from.result) (rw c.from.ensures lt)))

pub returns-in-Some : goal.returns-in-Some
returns-in-Some c earlier knows =
    let part = c.range.ensures.in_range tt in
    let found = part.3 (c.in-Some.start.now, c.in-Some.len.now) c.next_back.new.self c.in-Some.ensures.steps in
    let lt : c.in-Some.start.now < c.args.buffer.now.address + c.args.buffer.now.len = rw (← c.from.ensures) (lt_from_less c.in-Some.start.now (c.args.buffer.now.address + c.from.result) found.0.1) in
    rw (c.saturating_sub.ensures, c.from-in-Some.ensures) (last_decides c.args.spans.now earlier c.args.buffer.now c.in-Some.start.now c.in-Some.len.now knows (omega arith) lt found.1
    (λ q below there. ge_from_not_lt c.in-Some.start.now q (part.4 (c.in-Some.start.now, c.in-Some.len.now) c.next_back.new.self c.in-Some.ensures.steps q (tt, less q (c.args.buffer.now.address + c.from.result) (rw c.from.ensures below)) there)))
