-- What is appended is the outcome with the head ahead of it.
use Rattle.std.proofs.Common.{◌≡◌, ◌-◌, ◌++◌, arith, take, drop, length-drop, append-nil, ◌∙◌, ap}
use Rattle.std.proofs.lemmas.List.{take_all}
use Rattle.extent_bytes.proofs.Outcomes.{ok_items}
use Rattle.replay_report.proofs.entry_line.push_facts.Goals as goal

pub returns : goal.returns
returns c =
    let start = c.put_head-start.result in
    let line = c.put_head-start.new.line in
    let whole : take (176 - start) (drop start line) ≡ drop start line = take_all (176 - start) (drop start line) (simp length-drop (omega arith)) in
    let outcome = rw append-nil at c.put_outcome-end.ensures.written in
    let written = rw outcome at c.put_head-start.ensures.written in
    ok_items c.extend_from_slice.result c.args.text.now.items _ c.extend_from_slice.new.self.items _ c.extend_from_slice.ensures.items
    (ap (λ shown. c.args.text.now.items ++ shown) (whole ∙ written))
