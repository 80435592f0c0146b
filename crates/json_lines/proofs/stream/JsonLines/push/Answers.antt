use Rattle.std.proofs.Common.{◌++◌, ◌+◌, ℕ, List, ap, ◌∙◌}
use Rattle.std.specs.Prelude.{is_ok}
use Rattle.std.specs.List.{list_all}
use Rattle.std.proofs.lemmas.List.{take_rest}
use Rattle.json_lines.specs.Lines.{is_inside, json_line}
use Rattle.json_lines.proofs.Feed.{line_taken, whole_either, whole_to_end, whole_with}
use Rattle.json_lines.proofs.stream.JsonLines.push.Goals as goal

pub invariant_of-self-in-Break-branch-2 : goal.invariant_of-self-in-Break-branch-2
invariant_of-self-in-Break-branch-2 c = record {
  unbroken = ap (list_all is_inside) c.in_ok-extend_from_slice.ensures.items
      ∙ whole_with c.loop-end.self.line.items c.loop-end.rest.now c.loop-end.end c.loop-end.self.unbroken c.loop-end.invariant.found;
}

pub loop-end-preserved : goal.loop-end-preserved
loop-end-preserved c = record {
  found = c.first_place-end-in-loop-end.ensures.place;
  left = λ more. line_taken _ c.loop-end.self.line.items c.loop-end.rest.now more c.loop-end.json.items _ _ _ c.loop-end.end
      c.loop-end.self.unbroken c.loop-end.invariant.found c.loop-end-test.true
      (c.in_ok-push_line.ensures ∙ ap (λ (l : List ℕ). c.loop-end.json.items ++ json_line l) (c.as_slice.ensures.value ∙ c.in_ok-extend_from_slice.ensures.items))
      c.clear.ensures.items (take_rest c.loop-end.rest.now (c.loop-end.end + 1)) (c.loop-end.invariant.left more);
}

pub invariant_of-self-2 : goal.invariant_of-self-2
invariant_of-self-2 c = record {
  unbroken = whole_either (is_ok c.extend_from_slice-2.result) c.loop-end.self.line.items (c.loop-end.self.line.items ++ c.loop-end.rest.now) _
      c.extend_from_slice-2.ensures.items c.loop-end.self.unbroken
      (whole_to_end c.loop-end.self.line.items c.loop-end.rest.now c.loop-end.end c.loop-end.self.unbroken c.loop-end.invariant.found c.loop-end-test.false);
}
