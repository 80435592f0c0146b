use Rattle.std.proofs.Common.{◌≡◌, ◌≤◌, map}
use Rattle.std.specs.List.{range_with_len}
use Rattle.chain_plan.specs.Stretch.{IsStretch, end_of}
use Rattle.op_meaning.specs.Step.{run_world, sequential_reply}
use Rattle.replay_report.specs.Report.{list_count}
use Rattle.replay_report.specs.RingTexts.{text_below}
use Rattle.replay_program.proofs.in_turn.texts_in_turn.Given as goal

-- the world of the places so far and their lines, and a stretch that has the place, or ends there
abbrev pub invariant-loop-place : goal.invariant-loop-place
invariant-loop-place l = record {
  state : l.state ≡ run_world l.trace l.place;
  texts : l.texts ≡ map (text_below l.trace (sequential_reply l.trace) l.lines l.place) (range_with_len 0 (list_count l.lines l.trace));
  stretch : IsStretch l.trace l.plan;
  from : l.plan.first ≤ l.place;
  within : l.place ≤ end_of l.plan;
}
