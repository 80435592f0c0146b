use Rattle.std.proofs.Common.{ℕ, ◌++◌, List, ap, arith, length, sym, ◌∙◌, ◌≡◌}
use Rattle.std.proofs.lemmas.List.{length-map}
use Rattle.std.proofs.lemmas.Result.{on_ok_weaker}
use Rattle.trace_format.specs.Steps.{step_meant, steps}
use Rattle.trace_text.specs.Below.{action_line, entry_lines}
use Rattle.trace_text.proofs.Places.{line_of}
use Rattle.trace_text.proofs.below.TracePlaced.push_line.Goals as goal

pub overflow_cast-place : goal.overflow_cast-place
overflow_cast-place c =
    let many : length (entry_lines c.args.self.now) ≡ length (steps c.args.self.now) = length-map _ _ in
    omega (arith, many, c.places-places.ensures.places, c.places-places.ensures.limit)

pub step-requires : goal.step-requires
step-requires c =
    let many : length (entry_lines c.args.self.now) ≡ length (steps c.args.self.now) = length-map _ _ in
    omega (arith, many)

pub returns : goal.returns
returns c =
    let line = line_of (λ s. action_line s.action) (steps c.args.self.now) c.args.place (step_meant c.step.result) c.step.ensures in
    on_ok_weaker c.push_action.result (λ e. e ∙ ap (λ (l : List ℕ). c.args.text.now.items ++ l) (sym line)) c.push_action.ensures
