use Rattle.std.proofs.Common.{sym, ◌∙◌}
use Rattle.std.specs.Prelude.{ℕ, filter}
use Rattle.item_index.proofs.Pieces.{up_to}
use Rattle.item_index.proofs.spans.last_up_to.Goals as goal

pub returns-in-Some : goal.returns-in-Some
returns-in-Some c = (c.next_back.new.self, (λ i. filter (λ (r : ℕ × ℕ). up_to c.args.limit r.0 i) c.args.ends.now.entries) ∙ sym (c.range.ensures.between tt) ∙ c.in-Some.ensures.steps)

pub returns-in-None : goal.returns-in-None
returns-in-None c = (λ i. filter (λ (r : ℕ × ℕ). up_to c.args.limit r.0 i) c.args.ends.now.entries) ∙ sym (c.range.ensures.between tt) ∙ c.in-None.ensures.steps.0
