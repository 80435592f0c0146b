use Rattle.std.proofs.Common.{sym, ◌∙◌}
use Rattle.std.specs.Prelude.{ℕ, Option, filter}
use Rattle.use_line.proofs.Entries.{last_up, none_up, up_to}
use Rattle.use_line.proofs.steps.Steps.last_up_to.Goals as goal

pub returns-in-Some : goal.returns-in-Some
returns-in-Some c =
    let es = c.self.inside.entries.entries in
    let last = (λ i. filter (λ (e : ℕ × Option ℕ). up_to c.args.at e.0 i) es) ∙ sym (c.range.ensures.between tt) ∙ c.in-Some.ensures.steps in
    rw (← c.self.view_is) (last_up c.args.at es _ _ _ c.self.invariant last)

pub returns-in-None : goal.returns-in-None
returns-in-None c =
    let es = c.self.inside.entries.entries in
    let none = (λ i. filter (λ (e : ℕ × Option ℕ). up_to c.args.at e.0 i) es) ∙ sym (c.range.ensures.between tt) ∙ c.in-None.ensures.steps.0 in
    rw (← c.self.view_is) (none_up c.args.at es none)
