use Rattle.std.proofs.Common.{inl, inr, ◌∙◌}
use Rattle.std.specs.Prelude.{None, refl}
use Rattle.std.proofs.lemmas.Bool.{cases_Bool}
use Rattle.use_line.specs.Spans.{within}
use Rattle.use_line.proofs.Entries.{put_at, rises_more}
use Rattle.use_line.proofs.steps.Steps.put.Goals as goal

pub invariant_of-self-2 : goal.invariant_of-self-2
invariant_of-self-2 c = rw c.in_ok-insert.ensures.entries (rises_more c.args.low c.args.value c.self.inside.entries.entries c.self.invariant)

pub returns : goal.returns
returns c = λ b.
    let es = c.self.inside.entries.entries in
    let last = rw (← c.self.view_is) at c.in_ok-part_at.ensures.last in
    let none = rw (← c.self.view_is) at c.in_ok-part_at.ensures.none in
    rw c.in_ok-insert.ensures.entries (put_at c.args.low c.args.high c.requires c.args.value None es b c.self.invariant last none
    ∙ (elim (cases_Bool (within c.args.low c.args.high b)) [
      | inl t ↦ rw t refl
      | inr f ↦ rw f (rw c.self.view_is (c.in_ok-part_at.ensures.outside b f))
    ]))
