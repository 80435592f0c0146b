use Rattle.std.proofs.Common.{None, ap, ◌∙◌}
use Rattle.std.specs.Prelude.{leb, if◌then◌else◌}
use Rattle.op_meaning.specs.Step.{turn_under}
use Rattle.op_meaning.proofs.Turns.{of_flag}
use Rattle.chain_plan.specs.Chain.{role}
use Rattle.world_parts.specs.World.{broken}
use Rattle.op_meaning.proofs.turn.turn_in.Goals as goal

pub returns-clause-turn : goal.returns-clause-turn
returns-clause-turn c =
    let t = c.args.trace.now in
    let k = c.args.place in
    let s = c.args.state.now in
    c.turn_by.ensures.turn ∙ ap (turn_under t k) (c.flag.ensures ∙ (λ i. if leb 2 (c.requires.role i).length then broken s (c.requires.role i).chain else None)) ∙ of_flag t k (broken s (role t k).chain)
