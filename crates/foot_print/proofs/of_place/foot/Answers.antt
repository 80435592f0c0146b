use Rattle.std.proofs.Common.{sym, ap, subst, ◌∙◌, ◌<◌, length}
use Rattle.chain_plan.proofs.Walk.{length-roles}
use Rattle.foot_print.proofs.of_place.foot.Goals as goal

pub role-role-requires : goal.role-role-requires
role-role-requires c = subst (λ n. c.args.place < n) (sym (ap length c.requires.plan ∙ length-roles c.args.trace.now)) c.requires.place
