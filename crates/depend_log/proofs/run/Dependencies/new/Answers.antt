use Rattle.std.proofs.Common.{sym, subst}
use Rattle.dependencies.specs.Rule.{foot_at}
use Rattle.depend_log.specs.Running.{AreFeet}
use Rattle.depend_log.proofs.Running.{no_feet}
use Rattle.depend_log.proofs.run.Dependencies.new.Goals as goal

pub returns-in-Ok-clause-run : goal.returns-in-Ok-clause-run
returns-in-Ok-clause-run c =
    let t = c.args.trace.now in
    record {
      plan = c.in_ok-plan.ensures.roles;
      many = c.in_ok-plan.ensures.places;
      state = c.in-Ok.ensures;
      feet = subst (λ feet. AreFeet t 0 feet) (sym c.new.ensures.items) (no_feet t);
      waits = c.new-waits.ensures (foot_at t);
    }
