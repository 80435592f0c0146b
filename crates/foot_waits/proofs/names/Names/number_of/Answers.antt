use Rattle.std.proofs.Common.{ℕ, List, Vec, Global, ap, ◌∙◌}
use Rattle.foot_waits.specs.Names.{number_at}
use Rattle.foot_waits.proofs.Numbering.{number_found}
use Rattle.foot_waits.proofs.names.Names.number_of.Goals as goal

pub returns : goal.returns
returns c =
    let items : Vec ℕ Global → List ℕ = λ v. v.items in
    c.copied.ensures ∙ c.get.ensures.value ∙ number_found items c.args.key.now c.self.inside.numbers.entries ∙ ap (λ es. number_at es c.args.key.now) c.self.view_is
