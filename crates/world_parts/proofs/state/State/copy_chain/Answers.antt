use Rattle.std.proofs.Common.{sym}
use Rattle.std.proofs.lemmas.Result.{on_ok_weaker}
use Rattle.world_parts.specs.Items.{one, chain_flag}
use Rattle.world_parts.specs.Uses.{broken_meant}
use Rattle.world_parts.specs.World.{break_chain, apply}
use Rattle.world_parts.proofs.Copies.{copied_to, chain_copied, no_chain_copied}
use Rattle.world_parts.proofs.state.State.copy_chain.Goals as goal

pub returns-in_default : goal.returns-in_default
returns-in_default c = no_chain_copied c.args.from.now c.args.self.now c.args.chain (sym c.in_default.ensures) c.requires

pub returns : goal.returns
returns c =
    let s = c.args.from.now in
    let p = c.args.self.now in
    let f = broken_meant c.in-Some.broken in
    on_ok_weaker c.break_chain.result
    (copied_to s p (apply (break_chain c.args.chain f) p) c.break_chain.new.self (one (chain_flag c.args.chain)) (chain_copied s p c.args.chain f (sym c.in-Some.ensures) c.requires))
    c.break_chain.ensures
