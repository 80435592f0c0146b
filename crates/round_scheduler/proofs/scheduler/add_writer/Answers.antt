use Rattle.item_index.specs.Touching.{writes_item}
use Rattle.world_parts.specs.Uses.{item_meant}
use Rattle.round_scheduler.proofs.Grounds.{adds_found}
use Rattle.round_scheduler.proofs.scheduler.add_writer.Goals as goal

pub returns : goal.returns
returns c = λ _. adds_found c.args.asked (λ g. writes_item g (item_meant c.args.item.now)) c.args.earlier.now c.args.reaches.now c.args.on.now.items c.push.new.self.items c.in-Some.found.place c.in_ok-push.ensures.items c.in-Some.ensures
