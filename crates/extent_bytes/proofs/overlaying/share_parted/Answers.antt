use Rattle.std.proofs.lemmas.Result.{on_ok_weaker}
use Rattle.extent_bytes.proofs.Parted.{parted_shared}
use Rattle.extent_bytes.proofs.overlaying.share_parted.Goals as goal

pub returns : goal.returns
returns c = on_ok_weaker c.copy_bytes.result (λ o. parted_shared c.args.pages.now c.args.patch.now c.copy_bytes.new.pages c.args.first c.args.position c.requires o) c.copy_bytes.ensures.ok
