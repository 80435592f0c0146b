-- A write to a part of the page, which is 4,096 bytes long.
use Rattle.std.proofs.Common.{arith}
use Rattle.extent_bytes.proofs.Lists.{put_mid-overwritten}
use Rattle.extent_bytes.proofs.page.put.Goals as goal

pub returns : goal.returns
returns c =
    put_mid-overwritten c.args.page.now c.args.bytes.now c.copy_from_slice.new.self c.args.at _ (omega arith) (omega arith) c.copy_from_slice.ensures.after
