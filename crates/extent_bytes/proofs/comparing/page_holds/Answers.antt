use Rattle.std.proofs.Common.{◌+◌, ◌*◌, arith}
use Rattle.extent_bytes.specs.Kept.{byte_held}
use Rattle.extent_bytes.proofs.Compares.{blank_holds, part_holds}
use Rattle.extent_bytes.proofs.comparing.page_holds.Goals as goal

pub returns-in-Some : goal.returns-in-Some
returns-in-Some c =
    part_holds (byte_held c.args.pages.now) (c.args.number * 4096 + c.args.offset) _ c.in-Some.stored.now c.args.bytes.now c.eq.result (omega arith) c.in-Some.ensures.part c.eq.ensures

pub returns-in-None : goal.returns-in-None
returns-in-None c =
    blank_holds (byte_held c.args.pages.now) (c.args.number * 4096 + c.args.offset) _ c.args.bytes.now c.is_blank.result (omega arith) c.in-None.ensures.none c.is_blank.ensures
