use Rattle.std.proofs.Common.{◌≤◌, ◌+◌, ◌++◌, ap, length, take, arith}
use Rattle.std.proofs.lemmas.Grind.{common_steps}
use Rattle.std.proofs.lemmas.List.{length-append}
use Rattle.std.proofs.KnownBytes.{Consumes-trans}
use Rattle.byte_transfer.proofs.transfer.read_on.Goals as goal

pub returns-then-is_err-clause-taken : goal.returns-then-is_err-clause-taken
returns-then-is_err-clause-taken g c =
    let piece = take c.in-Ok.count c.read_some.new.buffer in
    let so_far = c.loop-piece.invariant.taken in
    let within : length c.loop-piece.text.items + length piece ≤ c.args.most = grind (arith, common_steps) in (
      so_far.0 ++ piece,
      Consumes-trans _ _ _ _ _ so_far.1 c.in-Ok.ensures.bytes.0,
      omega (arith, length-append so_far.0 piece, length-append c.args.text.items so_far.0, ap length so_far.2, within),
    )
