use Rattle.std.proofs.Common.{arith}
use Rattle.std.proofs.lemmas.Grind.{common_steps}
use Rattle.std.proofs.lemmas.List.{take_rest}
use Rattle.std.proofs.Math.Seq.{take-add}
use Rattle.std.proofs.KnownBytes.{Appends-trans}
use Rattle.byte_transfer.proofs.transfer.write_text.Goals as goal

pub loop-done-preserved : goal.loop-done-preserved
loop-done-preserved g c =
    let wrote = rw take_rest at c.in-Ok.ensures.bytes in
    let fits = rw take_rest at c.in-Ok.ensures.bound in
    record {
      grown = rw take-add (Appends-trans _ _ _ _ _ c.loop-done.invariant.grown wrote);
      bound = grind (arith, common_steps);
      failures = grind (arith, common_steps);
    }
