use Rattle.std.proofs.Common.{◌≡◌, ℕ, suc, ◌-◌, ◌+◌, ◌/◌, ◌%◌, refl, ap, arith}
use Rattle.std.specs.Prelude.{◌==◌}
use Rattle.trace_text.specs.Names.{entry_flag, entry_flags, entry_flags_from}
use Rattle.trace_text.proofs.Adds.{goes}
use Rattle.trace_text.proofs.names.push_entry_flags.Goals as goal

pub loop-bit-init : goal.loop-bit-init
unfolding entry_flags
loop-bit-init c = refl

pub loop-bit-preserved : goal.loop-bit-preserved
loop-bit-preserved c =
    let bit = c.loop-bit.bit in
    let rest = c.loop-bit.rest in
    let k : 8 - bit ≡ suc (8 - (bit + 1)) = omega arith in
    goes (entry_flag (rest % 2 == 1) bit) (entry_flags_from (8 - (bit + 1)) (bit + 1) (rest / 2)) _ _ _ _ (ap (λ (n : ℕ). entry_flags_from n bit rest) k) c.in_ok-push_entry_flag.ensures c.loop-bit.invariant
