use Rattle.std.proofs.Common.{◌≡◌, ℕ, suc, ◌-◌, ◌+◌, ◌/◌, ◌%◌, refl, ap, arith}
use Rattle.std.specs.Prelude.{◌==◌, ◌||◌}
use Rattle.trace_text.specs.Names.{flag, flags_text, flags_from}
use Rattle.trace_text.proofs.Adds.{goes}
use Rattle.trace_text.proofs.names.push_flags.Goals as goal

pub loop-bit-init : goal.loop-bit-init
unfolding flags_text
loop-bit-init c = refl

pub loop-bit-preserved : goal.loop-bit-preserved
loop-bit-preserved c =
    let set = c.args.set in
    let bit = c.loop-bit.bit in
    let some = c.loop-bit.some in
    let rest = c.loop-bit.rest in
    let k : 32 - bit ≡ suc (32 - (bit + 1)) = omega arith in
    goes (flag set (rest % 2 == 1) some bit) (flags_from set (32 - (bit + 1)) (bit + 1) (some || rest % 2 == 1) (rest / 2)) _ _ _ _ (ap (λ (n : ℕ). flags_from set n bit some rest) k) c.in_ok-push_flag_if.ensures c.loop-bit.invariant
