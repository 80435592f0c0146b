use Rattle.std.proofs.Common.{◌≡◌, ◌-◌, ◌+◌, sym, arith}
use Rattle.std.proofs.lemmas.Bool.Decides.{nat_tests}
use Rattle.report_diff.proofs.Words.{known_end, known_last, known_letter, known_space}
use Rattle.report_diff.proofs.lines.first_words.Goals.{then-byte-eq32+else-spaces-count, else-byte-eq32}
use Rattle.report_diff.proofs.lines.first_words.Goals as goal

pub returns-then-spaces-count : goal.returns-then-spaces-count
returns-then-spaces-count c =
    let one : c.args.count - c.loop-place.spaces ≡ 1 = omega arith in
    sym (known_last c.args.count c.args.line.now c.loop-place.place c.loop-place-test.true c.if-byte-eq32.true (rw one at c.loop-place.invariant.known))

pub loop-place-preserved : goal.loop-place-preserved
loop-place-preserved c =
    let left = c.args.count - c.if-byte-eq32.spaces in
    record {
      fewer = grind arith;
      bound = grind arith;
      known = elim c.if-byte-eq32.branch [
        | then-byte-eq32+else-spaces-count w ↦
            let less : c.args.count - c.loop-place.spaces ≡ left + 1 = omega arith in
            known_space c.args.count c.args.line.now c.loop-place.place left c.loop-place-test.true (omega arith) w.if-byte-eq32.true
            (rw less at c.loop-place.invariant.known)
        | else-byte-eq32 w ↦
            let same : c.args.count - c.loop-place.spaces ≡ left = omega arith in
            known_letter c.args.count c.args.line.now c.loop-place.place left c.loop-place-test.true (omega arith) (grind (arith, nat_tests))
            (rw same at c.loop-place.invariant.known)
      ];
    }

pub returns : goal.returns
returns c = sym (known_end c.args.count c.args.line.now c.loop-place.place (c.args.count - c.loop-place.spaces) c.loop-place-test.false
    (omega arith) c.loop-place.invariant.known)
