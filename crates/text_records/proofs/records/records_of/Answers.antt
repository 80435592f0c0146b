use Rattle.std.proofs.Common.{◌≡◌, arith, None, refl, sym, ◌∙◌}
use Rattle.text_words.specs.Read.{rest_of}
use Rattle.text_words.proofs.Exits.{goes_out}
use Rattle.text_words.proofs.Loops.{fails, goes_on, is_done, stops}
use Rattle.text_records.specs.Records.{records_of, step_of}
use Rattle.text_records.proofs.records.records_of.Goals as goal
use Rattle.text_records.proofs.records.records_of.Goals.{else-loop-test, then-loop-test+in_default}

pub returns-in_err-source : goal.returns-in_err-source
unfolding records_of
returns-in_err-source c =
    goes_out _ _ _ _ _ c.from_residual.ensures.1 c.in_err-source.ensures.read
    (λ f e. fails c.loop-test.true (rw (← c.in-Some.ensures, e) refl) c.loop.invariant.read)

pub loop-preserved : goal.loop-preserved
loop-preserved c =
    record {
      read = goes_on c.loop-test.true (rw (← c.in-Some.ensures, c.in_ok-source.ensures.read) refl) c.loop.invariant.read;
      counted = c.in_ok-source.ensures.counted;
      few = omega (arith, c.in_ok-source.ensures.few, c.loop.invariant.few);
    }

pub returns : goal.returns
unfolding records_of
returns c = elim c.loop-test.branch [
  | else-loop-test w ↦ is_done w.loop-test.false c.loop.invariant.read
  | then-loop-test+in_default w ↦
      let none : step_of (rest_of c.loop.source) ≡ None = sym w.step_of.ensures ∙ w.in_default.is in
      stops (rw none refl) c.loop.invariant.read
]
