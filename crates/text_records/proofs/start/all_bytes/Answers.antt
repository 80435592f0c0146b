use Rattle.std.proofs.Common.{refl}
use Rattle.text_words.proofs.Exits.{goes_out}
use Rattle.text_words.proofs.Loops.{fails, goes_on, is_done, stops}
use Rattle.text_records.specs.Start.{all_bytes}
use Rattle.text_records.proofs.start.all_bytes.Goals as goal
use Rattle.text_records.proofs.start.all_bytes.Goals.{else-loop-test, then-loop-test+then-not-is_string}

pub returns-in_err-source : goal.returns-in_err-source
unfolding all_bytes
returns-in_err-source c =
    goes_out _ _ _ _ _ c.from_residual.ensures.1 c.in_err-source.ensures
    (λ f e. fails c.loop-test.true (rw (← c.if-not-is_string.ensures, e) refl) c.loop.invariant.read)

pub loop-preserved : goal.loop-preserved
loop-preserved c = record { read = goes_on c.loop-test.true (rw (← c.if-not-is_string.ensures, c.in_ok-source.ensures) refl) c.loop.invariant.read }

pub returns : goal.returns
unfolding all_bytes
returns c = elim c.loop-test.branch [
  | else-loop-test w ↦ is_done w.loop-test.false c.loop.invariant.read
  | then-loop-test+then-not-is_string w ↦ stops (rw (← w.if-not-is_string.ensures) refl) c.loop.invariant.read
]
