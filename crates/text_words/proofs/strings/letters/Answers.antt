use Rattle.std.proofs.Common.{refl}
use Rattle.text_words.specs.Strings.{letters}
use Rattle.text_words.proofs.Exits.{goes_out}
use Rattle.text_words.proofs.Loops.{fails, goes_on, is_done, stops}
use Rattle.text_words.proofs.strings.letters.Goals as goal
use Rattle.text_words.proofs.strings.letters.Goals.{else-loop-test, then-loop-test+then-starts_with}

pub returns-in_err-rest : goal.returns-in_err-rest
unfolding letters
returns-in_err-rest c =
    goes_out _ _ _ _ _ c.from_residual.ensures.1 c.in_err-rest.ensures
    (λ f e. fails c.loop-test.true (rw (← c.if-starts_with.ensures.value, e) refl) c.loop.invariant.read)

pub loop-preserved : goal.loop-preserved
loop-preserved c = record { read = goes_on c.loop-test.true (rw (← c.if-starts_with.ensures.value, c.in_ok-rest.ensures) refl) c.loop.invariant.read }

pub returns : goal.returns
unfolding letters
returns c = elim c.loop-test.branch [
  | else-loop-test w ↦ is_done w.loop-test.false c.loop.invariant.read
  | then-loop-test+then-starts_with w ↦ stops (rw (← w.if-starts_with.ensures.value) refl) c.loop.invariant.read
]
