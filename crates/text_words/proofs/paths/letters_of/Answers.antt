use Rattle.std.proofs.Common.{refl}
use Rattle.text_words.specs.Paths.{letters_of}
use Rattle.text_words.proofs.Exits.{goes_out}
use Rattle.text_words.proofs.Loops.{fails, goes_on, is_done, stops}
use Rattle.text_words.proofs.paths.letters_of.Goals as goal
use Rattle.text_words.proofs.paths.letters_of.Goals.{else-loop-test, then-loop-test+then-is_empty}

pub returns-in_err-rest : goal.returns-in_err-rest
unfolding letters_of
returns-in_err-rest c =
    goes_out (λ path. path.items) _ _ _ _ c.from_residual.ensures.1 c.in_err-rest.ensures
    (λ f e. rw (fails {f = f} c.loop-test.true (rw (← c.if-is_empty.ensures, e) refl) c.loop.invariant.read) refl)

pub loop-preserved : goal.loop-preserved
loop-preserved c = record { read = goes_on c.loop-test.true (rw (← c.if-is_empty.ensures, c.in_ok-rest.ensures) refl) c.loop.invariant.read }

pub returns : goal.returns
unfolding letters_of
returns c = elim c.loop-test.branch [
  | else-loop-test w ↦ rw (is_done w.loop-test.false c.loop.invariant.read) refl
  | then-loop-test+then-is_empty w ↦ rw (stops (rw (← w.if-is_empty.ensures) refl) c.loop.invariant.read) refl
]
