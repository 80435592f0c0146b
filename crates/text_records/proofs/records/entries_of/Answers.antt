use Rattle.std.proofs.Common.{◌≡◌, None, Some, ap, refl, sym, ◌∙◌}
use Rattle.text_words.specs.Read.{Word, rest_of}
use Rattle.text_words.specs.Words.{first_word}
use Rattle.text_words.proofs.Exits.{goes_out}
use Rattle.text_words.proofs.Loops.{fails, goes_on, is_done, stops}
use Rattle.text_records.specs.Records.{entries_of}
use Rattle.text_trace.specs.Fields.{opcode_of}
use Rattle.text_records.proofs.records.entries_of.Goals as goal
use Rattle.text_records.proofs.records.entries_of.Goals.{else-loop-test, then-loop-test+in_default}

pub returns-in_err-source : goal.returns-in_err-source
unfolding entries_of
returns-in_err-source c =
    let named : Some c.in-Some.opcode ≡ opcode_of (first_word (rest_of c.loop.source)).bytes = rw (ap (λ w. w.bytes) c.first_word.ensures) at c.in-Some.ensures in
    goes_out _ _ _ _ _ c.from_residual.ensures.1 c.in_err-source.ensures
    (λ f e. fails c.loop-test.true (rw (← named, e) refl) c.loop.invariant.read)

pub loop-preserved : goal.loop-preserved
loop-preserved c =
    let named : Some c.in-Some.opcode ≡ opcode_of (first_word (rest_of c.loop.source)).bytes = rw (ap (λ w. w.bytes) c.first_word.ensures) at c.in-Some.ensures in
    record {
      read = goes_on c.loop-test.true (rw (← named, c.in_ok-source.ensures) refl) c.loop.invariant.read;
    }

pub returns : goal.returns
unfolding entries_of
returns c = elim c.loop-test.branch [
  | else-loop-test w ↦ is_done w.loop-test.false c.loop.invariant.read
  | then-loop-test+in_default w ↦
      let none : opcode_of (first_word (rest_of c.loop.source)).bytes ≡ None =
      sym (w.opcode_of.ensures ∙ ap (λ (x : Word). opcode_of x.bytes) w.first_word.ensures) ∙ w.in_default.is in
      stops (rw none refl) c.loop.invariant.read
]
