use Rattle.std.proofs.Common.{◌≡◌, ℕ, ◌-◌, min, List, [], length, Result, None, Some, ap, refl, sym, ◌∙◌}
use Rattle.trace_format.specs.declared.entry.Entry.{Entry}
use Rattle.text_words.specs.declared.fault.Fault.{Fault}
use Rattle.text_words.specs.Read.{Rest, Word, repeated, rest_of}
use Rattle.text_words.specs.Words.{first_word}
use Rattle.text_words.proofs.Exits.{goes_out}
use Rattle.text_words.proofs.Loops.{fails, goes_on, is_done, stops}
use Rattle.text_trace.specs.Records.{entries_of, more_entries}
use Rattle.text_trace.specs.Fields.{opcode_of}
use Rattle.text_trace.proofs.lines.entries_of.Goals as goal
use Rattle.text_trace.proofs.lines.entries_of.Goals.{else-loop-test, then-loop-test+in_default}

pub returns-in_err-source-clause-read : goal.returns-in_err-source-clause-read
unfolding entries_of
returns-in_err-source-clause-read c =
    let named : Some c.in-Some.opcode ≡ opcode_of (first_word (rest_of c.loop.source)).bytes =
    rw (ap (λ w. w.bytes) c.first_word.ensures) at c.in-Some.ensures in
    let all : ℕ → Result (List Entry × List ℕ × Rest) Fault =
    λ most. repeated (length c.args.source.rest.now) (more_entries most) ([], c.args.lines.now.items, rest_of c.args.source) in
    goes_out _ _ _ _ _ c.from_residual.ensures.1 c.in_err-source.ensures.read
    (λ f e. ap all (sym c.most_entries-most.ensures) ∙ fails c.loop-test.true (rw (← named, e) refl) c.loop.invariant.read)

pub loop-preserved : goal.loop-preserved
loop-preserved c =
    let named : Some c.in-Some.opcode ≡ opcode_of (first_word (rest_of c.loop.source)).bytes =
    rw (ap (λ w. w.bytes) c.first_word.ensures) at c.in-Some.ensures in
    record {
      read = goes_on c.loop-test.true (rw (← named, c.in_ok-source.ensures.read) refl) c.loop.invariant.read;
      counted = c.in_ok-source.ensures.count;
      within = c.in_ok-source.ensures.within;
    }

pub returns-clause-read : goal.returns-clause-read
unfolding entries_of
returns-clause-read c =
    let all : ℕ → Result (List Entry × List ℕ × Rest) Fault =
    λ most. repeated (length c.args.source.rest.now) (more_entries most) ([], c.args.lines.now.items, rest_of c.args.source) in
    let most : all (min 32768 (1048576 - c.args.used)) ≡ all c.most_entries-most.result = ap all (sym c.most_entries-most.ensures) in
    rw c.in_ok-build.ensures.list (most ∙ elim c.loop-test.branch [
      | else-loop-test w ↦ is_done w.loop-test.false c.loop.invariant.read
      | then-loop-test+in_default w ↦
          let none : opcode_of (first_word (rest_of c.loop.source)).bytes ≡ None =
          sym (w.opcode_of.ensures ∙ ap (λ (x : Word). opcode_of x.bytes) w.first_word.ensures) ∙ w.in_default.is in
          stops (rw none refl) c.loop.invariant.read
    ])
