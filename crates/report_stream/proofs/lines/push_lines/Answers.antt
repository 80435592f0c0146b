use Rattle.std.proofs.Common.{◌≡◌, ◌∙◌, ◌<◌, ◌++◌, [], ◌∷◌, append_assoc, ap, sym, subst, arith, ℕ}
use Rattle.recording.specs.Steps.{places, step_meant}
use Rattle.replay_report.specs.declared.showing.Lines.{Lines}
use Rattle.replay_report.specs.InOrder.{line_of}
use Rattle.report_stream.specs.Written.{IsTextTo, lines_in}
use Rattle.report_stream.proofs.LastLines.{many, one_more}
use Rattle.report_stream.proofs.lines.push_lines.Goals as goal

pub loop-place-init : goal.loop-place-init
loop-place-init c =
    let all = many c.requires.b c.requires.front c.requires.r c.args.replaying.now c.requires.run in
    record { so_far = λ b front r before run is. is; from = omega arith; within = omega (arith, all, c.places-place-end.ensures) }

pub get-reply-requires : goal.get-reply-requires
get-reply-requires c =
    let all = many c.requires.b c.requires.front c.requires.r c.args.replaying.now c.requires.run in
    omega (arith, all, c.loop-place-test.true, c.places-place-end.ensures, c.loop-place.invariant.from)

pub loop-place-preserved : goal.loop-place-preserved
loop-place-preserved c =
    let p = c.args.replaying.now in
    let n = c.loop-place.place in
    let text = c.loop-place.text.items in
    let step = step_meant c.step.result in
    let answer = c.of_kept-answer.result in
    let lines = lines_in c.args.shown in
    let lt : n < places p.recording = omega (arith, c.loop-place-test.true, c.places-place-end.ensures) in
    let grown : c.push_line.new.text.items ≡ text ++ line_of lines n step answer = c.in_ok-push_line.ensures ∙ ap (λ (l : Lines). text ++ line_of l n step answer) c.lines_in-lines.ensures in
    record {
      so_far = λ b front r before run is.
          one_more b front r p run c.args.shown n (before ++ text) (before ++ c.push_line.new.text.items) step answer c.get-reply.result c.loop-place.invariant.from lt
          c.step.ensures c.get-reply.ensures c.of_kept-answer.ensures (ap (λ x. before ++ x) grown ∙ sym (append_assoc before text (line_of lines n step answer)))
          (c.loop-place.invariant.so_far b front r before run is);
      from = omega (arith, c.loop-place.invariant.from);
      within = omega (arith, c.loop-place-test.true);
    }

pub returns : goal.returns
returns c = λ b front r before run is.
    let all : c.loop-place.place ≡ places c.args.replaying.now.recording = omega (arith, c.loop-place-test.false, c.loop-place.invariant.within, c.places-place-end.ensures) in
    subst (λ (n : ℕ). IsTextTo b (front ++ r ∷ []) c.args.shown n (before ++ c.loop-place.text.items)) all (c.loop-place.invariant.so_far b front r before run is)
