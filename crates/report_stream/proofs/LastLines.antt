-- The lines of the record that has just run make the text up to its last place.
use Rattle.std.proofs.Common.{◌≡◌, ◌∙◌, ◌+◌, ◌-◌, ◌<◌, ◌≤◌, ◌++◌, ◌∷◌, [], ℕ, List, length, append_assoc, length-append, Option, Some, sym, ap, subst, arith}
use Rattle.std.specs.Prelude.{slice_get}
use Rattle.trace_format.proofs.Spots.{slice_get-append_right}
use Rattle.trace_records.specs.declared.record.Record.{Record}
use Rattle.trace_records.specs.declared.start.Start.{Start}
use Rattle.sqe_codec.specs.Answers.{each}
use Rattle.recording.specs.declared.recording.Recording.{Recording}
use Rattle.recording.specs.Steps.{Step, places, step_at}
use Rattle.op_meaning.specs.declared.reply.Reply.{Reply}
use Rattle.op_meaning.specs.Step.{run_replies, sequential_reply}
use Rattle.op_meaning.proofs.Kept.{kept_so_far}
use Rattle.stream_laws.specs.Standing.{StandsFor}
use Rattle.stream_laws.specs.Streamed.{at_hand, recording_of}
use Rattle.stream_laws.proofs.Growing.{hand_stands}
use Rattle.replay_stream.specs.Replayed.{HasRunNext}
use Rattle.replay_stream.specs.declared.replaying.Replaying.{Replaying}
use Rattle.replay_report.specs.declared.showing.Lines.{Lines}
use Rattle.replay_report.specs.declared.showing.Shown.{Shown}
use Rattle.replay_report.specs.InOrder.{line_at, line_of}
use Rattle.replay_report.specs.Report.{title}
use Rattle.replay_report.specs.RingTexts.{IsShown}
use Rattle.replay_report.proofs.InOrder.{lines_are_shown}
use Rattle.replay_report.proofs.ReportLemmas.{range_grown}
use Rattle.report_stream.specs.Written.{IsTextTo, lines_in}

-- the line of a place whose step and reply are known
line_found : (lines : Lines) (n : ℕ) (at : Option Step) (replied : Option Reply) (step : Step) (reply : Reply) → at ≡ Some step → replied ≡ Some reply → each (λ s. each (line_of lines n s) replied) at ≡ line_of lines n step reply
line_found lines n at replied step reply stood answered = ap (λ o. each (λ s. each (line_of lines n s) replied) o) stood ∙ ap (λ o. each (line_of lines n step) o) answered

module _ (b : Start) (front : List Record) (r : Record) (p : Replaying) (run : HasRunNext b front r p) where
  abbrev whole : List Record → Recording
  whole back = recording_of b (front ++ r ∷ back)

  stands : (back : List Record) → StandsFor p.recording (whole back) p.first
  stands back =
      subst (λ (t : Recording). StandsFor t (whole back) p.first) (sym run.at_hand)
      (subst (λ (n : ℕ). StandsFor (at_hand b front r) (whole back) n) (sym run.first) (hand_stands b front r back))

  -- its replies are those of its places
  pub many : p.first + length p.replies ≡ places p.recording
  many =
      let s = stands [] in
      let before = kept_so_far (whole []) p.first (omega (arith, s.begins, s.ends)) in
      let all = kept_so_far (whole []) (places p.recording) s.ends in
      omega (arith, before.many, all.many, length-append (run_replies (whole []) p.first) p.replies, ap length (run.replies []))

  reply_at : (back : List Record) (n : ℕ) → p.first ≤ n → n < places p.recording → slice_get p.replies (n - p.first) ≡ sequential_reply (whole back) n
  reply_at back n from lt =
      let s = stands back in
      let u = whole back in
      let before = kept_so_far u p.first (omega (arith, s.begins, s.ends)) in
      let all = kept_so_far u (places p.recording) s.ends in
      sym (slice_get-append_right (run_replies u p.first) p.replies n (n - p.first) (omega (arith, before.many, from)))
      ∙ ap (λ replies. slice_get replies n) (run.replies back)
      ∙ all.kept n lt

  -- a place more
  pub one_more : (shown : Shown) (n : ℕ) (text line : List ℕ) (step : Step) (answer reply : Reply) → p.first ≤ n → n < places p.recording
      → step_at p.recording n ≡ Some step → slice_get p.replies (n - p.first) ≡ Some reply → IsShown answer reply
      → line ≡ text ++ line_of (lines_in shown) n step answer
      → IsTextTo b (front ++ r ∷ []) shown n text → IsTextTo b (front ++ r ∷ []) shown (n + 1) line
  one_more shown n text line step answer reply from lt there replied is_shown is so_far = record {
    is = λ back.
        let lines = lines_in shown in
        let later : (front ++ r ∷ []) ++ back ≡ front ++ r ∷ back = append_assoc front (r ∷ []) back in
        let u = recording_of b ((front ++ r ∷ []) ++ back) in
        let same : u ≡ whole back = ap (recording_of b) later in
        let s = stands back in
        let stood : step_at u n ≡ Some step = ap (λ (t : Recording). step_at t n) same ∙ sym (s.steps n from lt) ∙ there in
        let answered : sequential_reply u n ≡ Some reply = ap (λ (t : Recording). sequential_reply t n) same ∙ sym (reply_at back n from lt) ∙ replied in
        let own : line_of lines n step answer ≡ line_at u (sequential_reply u) lines n = lines_are_shown lines n step answer reply is_shown ∙ sym (line_found lines n (step_at u n) (sequential_reply u n) step reply stood answered) in
        range_grown (title lines) text line (line_at u (sequential_reply u) lines) n (so_far.is back) (is ∙ ap (λ x. text ++ x) own);
  }
