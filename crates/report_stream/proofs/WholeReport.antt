-- The text of all records and what follows it are the report.
use Rattle.std.proofs.Common.{◌≡◌, ◌∙◌, ◌<◌, ◌++◌, [], ℕ, zero, suc, add-one, List, Option, append_assoc, sym, ap, subst, refl, arith}
use Rattle.std.specs.Prelude.{codes, length, slice_get}
use Rattle.std.proofs.lemmas.List.{append-nil}
use Rattle.trace_records.specs.declared.record.Record.{Record}
use Rattle.trace_records.specs.declared.start.Start.{Start}
use Rattle.trace_stream.specs.Streams.{trace_of}
use Rattle.recording.specs.declared.recording.Recording.{Recording}
use Rattle.recording.specs.declared.recording.Ring.{Ring}
use Rattle.recording.specs.Steps.{places, step_at}
use Rattle.sqe_codec.specs.Answers.{each}
use Rattle.world_parts.specs.World.{World}
use Rattle.op_meaning.specs.declared.reply.Reply.{Reply}
use Rattle.op_meaning.specs.Step.{sequential_replies, sequential_reply, sequential_world}
use Rattle.op_meaning.proofs.Kept.{kept_so_far}
use Rattle.stream_laws.specs.Laws.{ShowAlike}
use Rattle.stream_laws.specs.Streamed.{recording_of}
use Rattle.sweep_laws.proofs.Streams.{swept_ends}
use Rattle.replay_stream.specs.Replayed.{HasRun}
use Rattle.replay_stream.specs.declared.replaying.Replaying.{Replaying}
use Rattle.replay_report.specs.declared.showing.Lines.{Lines}
use Rattle.replay_report.specs.declared.showing.Shown.{Shown}
use Rattle.replay_report.specs.declared.showing.SumsShown.{SumsShown}
use Rattle.replay_report.specs.InOrder.{entry_lines, last_lines, line_at, line_of}
use Rattle.replay_report.specs.Report.{line, title, world_lines}
use Rattle.replay_report.proofs.InOrder.{reports_in_order}
use Rattle.replay_report.proofs.ReportLemmas.{range_grown}
use Rattle.report_stream.specs.Written.{IsFrontText, lines_in, report}
use Rattle.report_stream.proofs.WithinLines.{lines_within}

-- lines by what places reply are the same where they reply the same
lines_alike : (t : Recording) (f g : ℕ → Option Reply) (lines : Lines) (n : ℕ) → ((k : ℕ) → k < n → f k ≡ g k) → entry_lines t f lines n ≡ entry_lines t g lines n
lines_alike t f g lines zero same = refl
lines_alike t f g lines (suc n) same =
    let before = lines_alike t f g lines n (λ k lt. same k (omega (arith, lt))) in
    let last : line_at t f lines n ≡ line_at t g lines n = ap (λ r. each (λ step. each (line_of lines n step) r) (step_at t n)) (same n (omega arith)) in
    rw add-one at (
    sym (range_grown [] (entry_lines t f lines n) _ (line_at t f lines) n refl refl)
    ∙ ap (λ text. text ++ line_at t f lines n) before ∙ ap (λ x. entry_lines t g lines n ++ x) last
    ∙ range_grown [] (entry_lines t g lines n) _ (line_at t g lines) n refl refl)

-- worlds that show alike have the same lines
worlds_alike : (rings : List Ring) (s w : World) (shown : SumsShown) → ShowAlike s w → world_lines rings s shown ≡ world_lines rings w shown
worlds_alike rings s w shown h =
    let same : s ≡ record w { broken = s.broken } =
    λ i. record { nodes = h.nodes i; descriptions = h.descriptions i; slots = h.slots i; descriptors = h.descriptors i; buffers = h.buffers i; broken = s.broken } in
    ap (λ (x : World). world_lines rings x shown) same

pub whole_report : (b : Start) (rs : List Record) (p : Replaying) (shown : Shown) (text last : List ℕ) → HasRun b rs p → IsFrontText b rs shown text → last ≡ last_lines p.recording p.state shown
    → text ++ last ≡ report (trace_of b rs) shown
whole_report b rs p shown text last run is end =
    let u = recording_of b rs in
    let lines = lines_in shown in
    let n = places u in
    let all : text ≡ title lines ++ entry_lines u (sequential_reply u) lines n =
    subst (λ (x : List Record). text ≡ title lines ++ entry_lines (recording_of b x) (sequential_reply (recording_of b x)) lines n) (append-nil rs) (is.is []) in
    let kept = kept_so_far u n (omega arith) in
    let told : entry_lines u (sequential_reply u) lines n ≡ entry_lines u (slice_get (sequential_replies u)) lines n =
    lines_alike u (sequential_reply u) (slice_get (sequential_replies u)) lines n (λ k lt. sym (kept.kept k lt)) in
    let rings : p.recording.rings ≡ u.rings = ap (λ (t : Recording). t.rings) run.recording.same in
    let ends = swept_ends b rs p.state run.state in
    let behind : last ≡ last_lines u (sequential_world u) shown =
    end
    ∙ ap (λ (x : List Ring). world_lines x p.state shown.sums ++ line (codes "end")) rings
    ∙ ap (λ x. x ++ line (codes "end")) (lines_within (length b.descriptions) ends.whole p.state ends.is_world ends.within u.rings shown.sums ∙ worlds_alike u.rings ends.whole (sequential_world u) shown.sums ends.shows) in
    ap (λ x. x ++ last) (all ∙ ap (λ x. title lines ++ x) told)
    ∙ append_assoc (title lines) (entry_lines u (slice_get (sequential_replies u)) lines n) last
    ∙ ap (λ x. title lines ++ entry_lines u (slice_get (sequential_replies u)) lines n ++ x) behind
    ∙ sym (reports_in_order u (sequential_world u) (sequential_replies u) shown refl)
