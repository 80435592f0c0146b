-- The texts of the lists of entries, made as the places run in recorded order, make the report of the sequential run.
use Rattle.std.proofs.Common.{◌≡◌, ℕ, ◌<◌, List, ◌++◌, sym, ap, ◌∙◌}
use Rattle.std.specs.List.{concat, flat_map, range_with_len, slice_get}
use Rattle.std.specs.Prelude.{codes}
use Rattle.recording.specs.declared.recording.Recording.{Recording}
use Rattle.recording.specs.Steps.{places}
use Rattle.world_parts.specs.World.{World}
use Rattle.op_meaning.specs.Step.{step_reply, sequential_reply, sequential_replies, sequential_world}
use Rattle.wave_pick.proofs.Ends.{runs_as_the_model}
use Rattle.replay_report.specs.Report.{line, lines_of, list_count, list_lines, title, world_lines}
use Rattle.replay_report.specs.RingTexts.{texts_below}
use Rattle.replay_report.specs.declared.showing.Shown.{Shown}
use Rattle.replay_report.proofs.RingTextsLemmas.{lists_joined, texts_alike}
use Rattle.replay_program.specs.Runs.{sequential_report}

-- each place's reply is that which it gives when its turn comes
reply_kept : (t : Recording) (k : ℕ) → k < places t → sequential_reply t k ≡ slice_get (sequential_replies t) k
reply_kept t k lt = sym ((runs_as_the_model t).replies k lt ∙ ap (step_reply t k) ((runs_as_the_model t).worlds k))

pub report_made : (t : Recording) (texts : List (List ℕ)) (s : World) (shown : Shown) (text : List ℕ) → texts ≡ texts_below t (sequential_reply t) (lines_of t shown.names) (places t) → s ≡ sequential_world t
    → text ≡ title (lines_of t shown.names) ++ concat texts ++ world_lines t.rings s shown.sums ++ line (codes "end") → text ≡ sequential_report t shown
report_made t texts s shown text made world is =
    let form = lines_of t shown.names in
    let kept : texts ≡ texts_below t (slice_get (sequential_replies t)) form (places t) = made ∙ texts_alike t (sequential_reply t) (slice_get (sequential_replies t)) form (places t) (list_count form t) (reply_kept t) in
    let lists : concat texts ≡ flat_map (list_lines t (sequential_replies t) form) (range_with_len 0 (list_count form t)) = ap concat kept ∙ lists_joined t (sequential_replies t) form in
    is ∙ ap (λ w. title form ++ concat texts ++ world_lines t.rings w shown.sums ++ line (codes "end")) world
    ∙ ap (λ lines. title form ++ lines ++ world_lines t.rings (sequential_world t) shown.sums ++ line (codes "end")) lists
