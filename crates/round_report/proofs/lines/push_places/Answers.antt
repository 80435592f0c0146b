use Rattle.std.proofs.Common.{◌≡◌, ◌∙◌, ◌<◌, ap, ap₂, length, ◌++◌, arith}
use Rattle.std.specs.Prelude.{slice_index_or}
use Rattle.replay_report.proofs.ReportLemmas.{range_grown}
use Rattle.round_report.specs.Rounds.{log_meant, logged_line, place_line}
use Rattle.round_report.proofs.TextLemmas.{wait_read}
use Rattle.round_report.proofs.lines.push_places.Goals as goal

pub loop-place-preserved : goal.loop-place-preserved
loop-place-preserved c =
    let t = c.args.trace.now in
    let log = c.args.log.now in
    let place = c.loop-place.place in
    let within : place < length c.as_slice-waits.result.now = omega (arith, c.loop-place-test.true, c.requires, ap length c.as_slice-rounds.ensures, ap length c.as_slice-waits.ensures) in
    let round : slice_index_or c.as_slice-rounds.result.now place 0 ≡ slice_index_or log.rounds place 0 = ap (λ rounds. slice_index_or rounds place 0) c.as_slice-rounds.ensures in
    let wait = wait_read c.as_slice-waits.result.now place c.index-waits-place.result within c.index-waits-place.is in
    range_grown c.args.text.now.items c.loop-place.text.items c.push_place.new.text.items (logged_line t (log_meant log)) place c.loop-place.invariant
    (c.in_ok-push_place.ensures ∙ ap (λ line. c.loop-place.text.items ++ line) (ap₂ (place_line t place) round (rw c.as_slice-waits.ensures at wait)))
