use Rattle.std.proofs.Common.{subst, ◌++◌}
use Rattle.std.specs.List.{filter_map, flat_map}
use Rattle.std.proofs.lemmas.Result.{on_ok_weaker}
use Rattle.replay_report.specs.Sums.{HaveSame, file_to_sum, buffer_to_sum}
use Rattle.replay_report.proofs.SumLemmas.{same_ahead}
use Rattle.replay_report.proofs.sums.add_shown.Goals as goal

pub returns : goal.returns
returns c =
    let made = c.add_files.new.shown.keys in
    let all = c.add_buffers.new.shown.keys in
    let names = c.args.image.now.names in
    let ahead = subst (λ keys. HaveSame made (keys ++ filter_map file_to_sum c.as_slice.result.now)) c.requires c.in_ok-add_files.ensures in
    let files : HaveSame made (filter_map file_to_sum names) = subst (λ xs. HaveSame made (filter_map file_to_sum xs)) c.as_slice.ensures ahead in
    on_ok_weaker c.add_buffers.result
    (λ same. subst (λ xs. HaveSame all (filter_map file_to_sum names ++ flat_map buffer_to_sum xs)) c.as_slice-2.ensures
    (same_ahead all made (filter_map file_to_sum names) (flat_map buffer_to_sum c.as_slice-2.result.now) same files))
    c.add_buffers.ensures
