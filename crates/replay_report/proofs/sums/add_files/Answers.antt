use Rattle.std.proofs.Common.{◌≡◌, ◌++◌, [], take, get_or, ap, sym, ◌∙◌, None, Some}
use Rattle.std.specs.List.{cons_option, filter_map}
use Rattle.std.proofs.lemmas.List.{append-nil, take_all}
use Rattle.replay_report.specs.Sums.{HaveSame, file_to_sum}
use Rattle.replay_report.proofs.SumLemmas.{exact_shown, files_grown, same_itself, same_more}
use Rattle.replay_report.proofs.sums.add_files.Goals.{in-Some+in_ok-insert, in_default}
use Rattle.replay_report.proofs.sums.add_files.Goals as goal

pub loop-name-init : goal.loop-name-init
loop-name-init c = same_itself c.args.shown.now.keys

pub loop-name-preserved : goal.loop-name-preserved
loop-name-preserved c =
    let old = c.args.shown.now.keys in
    let name = c.name-item.result in
    let now = old ++ filter_map file_to_sum (take c.loop-name.name-index c.args.names.now) in
    let here : get_or c.args.names.now c.loop-name.name-index name ≡ name = sym c.name-item.is in
    let grown : HaveSame c.match-file_to_sum.shown.keys (now ++ cons_option (file_to_sum name) []) = elim c.match-file_to_sum.branch [
      | in-Some+in_ok-insert w ↦
          let one : file_to_sum name ≡ Some w.in-Some.file = sym c.file_to_sum.ensures ∙ w.in-Some.is in
          rw (one, ap (λ s. s.keys) w.shown-is ∙ w.in_ok-insert.ensures.keys) (same_more _ exact_shown _ c.loop-name.shown.keys now c.loop-name.invariant)
      | in_default w ↦
          let none : file_to_sum name ≡ None = sym c.file_to_sum.ensures ∙ w.in_default.is in
          rw (none, append-nil now, ap (λ s. s.keys) w.shown-is) c.loop-name.invariant
    ] in
    rw (files_grown old file_to_sum c.args.names.now c.loop-name.name-index name c.loop-name-test.true, here) grown

pub returns : goal.returns
returns c = rw (take_all c.loop-name.name-index c.args.names.now c.loop-name-test.false) at c.loop-name.invariant
