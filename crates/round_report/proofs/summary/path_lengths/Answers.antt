use Rattle.std.proofs.Common.{◌≡◌, ◌≤◌, ◌∙◌, ◌+◌, ◌++◌, ◌∷◌, [], All, suc, length, ap, sym, subst, get_or, arith, length-append}
use Rattle.std.specs.Option.{option_map}
use Rattle.std.proofs.lemmas.List.Elements.{All-weaker}
use Rattle.replay_core.specs.Waits.{waited_meant}
use Rattle.round_report.specs.Summary.{length_before}
use Rattle.round_report.proofs.SummaryLemmas.{before_bounded, bounded_more, lengths_more}
use Rattle.round_report.proofs.summary.path_lengths.Goals as goal

pub loop-wait-preserved : goal.loop-wait-preserved
loop-wait-preserved c =
    let waits = c.args.waits.now in
    let i = c.loop-wait.wait-index in
    let lengths = c.loop-wait.lengths.items in
    let grown = c.push.new.self.items in
    let more = c.length_before-length.result + 1 in
    let pushed : grown ≡ lengths ++ more ∷ [] = c.in_ok-push.ensures.items in
    let before : c.length_before-length.result ≡ length_before lengths (option_map waited_meant c.wait-item.result) =
    c.length_before-length.ensures ∙ ap (λ ls. length_before ls (option_map waited_meant c.wait-item.result)) c.as_slice.ensures.value in
    let here : more ≡ suc (length_before lengths (option_map waited_meant (get_or waits i c.wait-item.result))) =
    let same = before ∙ ap (λ w. length_before lengths (option_map waited_meant w)) c.wait-item.is in omega (arith, same) in
    let most = before_bounded lengths (length lengths) (option_map waited_meant c.wait-item.result) c.loop-wait.invariant.bounded in
    let long : length grown ≡ length lengths + 1 = ap length pushed ∙ length-append lengths (more ∷ []) in
    let all = subst (All (λ n. n ≤ length lengths + 1)) (sym pushed) (bounded_more lengths more c.loop-wait.invariant.bounded (omega (arith, before, most))) in
    record {
      many = omega (arith, long, c.loop-wait.invariant.many);
      bounded = All-weaker (λ n. n ≤ length lengths + 1) (λ n. n ≤ length grown) (λ n le. omega (arith, le, long)) grown all;
      so_far = pushed ∙ ap (λ n. lengths ++ n ∷ []) here ∙ lengths_more (option_map waited_meant) waits i c.wait-item.result lengths c.loop-wait-test.true c.loop-wait.invariant.so_far;
    }
