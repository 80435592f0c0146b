use Rattle.std.proofs.Common.{◌≡◌, ℕ, replicate, ap, ◌∙◌}
use Rattle.std.proofs.lemmas.Result.{IfOk-weaker}
use Rattle.extent_bytes.specs.Bytes.{range_of, resized}
use Rattle.extent_bytes.proofs.Lists.{resized-none}
use Rattle.replay_report.proofs.SumLemmas.{whole_range}
use Rattle.replay_report.proofs.tree_sums.zeros_of.Goals as goal

pub returns : goal.returns
returns c =
    let len : ℕ = c.args.len in
    let zeros : c.set_len.new.self ≡ replicate len 0 = c.in_ok-set_len.ensures.ok ∙ ap (λ old. resized old len) c.new-zeros.ensures ∙ resized-none len in
    IfOk-weaker c.of.result (λ z. z ≡ range_of c.set_len.new.self 0 len) (λ z. z ≡ replicate len 0) (λ _ read. read ∙ whole_range c.set_len.new.self len c.in_ok-set_len.ensures.len ∙ zeros) c.of.ensures
