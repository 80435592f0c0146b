use Rattle.std.proofs.Common.{◌++◌, sym, ap, ◌∙◌, append_assoc}
use Rattle.report_diff.specs.Differences.{AreCounts, counts_text, findings, found, found_text}
use Rattle.report_diff.specs.Merging.{ends_at}
use Rattle.report_diff.proofs.AddLemmas.{found_both, text_both}
use Rattle.report_diff.proofs.comparing.compared.Goals as goal

pub returns : goal.returns
returns c = λ one other taken before index index2 holds.
    let more = found (ends_at c.args.first.now c.args.second.now) one other in
    let adds = c.in_ok-add_all.ensures one other index index2 in
    let all : AreCounts (findings (before ++ more)) c.add_all.new.told.counts = rw (found_both before more) (adds.counts (findings before) holds.counts) in
    let told = c.add_all.new.told.text.items in
    let counts = counts_text (findings (before ++ more)) in
    record {
      text = ap (λ text. taken ++ text) (c.in_ok-extend_from_slice.ensures.items ∙ ap (λ bytes. told ++ bytes) (c.as_bytes.ensures.value ∙ c.in_ok-counts.ensures (findings (before ++ more)) all))
          ∙ sym (append_assoc taken told counts)
          ∙ ap (λ text. text ++ counts) (ap (λ text. taken ++ text) adds.text ∙ sym (append_assoc taken c.args.told.text.items (found_text more))
          ∙ ap (λ text. text ++ found_text more) (sym holds.text) ∙ sym (text_both before more));
      passes = c.pass-passes.ensures (findings (before ++ more)) all;
    }
