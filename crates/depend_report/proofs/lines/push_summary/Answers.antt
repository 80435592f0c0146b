use Rattle.std.proofs.Common.{ℕ, List, ◌∙◌, ◌++◌, ap, codes, length, string_bytes}
use Rattle.std.proofs.lemmas.Result.{on_ok_weaker}
use Rattle.depend_report.specs.Depends.{count_line, path_lines}
use Rattle.depend_report.proofs.ToldLemmas.{five_pieces}
use Rattle.depend_report.proofs.lines.push_summary.Goals as goal

pub returns : goal.returns
returns c =
    let spans = c.args.spans.now in
    let loads = c.args.loads.now in
    let pairs = count_line (codes "pairs") c.args.pairs in
    let span : ℕ → List ℕ = λ n. path_lines (codes "span") (codes "parallelism") n spans in
    let bytes : ℕ → List ℕ = count_line (codes "bytes") in
    let load = path_lines (codes "span-bytes") (codes "parallelism-bytes") c.args.bytes loads in
    let one = c.in_ok-push_count.ensures in
    let two = c.in_ok-push_count-2.ensures ∙ ap (λ t. t ++ pairs) one in
    let three = c.in_ok-push_path_lines.ensures ∙ ap (λ t. t ++ span c.len-places.result) two in
    let four = c.in_ok-push_count-3.ensures ∙ ap (λ t. t ++ bytes c.from.result) three in
    let text = string_bytes c.args.text.now in
    let here = ap (λ n. text ++ (count_line (codes "places") n ++ pairs ++ span n ++ bytes c.from.result ++ load)) c.len-places.ensures in
    let last = ap (λ n. text ++ (count_line (codes "places") (length spans) ++ pairs ++ span (length spans) ++ bytes n ++ load)) c.from.ensures in
    on_ok_weaker c.push_path_lines-2.result (λ e. e ∙ ap (λ t. t ++ load) four
    ∙ five_pieces text (count_line (codes "places") c.len-places.result) pairs (span c.len-places.result) (bytes c.from.result) load ∙ here ∙ last) c.push_path_lines-2.ensures
