-- As many bytes as a page has leave none of the zeros.
use Rattle.std.proofs.Common.{◌≡◌, ℕ, ◌+◌, ◌≤◌, length, replicate, arith, sym, ◌∙◌}
use Rattle.std.proofs.lemmas.List.{length-replicate}
use Rattle.extent_bytes.specs.Pages.{blank_page}
use Rattle.extent_bytes.proofs.Lists.{overwritten_all}
use Rattle.extent_bytes.proofs.page.Page.new.Goals as goal

pub returns-in-Some : goal.returns-in-Some
unfolding blank_page
returns-in-Some c =
    let bytes = c.args.bytes.now in
    let many : length bytes ≡ 4096 = c.in-Some.ensures.cases.long in
    let room : c.args.at + length bytes ≤ 4096 = c.requires in
    let zeros : length {A = ℕ} (replicate 4096 0) ≡ 4096 = length-replicate {A = ℕ} 4096 0 in
    let all = overwritten_all (replicate 4096 0) c.args.at bytes (omega arith) (many ∙ sym zeros) in
    c.in_ok-new.ensures.ok ∙ c.in-Some.ensures.cases.same ∙ sym all
