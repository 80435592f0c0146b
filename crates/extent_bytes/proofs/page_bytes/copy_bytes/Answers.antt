use Rattle.std.proofs.Common.{◌≡◌, ◌+◌, ◌-◌, ◌*◌, length, get_or, arith, ap, sym, ◌∙◌, refl, Some}
use Rattle.extent_bytes.specs.Pages.{page_byte}
use Rattle.std.proofs.lemmas.Result.{on_err_weaker, on_ok_weaker}
use Rattle.extent_bytes.proofs.Lists.{get_or-part, length-part}
use Rattle.extent_bytes.proofs.Outcomes.{on_ok_both}
use Rattle.extent_bytes.proofs.PageFacts.{byte_at-page, same_bytes}
use Rattle.extent_bytes.proofs.Overlays.{overlaid_to}
use Rattle.extent_bytes.proofs.Parted.{page_taken}
use Rattle.extent_bytes.proofs.page_bytes.copy_bytes.Goals as goal

pub returns-then-to-from-eq-PAGE_SIZE-clause-ok : goal.returns-then-to-from-eq-PAGE_SIZE-clause-ok
returns-then-to-from-eq-PAGE_SIZE-clause-ok c =
    let same = ap Some (c.in_ok-clone-in-Some.ensures.cases) ∙ sym c.in-Some.ensures.stored in
    on_ok_both c.put.result
    (λ put others. page_taken c.args.pages.now c.put.new.self c.args.source.now c.args.number c.args.source_number c.args.from c.args.to (omega arith) (omega arith) others (put ∙ same))
    c.put.ensures.put c.put.ensures.others

pub returns-then-to-from-eq-PAGE_SIZE-clause-err : goal.returns-then-to-from-eq-PAGE_SIZE-clause-err
returns-then-to-from-eq-PAGE_SIZE-clause-err c = on_err_weaker c.put.result (λ e. same_bytes _ _ e) c.put.ensures.err

pub returns-else-to-from-eq-PAGE_SIZE-clause-ok : goal.returns-else-to-from-eq-PAGE_SIZE-clause-ok
returns-else-to-from-eq-PAGE_SIZE-clause-ok c =
    let k = c.args.number in
    let from = c.args.from in
    let to = c.args.to in
    let source = c.args.source.now in
    let page = c.in-Some.page.now in
    let long = c.as_slice-bytes.ensures.len in
    let back : k * 4096 + (from + (to - from)) ≡ k * 4096 + to = omega arith in
    on_ok_weaker c.write.result
    (overlaid_to c.args.pages.now c.write.new.self _ _ (k * 4096 + from) (k * 4096 + to) _ _ refl (ap (λ n. k * 4096 + (from + n)) (length-part c.as_slice-bytes.result.now from to c.requires.forward (omega (arith, ap length c.as_slice-bytes.ensures.bytes))) ∙ back)
    (λ p h l. get_or-part c.as_slice-bytes.result.now from to (p - (k * 4096 + from)) (p - k * 4096) (omega arith) (omega arith) ∙ ap (λ xs. get_or xs (p - k * 4096) 0) c.as_slice-bytes.ensures.bytes ∙ ap (λ o. page_byte o (p - k * 4096)) (sym c.in-Some.ensures.stored) ∙ sym (byte_at-page source c.args.source_number (p - k * 4096) (omega arith))))
    c.write.ensures.ok

pub returns-in-None-clause-ok : goal.returns-in-None-clause-ok
returns-in-None-clause-ok c =
    let k = c.args.number in
    on_ok_weaker c.clear.result
    (overlaid_to c.args.pages.now c.clear.new.self _ _ (k * 4096 + c.args.from) (k * 4096 + c.args.to) _ _ refl refl
    (λ p h l. ap (λ o. page_byte o (p - k * 4096)) (sym c.in-None.ensures.none) ∙ sym (byte_at-page c.args.source.now c.args.source_number (p - k * 4096) (omega arith))))
    c.clear.ensures.ok
