-- A page that was compared has the others' bytes.
use Rattle.std.proofs.Common.{◌≡◌, ◌+◌, ◌/◌, Some, arith, sym, ◌∙◌, refl, ⊎_elim, false}
use Rattle.std.specs.Prelude.{slice_get}
use Rattle.std.proofs.lemmas.Bool.{cases_eq}
use Rattle.std.proofs.lemmas.Option.{slice_get_read}
use Rattle.extent_bytes.proofs.Runs.{byte_in-stored}
use Rattle.extent_bytes.proofs.Outcomes.{not_both}
use Rattle.extent_bytes.proofs.page_run.run_agrees.Goals as goal

pub loop-number-init : goal.loop-number-init
loop-number-init c = λ i h l. absurd (omega arith)

pub returns-then-not-page_agrees : goal.returns-then-not-page_agrees
returns-then-not-page_agrees c =
    let pages = c.args.pages.now in
    let k = c.loop-number.number in
    let page = c.index-pages-number.result in
    let stored : slice_get pages k ≡ Some page = slice_get_read pages _ k page refl (omega (arith, c.div_ceil-number-end.ensures)) c.index-pages-number.is in (
      (λ e. not_both false e refl),
      (λ all. sym c.if-not-page_agrees.true ∙ c.page_agrees.ensures.1 (λ i l d. all i l ∙ byte_in-stored pages (c.args.start + i) k page stored d)),
    )

pub loop-number-preserved : goal.loop-number-preserved
loop-number-preserved c =
    let pages = c.args.pages.now in
    let k = c.loop-number.number in
    let page = c.index-pages-number.result in
    let stored : slice_get pages k ≡ Some page = slice_get_read pages _ k page refl (omega (arith, c.div_ceil-number-end.ensures)) c.index-pages-number.is in
    λ i l below. ⊎_elim
    (λ (d : (c.args.start + i) / 4096 ≡ k). c.page_agrees.ensures.0 c.if-not-page_agrees.false i l d ∙ sym (byte_in-stored pages (c.args.start + i) k page stored d))
    (λ ne. c.loop-number.invariant i l (omega arith))
    (cases_eq ((c.args.start + i) / 4096) k)

pub returns : goal.returns
returns c = (
  (λ e i l. c.loop-number.invariant i l (omega (arith, c.loop-number-test.false, c.div_ceil-number-end.ensures))),
  (λ all. refl),
)
