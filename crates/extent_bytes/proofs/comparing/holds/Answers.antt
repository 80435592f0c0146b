use Rattle.std.proofs.Common.{arith, refl, ◌+◌, ◌*◌, ◌/◌, ◌%◌, false}
use Rattle.extent_bytes.specs.Kept.{byte_held}
use Rattle.extent_bytes.proofs.Compares.{holds_more, part_held}
use Rattle.extent_bytes.proofs.Lists.{length-part}
use Rattle.extent_bytes.proofs.Outcomes.{not_both}
use Rattle.extent_bytes.proofs.comparing.holds.Goals as goal

pub loop-done-preserved : goal.loop-done-preserved
loop-done-preserved c =
    let v = c.loop-done.invariant in
    let p = c.args.at + c.loop-done.done in record {
      within = omega (arith, c.min-count.ensures);
      held = holds_more (byte_held c.args.pages.now) c.args.at c.loop-done.done c.min-count.result (p / 4096 * 4096 + p % 4096) c.args.bytes.now (omega arith) (omega (arith, c.min-count.ensures))
          (c.page_holds.ensures.0 c.if-not-page_holds.false) v.held;
    }

pub loop-done-init : goal.loop-done-init
loop-done-init c = record { within = omega arith; held = λ i h. absurd (omega arith) }

pub page_holds-requires : goal.page_holds-requires
page_holds-requires c =
    let done = c.loop-done.done in
    let count = c.min-count.ensures in
    let n = length-part c.args.bytes.now done (done + c.min-count.result) (omega arith) (omega arith) in omega arith

pub returns-then-not-page_holds : goal.returns-then-not-page_holds
returns-then-not-page_holds c =
    let p = c.args.at + c.loop-done.done in
    let count = c.min-count.ensures in (
      (λ t. not_both false t refl),
      (λ held.
          not_both c.page_holds.result (c.page_holds.ensures.1 (part_held (byte_held c.args.pages.now) c.args.at c.loop-done.done c.min-count.result (p / 4096 * 4096 + p % 4096) c.args.bytes.now (omega arith) (omega arith) held)) c.if-not-page_holds.true),
    )

pub returns : goal.returns
returns c = ((λ t i h. c.loop-done.invariant.held i (omega arith)), (λ held. refl))
