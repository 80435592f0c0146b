use Rattle.std.proofs.Common.{◌+◌, ◌-◌, ◌*◌, ◌/◌, ◌%◌, arith, get_or, refl}
use Rattle.extent_bytes.specs.Bytes.{range_of}
use Rattle.extent_bytes.proofs.Lists.{get_or-part, length-part}
use Rattle.extent_bytes.proofs.Overlays.{overlaid_more, overlaid_nothing, overlaid_to}
use Rattle.extent_bytes.proofs.texts.put_text.Goals as goal

pub loop-done-init : goal.loop-done-init
loop-done-init c = record {
  forward = omega arith;
  within = c.requires.forward;
  written = overlaid_nothing c.args.pages.now c.args.at (c.args.at + (c.args.from - c.args.from)) _ (omega arith);
}

pub overflow_sub-position : goal.overflow_sub-position
overflow_sub-position c = c.loop-done.invariant.forward

pub loop-done-preserved : goal.loop-done-preserved
unfolding range_of
loop-done-preserved c =
    let v = c.loop-done.invariant in
    let at = c.args.at in
    let from = c.args.from in
    let done = c.loop-done.done in
    let end = c.min-end.result in
    let place = at + (done - from) in
    let text = c.args.text.now.value.items in
    let e = c.min-end.ensures in
    let n = length-part text done end (omega arith) (omega (arith, c.requires.inside)) in record {
      forward = omega arith;
      within = omega arith;
      written = overlaid_more c.args.pages.now c.loop-done.pages c.put_piece.new.pages at place (at + (end - from)) _ _ (λ p. get_or text (from + (p - at)) 0) _ v.written c.in_ok-put_piece.ensures (omega arith) (omega arith) (omega arith) (omega arith)
          (λ p h l. get_or-part text done end (p - (place / 4096 * 4096 + place % 4096)) (from + (p - at)) (omega arith) (omega arith));
    }

pub returns : goal.returns
returns c =
    let v = c.loop-done.invariant in
    let at = c.args.at in
    let from = c.args.from in overlaid_to c.args.pages.now c.loop-done.pages at (at + (c.loop-done.done - from)) at (at + (c.args.to - from)) _ _ refl (omega arith) (λ p h l. refl) v.written
