-- The part of the page that was written is that of the range.
use Rattle.std.proofs.Common.{◌≡◌, ◌+◌, ◌-◌, ◌*◌, length, get_or, min, max, take, drop, arith, ap, ◌∙◌}
use Rattle.std.proofs.lemmas.Result.{on_ok_weaker}
use Rattle.extent_bytes.proofs.Lists.{get_or-part, length-part}
use Rattle.extent_bytes.proofs.Overlays.{overlaid_to}
use Rattle.extent_bytes.proofs.moving.move_page.Goals as goal

pub returns : goal.returns
returns c =
    let k = c.args.number in
    let base = c.args.number * 4096 in
    let from = c.max-from.result in
    let to = c.min-to.result in
    let bytes = c.as_slice-stored.result.now in
    let long : length bytes ≡ 4096 = ap length c.as_slice-stored.ensures.bytes ∙ c.as_slice-stored.ensures.len in
    let a : from ≡ max c.args.start (c.args.number * 4096) = c.max-from.ensures in
    let b : to ≡ min c.args.end (c.args.number * 4096 + 4096) = c.min-to.ensures in
    let count : length (take (to - base - (from - base)) (drop (from - base) bytes)) ≡ to - base - (from - base) = length-part bytes (from - base) (to - base) (omega arith) (omega arith) in
    on_ok_weaker c.put_range.result
    (overlaid_to c.args.moved.now c.put_range.new.pages _ _ (c.args.target + (max c.args.start (c.args.number * 4096) - c.args.start)) (c.args.target + (min c.args.end (c.args.number * 4096 + 4096) - c.args.start)) _ _
    (omega arith) (omega arith)
    (λ p h l.
    get_or-part bytes (from - base) (to - base) (p - (c.args.target + (from - c.args.start))) (c.args.start + (p - c.args.target) - base) (omega arith) (omega arith)
    ∙ ap (λ xs. get_or xs (c.args.start + (p - c.args.target) - base) 0) c.as_slice-stored.ensures.bytes))
    c.put_range.ensures.ok
