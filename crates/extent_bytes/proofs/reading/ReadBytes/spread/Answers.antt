-- More than 2,048 bytes are shared, and the first 64 of them are the range's.
use Rattle.std.proofs.Common.{◌≡◌, ◌+◌, ◌-◌, ◌≤◌, length, take, drop, arith, ap, sym, ◌∙◌}
use Rattle.std.proofs.lemmas.List.{take-take}
use Rattle.extent_bytes.specs.Bytes.{range_of}
use Rattle.extent_bytes.proofs.reading.ReadBytes.spread.Goals as goal

pub invariant_of-result-2 : goal.invariant_of-result-2
unfolding range_of
invariant_of-result-2 c =
    let kept = c.in_ok-shared.ensures.ok in
    let lo = c.args.lo in
    let whole = drop lo c.args.list.now in
    let some : 64 ≤ c.args.hi - lo = omega (arith, c.if-hi-lo-le-MOST_COPIED.false) in
    let count : lo + 64 - lo ≡ 64 = omega arith in (
      omega (arith, ap (λ k. length k.list) kept, c.in_ok-list.ensures.len, c.if-hi-lo-le-MOST_COPIED.false),
      ap (λ k. k.front.items) kept ∙ c.in_ok-front.ensures.value ∙ ap (λ n. take n whole) count
          ∙ sym (take-take 64 (c.args.hi - lo) whole some) ∙ ap (take 64) (sym c.in_ok-list.ensures.value) ∙ ap (λ k. take 64 k.list) (sym kept),
    )
