-- Of no bytes the range is empty.
use Rattle.std.proofs.Common.{◌≡◌, ◌-◌, take, drop, arith, ap, ◌∙◌}
use Rattle.extent_bytes.specs.Bytes.{range_of}
use Rattle.extent_bytes.proofs.reading.ReadBytes.of.Goals as goal

pub returns-then-lo-hi : goal.returns-then-lo-hi
unfolding range_of
returns-then-lo-hi c =
    let none : 0 ≡ c.args.hi - c.args.lo = omega (arith, c.if-lo-hi.true) in
    c.none.ensures ∙ ap (λ n. take n (drop c.args.lo c.args.list.now)) none
