-- A file that ends before the bytes do is extended first.
use Rattle.std.proofs.Common.{◌≡◌, ◌+◌, ◌<◌, length, unwrap_or, arith, ap, subst, ◌∙◌}
use Rattle.std.proofs.lemmas.Result.{on_ok_weaker}
use Rattle.world_parts.specs.World.{size}
use Rattle.world_parts.proofs.Placing.{ends_before, size-extended, extended_written}
use Rattle.world_parts.proofs.state.State.write_part.Goals as goal

pub put_bytes-requires-2 : goal.put_bytes-requires-2
put_bytes-requires-2 c =
    size-extended c.args.self.now c.set_size.new.self c.args.node (c.args.at + c.len.result) (c.args.at + length c.args.part) c.in_ok-set_size.ensures (omega (arith, c.len.ensures.value))

pub returns : goal.returns
returns c =
    let s = c.args.self.now in
    let end = c.args.at + c.len.result in
    let long : end ≡ c.args.at + length c.args.part = ap (λ n. c.args.at + n) c.len.ensures.value in
    let known : c.unwrap_or-size.result ≡ unwrap_or (size s c.args.node) end = c.unwrap_or-size.ensures ∙ ap (λ o. unwrap_or o end) c.size.ensures.value in
    let short : unwrap_or (size s c.args.node) end < end = subst (λ n. n < end) known (omega (arith, c.if-size-end.false)) in
    on_ok_weaker c.put_bytes-2.result
    (extended_written s c.set_size.new.self c.put_bytes-2.new.self c.args.node c.args.at end c.args.part long (ends_before (size s c.args.node) end end (omega arith) short) c.in_ok-set_size.ensures)
    c.put_bytes-2.ensures
