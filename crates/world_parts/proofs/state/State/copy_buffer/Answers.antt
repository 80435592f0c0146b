use Rattle.std.proofs.Common.{◌≤◌, ◌<◌, ℕ, [], arith, refl}
use Rattle.std.specs.Prelude.{unwrap_or}
use Rattle.std.proofs.lemmas.Result.{on_ok_weaker}
use Rattle.extent_bytes.specs.Bytes.{range_of}
use Rattle.world_parts.specs.Items.{buffer_bytes}
use Rattle.world_parts.specs.World as world
use Rattle.world_parts.proofs.Copies.{copied_to}
use Rattle.world_parts.proofs.CopiesOfNodes.{copied_after}
use Rattle.world_parts.proofs.CopiesOfBytes.{range_copied, no_range_copied}
use Rattle.world_parts.proofs.state.State.copy_buffer.Goals as goal

pub returns-in_default : goal.returns-in_default
returns-in_default c =
    let s = c.args.from.now in
    let q = c.copy_buffer_len.new.self in
    let near = c.in_ok-copy_buffer_len.ensures.nearer in
    copied_after s c.args.self.now q q (buffer_bytes c.args.ring c.args.index c.args.low c.args.high) near (no_range_copied s q c.args.ring c.args.index c.args.low c.args.high near.shadow c.in_default.ensures)

pub returns : goal.returns
returns c =
    let s = c.args.from.now in
    let p = c.args.self.now in
    let q = c.copy_buffer_len.new.self in
    let near = c.in_ok-copy_buffer_len.ensures.nearer in
    let item = buffer_bytes c.args.ring c.args.index c.args.low c.args.high in
    let start : c.min-start.result ≤ c.in-Some.len = omega (arith, c.min-start.ensures, c.min-end.ensures) in
    let below : c.min-start.result ≤ c.args.low = omega (arith, c.min-start.ensures) in
    let inside : (o : ℕ) → o < c.in-Some.len → o < c.args.high → o < c.min-end.result = λ o a b. omega (arith, c.min-end.ensures) in
    on_ok_weaker c.copy_buffer_range.result
    (copied_to s p _ c.copy_buffer_range.new.self item (copied_after s p q _ item near
    (range_copied s q near.shadow c.args.ring c.args.index c.in-Some.len c.min-start.result c.min-end.result (range_of (unwrap_or (world.buffer s c.args.ring c.args.index) []) c.min-start.result c.min-end.result) c.in-Some.ensures c.in_ok-copy_buffer_len.ensures.len start refl c.args.low c.args.high below inside)))
    c.copy_buffer_range.ensures
