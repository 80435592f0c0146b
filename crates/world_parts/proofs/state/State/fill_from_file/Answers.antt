-- The bytes that have room in the buffer are put over it, as a copy or as shared pages.
use Rattle.std.proofs.Common.{◌≡◌, ◌+◌, ◌-◌, ◌<◌, [], List, Option, ℕ, length, min, unwrap_or, arith, ap, ◌∙◌}
use Rattle.std.specs.Option.{option_map}
use Rattle.std.proofs.lemmas.Result.{on_ok_weaker}
use Rattle.extent_bytes.specs.Bytes.{overlaid, overwritten, range_of}
use Rattle.finite_maps.specs.Table.{assign, pair_keys}
use Rattle.file_tree.specs.Tree as tree
use Rattle.world_parts.specs.World.{World, buffer, bytes}
use Rattle.world_parts.proofs.Placing.{range_of-clipped, length-range_of-most, shared_over, copied_over}
use Rattle.world_parts.proofs.state.State.fill_from_file.Goals as goal
use Rattle.world_parts.proofs.ByteWords.{length-there}

pub returns-then-not-are_shared : goal.returns-then-not-are_shared
returns-then-not-are_shared c =
    let s = c.args.self.now in
    let at = c.args.at in
    let o = buffer s c.args.ring c.args.index in
    let whole = unwrap_or (bytes s c.args.node) [] in
    let new = range_of whole c.args.low c.args.high in
    let room : c.saturating_sub-room.result ≡ unwrap_or (option_map length o) 0 - at = c.saturating_sub-room.ensures ∙ ap (λ n. n - at) (c.unwrap_or.ensures ∙ ap (λ x. unwrap_or x 0) c.buffer_len.ensures) in
    let end : c.min-end.result ≡ min c.args.high (c.args.low + c.saturating_sub-room.result) = omega arith in
    let taken = c.deref.ensures.value ∙ c.in_ok-bytes.ensures ∙ range_of-clipped whole c.args.low c.args.high c.min-end.result c.saturating_sub-room.result end in
    on_ok_weaker c.write_buffer.result
    (λ e. e ∙ ap (λ (x : Option (List ℕ)). record s { buffers = assign pair_keys.total s.buffers (c.args.ring, c.args.index) x })
    (ap (λ (ys : List ℕ). option_map (λ bs. overlaid bs at ys) o) taken ∙ copied_over o new at c.saturating_sub-room.result room))
    c.write_buffer.ensures

pub put_buffer_bytes-requires : goal.put_buffer_bytes-requires
put_buffer_bytes-requires c =
    let there = length-there (buffer c.args.self.now c.args.ring c.args.index) in
    let most = length-range_of-most (unwrap_or (tree.bytes c.self.inside.nodes c.args.node) []) c.args.low c.min-end.result in
    grind (arith, there, most, c.saturating_sub-room.ensures, c.unwrap_or.ensures, c.buffer_len.ensures, c.in_ok-part.ensures, c.saturating_sub.ensures)

pub returns : goal.returns
returns c =
    let s = c.args.self.now in
    let at = c.args.at in
    let o = buffer s c.args.ring c.args.index in
    let whole = unwrap_or (bytes s c.args.node) [] in
    let new = range_of whole c.args.low c.args.high in
    let room : c.saturating_sub-room.result ≡ unwrap_or (option_map length o) 0 - at = c.saturating_sub-room.ensures ∙ ap (λ n. n - at) (c.unwrap_or.ensures ∙ ap (λ x. unwrap_or x 0) c.buffer_len.ensures) in
    let end : c.min-end.result ≡ min c.args.high (c.args.low + c.saturating_sub-room.result) = omega arith in
    let some : 0 < c.saturating_sub-room.result = omega (arith, end, c.saturating_sub.ensures, c.are_shared.ensures c.if-not-are_shared.false) in
    let taken = c.in_ok-part.ensures ∙ ap (λ (v : World). range_of (unwrap_or (bytes v c.args.node) []) c.args.low c.min-end.result) c.self.view_is ∙ range_of-clipped whole c.args.low c.args.high c.min-end.result c.saturating_sub-room.result end in
    on_ok_weaker c.put_buffer_bytes.result
    (λ e. e ∙ ap (λ (x : Option (List ℕ)). record s { buffers = assign pair_keys.total s.buffers (c.args.ring, c.args.index) x })
    (ap (λ (ys : List ℕ). option_map (λ bs. overwritten bs at ys) o) taken ∙ shared_over o new at c.saturating_sub-room.result room some))
    c.put_buffer_bytes.ensures
