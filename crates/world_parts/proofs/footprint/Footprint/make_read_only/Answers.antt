use Rattle.std.proofs.Common.{◌≡◌, ◌∙◌, ◌++◌, ap, arith, sym, drop, length, length-append, map, take}
use Rattle.std.proofs.lemmas.List.{drop-map, length-map, map-append, take-map, with_items_is}
use Rattle.world_parts.specs.Items as items
use Rattle.world_parts.specs.Uses.{only_read, use_meant}
use Rattle.world_parts.proofs.FootprintCode.{reads-meant}
use Rattle.world_parts.proofs.footprint.Footprint.make_read_only.Goals as goal

pub returns : goal.returns
returns c =
    let n = c.args.first in
    let was = c.self.inside.uses.items in
    let front = c.split_at_mut-behind.result.0.now in
    let back = c.split_at_mut-behind.result.1.now in
    let reads : items.Footprint → items.Footprint = map (λ (u : items.Use). items.reads u.item) in
    let same_length : length (front ++ map only_read back) ≡ c.self.inside.uses.len = length-append front (map only_read back) ∙ omega (arith, length-map back only_read, c.split_at_mut-behind.ensures.front_len, c.split_at_mut-behind.ensures.back_len, c.self.inside.uses.ok.0, ap length c.as_mut_slice.ensures.value) in
    let kept : map use_meant front ≡ take n c.args.self.now = ap (map use_meant) (c.split_at_mut-behind.ensures.front ∙ ap (take n) c.as_mut_slice.ensures.value) ∙ sym (take-map use_meant n was) ∙ ap (take n) c.self.view_is in
    let left : map use_meant back ≡ drop n c.args.self.now = ap (map use_meant) (c.split_at_mut-behind.ensures.back ∙ ap (drop n) c.as_mut_slice.ensures.value) ∙ sym (drop-map use_meant n was) ∙ ap (drop n) c.self.view_is in
    rw c.make_reads.ensures (ap (map use_meant) (with_items_is c.self.inside.uses (front ++ map only_read back) same_length) ∙ map-append use_meant front (map only_read back)
    ∙ (λ i. kept i ++ (reads-meant back ∙ ap reads left) i))
