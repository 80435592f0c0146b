use Rattle.std.proofs.Common.{◌≡◌, ◌∙◌, Bool, List, map, ap}
use Rattle.std.specs.List.{list_any}
use Rattle.world_parts.specs.Items as items
use Rattle.world_parts.specs.Uses.{item_meant, use_meant}
use Rattle.world_parts.specs.declared.footprint.Use.{Use}
use Rattle.item_index.specs.Touching.{writes_item}
use Rattle.world_parts.proofs.FootprintCode.{any-meant}
use Rattle.round_scheduler.proofs.scheduler.Ground.holds.Goals as goal

-- Whether one of the items is written is what the call gave.
is_some : (g f : items.Footprint) (uses : List Use) (some : Bool) → some ≡ list_any (λ u. writes_item g (item_meant u.item)) uses → map use_meant uses ≡ f
    → some ≡ list_any (λ (u : items.Use). writes_item g u.item) f
is_some g f uses some e same = e ∙ any-meant (λ (u : items.Use). writes_item g u.item) uses ∙ ap (list_any (λ (u : items.Use). writes_item g u.item)) same

pub returns-in-WritesSome : goal.returns-in-WritesSome
returns-in-WritesSome c = rw c.in-WritesSome.is (is_some c.args.reach.now _ c.uses.result.now _ c.writes_some.ensures c.uses.ensures)
