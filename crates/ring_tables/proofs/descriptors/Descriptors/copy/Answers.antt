use Rattle.std.proofs.Common.{◌∙◌, ap}
use Rattle.std.proofs.lemmas.Map.Entries.{entries_from_clone}
use Rattle.finite_maps.specs.Table.{number_keys}
use Rattle.finite_maps.specs.Maps.{table_of}
use Rattle.ring_tables.proofs.descriptors.Descriptors.copy.Goals as goal

pub returns : goal.returns
returns c = ap (table_of number_keys.total) (entries_from_clone _ _ (λ x y h. h) (λ v w h. h) c.self.inside.entries.entries c.in_ok-entries.entries.entries c.in_ok-entries.ensures.cases) ∙ c.self.view_is
