-- The model: which items access sets write and touch.
use Rattle.std.specs.Prelude.{Bool, ◌&&◌, List}
use Rattle.std.specs.List.{list_any}
use Rattle.world_parts.specs.Items.{Item, share, Footprint}

-- Whether an access set writes an atom of an item, and whether it has one.
abbrev pub writes_item : Footprint → Item → Bool
writes_item f x = list_any (λ u. u.written && share u.item x) f

abbrev pub touches_item : Footprint → Item → Bool
touches_item f x = list_any (λ u. share u.item x) f

-- Whether one of some access sets does.
abbrev pub written_by : List Footprint → Item → Bool
written_by earlier x = list_any (λ f. writes_item f x) earlier

abbrev pub touched_by : List Footprint → Item → Bool
touched_by earlier x = list_any (λ f. touches_item f x) earlier
