-- The model: how much a recording has at most.
use Rattle.std.specs.Prelude.{ℕ, ◌^◌}

-- how many steps
abbrev pub places_limit : ℕ
places_limit = 2 ^ 31

-- how many initial names
abbrev pub items_limit : ℕ
items_limit = 2 ^ 24

-- how many initial descriptions, descriptors, rings, and slots of a ring
abbrev pub table_limit : ℕ
table_limit = 2 ^ 20

-- how many registered buffers a ring has
abbrev pub buffers_limit : ℕ
buffers_limit = 2 ^ 14
