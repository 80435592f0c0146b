-- A view of code: the bytes of a page, where it has them.
use Rattle.std.specs.Prelude.{ℕ, ◌+◌, ◌≤◌, List, length, take, drop}
use Rattle.std.specs.Arc.{arc_value}
use Rattle.extent_bytes.specs.declared.page.Home.{Home}
use Rattle.extent_bytes.specs.declared.page.Home.TheVariants.{Apart, Within}

-- the bytes
abbrev pub page_in : Home → List ℕ
page_in (Apart bytes) = arc_value bytes
page_in (Within text from) = take 4096 (drop from (arc_value text).items)

-- a text has as many as a page has
abbrev pub IsHome : Home → Type 0
IsHome (Apart bytes) = Unit
IsHome (Within text from) = from + 4096 ≤ length (arc_value text).items
