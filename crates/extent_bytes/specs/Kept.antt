-- A view of code: the stored pages of a list, and the bytes of what holds pages.
use Rattle.std.specs.Prelude.{ℕ}
use Rattle.std.specs.Arc.{arc_value}
use Rattle.extent_bytes.specs.Pages.{PageMap, byte_at, byte_in}
use Rattle.extent_bytes.specs.declared.paged.Paged.{Paged}
use Rattle.extent_bytes.specs.declared.paged.Paged.TheVariants.{Map, Run}
use Rattle.extent_bytes.specs.declared.stored.Stored.{Stored}
use Rattle.extent_bytes.specs.declared.stored.Stored.TheVariants.{Own, Shared}

-- its map of pages, whether other lists have it too or not
abbrev pub pages_in : Stored → PageMap
pages_in (Own pages) = pages
pages_in (Shared pages) = arc_value pages

-- the byte at a position, of a map or of pages that lie one behind another
abbrev pub byte_held : Paged → ℕ → ℕ
byte_held (Map pages) = byte_at pages.now
byte_held (Run pages) = byte_in pages.now
