-- A view of code: bytes that share the pages that they were read from.
use Rattle.std.specs.Prelude.{ℕ, List}
use Rattle.extent_bytes.specs.declared.shared_pages.Sharing.{Sharing}
use Rattle.extent_bytes.specs.declared.shared_pages.Sharing.TheVariants.{Run, List as Listed}

-- the bytes
abbrev pub shared_bytes : Sharing → List ℕ
shared_bytes (Run bytes) = bytes
shared_bytes (Listed list) = list.value
