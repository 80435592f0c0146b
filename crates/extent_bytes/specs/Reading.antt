-- A view of code: bytes that were read, as they are kept.
use Rattle.std.specs.Prelude.{◌≡◌, ℕ, ◌<◌, ◌≤◌, List, length, take}
use Rattle.extent_bytes.specs.declared.reading.Kept.{Kept}
use Rattle.extent_bytes.specs.declared.reading.Kept.TheVariants.{Part, Plain, Shared}

-- the bytes
abbrev pub kept_bytes : Kept → List ℕ
kept_bytes (Plain bytes) = bytes.items
kept_bytes (Part part) = part
kept_bytes (Shared pages) = pages.value.list

-- those in one page are a part of it; of others few are plain, and more are shared, with their first 64 plain too
abbrev pub IsKept : Kept → Type 0
IsKept (Plain bytes) = length bytes.items ≤ 2048
IsKept (Part part) = Unit
IsKept (Shared pages) = (2048 < length pages.value.list) × (pages.value.front.items ≡ take 64 pages.value.list)
