-- A view of code: the buffers so far of a ring, as the map that reading keeps.
use Rattle.std.specs.Prelude.{◌≡◌, ◌+◌, ◌<◌, ◌≤◌, ◌==◌, ◌&&◌, ◌↔◌, ℕ, List, Some, nat_lt, if◌then◌else◌, Contains}
use Rattle.std.specs.Ordering.{nat_cmp}
use Rattle.std.specs.BTreeMap.{BTreeMap, get}
use Rattle.trace_format.specs.declared.trace.Buffer.{Buffer}

-- lengths by address
abbrev pub Spans : Type 0
Spans = BTreeMap ℕ ℕ

-- the map has the buffer
abbrev pub HasSpan : Spans → Buffer → Type 0
HasSpan spans b = get nat_cmp spans b.address ≡ Some b.len

-- one buffer more, unless it is empty
abbrev pub AddsSpan : Spans → Spans → Buffer → Type 0
AddsSpan old new b = (address : ℕ) → get nat_cmp new address ≡ (if nat_lt 0 b.len && b.address == address then Some b.len else get nat_cmp old address)

-- the map has the buffers that are not empty, and each ends before the next begins
pub record KnowsSpans (spans : Spans) (buffers : List Buffer) : Type 0 where
  pub all : (b : Buffer) → HasSpan spans b ↔ (Contains buffers b × (0 < b.len))
  pub apart : (a b : Buffer) → HasSpan spans a → HasSpan spans b → a.address < b.address → a.address + a.len ≤ b.address
