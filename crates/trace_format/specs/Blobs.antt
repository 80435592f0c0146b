-- A view of code: the bytes of a blob, and of a slice of a text.
use Rattle.std.specs.Prelude.{List, ℕ, [], None, Some, take, drop}
use Rattle.trace_format.specs.declared.blob.Blob.TheInside.{Inside}
use Rattle.trace_format.specs.declared.blob.TextSlice.{TextSlice}

-- the bytes of the text that it shares, if it has one
abbrev pub text_of : Inside → List ℕ
text_of b = elim b.text [ None ↦ [] | Some text ↦ text.value.items ]

-- its range of them
abbrev pub bytes_in : Inside → List ℕ
bytes_in b = take b.len (drop b.from (text_of b))

-- the bytes of a slice of a text
abbrev pub sliced : TextSlice → List ℕ
sliced b = take b.len (drop b.from b.text.now.value.items)
