-- The model: the bytes of registered buffers, by ring and index, for the contracts of buffers.
use Rattle.std.specs.Prelude.{ℕ, List, [], unwrap_or}
use Rattle.std.specs.Option.{option_map}
use Rattle.finite_maps.specs.Table.{Table, get, assign, pair_cmp, pair_keys}

-- The bytes of a buffer; none where there is no buffer.
abbrev pub bytes_at : Table pair_cmp (List ℕ) → ℕ → ℕ → List ℕ
bytes_at buffers ring index = unwrap_or (get buffers (ring, index)) []

-- The buffers with the bytes of one replaced by a function of them; nothing changes where it isn't there.
abbrev pub rewritten_at : (List ℕ → List ℕ) → Table pair_cmp (List ℕ) → ℕ → ℕ → Table pair_cmp (List ℕ)
rewritten_at f buffers ring index = assign pair_keys.total buffers (ring, index) (option_map f (get buffers (ring, index)))
