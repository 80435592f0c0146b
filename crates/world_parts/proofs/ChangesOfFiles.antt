-- What zeros in a file and bytes put into a buffer do to each atom.
use Rattle.std.specs.Prelude.{◌≡◌, ℕ, cond, ◌&&◌, ◌==◌, ◌+◌, ◌-◌, List, length, Option, refl, slice_index_or}
use Rattle.std.specs.List.{slice_get}
use Rattle.std.specs.Option.{option_map}
use native.Mathlib.Omega.{arith}
use Rattle.std.proofs.lemmas.List.{get_or-take}
use Rattle.std.proofs.lemmas.Option.{gets}
use Rattle.finite_maps.specs.Table.{get-assign, pair_keys}
use Rattle.extent_bytes.specs.Bytes.{overwritten, overlaid, zeroed}
use Rattle.extent_bytes.proofs.Lengths.{length-zeroed, length-overlaid}
use Rattle.file_tree.specs.Tree.{rewritten_node}
use Rattle.world_parts.specs.World.{World, buffer, zero_bytes, write_buffer, apply}
use Rattle.world_parts.specs.Items.{Atom, description_at, size_of, byte_at, name_at, names_in, buffer_size, buffer_byte, Value, value, within}
use Rattle.world_parts.proofs.Changes.{adjusted, rewriting-count, rewriting-opened, rewriting-name, pair_tied}
use Rattle.world_parts.proofs.ByteWords.{byte-overwritten, byte-zeroed}

-- A range that becomes zero.
abbrev pub emptied : ℕ → ℕ → ℕ → (a : Atom) → Value a → Value a
emptied i low high (byte_at j p) x = cond (j == i) (cond (within low high p) 0 x) x
emptied i low high a x = x

pub zero_bytes-value : (s : World) (i low high : ℕ) (a : Atom) → value (apply (zero_bytes i low high) s) a ≡ emptied i low high a (value s a)
zero_bytes-value s i low high (size_of j) = grind (arith, adjusted (rewritten_node (λ bs. zeroed bs low high)) s.nodes i j, length-zeroed)
zero_bytes-value s i low high (byte_at j p) = grind (arith, adjusted (rewritten_node (λ bs. zeroed bs low high)) s.nodes i j, byte-zeroed)
zero_bytes-value s i low high (names_in e) = rewriting-count (λ bs. zeroed bs low high) s i e
zero_bytes-value s i low high (name_at e m) = rewriting-name (λ bs. zeroed bs low high) s i e m
zero_bytes-value s i low high (description_at e) = rewriting-opened (λ bs. zeroed bs low high) s i e
zero_bytes-value s i low high _ = refl

-- Bytes that are put into a buffer, within its length.
abbrev pub put_at : ℕ → List ℕ → ℕ → Option ℕ → Option ℕ
put_at at new p x = option_map (λ y. cond (within at (at + length new) p) (slice_index_or new (p - at) 0) y) x

abbrev pub buffered : ℕ → ℕ → ℕ → List ℕ → (a : Atom) → Value a → Value a
buffered r b at new (buffer_byte q c p) x = cond (q == r && c == b) (put_at at new p x) x
buffered r b at new a x = x

byte-overlaid : (old new : List ℕ) (at p : ℕ) → slice_get (overlaid old at new) p ≡ put_at at new p (slice_get old p)
byte-overlaid old new at p =
    let long = length-overlaid old at new in
    let same = get_or-take (length old) (overwritten old at new) p 0 in
    let byte = byte-overwritten old new at p in
    grind (arith, gets)

buffer_after : (s : World) (r b at : ℕ) (new : List ℕ) (q c : ℕ) → buffer (apply (write_buffer r b at new) s) q c ≡ cond (q == r && c == b) (option_map (λ bs. overlaid bs at new) (buffer s q c)) (buffer s q c)
buffer_after s r b at new q c =
    grind (arith, get-assign pair_keys.total s.buffers (r, b) (option_map (λ bs. overlaid bs at new) (buffer s r b)) (q, c), pair_tied)

pub write_buffer-value : (s : World) (r b at : ℕ) (new : List ℕ) (a : Atom) → value (apply (write_buffer r b at new) s) a ≡ buffered r b at new a (value s a)
write_buffer-value s r b at new (buffer_size q c) = grind (arith, buffer_after s r b at new q c, length-overlaid)
write_buffer-value s r b at new (buffer_byte q c p) = grind (arith, buffer_after s r b at new q c, byte-overlaid)
write_buffer-value s r b at new _ = refl
