-- A part that gets a range of the bytes of a file or of a buffer.
use Rattle.std.specs.Prelude.{◌≡◌, ℕ, false, cond, ◌&&◌, ◌==◌, ◌-◌, ◌<◌, ◌≤◌, min, T, List, [], length, drop, replicate, Option, Some, None, refl, slice_index_or, unwrap_or, is_some}
use Rattle.std.specs.List.{slice_get}
use Rattle.std.specs.Option.{option_map, option_and_then}
use Rattle.std.specs.Ordering.{eq_by_cmp}
use mathlib.Core.Path.{sym, subst, ap, ◌∙◌}
use mathlib.Core.Logic.{inl, inr}
use native.Mathlib.Omega.{arith}
use lib.Dec.{eqb→eq}
use Rattle.std.proofs.lemmas.List.{length-take, length-drop, length-replicate}
use Rattle.std.proofs.lemmas.Option.{gets}
use Rattle.extent_bytes.specs.Bytes.{overwritten, range_of}
use Rattle.extent_bytes.proofs.Lengths.{length-overwritten}
use Rattle.finite_maps.specs.Table.{Table, get, insert, get-insert, get-assign, adjust_number, pair_keys, pair_cmp}
use Rattle.file_tree.specs.Tree.{Node, file, a_file, bytes_of_node, rewritten_node}
use Rattle.ring_tables.specs.Contents.{rewritten_at}
use Rattle.world_parts.specs.World.{World, size, bytes, byte, buffer}
use Rattle.world_parts.specs.Items.{Atom, byte_at, buffer_size, buffer_byte, file_bytes, buffer_bytes, member_of, value}
use Rattle.world_parts.specs.Copying.{outline, IsShadow, IsNearer, IsCopied}
use Rattle.world_parts.proofs.ByteWords.{byte-overwritten, past_end, byte-range, get_alike}
use Rattle.world_parts.proofs.Changes.{adjusted, pair_tied}
use Rattle.world_parts.proofs.Collision.{left, right}
use Rattle.world_parts.proofs.Copies.{either_way, nearer_beside, nothing_moved}
use Rattle.world_parts.proofs.Raw.{byte_got, byte_in}
use Rattle.world_parts.proofs.CopiesOfNodes.{replaced_nearer, same_size}

-- How long a range is, within and past the end.
pub length-range : (cs : List ℕ) (lo hi : ℕ) → length (range_of cs lo hi) ≡ min (hi - lo) (length cs - lo)
unfolding range_of
length-range cs lo hi = length-take (hi - lo) (drop lo cs) ∙ ap (min (hi - lo)) (length-drop lo cs)

-- Bytes over which a range of others of the same length is put, at its place.
module _ (bs cs part : List ℕ) (lo hi : ℕ) (same : length bs ≡ length cs) (from : lo ≤ length cs) (is : part ≡ range_of cs lo hi) where
  part_length : length part ≡ min (hi - lo) (length cs - lo)
  part_length = ap length is ∙ length-range cs lo hi

  over_length : length (overwritten bs lo part) ≡ length bs
  over_length = grind (arith, part_length, length-overwritten bs lo part)

  -- What agreed still does.
  over_stays : (o : ℕ) → slice_index_or cs o 0 ≡ slice_index_or bs o 0 → slice_index_or cs o 0 ≡ slice_index_or (overwritten bs lo part) o 0
  over_stays o h = grind (arith, part_length, byte-overwritten bs part lo o, byte-range cs lo hi o)

  -- In the range, and past the end, the bytes agree.
  over_agrees : (o : ℕ) → lo ≤ o → (o < length cs → o < hi) → slice_index_or cs o 0 ≡ slice_index_or (overwritten bs lo part) o 0
  over_agrees o a h = grind (arith, part_length, over_length, byte-overwritten bs part lo o, byte-range cs lo hi o, past_end)

-- The bytes of a range, of a file or of a buffer.
in_file : (s q : World) (i low high : ℕ) → ((o : ℕ) → low ≤ o → o < high → byte s i o ≡ byte q i o) → (a : Atom) → T (member_of (file_bytes i low high) a)
    → value s a ≡ value q a
in_file s q i low high h (byte_at j o) m = grind (arith, h o)
in_file s q i low high h _ m = absurd m

in_buffer : (s q : World) (r b low high : ℕ) → ((o : ℕ) → low ≤ o → o < high → byte_got (buffer s r b) o ≡ byte_got (buffer q r b) o)
    → (a : Atom) → T (member_of (buffer_bytes r b low high) a) → value s a ≡ value q a
in_buffer s q r b low high h (buffer_byte t c o) m = grind (arith, h o)
in_buffer s q r b low high h _ m = absurd m

-- A file, by its size.
is_file : (x : Option Node) (n : ℕ) → Some n ≡ option_map length (option_and_then bytes_of_node x) → (cs : List ℕ) × (x ≡ Some (file cs)) × (n ≡ length cs)
is_file x n e = grind arith

module _ (s p : World) (sh : IsShadow s p) (i n lo hi : ℕ) (part : List ℕ) (sized : Some n ≡ size s i) (same : outline p i ≡ outline s i) (from : lo ≤ n) (is : part ≡ range_of (unwrap_or (bytes s i) []) lo hi) where
  abbrev with_part : World
  with_part = record p { nodes = adjust_number (rewritten_node (λ old. overwritten old lo part)) p.nodes i }

  -- The file, as the part has it and as the world has it.
  module _ (bs cs : List ℕ) (in_part : get p.nodes i ≡ Some (file bs)) (in_world : get s.nodes i ≡ Some (file cs)) (lengths : length bs ≡ length cs) (whole : n ≡ length cs) where
    abbrev new : Node
    new = file (overwritten bs lo part)

    is_range : part ≡ range_of cs lo hi
    is_range = is ∙ ap (λ x. range_of (unwrap_or (option_and_then bytes_of_node x) []) lo hi) in_world

    starts : lo ≤ length cs
    starts = omega arith

    after : (e : ℕ) → get with_part.nodes e ≡ cond (e == i) (Some new) (get p.nodes e)
    after e = grind (arith, adjusted (rewritten_node (λ old. overwritten old lo part)) p.nodes i e, in_part)

    world_byte : (o : ℕ) → byte s i o ≡ slice_index_or cs o 0
    world_byte o = ap (λ x. byte_in x o) in_world

    nearer : IsNearer s p with_part
    nearer = replaced_nearer s p sh i (Some (file bs)) new with_part.nodes after in_part (inr (ap (λ k. Some (a_file, k)) (over_length bs cs part lo hi lengths starts is_range))) (λ m. inl refl)
        (λ o h. world_byte o ∙ over_stays bs cs part lo hi lengths starts is_range o (sym (world_byte o) ∙ h))

    there : get with_part.nodes i ≡ Some new
    there = grind (arith, after i)

    copied : (low high : ℕ) → lo ≤ low → ((o : ℕ) → o < n → o < high → o < hi) → IsCopied s p with_part (file_bytes i low high)
    copied low high f g = record {
      nearer = nearer;
      item = in_file s with_part i low high (λ o a b.
          world_byte o ∙ over_agrees bs cs part lo hi lengths starts is_range o (omega arith) (λ k. g o (omega arith) b) ∙ sym (ap (λ x. byte_in x o) there));
    }

  pub bytes_copied : (low high : ℕ) → lo ≤ low → ((o : ℕ) → o < n → o < high → o < hi) → IsCopied s p with_part (file_bytes i low high)
  bytes_copied low high f g =
      let w = is_file (get s.nodes i) n sized in
      let h = is_file (get p.nodes i) n (sized ∙ same_size s p i same) in
      copied h.0 w.0 h.1 w.1 (sym h.2 ∙ w.2) w.2 low high f g

-- A range of what is no file has no bytes.
pub no_bytes_copied : (s p : World) (i low high : ℕ) → IsShadow s p → None ≡ size s i → outline p i ≡ outline s i → IsCopied s p p (file_bytes i low high)
no_bytes_copied s p i low high sh none same =
    record { nearer = nothing_moved s p sh; item = in_file s p i low high (λ o a b. grind (arith, same_size s p i same)) }

-- Buffers.

-- A part with another buffer at a place: it is as long as the world's, and bytes that agreed still do.
module _ (s p : World) (sh : IsShadow s p) (r b : ℕ) (new : List ℕ) (buffers : Table pair_cmp (List ℕ))
    (after : (c : ℕ × ℕ) → get buffers c ≡ cond (eq_by_cmp pair_cmp c (r, b)) (Some new) (get p.buffers c))
    (sized : option_map length (buffer s r b) ≡ Some (length new))
    (contents : (o : ℕ) → value s (buffer_byte r b o) ≡ value p (buffer_byte r b o) → value s (buffer_byte r b o) ≡ slice_get new o) where
  abbrev with_buffer : World
  with_buffer = record p { buffers = buffers }

  buffer_after : (t c : ℕ) → buffer with_buffer t c ≡ cond (t == r && c == b) (Some new) (buffer p t c)
  buffer_after t c = grind (arith, after (t, c), pair_tied)

  buffer_there : buffer with_buffer r b ≡ Some new
  buffer_there = grind (arith, buffer_after r b)

  atoms : (a : Atom) → value s a ≡ value p a → value s a ≡ value with_buffer a
  atoms (buffer_size t c) h = grind (arith, buffer_after t c, sized)
  atoms (buffer_byte t c o) h =
      subst (λ x. value s (buffer_byte t c o) ≡ byte_got x o) (sym (buffer_after t c))
      (either_way (t == r && c == b) (λ x. value s (buffer_byte t c o) ≡ byte_got x o) (Some new) (buffer p t c)
      (λ e. subst (λ (k : ℕ × ℕ). value s (buffer_byte k.0 k.1 o) ≡ value p (buffer_byte k.0 k.1 o) → value s (buffer_byte k.0 k.1 o) ≡ slice_get new o)
      (λ i. (sym (eqb→eq t r (left _ _ e)) i, sym (eqb→eq c b (right (t == r) _ e)) i)) (contents o) h) h)
  atoms _ h = h

  buffer_nearer : IsNearer s p with_buffer
  buffer_nearer = nearer_beside s p with_buffer sh refl sh.descriptions (λ t c. grind (arith, buffer_after t c, sized, sh.buffers t c)) sh.chains atoms

pub no_length : (x : Option (List ℕ)) → false ≡ is_some (option_map length x) → x ≡ None
no_length x e = grind arith

-- A buffer of zeros, where none was.
module _ (s p : World) (sh : IsShadow s p) (r b n : ℕ) (absent : buffer p r b ≡ None) (sized : Some n ≡ option_map length (buffer s r b)) where
  abbrev with_zeros : World
  with_zeros = record p { buffers = insert pair_keys.total p.buffers (r, b) (replicate n 0) }

  zeros_sized : option_map length (buffer s r b) ≡ Some (length (replicate {A = ℕ} n 0))
  zeros_sized = grind (arith, length-replicate)

  pub zeros_nearer : IsNearer s p with_zeros
  zeros_nearer =
      buffer_nearer s p sh r b (replicate n 0) with_zeros.buffers (get-insert pair_keys.total p.buffers (r, b) (replicate n 0)) zeros_sized
      (λ o h. grind (arith, gets, length-replicate {A = ℕ} n 0, absent, sized))

  pub zeros_long : option_map length (buffer with_zeros r b) ≡ option_map length (buffer s r b)
  zeros_long = grind (arith, get-insert pair_keys.total p.buffers (r, b) (replicate n 0) (r, b), pair_tied, zeros_sized)

has_length : (x : Option (List ℕ)) (n : ℕ) → Some n ≡ option_map length x → (cs : List ℕ) × (x ≡ Some cs) × (n ≡ length cs)
has_length x n e = grind arith

module _ (s p : World) (sh : IsShadow s p) (r b n lo hi : ℕ) (part : List ℕ) (sized : Some n ≡ option_map length (buffer s r b)) (same : option_map length (buffer p r b) ≡ option_map length (buffer s r b)) (from : lo ≤ n)
    (is : part ≡ range_of (unwrap_or (buffer s r b) []) lo hi) where
  abbrev with_range : World
  with_range = record p { buffers = rewritten_at (λ old. overwritten old lo part) p.buffers r b }

  -- The buffer, as the part has it and as the world has it.
  module _ (bs cs : List ℕ) (in_part : buffer p r b ≡ Some bs) (in_world : buffer s r b ≡ Some cs) (lengths_agree : length bs ≡ length cs) (whole : n ≡ length cs) where
    range_is : part ≡ range_of cs lo hi
    range_is = is ∙ ap (λ x. range_of (unwrap_or x []) lo hi) in_world

    begins : lo ≤ length cs
    begins = omega arith

    range_after : (c : ℕ × ℕ) → get with_range.buffers c ≡ cond (eq_by_cmp pair_cmp c (r, b)) (Some (overwritten bs lo part)) (get p.buffers c)
    range_after c = grind (arith, get-assign pair_keys.total p.buffers (r, b) (option_map (λ old. overwritten old lo part) (buffer p r b)) c, in_part)

    long : length (overwritten bs lo part) ≡ length cs
    long = over_length bs cs part lo hi lengths_agree begins range_is ∙ lengths_agree

    of_world : (o : ℕ) → value s (buffer_byte r b o) ≡ slice_get cs o
    of_world o = ap (λ x. option_and_then (λ bs. slice_get bs o) x) in_world

    stays : (o : ℕ) → value s (buffer_byte r b o) ≡ value p (buffer_byte r b o) → value s (buffer_byte r b o) ≡ slice_get (overwritten bs lo part) o
    stays o h = grind (arith, gets, of_world o, in_part, long, over_stays bs cs part lo hi lengths_agree begins range_is o)

    range_nearer : IsNearer s p with_range
    range_nearer =
        buffer_nearer s p sh r b (overwritten bs lo part) with_range.buffers range_after (ap (option_map length) in_world ∙ ap (λ m. Some m) (sym long)) stays

    buffer_found : buffer with_range r b ≡ Some (overwritten bs lo part)
    buffer_found = grind (arith, range_after (r, b), pair_tied)

    range_item : (low high : ℕ) → lo ≤ low → ((o : ℕ) → o < n → o < high → o < hi) → (a : Atom) → T (member_of (buffer_bytes r b low high) a) → value s a ≡ value with_range a
    range_item low high f g = in_buffer s with_range r b low high (λ o a d.
        of_world o ∙ get_alike cs (overwritten bs lo part) o (sym long)
        (over_agrees bs cs part lo hi lengths_agree begins range_is o (omega arith) (λ m. g o (omega arith) d))
        ∙ sym (ap (λ x. byte_got x o) buffer_found))

  pub range_copied : (low high : ℕ) → lo ≤ low → ((o : ℕ) → o < n → o < high → o < hi) → IsCopied s p with_range (buffer_bytes r b low high)
  range_copied low high f g =
      let w = has_length (buffer s r b) n sized in
      let h = has_length (buffer p r b) n (sized ∙ sym same) in
      record { nearer = range_nearer h.0 w.0 h.1 w.1 (sym h.2 ∙ w.2) w.2; item = range_item h.0 w.0 h.1 w.1 (sym h.2 ∙ w.2) w.2 low high f g }

-- A range of no buffer.
pub no_range_copied : (s p : World) (r b low high : ℕ) → IsShadow s p → None ≡ option_map length (buffer s r b) → IsCopied s p p (buffer_bytes r b low high)
no_range_copied s p r b low high sh none = record { nearer = nothing_moved s p sh; item = in_buffer s p r b low high (λ o a d. grind (arith, sh.buffers r b)) }
