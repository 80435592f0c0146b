-- What trees hold, told of the finite maps that they stand for; the bytes of a buffer that was looked up.
use Rattle.std.proofs.Common.{◌≡◌, ℕ, List, [], nat_eq, nat_cmp, Some, None, refl, ap, sym, ◌∙◌}
use Rattle.std.specs.Prelude.{unwrap_or}
use Rattle.std.specs.Map.{lookup, keys_of}
use Rattle.std.specs.BTreeMap.{is_at}
use Rattle.std.specs.List.Sorted.{IsStrictlySortedBy}
use Rattle.extent_bytes.specs.Bytes.{range_of}
use Rattle.finite_maps.specs.Table.{Table, get, number_keys, pair_cmp, pair_keys}
use Rattle.finite_maps.specs.Maps.{table_of}
use Rattle.finite_maps.proofs.Maps.{get-of}
use Rattle.finite_maps.proofs.Ordered.{entries_of}
use Rattle.finite_maps.proofs.Indexed as indexed
use Rattle.ring_tables.specs.Contents.{bytes_at}
use Rattle.extent_bytes.proofs.Lists.{range_of-none}

-- In the words in which the check finds them by itself: a look-up by number, in a tree and in an index map, and entries in order.
module _ {X : Type 0} where
  pub held_in_tree : (es : List (ℕ × X)) (k : ℕ) → lookup (is_at (nat_cmp k)) es ≡ get (table_of number_keys.total es) k
  held_in_tree es k = sym (get-of number_keys es (table_of number_keys.total es) k refl)

  pub held_by_index : (es : List (ℕ × X)) (k : ℕ) → lookup (nat_eq k) es ≡ get (table_of number_keys.total es) k
  held_by_index es k = sym (indexed.get-of es (table_of number_keys.total es) k refl)

  pub numbers_in_order : (es : List (ℕ × X)) → IsStrictlySortedBy nat_cmp (keys_of es) → (table_of number_keys.total es).entries ≡ es
  numbers_in_order es h = sym (entries_of number_keys es (table_of number_keys.total es) h refl)

  pub pairs_in_order : (es : List ((ℕ × ℕ) × X)) → IsStrictlySortedBy pair_cmp (keys_of es) → (table_of pair_keys.total es).entries ≡ es
  pairs_in_order es h = sym (entries_of pair_keys es (table_of pair_keys.total es) h refl)

pub ruleset held = (held_in_tree, held_by_index, numbers_in_order, pairs_in_order)

pub bytes_at-found : (es : List ((ℕ × ℕ) × List ℕ)) (t : Table pair_cmp (List ℕ)) (ring index : ℕ) (bytes : List ℕ) → table_of pair_keys.total es ≡ t → Some bytes ≡ lookup (is_at (pair_cmp (ring, index))) es → bytes_at t ring index ≡ bytes
bytes_at-found es t ring index bytes is e = ap (λ o. unwrap_or o []) (get-of pair_keys es t (ring, index) is ∙ sym e)

pub bytes_at-absent : (es : List ((ℕ × ℕ) × List ℕ)) (t : Table pair_cmp (List ℕ)) (ring index : ℕ) → table_of pair_keys.total es ≡ t → None ≡ lookup (is_at (pair_cmp (ring, index))) es → bytes_at t ring index ≡ []
bytes_at-absent es t ring index is e = ap (λ o. unwrap_or o []) (get-of pair_keys es t (ring, index) is ∙ sym e)

-- a range where there is no buffer
pub range_of-absent : (es : List ((ℕ × ℕ) × List ℕ)) (t : Table pair_cmp (List ℕ)) (ring index low high : ℕ) → table_of pair_keys.total es ≡ t → None ≡ lookup (is_at (pair_cmp (ring, index))) es → [] ≡ range_of (bytes_at t ring index) low high
range_of-absent es t ring index low high is e = sym (ap (λ xs. range_of xs low high) (bytes_at-absent es t ring index is e) ∙ range_of-none low high)
