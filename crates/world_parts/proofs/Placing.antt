-- Bytes put over those of a buffer, or of a file that grows first.
use Rattle.std.proofs.Common.{◌≡◌, ℕ, ◌+◌, ◌-◌, ◌<◌, ◌≤◌, List, length, take, drop, min, arith, sym, subst, ◌∙◌, ap, refl, ⊎_elim}
use Rattle.std.specs.Prelude.{Option, Some, None, IfSome, unwrap_or}
use Rattle.std.specs.Option.{option_map, option_and_then}
use Rattle.std.specs.Ordering.{nat_cmp}
use Rattle.std.proofs.lemmas.Bool.{cases_lt}
use Rattle.std.proofs.lemmas.List.{length-take, take_all, take_min, take-take}
use Rattle.std.proofs.lemmas.Grind.{same_number_lists}
use Rattle.extent_bytes.specs.Bytes.{overlaid, overwritten, range_of, resized}
use Rattle.extent_bytes.proofs.Lengths.{length-overwritten, length-resized}
use Rattle.ring_tables.proofs.BufferBytes.{overlaid-clipped, overlaid-past}
use Rattle.finite_maps.specs.Table.{Table, get, adjust_number, number_keys, same_table}
use Rattle.file_tree.specs.Tree.{Node, bytes_of_node, rewritten_node}
use Rattle.world_parts.specs.World.{World, size, set_size, write_bytes, apply}
use Rattle.world_parts.proofs.ByteWords.{byte-overwritten, each-resized, past_end}
use Rattle.world_parts.proofs.Changes.{adjusted}

-- a range that ends where there is no more room
pub range_of-clipped : (bs : List ℕ) (low high end room : ℕ) → end ≡ min high (low + room) → range_of bs low end ≡ take room (range_of bs low high)
unfolding range_of
range_of-clipped bs low high end room e = ⊎_elim
    (λ (more : low + room < high). let n : end - low ≡ room = omega arith in rw n (sym (take-take room (high - low) (drop low bs) (omega arith))))
    (λ (all : high ≤ low + room). let n : end ≡ high = omega arith in rw n (sym (take_all room (take (high - low) (drop low bs)) (omega (arith, length-take (high - low) (drop low bs))))))
    (cases_lt (low + room) high)

pub length-range_of-most : (bs : List ℕ) (low high : ℕ) → length (range_of bs low high) ≤ high - low
unfolding range_of
length-range_of-most bs low high = omega (arith, length-take (high - low) (drop low bs))

-- bytes that fill the room behind an offset
fills : (old new : List ℕ) (at room : ℕ) → room ≡ length old - at → 0 < room → overwritten old at (take room new) ≡ overlaid old at new
fills old new at room e some = ap (overwritten old at) (sym (take_min room new)) ∙ overlaid-clipped old at new (min room (length new)) (omega arith) (omega arith)

pub shared_over : (o : Option (List ℕ)) (new : List ℕ) (at room : ℕ) → room ≡ unwrap_or (option_map length o) 0 - at → 0 < room
    → option_map (λ bs. overwritten bs at (take room new)) o ≡ option_map (λ bs. overlaid bs at new) o
shared_over o new at room e some = grind (arith, fills)

pub copied_over : (o : Option (List ℕ)) (new : List ℕ) (at room : ℕ) → room ≡ unwrap_or (option_map length o) 0 - at
    → option_map (λ bs. overlaid bs at (take room new)) o ≡ option_map (λ bs. overlaid bs at new) o
copied_over None new at room e = refl
copied_over (Some old) new at room e = ap Some (⊎_elim
    (λ (some : 0 < room). ap (take (length old)) (fills old new at room e some) ∙ take-take (length old) (length old) (overwritten old at new) (omega arith))
    (λ (none : room ≤ 0). overlaid-past old at (take room new) (omega arith) ∙ sym (overlaid-past old at new (omega arith)))
    (cases_lt 0 room))

-- a list that grows to the end of what is put at its end
overwritten-resized : (old part : List ℕ) (at n : ℕ) → n ≡ at + length part → length old < n → overwritten (resized old n) at part ≡ overwritten old at part
overwritten-resized old part at n e short =
    same_number_lists (overwritten (resized old n) at part) (overwritten old at part) (grind (arith, length-resized, length-overwritten))
    (λ i b. grind (arith, byte-overwritten, each-resized, past_end))

grown : (x : Option Node) (at n : ℕ) (part : List ℕ) → n ≡ at + length part → IfSome (option_map length (option_and_then bytes_of_node x)) (λ m. m < n)
    → option_map (rewritten_node (λ old. overwritten old at part)) (option_map (rewritten_node (λ bs. resized bs n)) x) ≡ option_map (rewritten_node (λ old. overwritten old at part)) x
grown x at n part e short = grind (arith, overwritten-resized)

-- a value that is adjusted twice
adjusted_twice : {X : Type 0} (f g : X → X) (m : Table nat_cmp X) (k : ℕ) → option_map g (option_map f (get m k)) ≡ option_map g (get m k) → adjust_number g (adjust_number f m k) k ≡ adjust_number g m k
adjusted_twice f g m k e = same_table number_keys _ _ (λ q. grind (arith, adjusted g (adjust_number f m k) k q, adjusted f m k q, adjusted g m k q))

-- the size of a file that was extended
pub size-extended : (s w : World) (i n k : ℕ) → w ≡ apply (set_size i n) s → k ≤ n → IfSome (size w i) (λ m. k ≤ m)
size-extended s w i n k e few =
    subst (λ v. IfSome (size v i) (λ m. k ≤ m)) (sym e) (grind (arith, adjusted (rewritten_node (λ bs. resized bs n)) s.nodes i i, length-resized))

-- bytes written into a file that was extended for them
pub extended_written : (s w v : World) (i at n : ℕ) (part : List ℕ) → n ≡ at + length part → IfSome (size s i) (λ m. m < n) → w ≡ apply (set_size i n) s
    → v ≡ record w { nodes = adjust_number (rewritten_node (λ old. overwritten old at part)) w.nodes i } → v ≡ apply (write_bytes i at part) s
extended_written s w v i at n part e short x y =
    y ∙ ap (λ (u : World). record u { nodes = adjust_number (rewritten_node (λ old. overwritten old at part)) u.nodes i }) x
    ∙ ap (λ m. record s { nodes = m }) (adjusted_twice (rewritten_node (λ bs. resized bs n)) (rewritten_node (λ old. overwritten old at part)) s.nodes i (grown (get s.nodes i) at n part e short))

-- what a size that may be there tells
pub reaches : (o : Option ℕ) (n k : ℕ) → k ≤ n → n ≤ unwrap_or o n → IfSome o (λ m. k ≤ m)
reaches o n k a h = grind arith

pub ends_before : (o : Option ℕ) (n k : ℕ) → n ≤ k → unwrap_or o n < n → IfSome o (λ m. m < k)
ends_before o n k a h = grind arith
