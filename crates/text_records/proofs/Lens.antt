-- How many bytes parts of a trace have.
use Rattle.std.proofs.Common.{◌≡◌, ℕ, suc, ◌+◌, ◌*◌, ◌<◌, List, [], ◌∷◌, ◌++◌, cond, length, drop, get_or, refl, sym, ap, ◌∙◌, drop-cons, length-append, arith}
use Rattle.std.specs.Int.{to_le_bytes, w64}
use Rattle.std.specs.List.{flat_map}
use Rattle.std.proofs.lemmas.List.Sums.{sum_by-append}
use Rattle.trace_records.specs.declared.record.Content.{Content}
use Rattle.trace_records.specs.declared.record.FileAt.{FileAt}
use Rattle.trace_records.specs.declared.record.FileAt.TheVariants as files
use Rattle.trace_records.specs.declared.record.Record.{Record}
use Rattle.trace_records.specs.declared.record.Record.TheVariants.{Seek, Set}
use Rattle.trace_records.specs.Tallies.{is_ring, rings}
use Rattle.trace_records.specs.declared.record.FullSlot.{FullSlot}
use Rattle.trace_records.specs.declared.record.Holder.{Holder}
use Rattle.trace_records.specs.declared.record.Holder.TheVariants.{Slot, Descriptor as OfDescriptor, Description}
use Rattle.trace_records.specs.declared.start.Descriptor.{Descriptor}
use Rattle.trace_records.specs.declared.start.Range.{Range}
use Rattle.trace_records.specs.Spelling.{content_bytes, descriptor_bytes, file_bytes, full_slot_bytes, holder_bytes, range_bytes, record_bytes}

-- full descriptors are eight bytes each
pub descriptors_len : (full : List Descriptor) → length (flat_map descriptor_bytes full) ≡ length full * 8
descriptors_len [] = refl
descriptors_len (d ∷ full) = omega (arith, descriptors_len full)

holder_len : (h : Holder) → length (holder_bytes h) ≡ 9
holder_len (Slot ring number) = refl
holder_len (OfDescriptor number) = refl
holder_len (Description number) = refl

-- full slots are thirteen bytes each
pub full_len : (full : List FullSlot) → length (flat_map full_slot_bytes full) ≡ length full * 13
full_len [] = refl
full_len (s ∷ full) = omega (arith, holder_len s.holds, full_len full, length-append (holder_bytes s.holds) (flat_map full_slot_bytes full))

-- a slot or a descriptor is nine bytes
pub file_len : (f : FileAt) → length (file_bytes f) ≡ 9
file_len (files.Slot ring number) = refl
file_len (files.Descriptor number) = refl

-- a set and a seek have their number, a slot or a descriptor, and what follows it
pub set_len : (f : FileAt) (c : Content) (n m : ℕ) → n ≡ length (file_bytes f) → m ≡ length (content_bytes c) → n + m + 1 ≡ length (record_bytes (Set f c))
set_len f c n m file content = omega (arith, file, content, length-append (file_bytes f) (content_bytes c))

pub seek_len : (f : FileAt) (position n : ℕ) → n ≡ length (file_bytes f) → n + 9 ≡ length (record_bytes (Seek f position))
seek_len f position n file = omega (arith, file, length-append (file_bytes f) (to_le_bytes w64 position))

-- one record more
pub rings_push : (rs : List Record) (r : Record) → rings (rs ++ r ∷ []) ≡ rings rs + rings (r ∷ [])
rings_push rs r = sum_by-append (λ x. cond (is_ring x) 1 0) rs (r ∷ [])

-- one range more is passed
pub passes_range : (ranges : List Range) (i : ℕ) (r : Range) (len total : ℕ) → i < length ranges → r ≡ get_or ranges i r
    → len + length (flat_map range_bytes (drop i ranges)) ≡ total → (len + (length r.bytes + 12)) + length (flat_map range_bytes (drop (i + 1) ranges)) ≡ total
passes_range ranges i r len total lt here so_far =
    let k : suc i ≡ i + 1 = omega arith in
    let front : drop i ranges ≡ r ∷ drop (i + 1) ranges =
    drop-cons ranges i r lt ∙ ap (λ (n : ℕ). get_or ranges i r ∷ drop n ranges) k ∙ ap (λ x. x ∷ drop (i + 1) ranges) (sym here) in
    let lens : length (flat_map range_bytes (drop i ranges)) ≡ (12 + length r.bytes) + length (flat_map range_bytes (drop (i + 1) ranges)) =
    ap (λ l. length (flat_map range_bytes l)) front ∙ omega (arith, length-append r.bytes (flat_map range_bytes (drop (i + 1) ranges))) in
    omega (arith, lens, so_far)
