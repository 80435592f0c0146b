-- Each part of a trace is spelled in one way.
use Rattle.std.proofs.Common.{◌≡◌, ℕ, zero, suc, ◌+◌, ◌-◌, ◌<◌, ◌≤◌, ◌^◌, true, cond, eqb, List, [], ◌∷◌, ◌++◌, length, Option, Some, None, append_assoc, refl, sym, ap, subst, ◌∙◌, arith, inl, inr}
use Rattle.std.specs.Prelude.{codes, ◌==◌}
use Rattle.std.specs.List.{flat_map}
use Rattle.std.specs.Int.{Width, w8, w16, w32, w64, to_le_bytes, cast_signed}
use Rattle.std.proofs.lemmas.Bool.{eqb-true, eqb-false, leb-true, and_parts}
use Rattle.std.proofs.lemmas.Bool.Decides.{nat_tests}
use Rattle.std.proofs.lemmas.Int.{of_z-to_z}
use Rattle.std.proofs.lemmas.List.{append-nil, nil_from_length}
use Rattle.std.proofs.lemmas.List.Concat.{flat_map-cons}
use Rattle.std.proofs.lemmas.Slice.Eq.{bytes_eq-Decides}
use Rattle.sqe_codec.specs.declared.sqe.Sqe.{Sqe}
use Rattle.sqe_codec.specs.Fields.{IsBytes, entry_bytes, entry_of}
use Rattle.sqe_codec.proofs.Parts.{bytes_back}
use Rattle.trace_format.specs.Limits.{file_limit}
use Rattle.trace_format.specs.Grammar.{Bytes, number}
use Rattle.trace_format.specs.Text.{buffer, access_of}
use Rattle.trace_format.specs.Spelling.{access_number, flag, description_bytes, buffer_bytes}
use Rattle.trace_format.specs.declared.given.Given.TheVariants.{Passed}
use Rattle.trace_format.specs.declared.trace.Buffer.{Buffer}
use Rattle.trace_format.proofs.Apart.{Own, apart, keeps_bytes, onward, at_place, at_test, test_passed, at_known, at_done, at_choice, within_limit, length-several}
use Rattle.trace_format.proofs.Spelled.{Once, IsWritten, front, last, behind, then, ends, once_bytes, length_bytes, u8, u16, u32, u64, once_number, once_number_to, once_several}
use Rattle.trace_records.specs.Fields.{number_in, number_of}
use Rattle.trace_records.specs.Front.{Front, no_records, after}
use Rattle.trace_records.specs.Start.{Counts, header, range, file, other_name, node, new_path, item, description, descriptor, start}
use Rattle.trace_records.specs.Records.{ring_there, is_form, lengths_len, stored, zeros, passed, refused, beside, entry, enter, filled, fill, slot_holder, other_holder, other, holder, full_slot, queue, own_queue, ring, slot_at, file_at, opened, content, set, seek, is_kind, body, next}
use Rattle.trace_records.specs.Spelling.{range_bytes, kind_of, node_bytes, item_bytes, descriptor_bytes, start_bytes, beside_bytes, entry_text, holder_bytes, full_slot_bytes, queue_number, ring_bytes, file_bytes, content_bytes, record_bytes, end_bytes, trace_bytes}
use Rattle.trace_records.specs.Whole.{Behind, Ends, SpellsTrace}
use Rattle.trace_records.specs.declared.start.Range.{Range}
use Rattle.trace_records.specs.declared.start.Node.{Node}
use Rattle.trace_records.specs.declared.start.Node.TheVariants.{File}
use Rattle.trace_records.specs.declared.start.Item.{Item}
use Rattle.trace_records.specs.declared.start.Descriptor.{Descriptor}
use Rattle.trace_records.specs.declared.start.Start.{Start}
use Rattle.trace_records.specs.declared.record.Beside.{Beside}
use Rattle.trace_records.specs.declared.record.Beside.TheVariants.{Stored, Given}
use Rattle.trace_records.specs.declared.record.Filling.TheVariants as filling
use Rattle.trace_records.specs.declared.record.Holder.{Holder}
use Rattle.trace_records.specs.declared.record.FileAt.{FileAt}
use Rattle.trace_records.specs.declared.record.FileAt.TheVariants as files
use Rattle.trace_records.specs.declared.record.Content.{Content}
use Rattle.trace_records.specs.declared.record.Content.TheVariants as contents
use Rattle.trace_records.specs.declared.record.FullSlot.{FullSlot}
use Rattle.trace_records.specs.declared.record.Record.{Record}
use Rattle.trace_records.specs.declared.record.Record.TheVariants.{Enter, Fill}
use Rattle.trace_records.specs.declared.trace.Trace.{Trace}

-- ---- numbers

once_number_in : {w : Width} {written : ℕ → List ℕ} → IsWritten w written → (low end : ℕ) → Once (number_in w low end) written
once_number_in {written = written} is low end n o =
    let p = apart keeps_bytes (at_place o) in
    let e = at_done (at_test p.after) in
    last (front (once_number is) p) e.0 ∙ ap written (sym e.1)

once_number_of : {w : Width} {written : ℕ → List ℕ} → IsWritten w written → (count : ℕ) → Once (number_of w count) written
once_number_of {written = written} is count n o =
    let p = apart keeps_bytes (at_place o) in
    let e = at_done (at_test p.after) in
    last (front (once_number is) p) e.0 ∙ ap written (sym e.1)

-- ---- the start

once_range : (size : ℕ) (earlier : List Range) → Once (range size earlier) range_bytes
unfolding range
once_range size earlier y o =
    behind [] (
    then (once_number_in u64 _ _) o (λ offset _ o.
    then (once_number u32) (at_place o) (λ len _ o.
    then (once_bytes len) (at_test o) (λ bytes own o.
    let counted : to_le_bytes w64 offset ++ to_le_bytes w32 len ++ bytes ≡ range_bytes (record { offset = offset; bytes = bytes }) = rw (length_bytes own) refl in
    ends range_bytes o counted))))

once_file : Once file node_bytes
unfolding file
once_file y o =
    behind [] (
    then (once_number_to u64 file_limit) o (λ size _ o.
    then (once_number u32) o (λ count _ o.
    then (once_several (once_range size) count) o (λ ranges own o.
    let counted : to_le_bytes w64 size ++ to_le_bytes w32 count ++ flat_map range_bytes ranges ≡ node_bytes (File size ranges) =
    rw (length-several _ _ _ keeps_bytes own) refl in
    ends node_bytes o counted))))

file_kind : (y : Node) → Own IsBytes file y → kind_of y ≡ 2
unfolding file
file_kind y o = onward keeps_bytes o (λ _ _ o. onward keeps_bytes o (λ _ _ o. onward keeps_bytes o (λ _ _ o. ap kind_of (at_done o).1)))

-- what a name leads to, and the kind in front of it
node_spelled : (kind : ℕ) (earlier : List Item) (y : Node) → 1 ≤ kind → kind ≤ 3
    → (o : Own IsBytes (node kind earlier) y) → (o.text ≡ node_bytes y) × (kind ≡ kind_of y)
unfolding other_name
node_spelled kind earlier y low high o =
    elim (at_choice o) [
      | inl a ↦ let e = at_done a.1 in subst (λ (n : Node). (o.text ≡ node_bytes n) × (kind ≡ kind_of n)) (sym e.1) (sym a.2 ∙ e.0, eqb-true _ _ a.0)
      | inr b ↦ elim (at_choice b.1) [
        | inl a ↦ (sym (a.2 ∙ b.2) ∙ once_file y a.1, eqb-true _ _ a.0 ∙ sym (file_kind y a.1))
        | inr c ↦
            let n = apart keeps_bytes (at_place c.1) in
            let e = at_done (at_test n.after) in
            let one : kind ≡ 1 → ⊥ = eqb-false _ _ b.0 in
            let two : kind ≡ 2 → ⊥ = eqb-false _ _ c.0 in
            let text = sym (c.2 ∙ b.2) ∙ last (front (once_number u32) n) e.0 in
            subst (λ (m : Node). (o.text ≡ node_bytes m) × (kind ≡ kind_of m)) (sym e.1) (text, omega arith)
      ]
    ]

path_text : List ℕ → List ℕ
path_text p = to_le_bytes w16 (length p) ++ p

once_path : (earlier : List Item) → Once (new_path earlier) path_text
unfolding new_path path_text
once_path earlier y o =
    behind [] (
    then (once_number u16) o (λ len _ o.
    then (once_bytes len) (at_place o) (λ path own o.
    let counted : to_le_bytes w16 len ++ path ≡ path_text path = rw (length_bytes own) refl in
    ends path_text (at_test (at_test (at_test o))) counted)))

item_counted : (kind : ℕ) (path : List ℕ) (made : Node) → kind ≡ kind_of made → (kind ∷ []) ++ path_text path ++ node_bytes made ≡ item_bytes (record { path = path; node = made })
unfolding path_text
item_counted kind path made e = rw e (append_assoc (kind_of made ∷ []) (to_le_bytes w16 (length path) ++ path) (node_bytes made) ∙ refl)

once_item : (earlier : List Item) → Once (item earlier) item_bytes
unfolding item
once_item earlier y o =
    behind [] (
    then (once_number u8) (at_place o) (λ kind _ tested.
    let range = and_parts _ _ (test_passed tested) in
    let node = λ (made : Node) (own : Own IsBytes (node kind earlier) made). node_spelled kind earlier made (leb-true _ _ range.0) (leb-true _ _ range.1) own in
    then (once_path earlier) (at_test tested) (λ path _ o.
    then (λ made own. (node made own).0) o (λ made own o.
    ends item_bytes o (item_counted kind path made (node made own).1)))))

access_back : (n : ℕ) → n ≤ 2 → access_number (access_of n) ≡ n
access_back n h = grind (arith, nat_tests)

flag_back : (n : ℕ) → n ≤ 1 → flag (eqb n 1) ≡ n
flag_back n h = grind (arith, nat_tests)

description_counted : (node access append position : ℕ) → access ≤ 2 → append ≤ 1
    → to_le_bytes w32 node ++ (access ∷ []) ++ (append ∷ []) ++ to_le_bytes w64 position
    ≡ description_bytes (record { node = node; access = access_of access; append = eqb append 1; position = position })
description_counted node access append position a b = rw (access_back access a, flag_back append b) refl

once_description : (items : List Item) → Once (description items) description_bytes
unfolding description
once_description items y o =
    behind [] (
    then (once_number u32) (at_place o) (λ node _ o.
    then (once_number_to u8 2) (at_place (at_test o)) (λ access access_own o.
    then (once_number_to u8 1) (at_test o) (λ append append_own o.
    then (once_number_to u64 (2 ^ 63 - 1)) o (λ position _ o.
    let a = within_limit keeps_bytes w8 2 access access_own in
    let b = within_limit keeps_bytes w8 1 append append_own in
    ends description_bytes o (description_counted node access append position a b))))))

once_descriptor : (table_size descriptions : ℕ) (earlier : List Descriptor) → Once (descriptor table_size descriptions earlier) descriptor_bytes
unfolding descriptor
once_descriptor table_size descriptions earlier y o =
    behind [] (
    then (once_number_in u32 _ _) o (λ number _ o.
    then (once_number_of u32 descriptions) o (λ description _ o.
    ends descriptor_bytes o refl)))

abbrev counts_bytes : Counts → List ℕ
counts_bytes c = codes "URINGTRC" ++ to_le_bytes w32 3 ++ to_le_bytes w32 c.items ++ to_le_bytes w32 c.descriptions ++ to_le_bytes w32 c.table_size ++ to_le_bytes w32 c.descriptors ++ to_le_bytes w32 0

header_counted : (magic : List ℕ) (version spare : ℕ) (c : Counts) → magic ≡ codes "URINGTRC" → version ≡ 3 → spare ≡ 0
    → magic ++ to_le_bytes w32 version ++ to_le_bytes w32 c.items ++ to_le_bytes w32 c.descriptions ++ to_le_bytes w32 c.table_size ++ to_le_bytes w32 c.descriptors ++ to_le_bytes w32 spare ≡ counts_bytes c
header_counted magic version spare c e f g = rw (e, f, g) refl

once_header : Once header counts_bytes
unfolding header
once_header y o =
    behind [] (
    then (once_bytes 8) o (λ magic _ tested.
    then (once_number u32) (at_place (at_test tested)) (λ version _ numbered.
    then (once_number_to u32 16777216) (at_test numbered) (λ items _ o.
    then (once_number_to u32 1048576) o (λ descriptions _ o.
    then (once_number_to u32 1048576) o (λ table_size _ o.
    then (once_number_to u32 table_size) o (λ descriptors _ o.
    then (once_number_to u32 0) o (λ spare own o.
    let e = (bytes_eq-Decides magic (codes "URINGTRC")).0 (test_passed tested) in
    let f = eqb-true _ _ (test_passed numbered) in
    let none = within_limit keeps_bytes w32 0 spare own in
    ends counts_bytes o (header_counted magic version spare (record { items = items; descriptions = descriptions; table_size = table_size; descriptors = descriptors }) e f (omega (arith, none)))))))))))

start_counted : (c : Counts) (s : Start) → length s.items ≡ c.items → length s.descriptions ≡ c.descriptions → s.table_size ≡ c.table_size → length s.descriptors ≡ c.descriptors
    → counts_bytes c ++ flat_map item_bytes s.items ++ flat_map description_bytes s.descriptions ++ flat_map descriptor_bytes s.descriptors ≡ start_bytes s
start_counted c s e f g h = rw (e, f, g, h) refl

once_start : Once start start_bytes
unfolding start
once_start y o =
    behind [] (
    then once_header o (λ counts _ o.
    then (once_several once_item counts.items) o (λ items items_own o.
    then (once_several (λ _. once_description items) counts.descriptions) o (λ descriptions descriptions_own o.
    then (once_several (once_descriptor counts.table_size counts.descriptions) counts.descriptors) o (λ descriptors descriptors_own o.
    let s : Start = record { items = items; descriptions = descriptions; table_size = counts.table_size; descriptors = descriptors } in
    ends start_bytes o (start_counted counts s
    (length-several _ _ _ keeps_bytes items_own)
    (length-several _ _ _ keeps_bytes descriptions_own)
    refl
    (length-several _ _ _ keeps_bytes descriptors_own)))))))

-- ---- rings

once_ring_there : (f : Front) → Once (ring_there f) (to_le_bytes w32)
once_ring_there f y o =
    behind [] (
    then (once_number u32) (at_place o) (λ n _ o.
    ends (to_le_bytes w32) (at_known o) refl))

once_slot_holder : (f : Front) (y : Holder) (o : Own IsBytes (slot_holder f) y) → 0 ∷ o.text ≡ holder_bytes y
unfolding slot_holder
once_slot_holder f y o =
    behind (0 ∷ []) (
    then (once_ring_there f) o (λ ring _ o.
    then (once_number_of u32 _) o (λ number _ o.
    ends holder_bytes o refl)))

two_words : ℕ → List ℕ
two_words n = to_le_bytes w32 0 ++ to_le_bytes w32 n

once_other_holder : (count : ℕ) → Once (other_holder count) two_words
unfolding other_holder two_words
once_other_holder count y o =
    let p = apart keeps_bytes o in
    let none : p.x ≡ 0 = omega (arith, within_limit keeps_bytes w32 0 p.x p.own) in
    (front (once_number_to u32 0) p).whole ∙ ap (λ (x : List ℕ). to_le_bytes w32 p.x ++ x) (once_number_of u32 count y p.after) ∙ ap (λ (z : ℕ). to_le_bytes w32 z ++ to_le_bytes w32 y) none

other_counted : (what n : ℕ) → what ≤ 2 → (what ≡ 0 → ⊥) → what ∷ two_words n ≡ holder_bytes (other what n)
unfolding two_words
other_counted zero n h some = absurd (some refl)
other_counted (suc zero) n h some = refl
other_counted (suc (suc zero)) n h some = refl
other_counted (suc (suc (suc what))) n h some = absurd (omega arith)

once_holder : (s : Start) (f : Front) → Once (holder s f) holder_bytes
unfolding holder
once_holder s f y o =
    let what = apart keeps_bytes o in
    let first = (front (once_number_to u8 2) what).whole in
    let most = within_limit keeps_bytes w8 2 what.x what.own in
    elim (at_choice what.after) [
      | inl a ↦ first ∙ rw (eqb-true _ _ a.0, ← a.2) (once_slot_holder f y a.1)
      | inr b ↦
          let some : what.x ≡ 0 → ⊥ = eqb-false _ _ b.0 in
          let n = apart keeps_bytes b.1 in
          let e = at_done n.after in
          first ∙ ap (λ (t : List ℕ). what.x ∷ t) (sym b.2 ∙ last (front (once_other_holder _) n) e.0) ∙ other_counted what.x n.x most some ∙ ap holder_bytes (sym e.1)
    ]

once_full_slot : (s : Start) (f : Front) (slots : ℕ) (earlier : List FullSlot) → Once (full_slot s f slots earlier) full_slot_bytes
unfolding full_slot
once_full_slot s f slots earlier y o =
    behind [] (
    then (once_number_in u32 _ _) o (λ number _ o.
    then (once_holder s f) o (λ holds _ o.
    ends full_slot_bytes o refl)))

queue_text : Option ℕ → List ℕ
queue_text q = to_le_bytes w32 (queue_number q)

queue_back : (n : ℕ) → queue_number (cond (n == own_queue) None (Some n)) ≡ n
queue_back n = grind (arith, nat_tests)

once_queue : (f : Front) → Once (queue f) queue_text
unfolding queue queue_text
once_queue f y o =
    behind [] (
    then (once_number u32) (at_place o) (λ n _ o.
    ends queue_text (at_test o) (ap (to_le_bytes w32) (sym (queue_back n)))))

once_buffer : (earlier : List Buffer) → Once (buffer earlier) buffer_bytes
unfolding buffer
once_buffer earlier y o =
    behind [] (
    then (once_number u64) (at_place o) (λ address _ o.
    then (once_number_to u32 (2 ^ 30)) (at_place o) (λ len _ o.
    ends buffer_bytes (at_test (at_test o)) refl)))

ring_counted : (q : Option ℕ) (slots : ℕ) (n : ℕ) (full : List FullSlot) (m : ℕ) (buffers : List Buffer) → length full ≡ n → length buffers ≡ m
    → queue_text q ++ to_le_bytes w32 slots ++ to_le_bytes w32 n ++ flat_map full_slot_bytes full ++ to_le_bytes w16 m ++ flat_map buffer_bytes buffers ≡ ring_bytes (record { queue = q; slots = slots; full = full; buffers = buffers })
unfolding queue_text
ring_counted q slots n full m buffers e f = rw (e, f) refl

once_ring : (s : Start) (f : Front) → Once (ring s f) ring_bytes
unfolding ring
once_ring s f y o =
    behind [] (
    then (once_queue f) o (λ q _ o.
    then (once_number_to u32 1048576) o (λ slots _ o.
    then (once_number_to u32 slots) o (λ n _ o.
    then (once_several (once_full_slot s f slots) n) o (λ full full_own o.
    then (once_number_to u16 16384) o (λ m _ o.
    then (once_several once_buffer m) o (λ buffers buffers_own o.
    ends ring_bytes o (ring_counted q slots n full m buffers (length-several _ _ _ keeps_bytes full_own) (length-several _ _ _ keeps_bytes buffers_own)))))))))

-- ---- entries and fills

once_stored : (begin : ℕ) (e : Sqe) (y : Beside) (o : Own IsBytes (stored begin e) y) → 0 ∷ o.text ≡ beside_bytes y
unfolding stored
once_stored begin e y o =
    behind (0 ∷ []) (
    then (once_number u32) (at_place o) (λ len _ o.
    then (once_bytes len) (at_test (at_place o)) (λ bytes own o.
    let counted : 0 ∷ to_le_bytes w32 len ++ bytes ≡ beside_bytes (Stored bytes) = rw (length_bytes own) refl in
    ends beside_bytes (at_test o) counted)))

once_zeros : (e : Sqe) (y : Beside) (o : Own IsBytes (zeros e) y) → 1 ∷ o.text ≡ beside_bytes y
unfolding zeros
once_zeros e y o =
    behind (1 ∷ []) (
    then (once_number u32) (at_place o) (λ len _ o.
    then (once_bytes (lengths_len e len)) o (λ lengths own o.
    ends beside_bytes (at_test o) refl)))

word_below : (n : ℕ) → Own IsBytes (number w32) n → n < 2 ^ 32
word_below n o =
    let p = apart keeps_bytes o in
    let fits : IsBytes p.x = subst IsBytes (sym p.own.is.1) p.own.has in
    omega (arith, (at_done p.after).1, fits 0, fits 1, fits 2, fits 3)

passed_counted : (result fails : ℕ) → result < 2 ^ 32 → fails ≤ 1
    → 2 ∷ to_le_bytes w32 result ++ fails ∷ [] ≡ beside_bytes (Given (Passed (cast_signed w32 result) (eqb fails 1)))
passed_counted result fails word one = rw (of_z-to_z w32 result word, flag_back fails one) refl

once_passed : (y : Beside) (o : Own IsBytes passed y) → 2 ∷ o.text ≡ beside_bytes y
unfolding passed
once_passed y o =
    behind (2 ∷ []) (
    then (once_number u32) o (λ result own o.
    then (once_number_to u8 1) o (λ fails fails_own o.
    ends beside_bytes o (passed_counted result fails (word_below result own) (within_limit keeps_bytes w8 1 fails fails_own)))))

once_refused : (y : Beside) (o : Own IsBytes refused y) → 3 ∷ o.text ≡ beside_bytes y
unfolding refused
once_refused y o =
    behind (3 ∷ []) (
    then (once_number u32) (at_place o) (λ result own o.
    let back : 2 ^ 32 - (2 ^ 32 - result) ≡ result = omega (arith, word_below result own) in
    ends beside_bytes (at_test o) (ap (λ (n : ℕ). 3 ∷ to_le_bytes w32 n) (sym back))))

last_form : (e : Sqe) (form : ℕ) → is_form e form ≡ true → (form ≡ 0 → ⊥) → (form ≡ 1 → ⊥) → (form ≡ 2 → ⊥) → form ≡ 3
last_form e form h no_zero no_one no_two = grind (arith, nat_tests)

beside_spelled : (form begin : ℕ) (e : Sqe) (y : Beside) → is_form e form ≡ true
    → (o : Own IsBytes (beside begin e form) y) → form ∷ o.text ≡ beside_bytes y
beside_spelled form begin e y h o =
    elim (at_choice o) [
      | inl a ↦ rw (eqb-true _ _ a.0, ← a.2) (once_stored begin e y a.1)
      | inr b ↦ elim (at_choice b.1) [
        | inl a ↦ rw (eqb-true _ _ a.0, ← b.2, ← a.2) (once_zeros e y a.1)
        | inr c ↦ elim (at_choice c.1) [
          | inl a ↦ rw (eqb-true _ _ a.0, ← b.2, ← c.2, ← a.2) (once_passed y a.1)
          | inr d ↦
              rw (last_form e form h (eqb-false _ _ b.0) (eqb-false _ _ c.0) (eqb-false _ _ d.0), ← b.2, ← c.2, ← d.2) (once_refused y d.1)
        ]
      ]
    ]

entry_counted : (bytes : List ℕ) (y : Beside) → Own IsBytes (Bytes 64) bytes → bytes ++ beside_bytes y ≡ entry_text (record { sqe = entry_of bytes; beside = y })
unfolding entry_text
entry_counted bytes y own =
    let fits : IsBytes bytes = subst IsBytes (sym own.is.1) own.has in
    let back : entry_bytes (entry_of bytes) ≡ bytes = bytes_back bytes fits (length_bytes own) in
    ap (λ (b : List ℕ). b ++ beside_bytes y) (sym back)

once_entry : (begin : ℕ) → Once (entry begin) entry_text
unfolding entry
once_entry begin y o =
    let bytes = apart keeps_bytes o in
    let form = apart keeps_bytes (at_place bytes.after) in
    let beside = apart keeps_bytes (at_test form.after) in
    let e = at_done beside.after in
    let whole : form.x ∷ beside.own.text ≡ beside_bytes beside.x = beside_spelled form.x begin (entry_of bytes.x) beside.x (test_passed form.after) beside.own in
    let rest : beside.own.text ++ beside.after.text ≡ beside.own.text = ap (λ (t : List ℕ). beside.own.text ++ t) e.0 ∙ append-nil beside.own.text in
    (front (once_bytes 64) bytes).whole
    ∙ ap (λ (t : List ℕ). bytes.x ++ t) ((front (once_number u8) form).whole ∙ ap (λ (t : List ℕ). form.x ∷ t) (beside.whole ∙ rest) ∙ whole)
    ∙ entry_counted bytes.x beside.x bytes.own ∙ ap entry_text (sym e.1)

once_enter : (f : Front) (begin : ℕ) (y : Record) (o : Own IsBytes (enter f begin) y) → 1 ∷ o.text ≡ record_bytes y
unfolding enter
once_enter f begin y o =
    behind (1 ∷ []) (
    then (once_ring_there f) o (λ ring _ o.
    then (once_number_to u16 32768) (at_place o) (λ count _ o.
    then (once_several (λ _. once_entry begin) count) (at_test o) (λ entries own o.
    let counted : 1 ∷ to_le_bytes w32 ring ++ to_le_bytes w16 count ++ flat_map entry_text entries ≡ record_bytes (Enter ring entries) =
    rw (length-several _ _ _ keeps_bytes own) refl in
    ends record_bytes o counted))))

filling_counted : (ring buffer form offset len : ℕ) (bytes : List ℕ) → form ≤ 1 → length bytes ≡ cond (form == 0) len 0
    → (2 ∷ to_le_bytes w32 ring ++ to_le_bytes w16 buffer) ++ (form ∷ to_le_bytes w32 offset ++ to_le_bytes w32 len ++ bytes)
    ≡ record_bytes (Fill ring buffer offset (cond (form == 0) (filling.Stored bytes) (filling.Zeros len)))
filling_counted ring buffer zero offset len bytes h e = rw e refl
filling_counted ring buffer (suc zero) offset len bytes h e = rw (nil_from_length bytes e) refl
filling_counted ring buffer (suc (suc form)) offset len bytes h e = absurd (omega arith)

once_filled : (ring buffer buffer_len : ℕ) (y : Record) (o : Own IsBytes (filled ring buffer buffer_len) y) → (2 ∷ to_le_bytes w32 ring ++ to_le_bytes w16 buffer) ++ o.text ≡ record_bytes y
unfolding filled
once_filled ring buffer buffer_len y o =
    behind (2 ∷ to_le_bytes w32 ring ++ to_le_bytes w16 buffer) (
    then (once_number_to u8 1) o (λ form form_own o.
    then (once_number u32) (at_place o) (λ offset _ o.
    then (once_number u32) o (λ len _ o.
    then (once_bytes _) (at_test o) (λ bytes own o.
    ends record_bytes o (filling_counted ring buffer form offset len bytes (within_limit keeps_bytes w8 1 form form_own) (length_bytes own)))))))

once_fill : (f : Front) (y : Record) (o : Own IsBytes (fill f) y) → 2 ∷ o.text ≡ record_bytes y
unfolding fill
once_fill f y o =
    let ring = apart keeps_bytes o in
    let buffer = apart keeps_bytes (at_place ring.after) in
    let text = (front (once_ring_there f) ring).whole ∙ ap (λ (t : List ℕ). to_le_bytes w32 ring.x ++ t) (front (once_number u16) buffer).whole in
    ap (λ (t : List ℕ). 2 ∷ t) text ∙ once_filled ring.x buffer.x _ y (at_known buffer.after)

-- ---- sets and seeks

once_slot_at : (f : Front) (y : FileAt) (o : Own IsBytes (slot_at f) y) → 0 ∷ o.text ≡ file_bytes y
unfolding slot_at
once_slot_at f y o =
    behind (0 ∷ []) (
    then (once_ring_there f) o (λ ring _ o.
    then (once_number_of u32 _) o (λ number _ o.
    ends file_bytes o refl)))

descriptor_counted : (what n : ℕ) → what ≤ 1 → (what ≡ 0 → ⊥) → what ∷ two_words n ≡ file_bytes (files.Descriptor n)
unfolding two_words
descriptor_counted zero n h some = absurd (some refl)
descriptor_counted (suc zero) n h some = refl
descriptor_counted (suc (suc what)) n h some = absurd (omega arith)

once_file_at : (s : Start) (f : Front) → Once (file_at s f) file_bytes
unfolding file_at
once_file_at s f y o =
    let what = apart keeps_bytes o in
    let first = (front (once_number_to u8 1) what).whole in
    let most = within_limit keeps_bytes w8 1 what.x what.own in
    elim (at_choice what.after) [
      | inl a ↦ first ∙ rw (eqb-true _ _ a.0, ← a.2) (once_slot_at f y a.1)
      | inr b ↦
          let n = apart keeps_bytes b.1 in
          let e = at_done n.after in
          first ∙ ap (λ (t : List ℕ). what.x ∷ t) (sym b.2 ∙ last (front (once_other_holder _) n) e.0) ∙ descriptor_counted what.x n.x most (eqb-false _ _ b.0) ∙ ap file_bytes (sym e.1)
    ]

once_opened : (y : Content) (o : Own IsBytes opened y) → 1 ∷ o.text ≡ content_bytes y
unfolding opened
once_opened y o =
    behind (1 ∷ []) (
    then (once_number u32) (at_place o) (λ flags _ o.
    then (once_number_to u64 (2 ^ 63 - 1)) (at_test o) (λ position _ o.
    then (once_number u16) o (λ len _ o.
    then (once_bytes len) (at_place o) (λ path own o.
    let counted : 1 ∷ to_le_bytes w32 flags ++ to_le_bytes w64 position ++ to_le_bytes w16 len ++ path ≡ content_bytes (contents.Path flags position path) =
    rw (length_bytes own) refl in
    ends content_bytes (at_test o) counted)))))

last_content : (what : ℕ) → what ≤ 3 → (what ≡ 0 → ⊥) → (what ≡ 1 → ⊥) → (what ≡ 2 → ⊥) → what ≡ 3
last_content what h no_zero no_one no_two = omega arith

once_content : (s : Start) (f : Front) → Once (content s f) content_bytes
unfolding content
once_content s f y o =
    let what = apart keeps_bytes o in
    let first = (front (once_number_to u8 3) what).whole in
    let most = within_limit keeps_bytes w8 3 what.x what.own in
    elim (at_choice what.after) [
      | inl a ↦
          let e = at_done a.1 in
          first ∙ ap (λ (t : List ℕ). what.x ∷ t) (sym a.2 ∙ e.0) ∙ ap (λ (n : ℕ). n ∷ []) (eqb-true _ _ a.0) ∙ ap content_bytes (sym e.1)
      | inr b ↦ elim (at_choice b.1) [
        | inl a ↦ first ∙ rw (eqb-true _ _ a.0, ← b.2, ← a.2) (once_opened y a.1)
        | inr c ↦ elim (at_choice c.1) [
          | inl a ↦
              let of = apart keeps_bytes a.1 in
              let e = at_done of.after in
              first ∙ rw (eqb-true _ _ a.0, ← b.2, ← c.2, ← a.2) (ap (λ (t : List ℕ). 2 ∷ t) (last (front (once_file_at s f) of) e.0) ∙ ap content_bytes (sym e.1))
          | inr d ↦
              let e = at_done d.1 in
              let three : what.x ≡ 3 = last_content what.x most (eqb-false _ _ b.0) (eqb-false _ _ c.0) (eqb-false _ _ d.0) in
              first ∙ ap (λ (t : List ℕ). what.x ∷ t) (sym (d.2 ∙ c.2 ∙ b.2) ∙ e.0) ∙ ap (λ (n : ℕ). n ∷ []) three ∙ ap content_bytes (sym e.1)
        ]
      ]
    ]

once_set : (s : Start) (f : Front) (y : Record) (o : Own IsBytes (set s f) y) → 3 ∷ o.text ≡ record_bytes y
unfolding set
once_set s f y o =
    behind (3 ∷ []) (
    then (once_file_at s f) o (λ file _ o.
    then (once_content s f) o (λ content _ o.
    ends record_bytes o refl)))

once_seek : (s : Start) (f : Front) (y : Record) (o : Own IsBytes (seek s f) y) → 4 ∷ o.text ≡ record_bytes y
unfolding seek
once_seek s f y o =
    behind (4 ∷ []) (
    then (once_file_at s f) o (λ file _ o.
    then (once_number_to u64 (2 ^ 63 - 1)) o (λ position _ o.
    ends record_bytes o refl)))

-- ---- records

once_body : (s : Start) (f : Front) (begin kind : ℕ) (y : Record) → is_kind kind ≡ true → (kind ≡ 7 → ⊥)
    → (o : Own IsBytes (body s f begin kind) y) → kind ∷ o.text ≡ record_bytes y
once_body s f begin kind y served going o =
    elim (at_choice o) [
      | inl a ↦ rw (eqb-true _ _ a.0, ← a.2) (once_enter f begin y a.1)
      | inr b ↦ elim (at_choice b.1) [
        | inl a ↦ rw (eqb-true _ _ a.0, ← b.2, ← a.2) (once_fill f y a.1)
        | inr c ↦ elim (at_choice c.1) [
          | inl a ↦ rw (eqb-true _ _ a.0, ← b.2, ← c.2, ← a.2) (once_set s f y a.1)
          | inr d ↦ elim (at_choice d.1) [
            | inl a ↦ rw (eqb-true _ _ a.0, ← b.2, ← c.2, ← d.2, ← a.2) (once_seek s f y a.1)
            | inr g ↦ elim (at_choice g.1) [
              | inl a ↦
                  let r = apart keeps_bytes a.1 in
                  let e = at_done r.after in
                  rw (eqb-true _ _ a.0, ← b.2, ← c.2, ← d.2, ← g.2, ← a.2) (ap (λ (t : List ℕ). 5 ∷ t) (last (front (once_ring s f) r) e.0) ∙ ap record_bytes (sym e.1))
              | inr h ↦
                  let n = apart keeps_bytes h.1 in
                  let e = at_done n.after in
                  let six : kind ≡ 6 = last_kind kind served (eqb-false _ _ b.0) (eqb-false _ _ c.0) (eqb-false _ _ d.0) (eqb-false _ _ g.0) (eqb-false _ _ h.0) going in
                  rw (six, ← b.2, ← c.2, ← d.2, ← g.2, ← h.2) (ap (λ (t : List ℕ). 6 ∷ t) (last (front (once_ring_there f) n) e.0) ∙ ap record_bytes (sym e.1))
            ]
          ]
        ]
      ]
    ]
  where
    last_kind : (kind : ℕ) → is_kind kind ≡ true → (kind ≡ 1 → ⊥) → (kind ≡ 2 → ⊥) → (kind ≡ 3 → ⊥) → (kind ≡ 4 → ⊥) → (kind ≡ 5 → ⊥) → (kind ≡ 7 → ⊥) → kind ≡ 6
    last_kind kind served a b c d e f = grind (arith, nat_tests)

-- a record, or the end
next_text : Option Record → List ℕ
next_text None = end_bytes
next_text (Some r) = record_bytes r

once_next : (s : Start) (f : Front) → Once (next s f) next_text
unfolding next next_text
once_next s f y o =
    let kind = apart keeps_bytes (at_place o) in
    let first = (front (once_number u8) kind).whole in
    elim (at_choice (at_test (at_test kind.after))) [
      | inl a ↦
          let e = at_done a.1 in
          first ∙ ap (λ (t : List ℕ). kind.x ∷ t) (sym a.2 ∙ e.0) ∙ ap (λ (k : ℕ). k ∷ []) (eqb-true _ _ a.0) ∙ ap next_text (sym e.1)
      | inr b ↦
          let r = apart keeps_bytes b.1 in
          let e = at_done r.after in
          let rest : r.own.text ++ r.after.text ≡ r.own.text = ap (λ (t : List ℕ). r.own.text ++ t) e.0 ∙ append-nil r.own.text in
          first ∙ ap (λ (t : List ℕ). kind.x ∷ t) (sym b.2 ∙ r.whole ∙ rest)
          ∙ once_body s f _ kind.x r.x (test_passed kind.after) (eqb-false _ _ b.0) r.own ∙ ap next_text (sym e.1)
    ]

-- ---- the whole

behind_spelled : (s : Start) (f : Front) (place : ℕ) (text : List ℕ) (rs : List Record) → IsBytes text → Behind (Ends s) s f place text rs → text ≡ flat_map record_bytes rs ++ end_bytes
unfolding next_text
behind_spelled s f place text [] fits b = once_next s f None (record { place = place; text = text; has = fits; is = b })
behind_spelled s f place text (r ∷ rs) fits b =
    let both : IsBytes (b.0 ++ b.1) = subst IsBytes b.2 fits in
    let one = once_next s f (Some r) (record { place = place; text = b.0; has = keeps_bytes.front b.0 b.1 both; is = b.3 }) in
    let more = behind_spelled s (after f r) (place + length b.0) b.1 rs (keeps_bytes.rest b.0 b.1 both) b.4 in
    b.2 ∙ ap (λ (t : List ℕ). t ++ b.1) one ∙ ap (λ (t : List ℕ). record_bytes r ++ t) more
    ∙ sym (append_assoc (record_bytes r) (flat_map record_bytes rs) end_bytes) ∙ ap (λ (t : List ℕ). t ++ end_bytes) (sym (flat_map-cons record_bytes r rs))

pub one_spelling : (bytes : List ℕ) (t : Trace) → IsBytes bytes → SpellsTrace bytes t → bytes ≡ trace_bytes t
one_spelling bytes t fits s =
    let both : IsBytes (s.0 ++ s.1) = subst IsBytes s.2 fits in
    let head = once_start t.start (record { place = 0; text = s.0; has = keeps_bytes.front s.0 s.1 both; is = s.3 }) in
    let rest = behind_spelled t.start no_records (length s.0) s.1 t.records (keeps_bytes.rest s.0 s.1 both) s.4 in
    s.2 ∙ ap (λ (x : List ℕ). x ++ s.1) head ∙ ap (λ (x : List ℕ). start_bytes t.start ++ x) rest ∙ sym (append_assoc (start_bytes t.start) (flat_map record_bytes t.records) end_bytes)
