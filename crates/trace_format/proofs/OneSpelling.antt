-- Each part of a trace is spelled in one way.
use Rattle.std.proofs.Common.{◌≡◌, ℕ, min, ◌-◌, eqb, ◌≤◌, ◌^◌, List, [], ◌∷◌, ◌++◌, length, Some, None, append_assoc, refl, sym, ap, subst, ◌∙◌, arith, inl, inr}
use Rattle.std.specs.Prelude.{codes}
use Rattle.std.specs.List.{flat_map}
use Rattle.std.specs.Int.{w8, w16, w32, w64, to_le_bytes}
use Rattle.std.proofs.lemmas.Bool.{eqb-true, eqb-false, leb-true, and_parts}
use Rattle.std.proofs.lemmas.Bool.Decides.{nat_tests}
use Rattle.std.proofs.lemmas.Slice.Eq.{bytes_eq-Decides}
use Rattle.sqe_codec.specs.Fields.{IsBytes, entry_bytes, entry_of}
use Rattle.sqe_codec.proofs.Parts.{bytes_back}
use Rattle.trace_format.specs.declared.trace.Buffer.{Buffer}
use Rattle.trace_format.specs.declared.trace.Ring.{Ring}
use Rattle.trace_format.specs.declared.trace.Item.{Item}
use Rattle.trace_format.specs.declared.trace.Node.{Node}
use Rattle.trace_format.specs.declared.trace.Node.TheVariants.{File}
use Rattle.trace_format.specs.Counts.{places_in}
use Rattle.trace_format.specs.Text.{slot, buffer, ring, entry, file, other_name, node, new_path, item, description, access_of, enter, fill, one_record, header, Counts, trace, SpellsTrace}
use Rattle.trace_format.specs.declared.trace.Record.TheVariants.{Enter, Fill}
use Rattle.trace_format.specs.declared.trace.Record.{Record}
use Rattle.trace_format.specs.declared.trace.Trace.{Trace}
use Rattle.trace_format.specs.declared.version.Version.{Version as TraceVersion}
use Rattle.trace_format.specs.Versions.{rules, version_of}
use Rattle.trace_format.specs.Grammar.{Bytes}
use Rattle.trace_format.specs.Sources.{sizes}
use Rattle.trace_format.specs.Spelling.{slot_bytes, buffer_bytes, ring_bytes, entry_text, kind_of, node_bytes, item_bytes, access_number, flag, description_bytes, record_bytes, header_bytes, trace_bytes}
use Rattle.trace_format.proofs.Apart.{Own, apart, keeps_bytes, onward, at_place, at_test, test_passed, at_known, at_done, at_choice, within_limit, length-several}
use Rattle.trace_format.proofs.Spelled.{Once, front, last, behind, then, ends, once_bytes, length_bytes, u8, u16, u32, u64, once_number, once_number_to, once_several}

once_slot : (descriptions : ℕ) → Once (slot descriptions) slot_bytes
unfolding slot
once_slot descriptions y o = behind [] (then (once_number u32) (at_place o) (λ n _ o. ends slot_bytes (at_test o) refl))

once_buffer : (earlier : List Buffer) → Once (buffer earlier) buffer_bytes
unfolding buffer
once_buffer earlier y o =
    behind [] (
    then (once_number u64) (at_place o) (λ address _ o.
    then (once_number_to u32 (2 ^ 30)) (at_place o) (λ len _ o.
    ends buffer_bytes (at_test (at_test o)) refl)))

once_ring : (descriptions : ℕ) → Once (ring descriptions) ring_bytes
unfolding ring
once_ring descriptions y o =
    behind [] (
    then (once_number_to u16 1024) o (λ n _ o.
    then (once_several (λ _. once_slot descriptions) n) o (λ slots slots_own o.
    then (once_number_to u16 1024) o (λ m _ o.
    then (once_several once_buffer m) o (λ buffers buffers_own o.
    let counted : (to_le_bytes w16 n ++ flat_map slot_bytes slots ++ to_le_bytes w16 m) ++ flat_map buffer_bytes buffers ≡ ring_bytes (record { slots = slots; buffers = buffers }) =
    rw (length-several _ _ _ keeps_bytes slots_own, length-several _ _ _ keeps_bytes buffers_own) refl in
    ends ring_bytes o counted)))))

entry_counted : (bytes side : List ℕ) (len : ℕ) → Own IsBytes (Bytes 64) bytes → Own IsBytes (Bytes len) side
    → bytes ++ to_le_bytes w32 len ++ side ≡ entry_text (record { sqe = entry_of bytes; side = side; given = None })
unfolding entry_text
entry_counted bytes side len own side_own =
    let fits : IsBytes bytes = subst IsBytes (sym own.is.1) own.has in
    let back : entry_bytes (entry_of bytes) ≡ bytes = bytes_back bytes fits (length_bytes own) in
    ap (λ (b : List ℕ). b ++ to_le_bytes w32 len ++ side) (sym back)
    ∙ ap (λ (n : ℕ). entry_bytes (entry_of bytes) ++ to_le_bytes w32 n ++ side) (sym (length_bytes side_own))

once_entry : Once entry entry_text
unfolding entry
once_entry y o =
    behind [] (
    then (once_bytes 64) o (λ bytes own o.
    then (once_number u32) (at_place o) (λ len _ o.
    then (once_bytes len) o (λ side side_own o.
    ends entry_text (at_test o) (entry_counted bytes side len own side_own)))))

once_file : Once file node_bytes
unfolding file
once_file y o =
    behind [] (
    then (once_number_to u64 (2 ^ 40)) o (λ size _ o.
    then (once_number_to u32 (min size (2 ^ 32 - 1))) o (λ stored _ o.
    then (once_bytes stored) o (λ bytes own o.
    let counted : to_le_bytes w64 size ++ to_le_bytes w32 stored ++ bytes ≡ node_bytes (File size bytes) = rw (length_bytes own) refl in
    ends node_bytes o counted))))

file_kind : (y : Node) → Own IsBytes file y → kind_of y ≡ 2
unfolding file
file_kind y o = onward keeps_bytes o (λ _ _ o. onward keeps_bytes o (λ _ _ o. onward keeps_bytes o (λ _ _ o. ap kind_of (at_done o).1)))

-- what a name leads to, and the kind in front of it
node_spelled : (kind : ℕ) (earlier : List Item) (y : Node) → 1 ≤ kind → kind ≤ 3
    → (o : Own IsBytes (node kind earlier) y) → (o.text ≡ node_bytes y) × (kind ≡ kind_of y)
unfolding other_name
node_spelled kind earlier y low high o =
    elim (at_choice o) [
      | inl a ↦ let e = at_done a.1 in subst (λ (n : Node). (o.text ≡ node_bytes n) × (kind ≡ kind_of n)) (sym e.1) (sym a.2 ∙ e.0, eqb-true _ _ a.0)
      | inr b ↦ elim (at_choice b.1) [
        | inl a ↦ (sym (a.2 ∙ b.2) ∙ once_file y a.1, eqb-true _ _ a.0 ∙ sym (file_kind y a.1))
        | inr c ↦
            let n = apart keeps_bytes (at_place c.1) in
            let e = at_done (at_test n.after) in
            let one : kind ≡ 1 → ⊥ = eqb-false _ _ b.0 in
            let two : kind ≡ 2 → ⊥ = eqb-false _ _ c.0 in
            let text = sym (c.2 ∙ b.2) ∙ last (front (once_number u32) n) e.0 in
            subst (λ (m : Node). (o.text ≡ node_bytes m) × (kind ≡ kind_of m)) (sym e.1) (text, omega arith)
      ]
    ]

path_text : List ℕ → List ℕ
path_text p = to_le_bytes w16 (length p) ++ p

once_path : (earlier : List Item) → Once (new_path earlier) path_text
unfolding new_path path_text
once_path earlier y o =
    behind [] (
    then (once_number u16) o (λ len _ o.
    then (once_bytes len) (at_place o) (λ path own o.
    let counted : to_le_bytes w16 len ++ path ≡ path_text path = rw (length_bytes own) refl in
    ends path_text (at_test (at_test (at_test o))) counted)))

item_counted : (kind : ℕ) (path : List ℕ) (made : Node) → kind ≡ kind_of made → (kind ∷ []) ++ path_text path ++ node_bytes made ≡ item_bytes (record { path = path; node = made })
unfolding path_text
item_counted kind path made e = rw e (append_assoc (kind_of made ∷ []) (to_le_bytes w16 (length path) ++ path) (node_bytes made) ∙ refl)

once_item : (earlier : List Item) → Once (item earlier) item_bytes
unfolding item
once_item earlier y o =
    behind [] (
    then (once_number u8) (at_place o) (λ kind _ tested.
    let range = and_parts _ _ (test_passed tested) in
    let node = λ (made : Node) (own : Own IsBytes (node kind earlier) made). node_spelled kind earlier made (leb-true _ _ range.0) (leb-true _ _ range.1) own in
    then (once_path earlier) (at_test tested) (λ path _ o.
    then (λ made own. (node made own).0) o (λ made own o.
    ends item_bytes o (item_counted kind path made (node made own).1)))))

access_back : (n : ℕ) → n ≤ 2 → access_number (access_of n) ≡ n
access_back n h = grind (arith, nat_tests)

flag_back : (n : ℕ) → n ≤ 1 → flag (eqb n 1) ≡ n
flag_back n h = grind (arith, nat_tests)

description_counted : (node access append position : ℕ) → access ≤ 2 → append ≤ 1
    → to_le_bytes w32 node ++ (access ∷ []) ++ (append ∷ []) ++ to_le_bytes w64 position
    ≡ description_bytes (record { node = node; access = access_of access; append = eqb append 1; position = position })
description_counted node access append position a b = rw (access_back access a, flag_back append b) refl

once_description : (items : List Item) → Once (description items) description_bytes
unfolding description
once_description items y o =
    behind [] (
    then (once_number u32) (at_place o) (λ node _ o.
    then (once_number_to u8 2) (at_place (at_test o)) (λ access access_own o.
    then (once_number_to u8 1) (at_test o) (λ append append_own o.
    then (once_number_to u64 (2 ^ 63 - 1)) o (λ position _ o.
    let a = within_limit keeps_bytes w8 2 access access_own in
    let b = within_limit keeps_bytes w8 1 append append_own in
    ends description_bytes o (description_counted node access append position a b))))))

once_enter : (rings used : ℕ) (y : Record) (o : Own IsBytes (enter rings used) y) → 1 ∷ o.text ≡ record_bytes y
unfolding enter
once_enter rings used y o =
    behind (1 ∷ []) (
    then (once_number u8) (at_place o) (λ ring _ o.
    then (once_number_to u16 32768) (at_place (at_test o)) (λ count _ o.
    then (once_several (λ _. once_entry) count) (at_test o) (λ entries own o.
    let counted : 1 ∷ (ring ∷ []) ++ to_le_bytes w16 count ++ flat_map entry_text entries ≡ record_bytes (Enter ring entries) =
    rw (length-several _ _ _ keeps_bytes own) refl in
    ends record_bytes o counted))))

once_fill : (rings : List Ring) (y : Record) (o : Own IsBytes (fill rings) y) → 2 ∷ o.text ≡ record_bytes y
unfolding fill
once_fill rings y o =
    behind (2 ∷ []) (
    then (once_number u8) (at_place o) (λ ring _ o.
    then (once_number u16) (at_place (at_test o)) (λ buffer _ o.
    then (once_number u32) (at_place (at_test o)) (λ offset _ o.
    then (once_number u32) o (λ len _ o.
    then (once_bytes len) (at_test o) (λ bytes own o.
    let counted : 2 ∷ (ring ∷ []) ++ to_le_bytes w16 buffer ++ to_le_bytes w32 offset ++ to_le_bytes w32 len ++ bytes ≡ record_bytes (Fill ring buffer offset bytes) =
    rw (length_bytes own) refl in
    ends record_bytes o counted))))))

once_record : (rings : List Ring) (used : ℕ) → Once (one_record rings used) record_bytes
unfolding one_record
once_record rings used y o =
    let kind = apart keeps_bytes (at_place o) in
    let first = (front (once_number u8) kind).whole in
    let range = and_parts _ _ (test_passed kind.after) in
    elim (at_choice (at_test (at_test kind.after))) [
      | inl a ↦ first ∙ rw (eqb-true _ _ a.0, ← a.2) (once_enter (length rings) used y a.1)
      | inr b ↦
          let other : kind.x ≡ 1 → ⊥ = eqb-false _ _ b.0 in
          let low : 1 ≤ kind.x = leb-true 1 kind.x range.0 in
          let high : kind.x ≤ 2 = leb-true kind.x 2 range.1 in
          let two : kind.x ≡ 2 = omega arith in
          first ∙ rw (two, ← b.2) (once_fill rings y b.1)
    ]

abbrev five_counts : Counts → List ℕ
five_counts c = to_le_bytes w32 c.items ++ to_le_bytes w32 c.descriptions ++ to_le_bytes w32 c.rings ++ to_le_bytes w32 c.records ++ to_le_bytes w32 c.descriptors

abbrev counts_bytes : Counts → List ℕ
counts_bytes c = (codes "URINGTRC" ++ to_le_bytes w32 (rules c.version).number) ++ five_counts c

-- the counts after a version, and their text
once_sizes : (version : TraceVersion) → Once (sizes version) five_counts
once_sizes version y o =
    behind [] (
    then (once_number_to u32 65535) o (λ items _ o.
    then (once_number_to u32 65535) o (λ descriptions _ o.
    then (once_number_to u32 64) o (λ rings _ o.
    then (once_number_to u32 1048576) o (λ records _ o.
    then (once_number_to u32 (rules version).most_descriptors) o (λ descriptors _ o.
    ends five_counts o refl))))))

-- are of that version
sizes_version : (version : TraceVersion) (y : Counts) → Own IsBytes (sizes version) y → y.version ≡ version
sizes_version version y o = onward keeps_bytes o (λ _ _ o. onward keeps_bytes o (λ _ _ o. onward keeps_bytes o (λ _ _ o. onward keeps_bytes o (λ _ _ o. onward keeps_bytes o (λ _ _ o. ap (λ (c : Counts). c.version) (at_done o).1)))))

some_version : (v w : TraceVersion) → Some v ≡ Some w → v ≡ w
some_version v w h = cc

-- a number that names a version is that version's number
version_back : (n : ℕ) (v : TraceVersion) → version_of n ≡ Some v → n ≡ (rules v).number
version_back n v h = grind (arith, nat_tests)

header_counted : (magic : List ℕ) (n : ℕ) (c : Counts) → magic ≡ codes "URINGTRC" → n ≡ (rules c.version).number → (magic ++ to_le_bytes w32 n) ++ five_counts c ≡ counts_bytes c
header_counted magic n c e f = rw (e, f) refl

once_header : Once header counts_bytes
unfolding header
once_header y o =
    behind [] (
    then (once_bytes 8) o (λ magic _ tested.
    then (once_number u32) (at_place (at_test tested)) (λ number _ known.
    let version = known.is.2 in
    let counts = at_known known in
    let e = (bytes_eq-Decides magic (codes "URINGTRC")).0 (test_passed tested) in
    let n = version_back number version known.is.4.1 ∙ ap (λ (v : TraceVersion). (rules v).number) (sym (sizes_version version y counts)) in
    record { is = ap (λ (x : List ℕ). (magic ++ to_le_bytes w32 number) ++ x) (once_sizes version y counts) ∙ header_counted magic number y e n })))

counted_trace : (c : Counts) (t : Trace) → t.version ≡ c.version → length t.items ≡ c.items → length t.descriptions ≡ c.descriptions → length t.rings ≡ c.rings → length t.records ≡ c.records → length t.descriptors ≡ c.descriptors → counts_bytes c ≡ header_bytes t
counted_trace c t v e f g h d = rw (v, e, f, g, h, d) refl

once_trace : Once trace trace_bytes
unfolding trace
once_trace y o =
    behind [] (
    then once_header o (λ counts _ o.
    then (once_several once_item counts.items) o (λ items items_own o.
    then (once_several (λ _. once_description items) counts.descriptions) o (λ descriptions descriptions_own o.
    then (once_several (λ _. once_slot counts.descriptions) counts.descriptors) o (λ descriptors descriptors_own o.
    then (once_several (λ _. once_ring counts.descriptions) counts.rings) o (λ rings rings_own o.
    then (once_several (λ earlier. once_record rings (places_in earlier)) counts.records) o (λ records records_own o.
    let t : Trace = record { version = counts.version; items = items; descriptions = descriptions; descriptors = descriptors; rings = rings; records = records } in
    let start = counted_trace counts t refl
    (length-several _ _ _ keeps_bytes items_own)
    (length-several _ _ _ keeps_bytes descriptions_own)
    (length-several _ _ _ keeps_bytes rings_own)
    (length-several _ _ _ keeps_bytes records_own)
    (length-several _ _ _ keeps_bytes descriptors_own) in
    ends trace_bytes o (ap (λ (h : List ℕ). h ++ flat_map item_bytes items ++ flat_map description_bytes descriptions ++ flat_map slot_bytes descriptors ++ flat_map ring_bytes rings ++ flat_map record_bytes records) start))))))))

pub one_spelling : (bytes : List ℕ) (t : Trace) → IsBytes bytes → SpellsTrace bytes t → bytes ≡ trace_bytes t
one_spelling bytes t fits s = once_trace t (record { place = 0; text = bytes; has = fits; is = s.1 })
