-- What is asked of a trace holds of each that bytes spell.
use Rattle.std.proofs.Common.{◌≡◌, ℕ, zero, suc, ◌+◌, ◌*◌, ◌<◌, ◌≤◌, ◌^◌, true, false, ltb, List, [], ◌∷◌, ◌++◌, length, Some, inl, inr, refl, sym, ap, subst, ◌∙◌, append_assoc, append-nil, arith}
use Rattle.std.proofs.lemmas.Bool.{cases_Bool, and_from, leb-true, ltb-true, lt-ltb, not-true}
use Rattle.std.proofs.lemmas.List.{length-append, length-drop, nil_from_length}
use Rattle.std.proofs.lemmas.List.Elements.{All-head, All-tail}
use Rattle.std.specs.Prelude.{All}
use Rattle.std.specs.List.{list_all, flat_map}
use Rattle.std.specs.Int.{Width, w8, w16, w32, w64, from_le_bytes, to_le_bytes}
use Rattle.sqe_codec.specs.Fields.{IsBytes, entry_bytes}
use Rattle.sqe_codec.proofs.Parts.{fields_fit}
use Rattle.trace_format.specs.declared.entry.Entry.{Entry}
use Rattle.trace_format.specs.declared.trace.Item.{Item}
use Rattle.trace_format.specs.declared.trace.Node.{Node}
use Rattle.trace_format.specs.declared.trace.Description.{Description}
use Rattle.trace_format.specs.declared.trace.Buffer.{Buffer}
use Rattle.trace_format.specs.declared.trace.Ring.{Ring}
use Rattle.trace_format.specs.declared.trace.Record.{Record}
use Rattle.trace_format.specs.declared.trace.Record.TheVariants.{Enter, Fill}
use Rattle.trace_format.specs.declared.trace.Trace.{Trace}
use Rattle.trace_format.specs.declared.trace.Node.TheVariants.{Directory, File, OtherName}
use Rattle.trace_format.specs.declared.version.Version.{Version}
use Rattle.trace_format.specs.declared.version.Version.TheVariants.{One, Two, Three}
use Rattle.trace_format.specs.Counts.{places_in, places_limit}
use Rattle.trace_format.specs.Grammar.{Grammar, Bytes, number, number_to, several}
use Rattle.trace_format.specs.Paths.{is_path, has_name}
use Rattle.trace_format.specs.Spelling.{description_bytes, entry_text, header_bytes, item_bytes, kind_of, node_bytes, record_bytes, ring_bytes, slot_bytes, trace_bytes}
use Rattle.trace_format.specs.Text.{Counts, longest, SpellsTrace, buffer, description, enter, entry, file, fill, header, item, new_path, node, one_record, other_name, ring, slot}
use Rattle.trace_format.specs.Versions.{rules, version_of}
use Rattle.trace_format.proofs.Apart.{keeps_bytes, Own, apart, at_place, at_test, test_passed, at_done, at_choice, within_limit, each, length-several}
use Rattle.trace_format.proofs.Facts.{trace_parts}
use Rattle.trace_format.proofs.OneSpelling.{one_spelling}
use Rattle.trace_text.specs.Entry.{has_path, has_paths, vector_count}
use Rattle.text_trace.specs.Items.{number_of}
use Rattle.text_laws.proofs.Several.{Each, total}
use Rattle.text_laws.proofs.Tables.{BufferFits, DescriptionShown, RingFits, SlotsFit}
use Rattle.text_laws.proofs.Items.{item_room, node_room}
use Rattle.text_laws.proofs.Steps.{EntryFits, RecordFits, RecordShown, entry_room, record_room}
use Rattle.text_laws.proofs.Numbered.{ItemRead, NodeRead, items_shown, known_node}
use Rattle.text_laws.proofs.Meaning.{TraceShown, meant}
use Rattle.text_laws.specs.Shown.{ShownComesBack}

-- ---- several, each by what came before it

record More {X : Type 0} (F : List X → X → Type 0) (earlier xs : List X) : Type 0 where
  more : List X
  are : xs ≡ earlier ++ more
  each : Each F earlier more

each_from : {X : Type 0} (F : List X → X → Type 0) (next : List X → Grammar X) (limit : ℕ)
    → ((earlier : List X) (x : X) → length earlier < limit → Own IsBytes (next earlier) x → F earlier x)
    → (n : ℕ) (earlier xs : List X) → length earlier + n ≤ limit → Own IsBytes (several n next earlier) xs → More F earlier xs
each_from F next limit one zero earlier xs few o = record { more = []; are = (at_done o).1 ∙ sym (append-nil earlier); each = tt }
each_from F next limit one (suc n) earlier xs few o =
    let p = apart keeps_bytes o in
    let m = each_from F next limit one n (earlier ++ p.x ∷ []) xs (omega (arith, few, length-append earlier (p.x ∷ []))) p.after in
    record { more = p.x ∷ m.more; are = m.are ∙ append_assoc earlier (p.x ∷ []) m.more; each = (one earlier p.x (omega (arith, few)) p.own, m.each) }

each_is : {X : Type 0} (F : List X → X → Type 0) (next : List X → Grammar X) (limit : ℕ)
    → ((earlier : List X) (x : X) → length earlier < limit → Own IsBytes (next earlier) x → F earlier x)
    → (n : ℕ) (xs : List X) → n ≤ limit → Own IsBytes (several n next []) xs → Each F [] xs
each_is F next limit one n xs few o =
    let m = each_from F next limit one n [] xs (omega (arith, few)) o in
    subst (Each F []) (sym m.are) m.each

-- ---- numbers

own_bytes : {n : ℕ} {x : List ℕ} → Own IsBytes (Bytes n) x → IsBytes x
own_bytes o = subst IsBytes (sym o.is.1) o.has

le8 : (bytes : List ℕ) → IsBytes bytes → from_le_bytes w8 bytes < 2 ^ 8
le8 bytes fits = omega arith

le16 : (bytes : List ℕ) → IsBytes bytes → from_le_bytes w16 bytes < 2 ^ 16
le16 bytes fits = omega arith

le32 : (bytes : List ℕ) → IsBytes bytes → from_le_bytes w32 bytes < 2 ^ 32
le32 bytes fits = omega arith

le64 : (bytes : List ℕ) → IsBytes bytes → from_le_bytes w64 bytes < 2 ^ 64
le64 bytes fits = omega arith

-- the bytes of a number
record Read (w : Width) (n : ℕ) : Type 0 where
  bytes : List ℕ
  fits : IsBytes bytes
  is : n ≡ from_le_bytes w bytes

read_of : (w : Width) (n : ℕ) → Own IsBytes (number w) n → Read w n
read_of w n o =
    let p = apart keeps_bytes o in
    record { bytes = p.x; fits = own_bytes p.own; is = (at_done p.after).1 }

below8 : (n : ℕ) → Own IsBytes (number w8) n → n < 2 ^ 8
below8 n o = let r = read_of w8 n o in omega (arith, r.is, le8 r.bytes r.fits)

below16 : (n : ℕ) → Own IsBytes (number w16) n → n < 2 ^ 16
below16 n o = let r = read_of w16 n o in omega (arith, r.is, le16 r.bytes r.fits)

below32 : (n : ℕ) → Own IsBytes (number w32) n → n < 2 ^ 32
below32 n o = let r = read_of w32 n o in omega (arith, r.is, le32 r.bytes r.fits)

below64 : (n : ℕ) → Own IsBytes (number w64) n → n < 2 ^ 64
below64 n o = let r = read_of w64 n o in omega (arith, r.is, le64 r.bytes r.fits)

-- the same where there is a limit
to_number : (w : Width) (limit n : ℕ) → Own IsBytes (number_to w limit) n → Read w n
to_number w limit n o =
    let read = apart keeps_bytes (at_place o) in
    let r = read_of w read.x read.own in
    record { bytes = r.bytes; fits = r.fits; is = (at_done (at_test read.after)).1 ∙ r.is }

-- ---- items

file_read : (earlier : List Item) (y : Node) → Own IsBytes file y → NodeRead earlier y
unfolding file
file_read earlier y o =
    let size = apart keeps_bytes o in
    let stored = apart keeps_bytes size.after in
    let bytes = apart keeps_bytes stored.after in
    let s = to_number w64 _ size.x size.own in
    subst (NodeRead earlier) (sym (at_done bytes.after).1) (omega (arith, s.is, le64 s.bytes s.fits), own_bytes bytes.own)

other_read : (earlier : List Item) (y : Node) → Own IsBytes (other_name earlier) y → NodeRead earlier y
unfolding other_name
other_read earlier y o =
    let n = apart keeps_bytes (at_place o) in
    subst (NodeRead earlier) (sym (at_done (at_test n.after)).1) (below32 n.x n.own, test_passed n.after)

node_read : (kind : ℕ) (earlier : List Item) (y : Node) → Own IsBytes (node kind earlier) y → NodeRead earlier y
node_read kind earlier y o = elim (at_choice o) [
  | inl a ↦ subst (NodeRead earlier) (sym (at_done a.1).1) tt
  | inr b ↦ elim (at_choice b.1) [
    | inl c ↦ file_read earlier y c.1
    | inr d ↦ other_read earlier y d.1
  ]
]

-- a path that is new
record PathRead (earlier : List Item) (path : List ℕ) : Type 0 where
  good : is_path path ≡ true
  bytes : IsBytes path
  fresh : has_name earlier path ≡ false

path_read : (earlier : List Item) (path : List ℕ) → Own IsBytes (new_path earlier) path → PathRead earlier path
unfolding new_path
path_read earlier path o =
    let len = apart keeps_bytes o in
    let p = apart keeps_bytes (at_place len.after) in
    let parent = at_test p.after in
    let name = at_test parent in
    let made : PathRead earlier p.x = record { good = test_passed p.after; bytes = own_bytes p.own; fresh = not-true _ (test_passed name) } in
    subst (PathRead earlier) (sym (at_done (at_test name)).1) made

item_read : (earlier : List Item) (x : Item) → length earlier < 65535 → Own IsBytes (item earlier) x → ItemRead earlier x
unfolding item
item_read earlier x few o =
    let kind = apart keeps_bytes (at_place o) in
    let path = apart keeps_bytes (at_test kind.after) in
    let made = apart keeps_bytes path.after in
    let p = path_read earlier path.x path.own in
    let one : ItemRead earlier (record { path = path.x; node = made.x }) = record {
      few = few;
      path = p.good;
      bytes = p.bytes;
      fresh = p.fresh;
      node = node_read kind.x earlier made.x made.own;
    } in
    subst (ItemRead earlier) (sym (at_done made.after).1) one

-- ---- descriptions

description_read : (items : List Item) → Each ItemRead [] items → (earlier : List Description) (d : Description) → length earlier < 65535
    → Own IsBytes (description items) d
    → DescriptionShown (number_of items) items earlier d
unfolding description
description_read items all earlier d few o =
    let n = apart keeps_bytes (at_place o) in
    let rights = apart keeps_bytes (at_place (at_test n.after)) in
    let append = apart keeps_bytes (at_test rights.after) in
    let position = apart keeps_bytes append.after in
    let limit = within_limit keeps_bytes w64 _ position.x position.own in
    let made : DescriptionShown (number_of items) items earlier (record { node = n.x; access = _; append = _; position = position.x }) = record {
      few = few;
      number = below32 n.x n.own;
      node = known_node items n.x all (test_passed n.after);
      position = omega (arith, limit);
    } in
    subst (DescriptionShown (number_of items) items earlier) (sym (at_done position.after).1) made

-- ---- slots

small_slots : (limit : ℕ) (xs : List ℕ) → limit < 2 ^ 32 → All (λ n. n ≤ limit) xs → list_all (λ s. ltb s (2 ^ 32)) xs ≡ true
small_slots limit [] small all = refl
small_slots limit (x ∷ xs) small all =
    let first = All-head (λ n. n ≤ limit) x xs all in
    and_from (ltb x (2 ^ 32)) (list_all (λ s. ltb s (2 ^ 32)) xs) (lt-ltb x (2 ^ 32) (omega (arith, small, first)))
    (small_slots limit xs small (All-tail (λ n. n ≤ limit) x xs all))

slot_read : (descriptions n : ℕ) → Own IsBytes (slot descriptions) n → n ≤ descriptions
unfolding slot
slot_read descriptions n o =
    let read = apart keeps_bytes (at_place o) in
    subst (λ m. m ≤ descriptions) (sym (at_done (at_test read.after)).1) (leb-true read.x descriptions (test_passed read.after))

slots_read : (descriptions n : ℕ) (xs : List ℕ) → descriptions < 2 ^ 32 → n ≤ 1024 → Own IsBytes (several n (λ _. slot descriptions) []) xs → SlotsFit xs
slots_read descriptions n xs small few o = (
  small_slots descriptions xs small (each (λ m. m ≤ descriptions) (λ _. slot descriptions) keeps_bytes (λ _. slot_read descriptions) n xs o),
  omega (arith, few, length-several (λ _. slot descriptions) n xs keeps_bytes o),
)

-- ---- rings

buffer_read : (earlier : List Buffer) (b : Buffer) → length earlier < 1024 → Own IsBytes (buffer earlier) b → BufferFits earlier b
unfolding buffer
buffer_read earlier b few o =
    let address = apart keeps_bytes (at_place o) in
    let len = apart keeps_bytes (at_place address.after) in
    let limit = within_limit keeps_bytes w32 _ len.x len.own in
    let made : BufferFits earlier (record { address = address.x; len = len.x }) = record {
      few = few;
      address = below64 address.x address.own;
      len = omega (arith, limit);
    } in
    subst (BufferFits earlier) (sym (at_done (at_test (at_test len.after))).1) made

ring_read : (descriptions : ℕ) → descriptions < 2 ^ 32 → (earlier : List Ring) (r : Ring) → length earlier < 64 → Own IsBytes (ring descriptions) r
    → RingFits earlier r
unfolding ring
ring_read descriptions small earlier r few o =
    let slot_count = apart keeps_bytes o in
    let slots = apart keeps_bytes slot_count.after in
    let buffer_count = apart keeps_bytes slots.after in
    let buffers = apart keeps_bytes buffer_count.after in
    let made : RingFits earlier (record { slots = slots.x; buffers = buffers.x }) = record {
      few = few;
      slots = slots_read descriptions slot_count.x slots.x small (within_limit keeps_bytes w16 _ slot_count.x slot_count.own) slots.own;
      buffers = each_is BufferFits buffer 1024 buffer_read buffer_count.x buffers.x
          (within_limit keeps_bytes w16 _ buffer_count.x buffer_count.own) buffers.own;
    } in
    subst (RingFits earlier) (sym (at_done buffers.after).1) made

-- ---- records

entry_read : (e : Entry) → Own IsBytes entry e → EntryFits e
unfolding entry
entry_read e o =
    let sqe = apart keeps_bytes o in
    let len = apart keeps_bytes (at_place sqe.after) in
    let side = apart keeps_bytes len.after in
    subst EntryFits (sym (at_done (at_test side.after)).1) (fields_fit sqe.x (own_bytes sqe.own), own_bytes side.own, refl)

enter_read : (rings used : ℕ) (r : Record) → Own IsBytes (enter rings used) r → RecordFits used r
unfolding enter
enter_read rings used r o =
    let ring_number = apart keeps_bytes (at_place o) in
    let count = apart keeps_bytes (at_place (at_test ring_number.after)) in
    let entries = apart keeps_bytes (at_test count.after) in
    let limit = within_limit keeps_bytes w16 _ count.x count.own in
    let within : used + count.x ≤ places_limit = leb-true _ _ (test_passed count.after) in
    let many = length-several (λ _. entry) count.x entries.x keeps_bytes entries.own in
    subst (RecordFits used) (sym (at_done entries.after).1) (
      below8 ring_number.x ring_number.own,
      omega (arith, limit, many),
      omega (arith, within, many),
      each EntryFits (λ _. entry) keeps_bytes (λ _. entry_read) count.x entries.x entries.own,
    )

fill_read : (rings : List Ring) (used : ℕ) (r : Record) → used < places_limit → Own IsBytes (fill rings) r → RecordFits used r
unfolding fill
fill_read rings used r few o =
    let ring_number = apart keeps_bytes (at_place o) in
    let buffer_number = apart keeps_bytes (at_place (at_test ring_number.after)) in
    let offset = apart keeps_bytes (at_place (at_test buffer_number.after)) in
    let len = apart keeps_bytes offset.after in
    let bytes = apart keeps_bytes (at_test len.after) in
    subst (RecordFits used) (sym (at_done bytes.after).1)
    (below8 ring_number.x ring_number.own, below16 buffer_number.x buffer_number.own, below32 offset.x offset.own, few, own_bytes bytes.own)

record_read : (rings : List Ring) (earlier : List Record) (r : Record) → length earlier < places_limit → Own IsBytes (one_record rings (places_in earlier)) r
    → RecordShown earlier r
unfolding one_record
record_read rings earlier r few o =
    let kind = apart keeps_bytes (at_place o) in
    let counted = at_test kind.after in
    record {
      few = few;
      fits = elim (at_choice (at_test counted)) [
        | inl a ↦ enter_read (length rings) (places_in earlier) r a.1
        | inr b ↦ fill_read rings (places_in earlier) r (ltb-true (places_in earlier) places_limit (rw b.0 at (test_passed counted))) b.1
      ];
    }

-- ---- counts

record CountsRead (c : Counts) : Type 0 where
  version : c.version ≡ Three → ⊥
  items : c.items ≤ 65535
  descriptions : c.descriptions ≤ 65535
  rings : c.rings ≤ 64
  records : c.records ≤ 1048576
  descriptors : c.descriptors ≤ (rules c.version).most_descriptors

-- no number names version 3
not_three : (n : ℕ) (v : Version) → version_of n ≡ Some v → v ≡ Three → ⊥
not_three n One named three = absurd (cc)
not_three n Two named three = absurd (cc)
not_three n Three named three = absurd (grind (arith, named))

counts_read : (c : Counts) → Own IsBytes header c → CountsRead c
unfolding header
counts_read c o =
    let magic = apart keeps_bytes o in
    let n = apart keeps_bytes (at_place (at_test magic.after)) in
    let version = apart keeps_bytes n.after in
    let items = apart keeps_bytes version.after in
    let descriptions = apart keeps_bytes items.after in
    let rings = apart keeps_bytes descriptions.after in
    let records = apart keeps_bytes rings.after in
    let descriptors = apart keeps_bytes records.after in
    let made : CountsRead (record {
      version = version.x;
      items = items.x;
      descriptions = descriptions.x;
      rings = rings.x;
      records = records.x;
      descriptors = descriptors.x;
    }) = record {
      version = not_three n.x version.x version.own.is.1;
      items = within_limit keeps_bytes w32 _ items.x items.own;
      descriptions = within_limit keeps_bytes w32 _ descriptions.x descriptions.own;
      rings = within_limit keeps_bytes w32 _ rings.x rings.own;
      records = within_limit keeps_bytes w32 _ records.x records.own;
      descriptors = within_limit keeps_bytes w32 _ descriptors.x descriptors.own;
    } in
    subst CountsRead (sym (at_done descriptors.after).1) made

most : (v : Version) → (v ≡ Three → ⊥) → (rules v).most_descriptors ≤ 1024
most One other = omega arith
most Two other = omega arith
most Three other = absurd (other refl)

-- ---- room

node_within : (node : Node) → node_room node ≤ length (node_bytes node)
node_within Directory = omega arith
node_within (File size stored) = omega (arith, length-append (to_le_bytes w64 size ++ to_le_bytes w32 (length stored)) stored)
node_within (OtherName number) = omega arith

items_within : (items : List Item) → total item_room items ≤ length (flat_map item_bytes items)
items_within [] = omega arith
items_within (i ∷ items) =
    omega (
      arith,
      items_within items,
      node_within i.node,
      length-append (item_bytes i) (flat_map item_bytes items),
      length-append (kind_of i.node ∷ to_le_bytes w16 (length i.path) ++ i.path) (node_bytes i.node),
    )

data_within : (e : Entry) → entry_room e ≤ length e.side
data_within e = elim (cases_Bool (has_path e.sqe)) [
  | inl one ↦ rw one (omega arith)
  | inr other ↦ elim (cases_Bool (has_paths e.sqe e.side)) [
    | inl two ↦ rw (other, two) (omega arith)
    | inr none ↦ rw (other, none) (omega (arith, length-drop (8 * vector_count e.sqe e.side) e.side))
  ]
]

entry_within : (e : Entry) → entry_room e ≤ length (entry_text e)
unfolding entry_text
entry_within e = omega (arith, data_within e, length-append (entry_bytes e.sqe ++ to_le_bytes w32 (length e.side)) e.side)

entries_within : (es : List Entry) → total entry_room es ≤ length (flat_map entry_text es)
entries_within [] = omega arith
entries_within (e ∷ es) = omega (arith, entries_within es, entry_within e, length-append (entry_text e) (flat_map entry_text es))

record_within : (r : Record) → record_room r ≤ length (record_bytes r)
record_within (Enter ring_number es) = omega (arith, entries_within es, length-append (1 ∷ ring_number ∷ to_le_bytes w16 (length es)) (flat_map entry_text es))
record_within (Fill ring_number buffer_number offset bytes) =
    omega (arith, length-append (2 ∷ ring_number ∷ to_le_bytes w16 buffer_number ++ to_le_bytes w32 offset ++ to_le_bytes w32 (length bytes)) bytes)

records_within : (rs : List Record) → total record_room rs ≤ length (flat_map record_bytes rs)
records_within [] = omega arith
records_within (r ∷ rs) = omega (arith, records_within rs, record_within r, length-append (record_bytes r) (flat_map record_bytes rs))

both_within : (h i d s r x : List ℕ) → length i + length x ≤ length (h ++ i ++ d ++ s ++ r ++ x)
both_within h i d s r x =
    omega (
      arith,
      length-append (h ++ i ++ d ++ s ++ r) x,
      length-append (h ++ i ++ d ++ s) r,
      length-append (h ++ i ++ d) s,
      length-append (h ++ i) d,
      length-append h i,
    )

room_within : (bytes : List ℕ) (t : Trace) → length bytes ≤ longest → bytes ≡ trace_bytes t → total item_room t.items + total record_room t.records ≤ 2 ^ 30
room_within bytes t le is =
    omega (
      arith,
      le,
      ap length is,
      items_within t.items,
      records_within t.records,
      both_within (header_bytes t) (flat_map item_bytes t.items) (flat_map description_bytes t.descriptions) (flat_map slot_bytes t.descriptors)
          (flat_map ring_bytes t.rings) (flat_map record_bytes t.records),
    )

-- ---- a trace

pub trace_shown : (bytes : List ℕ) (t : Trace) → IsBytes bytes → SpellsTrace bytes t → TraceShown t
trace_shown bytes t fits spells =
    let parts = trace_parts keeps_bytes bytes t fits spells in
    let c = counts_read parts.counts parts.counted in
    let items = each_is ItemRead item 65535 item_read parts.counts.items t.items c.items parts.items in
    let small : parts.counts.descriptions < 2 ^ 32 = omega (arith, c.descriptions) in
    let many = length-several (λ _. slot parts.counts.descriptions) parts.counts.descriptors t.descriptors keeps_bytes parts.descriptors in
    record {
      items = items_shown t.items items;
      descriptions = each_is (DescriptionShown (number_of t.items) t.items) (λ _. description t.items) 65535
          (description_read t.items items) parts.counts.descriptions t.descriptions c.descriptions parts.descriptions;
      descriptors = slots_read parts.counts.descriptions parts.counts.descriptors t.descriptors small
          (omega (arith, c.descriptors, most parts.counts.version c.version)) parts.descriptors;
      version = λ three. c.version (sym parts.version ∙ three);
      no_table = λ one.
          let none : (rules parts.counts.version).most_descriptors ≡ 0 = ap (λ v. (rules v).most_descriptors) (sym parts.version ∙ one) in
          nil_from_length t.descriptors (omega (arith, many, c.descriptors, none));
      rings = each_is RingFits (λ _. ring parts.counts.descriptions) 64
          (ring_read parts.counts.descriptions small) parts.counts.rings t.rings c.rings parts.rings;
      records = each_is RecordShown (λ earlier. one_record t.rings (places_in earlier)) places_limit
          (record_read t.rings) parts.counts.records t.records c.records parts.records;
      room = room_within bytes t spells.0 (one_spelling bytes t fits spells);
    }

pub shown_comes_back : ShownComesBack
shown_comes_back look bytes t all fits spells = meant look bytes t all (trace_shown bytes t fits spells) fits spells
