-- What the format asks of the start of a trace of version 3.
use Rattle.std.proofs.Common.{◌≡◌, ℕ, zero, suc, ◌+◌, ◌<◌, ◌≤◌, Bool, true, List, [], ◌∷◌, ◌++◌, length, refl, sym, subst, ◌∙◌, append_assoc, arith, inl, inr}
use Rattle.std.specs.Prelude.{nat_le, ◌==◌, ◌||◌, not, replicate}
use Rattle.std.specs.List.{All, slice_set}
use Rattle.std.specs.Int.{Width, w32, w64}
use Rattle.std.proofs.lemmas.Bool.{ltb-true, leb-true, and_parts}
use Rattle.std.proofs.lemmas.Bool.Decides.{nat_tests}
use Rattle.std.proofs.lemmas.List.{append-nil, length-set, length-replicate}
use Rattle.std.proofs.lemmas.List.Elements.{All-head, All-tail, All-set, All-replicate}
use Rattle.trace_format.specs.declared.trace.Access.TheVariants as access
use Rattle.trace_format.specs.declared.trace.Description.{Description}
use Rattle.trace_format.specs.Grammar.{several}
use Rattle.trace_format.specs.Limits.{file_limit}
use Rattle.trace_format.specs.Text.{access_of}
use Rattle.trace_format.proofs.Apart.{AnyText, keeps_any, Own, apart, at_place, at_test, test_passed, at_done, at_choice, within_limit, each, length-several}
use Rattle.trace_format.proofs.Spelled.{length_bytes}
use Rattle.trace_records.specs.Fields.{number_in, number_of, end_of}
use Rattle.trace_records.specs.Start.{Counts, header, range_end, range, file, other_name, node, item, description, descriptor, descriptor_end, is_directory_number, start}
use Rattle.trace_records.specs.declared.start.Range.{Range}
use Rattle.trace_records.specs.declared.start.Node.{Node}
use Rattle.trace_records.specs.declared.start.Item.{Item}
use Rattle.trace_records.specs.declared.start.Descriptor.{Descriptor}
use Rattle.trace_records.specs.declared.start.Start.{Start}
use Rattle.recording.specs.Accepted.{NodeFits, DescriptionFits}
use Rattle.recording.specs.Growing.{filled, table_of}
use Rattle.recording.specs.Limits.{items_limit, table_limit}

-- ---- numbers

-- A number within bounds is below its end.
below_end : (w : Width) (low end n : ℕ) → Own AnyText (number_in w low end) n → n < end
below_end w low end n o =
    let read = apart keeps_any (at_place o) in
    subst (λ m. m < end) (sym (at_done (at_test read.after)).1) (ltb-true read.x end (and_parts _ _ (test_passed read.after)).1)

-- The number of one of so many is below their count.
below_count : (w : Width) (count n : ℕ) → Own AnyText (number_of w count) n → n < count
below_count w count n o =
    let read = apart keeps_any (at_place o) in
    subst (λ m. m < count) (sym (at_done (at_test read.after)).1) (ltb-true read.x count (test_passed read.after))

-- ---- the header

record CountSizes (c : Counts) : Type 0 where
  items : c.items ≤ items_limit
  descriptions : c.descriptions ≤ table_limit
  table_size : c.table_size ≤ table_limit

count_sizes : (c : Counts) → Own AnyText header c → CountSizes c
unfolding header
count_sizes c o =
    let magic = apart keeps_any o in
    let version = apart keeps_any (at_place (at_test magic.after)) in
    let items = apart keeps_any (at_test version.after) in
    let descriptions = apart keeps_any items.after in
    let table_size = apart keeps_any descriptions.after in
    let descriptors = apart keeps_any table_size.after in
    let spare = apart keeps_any descriptors.after in
    let made : CountSizes (record { items = items.x; descriptions = descriptions.x; table_size = table_size.x; descriptors = descriptors.x }) = record {
      items = within_limit keeps_any w32 16777216 items.x items.own;
      descriptions = within_limit keeps_any w32 1048576 descriptions.x descriptions.own;
      table_size = within_limit keeps_any w32 1048576 table_size.x table_size.own;
    } in
    subst CountSizes (sym (at_done spare.after).1) made

-- ---- items

-- A range ends within its file.
range_fits : (size : ℕ) (earlier : List Range) (r : Range) → Own AnyText (range size earlier) r → range_end r ≤ size
unfolding range
range_fits size earlier r o =
    let offset = apart keeps_any o in
    let len = apart keeps_any (at_place offset.after) in
    let bytes = apart keeps_any (at_test len.after) in
    let tests = and_parts (nat_le 1 len.x) (nat_le (offset.x + len.x) size) (test_passed len.after) in
    let within : offset.x + len.x ≤ size = leb-true (offset.x + len.x) size tests.1 in
    let many : length bytes.x ≡ len.x = length_bytes bytes.own in
    let ends : offset.x + length bytes.x ≤ size = omega (arith, within, many) in
    subst (λ (r : Range). range_end r ≤ size) (sym (at_done bytes.after).1) ends

-- So does each of a file, which is at most 2^40 bytes long.
file_fits : (earlier : List Item) (y : Node) → Own AnyText file y → NodeFits earlier y
unfolding file
file_fits earlier y o =
    let size = apart keeps_any o in
    let count = apart keeps_any size.after in
    let ranges = apart keeps_any count.after in
    let all = each (λ (r : Range). range_end r ≤ size.x) (range size.x) keeps_any (range_fits size.x) count.x ranges.x ranges.own in
    subst (NodeFits earlier) (sym (at_done ranges.after).1) (all, within_limit keeps_any w64 file_limit size.x size.own)

-- Another name is one of an earlier file.
other_name_fits : (earlier : List Item) (y : Node) → Own AnyText (other_name earlier) y → NodeFits earlier y
unfolding other_name
other_name_fits earlier y o =
    let number = apart keeps_any (at_place o) in
    subst (NodeFits earlier) (sym (at_done (at_test number.after)).1) (test_passed number.after)

-- What an item makes fits the items before it.
node_fits : (kind : ℕ) (earlier : List Item) (y : Node) → Own AnyText (node kind earlier) y → NodeFits earlier y
node_fits kind earlier y o = elim (at_choice o) [
  | inl a ↦ subst (NodeFits earlier) (sym (at_done a.1).1) tt
  | inr b ↦ elim (at_choice b.1) [
    | inl c ↦ file_fits earlier y c.1
    | inr d ↦ other_name_fits earlier y d.1
  ]
]

-- So does what an item's text gives.
item_fits : (earlier : List Item) (x : Item) → Own AnyText (item earlier) x → NodeFits earlier x.node
unfolding item
item_fits earlier x o =
    let kind = apart keeps_any (at_place o) in
    let path = apart keeps_any (at_test kind.after) in
    let made = apart keeps_any path.after in
    subst (λ (y : Item). NodeFits earlier y.node) (sym (at_done made.after).1) (node_fits kind.x earlier made.x made.own)

-- Items that fit, each after those before it.
abbrev Follow : List Item → List Item → Type 0
Follow earlier [] = Unit {0}
Follow earlier (x ∷ xs) = NodeFits earlier x.node × Follow (earlier ++ x ∷ []) xs

-- Items that are read after others are those, and more that fit.
record More (earlier items : List Item) : Type 0 where
  more : List Item
  are : items ≡ earlier ++ more
  follow : Follow earlier more

-- Items that are read one after the other fit, each after those before it.
items_follow : (n : ℕ) (earlier xs : List Item) → Own AnyText (several n item earlier) xs → More earlier xs
items_follow zero earlier xs o = record { more = []; are = (at_done o).1 ∙ sym (append-nil earlier); follow = tt }
items_follow (suc n) earlier xs o =
    let p = apart keeps_any o in
    let rest = items_follow n (earlier ++ p.x ∷ []) xs p.after in
    record { more = p.x ∷ rest.more; are = rest.are ∙ append_assoc earlier (p.x ∷ []) rest.more; follow = (item_fits earlier p.x p.own, rest.follow) }

-- One of the items that follow fits those before it.
one_fits : (before earlier after : List Item) (x : Item) → Follow earlier (before ++ x ∷ after) → NodeFits (earlier ++ before) x.node
one_fits [] earlier after x f = subst (λ e. NodeFits e x.node) (sym (append-nil earlier)) f.0
one_fits (y ∷ before) earlier after x f = subst (λ e. NodeFits e x.node) (append_assoc earlier (y ∷ []) before) (one_fits before (earlier ++ y ∷ []) after x f.1)

-- ---- descriptions and descriptors

-- A directory's access is the first.
reads_alone : (n : ℕ) (b : Bool) → (n == 0 || not b) ≡ true → b ≡ true → access_of n ≡ access.Read
reads_alone n b h e = grind (arith, nat_tests)

-- A description leads to an item or the root, and a directory is only read.
description_fits : (items : List Item) (d : Description) → Own AnyText (description items) d → DescriptionFits items d
unfolding description
description_fits items d o =
    let number = apart keeps_any (at_place o) in
    let rights = apart keeps_any (at_place (at_test number.after)) in
    let append = apart keeps_any (at_test rights.after) in
    let position = apart keeps_any append.after in
    let made : DescriptionFits items (record { node = number.x; access = access_of rights.x; append = (append.x == 1); position = position.x }) = record {
      leads = test_passed number.after;
      is_read = reads_alone rights.x (is_directory_number items number.x) (test_passed rights.after);
    } in
    subst (DescriptionFits items) (sym (at_done position.after).1) made

-- The number of a descriptor is in the table, and that of its description is one of so many.
pub record Within (table_size descriptions : ℕ) (d : Descriptor) : Type 0 where
  pub number : d.number < table_size
  pub description : d.description < descriptions

descriptor_within : (table_size descriptions : ℕ) (earlier : List Descriptor) (d : Descriptor) → Own AnyText (descriptor table_size descriptions earlier) d → Within table_size descriptions d
unfolding descriptor
descriptor_within table_size descriptions earlier d o =
    let number = apart keeps_any o in
    let named = apart keeps_any number.after in
    let made : Within table_size descriptions (record { number = number.x; description = named.x }) = record {
      number = below_end w32 (end_of descriptor_end 0 earlier) table_size number.x number.own;
      description = below_count w32 descriptions named.x named.own;
    } in
    subst (Within table_size descriptions) (sym (at_done named.after).1) made

-- A full descriptor is in the table, and its description is there.
abbrev pub DescriptorFits : Start → Descriptor → Type 0
DescriptorFits s d = Within s.table_size (length s.descriptions) d

-- ---- the table of descriptors

-- A table whose entries are filled is as long.
length-filled : (table : List ℕ) (ds : List Descriptor) → length (filled table ds) ≡ length table
length-filled table [] = refl
length-filled table (d ∷ ds) = length-filled (slice_set table d.number (suc d.description)) ds ∙ length-set table d.number (suc d.description)

-- Each entry is 0, or the number of a description and 1.
filled_fit : (size descriptions : ℕ) (table : List ℕ) (ds : List Descriptor) → All (λ n. n ≤ descriptions) table → All (Within size descriptions) ds → All (λ n. n ≤ descriptions) (filled table ds)
filled_fit size descriptions table [] all within = all
filled_fit size descriptions table (d ∷ ds) all within =
    let first : suc d.description ≤ descriptions = omega (arith, (All-head (Within size descriptions) d ds within).description) in
    filled_fit size descriptions (slice_set table d.number (suc d.description)) ds
    (All-set (λ n. n ≤ descriptions) table d.number (suc d.description) first all) (All-tail (Within size descriptions) d ds within)

pub length-table : (size : ℕ) (ds : List Descriptor) → length (table_of size ds) ≡ size
length-table size ds = length-filled (replicate size 0) ds ∙ length-replicate size 0

pub table_fits : (size descriptions : ℕ) (ds : List Descriptor) → All (Within size descriptions) ds → All (λ n. n ≤ descriptions) (table_of size ds)
table_fits size descriptions ds within = filled_fit size descriptions (replicate size 0) ds (All-replicate (λ n. n ≤ descriptions) size 0 (omega arith)) within

-- ---- the start

-- What the format asks of a start.
pub record StartFits (s : Start) : Type 0 where
  pub items : length s.items ≤ items_limit
  pub descriptions : length s.descriptions ≤ table_limit
  pub table_size : s.table_size ≤ table_limit
  pub nodes : (before after : List Item) (x : Item) → s.items ≡ before ++ x ∷ after → NodeFits before x.node
  pub lead : All (DescriptionFits s.items) s.descriptions
  pub descriptors : All (DescriptorFits s) s.descriptors

pub start_fits : (s : Start) → Own AnyText start s → StartFits s
unfolding start
start_fits s o =
    let counts = apart keeps_any o in
    let items = apart keeps_any counts.after in
    let descriptions = apart keeps_any items.after in
    let descriptors = apart keeps_any descriptions.after in
    let c = counts.x in
    let sizes = count_sizes c counts.own in
    let follow = items_follow c.items [] items.x items.own in
    let many = length-several (λ _. description items.x) c.descriptions descriptions.x keeps_any descriptions.own in
    let full = each (Within c.table_size c.descriptions) (descriptor c.table_size c.descriptions) keeps_any (descriptor_within c.table_size c.descriptions) c.descriptors descriptors.x descriptors.own in
    let made : StartFits (record { items = items.x; descriptions = descriptions.x; table_size = c.table_size; descriptors = descriptors.x }) = record {
      items = omega (arith, sizes.items, length-several item c.items items.x keeps_any items.own);
      descriptions = omega (arith, sizes.descriptions, many);
      table_size = sizes.table_size;
      nodes = λ before after x e. one_fits before [] after x (subst (Follow []) (sym follow.are ∙ e) follow.follow);
      lead = each (DescriptionFits items.x) (λ _. description items.x) keeps_any (λ _. description_fits items.x) c.descriptions descriptions.x descriptions.own;
      descriptors = subst (λ n. All (Within c.table_size n) descriptors.x) (sym many) full;
    } in
    subst StartFits (sym (at_done descriptors.after).1) made
