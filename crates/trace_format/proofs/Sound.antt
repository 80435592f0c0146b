-- The parts of a spelled trace lead to one another.
use Rattle.std.proofs.Common.{◌≡◌, ℕ, zero, suc, ◌≤◌, Bool, true, ◌||◌, not, List, [], ◌∷◌, ◌++◌, sym, subst, ◌∙◌, append_assoc, arith, inl, inr}
use Rattle.std.specs.Prelude.{◌==◌}
use Rattle.std.specs.List.{All}
use Rattle.std.specs.Int.{w32, w64}
use Rattle.std.proofs.lemmas.Bool.{leb-true}
use Rattle.std.proofs.lemmas.Bool.Decides.{nat_tests}
use Rattle.std.proofs.lemmas.List.{append-nil}
use Rattle.trace_format.specs.declared.trace.Access.TheVariants as access
use Rattle.trace_format.specs.declared.trace.Description.{Description}
use Rattle.trace_format.specs.declared.trace.Item.{Item}
use Rattle.trace_format.specs.declared.trace.Node.{Node}
use Rattle.trace_format.specs.declared.trace.Ring.{Ring}
use Rattle.trace_format.specs.Grammar.{several}
use Rattle.trace_format.specs.Sound.{NodeFits, DescriptionFits, SpelledSound}
use Rattle.trace_format.specs.Text.{item, node, file, other_name, description, slot, ring, is_directory_number, access_of}
use Rattle.trace_format.proofs.Apart.{AnyText, keeps_any, Own, apart, at_place, at_test, test_passed, at_done, at_choice, within_limit, each, length-several}
use Rattle.trace_format.proofs.Facts.{trace_parts}
use Rattle.trace_format.proofs.Spelled.{length_bytes}

-- ---- items

-- A file has at least its stored bytes, and at most 2^40.
file_fits : (earlier : List Item) (y : Node) → Own AnyText file y → NodeFits earlier y
unfolding file
file_fits earlier y o =
    let size = apart keeps_any o in
    let stored = apart keeps_any size.after in
    let bytes = apart keeps_any stored.after in
    let limit = within_limit keeps_any w64 _ size.x size.own in
    let room = within_limit keeps_any w32 _ stored.x stored.own in
    subst (NodeFits earlier) (sym (at_done bytes.after).1) (omega (arith, length_bytes bytes.own, room), limit)

-- Another name is one of an earlier file.
other_name_fits : (earlier : List Item) (y : Node) → Own AnyText (other_name earlier) y → NodeFits earlier y
unfolding other_name
other_name_fits earlier y o =
    let number = apart keeps_any (at_place o) in
    subst (NodeFits earlier) (sym (at_done (at_test number.after)).1) (test_passed number.after)

-- What an item makes fits the items before it.
node_fits : (kind : ℕ) (earlier : List Item) (y : Node) → Own AnyText (node kind earlier) y → NodeFits earlier y
node_fits kind earlier y o = elim (at_choice o) [
  | inl a ↦ subst (NodeFits earlier) (sym (at_done a.1).1) tt
  | inr b ↦ elim (at_choice b.1) [
    | inl c ↦ file_fits earlier y c.1
    | inr d ↦ other_name_fits earlier y d.1
  ]
]

-- So does what an item's text gives.
item_fits : (earlier : List Item) (x : Item) → Own AnyText (item earlier) x → NodeFits earlier x.node
unfolding item
item_fits earlier x o =
    let kind = apart keeps_any (at_place o) in
    let path = apart keeps_any (at_test kind.after) in
    let made = apart keeps_any path.after in
    subst (λ (y : Item). NodeFits earlier y.node) (sym (at_done made.after).1) (node_fits kind.x earlier made.x made.own)

-- Items that fit, each after those before it.
abbrev Follow : List Item → List Item → Type 0
Follow earlier [] = Unit {0}
Follow earlier (x ∷ xs) = NodeFits earlier x.node × Follow (earlier ++ x ∷ []) xs

-- Items that are read after others are those, and more that fit.
record More (earlier items : List Item) : Type 0 where
  more : List Item
  are : items ≡ earlier ++ more
  follow : Follow earlier more

-- Items that are read one after the other fit, each after those before it.
items_follow : (n : ℕ) (earlier xs : List Item) → Own AnyText (several n item earlier) xs → More earlier xs
items_follow zero earlier xs o = record { more = []; are = (at_done o).1 ∙ sym (append-nil earlier); follow = tt }
items_follow (suc n) earlier xs o =
    let p = apart keeps_any o in
    let rest = items_follow n (earlier ++ p.x ∷ []) xs p.after in
    record { more = p.x ∷ rest.more; are = rest.are ∙ append_assoc earlier (p.x ∷ []) rest.more; follow = (item_fits earlier p.x p.own, rest.follow) }

-- One of the items that follow fits those before it.
one_fits : (before earlier after : List Item) (x : Item) → Follow earlier (before ++ x ∷ after) → NodeFits (earlier ++ before) x.node
one_fits [] earlier after x f = subst (λ e. NodeFits e x.node) (sym (append-nil earlier)) f.0
one_fits (y ∷ before) earlier after x f = subst (λ e. NodeFits e x.node) (append_assoc earlier (y ∷ []) before) (one_fits before (earlier ++ y ∷ []) after x f.1)

-- ---- descriptions

-- A directory's access is the first.
reads_alone : (n : ℕ) (b : Bool) → (n == 0 || not b) ≡ true → b ≡ true → access_of n ≡ access.Read
reads_alone n b h e = grind (arith, nat_tests)

-- A description leads to an item or the root, and a directory is only read.
description_fits : (items : List Item) (d : Description) → Own AnyText (description items) d → DescriptionFits items d
unfolding description
description_fits items d o =
    let number = apart keeps_any (at_place o) in
    let rights = apart keeps_any (at_place (at_test number.after)) in
    let append = apart keeps_any (at_test rights.after) in
    let position = apart keeps_any append.after in
    let made : DescriptionFits items (record { node = number.x; access = access_of rights.x; append = (append.x == 1); position = position.x }) = record {
      leads = test_passed number.after;
      is_read = reads_alone rights.x (is_directory_number items number.x) (test_passed rights.after);
    } in
    subst (DescriptionFits items) (sym (at_done position.after).1) made

-- ---- slots

-- A slot is at most the number of descriptions.
slot_fits : (descriptions n : ℕ) → Own AnyText (slot descriptions) n → n ≤ descriptions
unfolding slot
slot_fits descriptions n o =
    let read = apart keeps_any (at_place o) in
    subst (λ m. m ≤ descriptions) (sym (at_done (at_test read.after)).1) (leb-true read.x descriptions (test_passed read.after))

-- So is each of several slots.
all_slots_fit : (descriptions n : ℕ) (xs : List ℕ) → Own AnyText (several n (λ _. slot descriptions) []) xs → All (λ m. m ≤ descriptions) xs
all_slots_fit descriptions n xs o = each (λ m. m ≤ descriptions) (λ _. slot descriptions) keeps_any (λ _. slot_fits descriptions) n xs o

-- So is each slot of a ring.
ring_fits : (descriptions : ℕ) (r : Ring) → Own AnyText (ring descriptions) r → All (λ m. m ≤ descriptions) r.slots
unfolding ring
ring_fits descriptions r o =
    let slot_count = apart keeps_any o in
    let slots = apart keeps_any slot_count.after in
    let buffer_count = apart keeps_any slots.after in
    let buffers = apart keeps_any buffer_count.after in
    subst (λ (y : Ring). All (λ m. m ≤ descriptions) y.slots) (sym (at_done buffers.after).1) (all_slots_fit descriptions slot_count.x slots.x slots.own)

-- ---- a trace

-- What the items, descriptions, slots and descriptors of a spelled trace name is there.
pub spelled_sound : SpelledSound
spelled_sound t h =
    let parts = trace_parts keeps_any h.0 t tt h.1 in
    let items = items_follow parts.counts.items [] t.items parts.items in
    let o = parts.descriptions in
    let many = sym (length-several (λ _. description t.items) parts.counts.descriptions t.descriptions keeps_any o) in
    record {
      nodes = λ before after x e. one_fits before [] after x (subst (Follow []) (sym items.are ∙ e) items.follow);
      descriptions = each (DescriptionFits t.items) (λ _. description t.items) keeps_any (λ _. description_fits t.items) parts.counts.descriptions t.descriptions o;
      slots = subst (λ n. All (λ (r : Ring). All (λ m. m ≤ n) r.slots) t.rings) many
          (each (λ (r : Ring). All (λ m. m ≤ parts.counts.descriptions) r.slots) (λ _. ring parts.counts.descriptions) keeps_any (λ _. ring_fits parts.counts.descriptions) parts.counts.rings t.rings parts.rings);
      descriptors = subst (λ n. All (λ m. m ≤ n) t.descriptors) many (all_slots_fit parts.counts.descriptions parts.counts.descriptors t.descriptors parts.descriptors);
    }
