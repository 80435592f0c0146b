-- A recording that is accepted starts in a world.
use Rattle.std.specs.Prelude.{◌≡◌, ℕ, negsuc, zero, suc, Bool, true, false, cond, not, ◌||◌, ◌==◌, ◌+◌, ◌-◌, ◌≤◌, ◌<◌, ◌⊎◌, T, List, [], ◌∷◌, ◌++◌, map, length, Option, Some, None, Result, Ok, Err, is_some, refl, IfSome}
use Rattle.std.specs.List.{All, slice_get}
use Rattle.std.specs.Option.{option_map, option_and_then}
use Rattle.std.specs.Ordering.{nat_cmp, eq_by_cmp}
use Rattle.std.specs.declared.cmp.Ordering.{Ordering}
use Rattle.std.specs.Cmp.{unsigned_tied, IsTotalOrder}
use Rattle.std.proofs.Common.{append_assoc}
use Rattle.std.proofs.lemmas.Bool.{false≢true, leb-true, eqb-true, and_parts, and_from, or_cases, or_left, or_right, eqb-false}
use Rattle.std.proofs.lemmas.List.{append-nil, length_push}
use Rattle.std.proofs.lemmas.List.Elements.{All-head, All-tail}
use Rattle.std.proofs.lemmas.Option.{slice_get_within, IfSome_then}
use mathlib.Core.Path.{sym, subst, ap, ◌∙◌}
use mathlib.Core.Logic.{inl, inr}
use native.Mathlib.Omega.{arith}
use Rattle.sqe_codec.specs.declared.errno.Errno.{Errno}
use Rattle.sqe_codec.specs.declared.errno.Errno.TheVariants.{EBADF, ENAMETOOLONG}
use Rattle.sqe_codec.specs.Answers.{◌>>=◌, ◌>>◌, require}
use Rattle.trace_format.specs.declared.trace.Access.{Access}
use Rattle.trace_records.specs.declared.start.Item.{Item}
use Rattle.trace_records.specs.declared.start.Node.{Node as InitialNode}
use Rattle.trace_records.specs.declared.start.Node.TheVariants.{Directory, File, OtherName}
use Rattle.trace_records.specs.declared.start.Range.{Range}
use Rattle.recording.specs.declared.recording.Ring.{Ring}
use Rattle.recording.specs.declared.recording.Recording.{Recording}
use Rattle.trace_format.specs.Paths.{components}
use Rattle.trace_records.specs.Start.{is_directory, is_file, is_item, is_node, is_directory_number, range_end}
use Rattle.recording.specs.Accepted.{NodeFits, DescriptionFits, IsAccepted}
use Rattle.entry_checks.specs.Operation.{Path, file_limit}
use Rattle.finite_maps.specs.Table.{Table, empty, get, insert, get-insert, number_keys, pair_keys, pair_cmp}
use Rattle.file_tree.specs.Tree.{Node, a_directory, a_file, Names, Target, target, IsTree, Above, names_it, one_below, kind_of_node, names_of_node, others_of_node, bytes_of_node}
use Rattle.file_tree.specs.Walk.{Place, walk_from, directory_at, fits_name, starts_at_root, is_directory as is_directory_kind}
use Rattle.extent_bytes.specs.Bytes.{resized, overwritten}
use Rattle.world_parts.specs.World.{World, IsWorld, Description, kind, name, size, opened, opened_by, Opened, slot, descriptor, Change, apply, apply_all, make_node, set_name, set_size}
use Rattle.world_parts.specs.Start.{start, bare, name_at, range_written, with_node, with_items, descriptions_from, slots_from, ring_slots, descriptors_from}
use Rattle.world_parts.proofs.Changes.{rewriting-kind}
use Rattle.world_parts.proofs.ChangesOfNames.{naming-kind}
use Rattle.world_parts.proofs.ChangesOfMaking.{Unused, making-kind, made-kind, making-name}
use Rattle.world_parts.proofs.Trees.{some_apart, some_same, MayPut}
use Rattle.world_parts.proofs.KeepWorld.{sound, is_world, naming_sound, making_sound}
use Rattle.foot_print.proofs.Awaiting.{unused_number, nothing}
use Rattle.foot_print.proofs.Beginning.{above_bare}
use Rattle.foot_print.proofs.KeepNames.{parent_there, named_tree, made_and_named}
use Rattle.foot_print.proofs.KeepContents.{AllOfContents, contents_leave}

-- ---- the root alone

-- What holds of the root and of no node holds at every number.
at_each : (P : Option Node → Type 0) → P (Some (Node.directory empty 0)) → P None → (i : ℕ) → P (get bare.nodes i)
at_each P root none i = subst P (sym (get-insert number_keys.total empty 0 (Node.directory empty 0) i))
    (elim (eq_by_cmp nat_cmp i 0) as (λ b. P (cond b (Some (Node.directory empty 0)) None)) [ true ↦ root | false ↦ none ])

-- The root has no names.
no_names : (d : ℕ) (n : List ℕ) → name bare d n ≡ None
no_names d n = at_each (λ x. option_map (target bare.nodes) (option_and_then (λ (ns : Names). get ns n) (option_and_then names_of_node x)) ≡ None) refl refl d

-- The root alone is a world.
bare_world : IsWorld bare
bare_world = record {
  root = refl;
  tree = record {
    names_lead = λ d n. subst (λ x. IfSome x (λ t. is_some t.kind ≡ true)) (sym (no_names d n)) tt;
    root_unnamed = λ d n. subst (λ x. IfSome x (λ t. ¬ (t.node ≡ 0))) (sym (no_names d n)) tt;
    one_name = λ d e n m t k g h. absurd (some_apart (sym g ∙ no_names d n));
    no_cycle = λ d. nothing_above d d;
  };
  descriptions_lead = λ d. tt;
  slots_lead = λ r n. tt;
  descriptors_lead = λ n. tt;
  files_fit = at_each (λ x. IfSome (option_map length (option_and_then bytes_of_node x)) (λ n. n ≤ file_limit)) tt tt;
  directories_are_read = λ d. tt;
  all_shown = at_each (λ x. IfSome (option_and_then others_of_node x) (λ n. n ≡ 0)) refl tt;
}
  where
    nothing_above : (d i : ℕ) → ¬ (Above (name bare) d i)
    nothing_above d i (names_it _ _ n h) = some_apart (sym h ∙ no_names d n)
    nothing_above d i (one_below _ c _ n a h) = some_apart (sym h ∙ no_names c n)

-- ---- one name

-- A file is no directory.
file_apart : Some a_file ≡ Some a_directory → ⊥
file_apart e = subst (λ o. T (not (is_directory_kind o))) e tt

-- A file may be named anywhere.
may_name_file : (s : World) (d : ℕ) (n : List ℕ) (i : ℕ) → IsWorld s → kind s i ≡ Some a_file → MayPut (name s) d n (Some (target s.nodes i))
may_name_file s d n i w h = record {
  leads = ap is_some h;
  not_root = λ e. file_apart (sym h ∙ ap (kind s) e ∙ w.root);
  alone = λ t c q e m g. absurd (file_apart (sym h ∙ ap (λ (x : Target). x.kind) (some_same (target s.nodes i) t q) ∙ c));
  not_below = λ j q. absurd (file_apart (sym h ∙ ap (λ (x : Target). x.kind) (some_same (target s.nodes i) _ q)));
}

-- A name of a file leaves a world.
file_named : (s : World) (path : List ℕ) (i : ℕ) → IsWorld s → kind s i ≡ Some a_file → IsWorld (name_at s path i)
file_named s path i w h = by (walk_from s.nodes 0 (components path)) refl
  where
    by : (r : Result Place Errno) → walk_from s.nodes 0 (components path) ≡ r → IsWorld (name_at s path i)
    by (Ok p) e = rw e (
        let x = Some (target s.nodes i) in
        is_world (apply (set_name p.parent p.name x) s) (named_tree s p.parent p.name x refl w.tree (may_name_file s p.parent p.name i w h)) (naming_sound s p.parent p.name x (sound s w))
        )
    by (Err x) e = rw e w

-- A name leaves the kinds.
naming_kinds : (s : World) (path : List ℕ) (i j : ℕ) → kind (name_at s path i) j ≡ kind s j
naming_kinds s path i j = by (walk_from s.nodes 0 (components path)) refl
  where
    by : (r : Result Place Errno) → walk_from s.nodes 0 (components path) ≡ r → kind (name_at s path i) j ≡ kind s j
    by (Ok p) e = rw e (naming-kind p.name (Some (target s.nodes i)) s p.parent j)
    by (Err x) e = rw e refl

-- A walk finds the same by the same names.
same_walk : (s u : World) → ((d : ℕ) (n : List ℕ) → name u d n ≡ name s d n) → (d : ℕ) (ns : List (List ℕ)) → walk_from u.nodes d ns ≡ walk_from s.nodes d ns
same_walk s u h d [] = refl
same_walk s u h d (n ∷ []) = λ i. require (fits_name n) ENAMETOOLONG >> Ok (record { parent = d; name = n; target = h d n i })
same_walk s u h d (n ∷ m ∷ ns) = λ i. require (fits_name n) ENAMETOOLONG >> (directory_at (h d n i) >>= λ e. same_walk s u h e (m ∷ ns) i)

-- The parent that a walk from the root finds is a directory.
parent_found : (s : World) (path : List ℕ) (p : Place) → IsWorld s → walk_from s.nodes 0 (components path) ≡ Ok p → kind s p.parent ≡ Some a_directory
parent_found s path p w h = parent_there s w (from_root path) p (ap (λ b. require b EBADF >> walk_from s.nodes 0 (components path)) (at_root path) ∙ h)
  where
    from_root : List ℕ → Path
    from_root text = record { directory = negsuc 99; text = text }

    at_root : (text : List ℕ) → starts_at_root (from_root text) ≡ true
    at_root text = grind arith

-- A directory that is made and named leaves a world.
directory_named : (s : World) (path : List ℕ) (i : ℕ) → IsWorld s → Unused s i → IsWorld (name_at (apply (make_node i a_directory) s) path i)
directory_named s path i w u = by (walk_from after.nodes 0 (components path)) refl
  where
    after : World
    after = apply (make_node i a_directory) s

    by : (r : Result Place Errno) → walk_from after.nodes 0 (components path) ≡ r → IsWorld (name_at after path i)
    by (Ok p) e = rw e (made_and_named s i p.parent p.name a_directory w u (parent_found s path p w (sym (same_walk s after (making-name s i a_directory u) 0 (components path)) ∙ e)) refl)
    by (Err x) e = rw e (is_world after (subst IsTree (λ z d n. sym (making-name s i a_directory u d n) z) w.tree) (making_sound s i a_directory u (sound s w)))

-- ---- one item

-- What is written into a file that is made: its ranges, and then its size.
abbrev contents : ℕ → ℕ → List Range → List Change
contents i size ranges = map (range_written i) ranges ++ set_size i size ∷ []

-- The world with a file that is made, of a size and with ranges of bytes.
abbrev with_file : World → ℕ → ℕ → List Range → World
with_file s i size ranges = apply_all (make_node i a_file ∷ contents i size ranges) s

-- Its bytes leave the kinds.
contents_kinds : (s : World) (i size : ℕ) (ranges : List Range) (j : ℕ) → kind (apply_all (contents i size ranges) s) j ≡ kind s j
contents_kinds s i size [] j = rewriting-kind (λ bs. resized bs size) s i j
contents_kinds s i size (r ∷ ranges) j = contents_kinds (apply (range_written i r) s) i size ranges j ∙ rewriting-kind (λ bs. overwritten bs r.offset r.bytes) s i j

-- So they leave those that making it gave.
file_kinds : (s : World) (i size : ℕ) (ranges : List Range) (j : ℕ) → kind (with_file s i size ranges) j ≡ kind (apply (make_node i a_file) s) j
file_kinds s i size ranges j = contents_kinds (apply (make_node i a_file) s) i size ranges j

-- The ranges end within the size, and so within the largest.
contents_fit : (i size : ℕ) (ranges : List Range) → All (λ (r : Range). range_end r ≤ size) ranges → size ≤ file_limit → AllOfContents (contents i size ranges)
contents_fit i size [] fits limit = (limit, tt)
contents_fit i size (r ∷ ranges) fits limit =
    let P : Range → Type 0 = λ r. range_end r ≤ size in
    let room = All-head P r ranges fits in
    (omega (arith, room, limit), contents_fit i size ranges (All-tail P r ranges fits) limit)

-- A file that is made leaves a world.
file_made : (t : Recording) (s : World) (i size : ℕ) (ranges : List Range) → IsWorld s → Unused s i → All (λ (r : Range). range_end r ≤ size) ranges × (size ≤ file_limit) → IsWorld (with_file s i size ranges)
file_made t s i size ranges w u fits =
    let made = apply (make_node i a_file) s in
    let world = is_world made (subst IsTree (λ z d n. sym (making-name s i a_file u d n) z) w.tree) (making_sound s i a_file u (sound s w)) in
    (contents_leave t 0 made (contents i size ranges) (contents_fit i size ranges fits.0 fits.1) world).0

-- A number that leads to no node is unused in a world.
unused_there : (s : World) (i : ℕ) → IsWorld s → kind s i ≡ None → Unused s i
unused_there s i w h = unused_number s i w (nothing kind_of_node (get s.nodes i) h)

-- What the number of an item leads to.
abbrev IsMade : World → ℕ → InitialNode → Type 0
IsMade s i Directory = kind s i ≡ Some a_directory
IsMade s i (File size ranges) = kind s i ≡ Some a_file
IsMade s i (OtherName j) = Unit {0}

-- A world of the items so far, whose numbers start at 1; no later number leads to a node.
record IsSoFar (s : World) (items : List Item) : Type 0 where
  is_world : IsWorld s
  made : (k : ℕ) (x : Item) → slice_get items k ≡ Some x → IsMade s (suc k) x.node
  unmade : (j : ℕ) → length items < j → kind s j ≡ None

-- The item of a number that passes a test.
record Found (test : InitialNode → Bool) (items : List Item) (number : ℕ) : Type 0 where
  x : Item
  positive : 1 ≤ number
  at : slice_get items (number - 1) ≡ Some x
  passes : test x.node ≡ true

-- A number of such an item has its item.
found_item : (test : InitialNode → Bool) (items : List Item) (number : ℕ) → is_item test items number ≡ true → Found test items number
found_item test items number h = by (slice_get items (number - 1)) refl (and_parts _ _ h).1
  where
    by : (o : Option Item) → slice_get items (number - 1) ≡ o → (elim o [ None ↦ false | Some i ↦ test i.node ]) ≡ true → Found test items number
    by None e g = absurd (false≢true g)
    by (Some x) e g = record { x = x; positive = leb-true 1 number (and_parts _ _ h).0; at = e; passes = g }

-- In a world of the items so far that item is made.
found_made : (s : World) (test : InitialNode → Bool) (items : List Item) (number : ℕ) → IsSoFar s items → (f : Found test items number) → IsMade s number f.x.node
found_made s test items number so f =
    let positive = f.positive in
    let same : suc (number - 1) ≡ number = omega (arith, positive) in
    subst (λ j. IsMade s j f.x.node) same (so.made (number - 1) f.x f.at)

-- An item that makes a file has made one.
file_there : (s : World) (i : ℕ) (y : InitialNode) → is_file y ≡ true → IsMade s i y → kind s i ≡ Some a_file
file_there s i y h m = grind arith

-- One more item leaves the kinds of the other numbers.
item_kinds : (s : World) (i : ℕ) (path : List ℕ) (x : InitialNode) (j : ℕ) → ¬ (j ≡ i) → kind (with_node s i path x) j ≡ kind s j
item_kinds s i path Directory j h = naming_kinds (apply (make_node i a_directory) s) path i j ∙ making-kind s i a_directory j h
item_kinds s i path (File size ranges) j h = naming_kinds (with_file s i size ranges) path i j ∙ file_kinds s i size ranges j ∙ making-kind s i a_file j h
item_kinds s i path (OtherName k) j h = naming_kinds s path k j

-- One more item makes what it says.
item_made : (s : World) (i : ℕ) (path : List ℕ) (x : InitialNode) → IsMade (with_node s i path x) i x
item_made s i path Directory = naming_kinds (apply (make_node i a_directory) s) path i i ∙ made-kind s i a_directory
item_made s i path (File size ranges) = naming_kinds (with_file s i size ranges) path i i ∙ file_kinds s i size ranges i ∙ made-kind s i a_file
item_made s i path (OtherName k) = tt

-- What an item made stays made where the kind stays.
still_made : (s u : World) (i : ℕ) (y : InitialNode) → kind u i ≡ kind s i → IsMade s i y → IsMade u i y
still_made s u i y e m = grind arith

-- One more item that fits those before it leaves a world.
item_world : (t : Recording) (s : World) (earlier : List Item) (i : ℕ) (path : List ℕ) (x : InitialNode) → IsSoFar s earlier → length earlier < i → NodeFits earlier x → IsWorld (with_node s i path x)
item_world t s earlier i path Directory so later fits = directory_named s path i so.is_world (unused_there s i so.is_world (so.unmade i later))
item_world t s earlier i path (File size ranges) so later fits =
    file_named (with_file s i size ranges) path i (file_made t s i size ranges so.is_world (unused_there s i so.is_world (so.unmade i later)) fits) (file_kinds s i size ranges i ∙ made-kind s i a_file)
item_world t s earlier i path (OtherName j) so later fits =
    let f = found_item is_file earlier j fits in
    file_named s path j so.is_world (file_there s j f.x.node f.passes (found_made s is_file earlier j so f))

-- An item of a list with one more is one of the list or the last.
last_or_earlier : (xs : List Item) (x : Item) (k : ℕ) (y : Item) → slice_get (xs ++ x ∷ []) k ≡ Some y → (slice_get xs k ≡ Some y) ⊎ ((k ≡ length xs) × (x ≡ y))
last_or_earlier [] x zero y h = inr (refl, some_same x y h)
last_or_earlier [] x (suc k) y h = absurd (some_apart (sym h))
last_or_earlier (z ∷ xs) x zero y h = inl h
last_or_earlier (z ∷ xs) x (suc k) y h = elim (last_or_earlier xs x k y h) [ inl a ↦ inl a | inr b ↦ inr (ap suc b.0, b.1) ]

-- One more item that fits those before it leaves a world of the items so far.
item_so_far : (t : Recording) (s : World) (earlier : List Item) (x : Item) (i : ℕ) → i ≡ suc (length earlier) → IsSoFar s earlier → NodeFits earlier x.node → IsSoFar (with_node s i x.path x.node) (earlier ++ x ∷ [])
item_so_far t s earlier x i here so fits = record {
  is_world = item_world t s earlier i x.path x.node so (omega (arith, here)) fits;
  made = λ k y h. elim (last_or_earlier earlier x k y h) [
    | inl a ↦ still_made s after (suc k) y.node (item_kinds s i x.path x.node (suc k) (λ e. absurd (omega (arith, here, e, slice_get_within earlier k y a)))) (so.made k y a)
    | inr b ↦ subst (λ (z : Item). IsMade after (suc k) z.node) b.1 (subst (λ j. IsMade after j x.node) (here ∙ ap suc (sym b.0)) (item_made s i x.path x.node))
  ];
  unmade = λ j h. item_kinds s i x.path x.node j (λ e. absurd (omega (arith, here, e, h, length_push earlier x))) ∙ so.unmade j (omega (arith, h, length_push earlier x));
}
  where
    after : World
    after = with_node s i x.path x.node

-- ---- all items

-- Each item fits those before it.
abbrev AllFit : List Item → Type 0
AllFit items = (before after : List Item) (x : Item) → items ≡ before ++ x ∷ after → NodeFits before x.node

-- Items that fit, each after those before it, leave a world of them all.
items_so_far : (t : Recording) (items : List Item) → AllFit items → (rest earlier : List Item) (s : World) (i : ℕ) → items ≡ earlier ++ rest → i ≡ suc (length earlier) → IsSoFar s earlier → IsSoFar (with_items s i rest) items
items_so_far t items fit [] earlier s i e here so = subst (IsSoFar s) (sym (e ∙ append-nil earlier)) so
items_so_far t items fit (x ∷ rest) earlier s i e here so =
    items_so_far t items fit rest (earlier ++ x ∷ []) (with_node s i x.path x.node) (suc i) (e ∙ sym (append_assoc earlier (x ∷ []) rest)) (omega (arith, here, length_push earlier x))
    (item_so_far t s earlier x i here so (fit earlier rest x e))

-- The root alone is a world of no items.
nothing_made : IsSoFar bare []
nothing_made = record {
  is_world = bare_world;
  made = λ k x h. absurd (some_apart (sym h));
  unmade = λ j h. ap (option_map kind_of_node) (above_bare j h);
}

-- ---- descriptions, slots and descriptors

-- What holds of a value that is put in, and of the others, holds of all.
inserted : {K X : Type 0} {R : K → K → Ordering} (P : X → Type 0) (o : IsTotalOrder R) (m : Table R X) (k : K) (x : X) → P x → ((q : K) → IfSome (get m q) P) → (q : K) → IfSome (get (insert o m k x) q) P
inserted {R = R} P o m k x a b q = subst (λ y. IfSome y P) (sym (get-insert o m k x q)) (elim (eq_by_cmp R q k) as (λ c. IfSome (cond c (Some x) (get m q)) P) [ true ↦ a | false ↦ b q ])

-- What holds of each description of a list holds of those that are looked up.
each_description : (P : Description → Type 0) (ds : List Description) (n : ℕ) → All P ds → (q : ℕ) → IfSome (get (descriptions_from n ds) q) P
each_description P [] n all q = tt
each_description P (d ∷ ds) n all q = inserted P number_keys.total (descriptions_from (suc n) ds) n d (All-head P d ds all) (each_description P ds (suc n) (All-tail P d ds all)) q

-- A description that is numbered is there.
description_there : (ds : List Description) (n q : ℕ) → n ≤ q → q < n + length ds → is_some (get (descriptions_from n ds) q) ≡ true
description_there [] n q low high = absurd (omega (arith, low, high))
description_there (d ∷ ds) n q low high =
    ap is_some (get-insert number_keys.total (descriptions_from (suc n) ds) n d q ∙ ap (λ c. cond c (Some d) (get (descriptions_from (suc n) ds) q)) (unsigned_tied q n))
    ∙ elim (q == n) as (λ b. (q == n) ≡ b → is_some (cond b (Some d) (get (descriptions_from (suc n) ds) q)) ≡ true) [
      | true ↦ λ e. refl
      | false ↦ λ e. let other = eqb-false q n e in description_there ds (suc n) q (omega arith) (omega (arith, high))
    ] refl

-- The slots of a list of numbers up to a limit have descriptions below it.
each_slot : (limit r n : ℕ) (ds : List ℕ) (m : Table pair_cmp ℕ) → All (λ d. d ≤ limit) ds → ((q : ℕ × ℕ) → IfSome (get m q) (λ d. d < limit)) → (q : ℕ × ℕ) → IfSome (get (slots_from r n ds m) q) (λ d. d < limit)
each_slot limit r n [] m all rest q = rest q
each_slot limit r n (zero ∷ ds) m all rest q = each_slot limit r (suc n) ds m (All-tail (λ d. d ≤ limit) zero ds all) rest q
each_slot limit r n (suc d ∷ ds) m all rest q =
    let first = All-head (λ d. d ≤ limit) (suc d) ds all in
    inserted (λ d. d < limit) pair_keys.total (slots_from r (suc n) ds m) (r, n) d (omega (arith, first)) (each_slot limit r (suc n) ds m (All-tail (λ d. d ≤ limit) (suc d) ds all) rest) q

-- So have the slots of rings.
each_ring_slot : (limit r : ℕ) (rings : List Ring) → All (λ (x : Ring). All (λ d. d ≤ limit) x.slots) rings → (q : ℕ × ℕ) → IfSome (get (ring_slots r rings) q) (λ d. d < limit)
each_ring_slot limit r [] all q = tt
each_ring_slot limit r (x ∷ rings) all q =
    let P : Ring → Type 0 = λ x. All (λ d. d ≤ limit) x.slots in
    each_slot limit r 0 x.slots (ring_slots (suc r) rings) (All-head P x rings all) (each_ring_slot limit (suc r) rings (All-tail P x rings all)) q

-- So have the descriptors of a table.
each_descriptor : (limit n : ℕ) (ds : List ℕ) → All (λ d. d ≤ limit) ds → (q : ℕ) → IfSome (get (descriptors_from n ds) q) (λ d. d < limit)
each_descriptor limit n [] all q = tt
each_descriptor limit n (zero ∷ ds) all q = each_descriptor limit (suc n) ds (All-tail (λ d. d ≤ limit) zero ds all) q
each_descriptor limit n (suc d ∷ ds) all q =
    let first = All-head (λ d. d ≤ limit) (suc d) ds all in
    inserted (λ d. d < limit) number_keys.total (descriptors_from (suc n) ds) n d (omega (arith, first)) (each_descriptor limit (suc n) ds (All-tail (λ d. d ≤ limit) (suc d) ds all)) q

-- ---- what a description is of

-- A directory or a file that an item makes is there.
node_there : (s : World) (i : ℕ) (y : InitialNode) → (is_directory y || is_file y) ≡ true → IsMade s i y → is_some (kind s i) ≡ true
node_there s i y h m = grind arith

-- A number of a description leads to a node that is there.
number_leads : (s : World) (items : List Item) (number : ℕ) → IsSoFar s items → is_node items number ≡ true → is_some (kind s number) ≡ true
number_leads s items number so h = elim (or_cases (number == 0) _ h) [
  | inl a ↦ ap is_some (ap (kind s) (eqb-true number 0 a) ∙ so.is_world.root)
  | inr b ↦ (let f = found_item (λ n. is_directory n || is_file n) items number b in
      node_there s number f.x.node f.passes (found_made s (λ n. is_directory n || is_file n) items number so f))
]

-- An item that makes a directory is one.
directory_said : (s : World) (i : ℕ) (y : InitialNode) → (is_directory y || is_file y) ≡ true → IsMade s i y → kind s i ≡ Some a_directory → is_directory y ≡ true
directory_said s i y h m k = grind arith

-- A number of a description that leads to a directory is a directory's.
number_of_directory : (s : World) (items : List Item) (number : ℕ) → IsSoFar s items → is_node items number ≡ true → kind s number ≡ Some a_directory → is_directory_number items number ≡ true
number_of_directory s items number so h k = elim (or_cases (number == 0) _ h) [
  | inl a ↦ or_left (number == 0) _ a
  | inr b ↦ (let f = found_item (λ n. is_directory n || is_file n) items number b in
      let said = directory_said s number f.x.node f.passes (found_made s (λ n. is_directory n || is_file n) items number so f) k in
      or_right (number == 0) _ (and_from _ _ (and_parts _ _ b).0 (ap (λ (o : Option Item). elim o [ None ↦ false | Some i ↦ is_directory i.node ]) f.at ∙ said)))
]

-- ---- the start

-- What holds of a description holds of what it opens.
seen_opened : (s : World) (P : Description → Type 0) (Q : Opened → Type 0) → ((d : Description) → P d → Q (opened_by s d)) → (o : Option Description) → IfSome o P → IfSome (option_map (opened_by s) o) Q
seen_opened s P Q f o h = grind arith

-- A recording that is accepted starts in a world.
pub starts_in_world : (t : Recording) → IsAccepted t → IsWorld (start t)
starts_in_world t accepted = record {
  root = so.is_world.root;
  tree = so.is_world.tree;
  descriptions_lead = λ d. seen_opened (start t) (DescriptionFits t.items) (λ o. is_some o.target.kind ≡ true) (λ x f. number_leads items_in t.items x.node so f.leads) (get (start t).descriptions d) (described d);
  slots_lead = λ r n. IfSome_then (slot (start t) r n) (each_ring_slot (length t.descriptions) 0 t.rings accepted.slots (r, n)) there;
  descriptors_lead = λ n. IfSome_then (descriptor (start t) n) (each_descriptor (length t.descriptions) 0 t.descriptors accepted.descriptors n) there;
  files_fit = so.is_world.files_fit;
  directories_are_read = λ d. seen_opened (start t) (DescriptionFits t.items) (λ o. o.target.kind ≡ Some a_directory → o.access ≡ Access.Read)
      (λ x f k. f.is_read (number_of_directory items_in t.items x.node so f.leads k)) (get (start t).descriptions d) (described d);
  all_shown = so.is_world.all_shown;
}
  where
    items_in : World
    items_in = with_items bare 1 t.items

    so : IsSoFar (with_items bare 1 t.items) t.items
    so = items_so_far t t.items accepted.nodes t.items [] bare 1 refl refl nothing_made

    described : (d : ℕ) → IfSome (get (descriptions_from 0 t.descriptions) d) (DescriptionFits t.items)
    described d = each_description (DescriptionFits t.items) t.descriptions 0 accepted.descriptions d

    mapped : (o : Option Description) → is_some (option_map (opened_by (start t)) o) ≡ is_some o
    mapped o = grind arith

    there : (d : ℕ) → d < length t.descriptions → is_some (opened (start t) d) ≡ true
    there d h = mapped (get (descriptions_from 0 t.descriptions) d) ∙ description_there t.descriptions 0 d (omega arith) (omega (arith, h))
