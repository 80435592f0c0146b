-- The image of a world that lacks what nothing leads to is that of the whole world.
use Rattle.std.specs.Prelude.{◌≡◌, ℕ, zero, suc, ◌≤◌, List, [], ◌∷◌, ◌++◌, map, length, Option, Some, None, IfSome, IsSome, refl}
use Rattle.std.specs.List.{All, flat_map}
use Rattle.std.specs.Option.{option_map, option_and_then}
use mathlib.Core.Path.{sym, subst, ap, ◌∙◌}
use mathlib.Core.Logic.{inl, inr}
use native.Mathlib.Omega.{arith}
use Rattle.sqe_codec.specs.Answers.{each}
use Rattle.finite_maps.specs.Table.{empty, get, count, number_keys, pair_keys, text_keys}
use Rattle.file_tree.specs.Tree.{Tree, Names, Node, names, names_of_node, bytes_of_node, kind_of_node, target}
use Rattle.world_parts.specs.World.{World, IsWorld, opened_by}
use Rattle.world_parts.specs.Image.{image_of, all_paths, paths_below, by_path, name_entry, slot_entry, descriptor_entry, buffer_entry}
use Rattle.world_parts.specs.Pending.{paths_at}
use Rattle.world_parts.specs.declared.image.NameEntry.{NameEntry}
use Rattle.world_parts.proofs.Members.{In, contained, in_map, get_entry}
use Rattle.world_parts.proofs.Trees.{some_apart}
use Rattle.world_parts.proofs.Ways.{Leads, looked, tree_has_no_loop, leads_short}
use Rattle.world_parts.proofs.Listed.{way_of_listed, from_by_path}
use Rattle.sweep_laws.specs.Within.{IsWithin}

-- Lists that are made of the elements of one, by functions that agree there.

flat_map_alike : {A B : Type 0} (f g : A → List B) (xs : List A) → ((x : A) → In x xs → f x ≡ g x) → flat_map f xs ≡ flat_map g xs
flat_map_alike f g [] h = refl
flat_map_alike f g (x ∷ xs) h = ap (λ l. l ++ flat_map f xs) (h x (inl refl)) ∙ ap (λ l. g x ++ l) (flat_map_alike f g xs (λ y m. h y (inr m)))

map_alike : {A B : Type 0} (f g : A → B) (xs : List A) → ((x : A) → In x xs → f x ≡ g x) → map f xs ≡ map g xs
map_alike f g [] h = refl
map_alike f g (x ∷ xs) h = ap (λ y. y ∷ map f xs) (h x (inl refl)) ∙ ap (λ l. g x ∷ l) (map_alike f g xs (λ y m. h y (inr m)))

pub flat_map_same : {A B : Type 0} (P : A → Type 0) (f g : A → List B) (xs : List A) → All P xs → ((x : A) → P x → f x ≡ g x) → flat_map f xs ≡ flat_map g xs
flat_map_same P f g xs all h = flat_map_alike f g xs (λ x m. (let c = contained x xs m in h x (subst P c.2 (all c.0 x c.1))))

none_in : {A : Type 0} (xs : List A) → ((x : A) → In x xs → ⊥) → xs ≡ []
none_in [] h = refl
none_in (x ∷ xs) h = absurd (h x (inl refl))

-- Values that are there.

some_there : {A : Type 0} (o : Option A) (x : A) → o ≡ Some x → IsSome o
some_there o x h = grind arith

unmapped : {A B : Type 0} (f : A → B) (o : Option A) → IsSome (option_map f o) → IsSome o
unmapped f o h = grind arith

module _ (tree : Tree) where
  looked_there : (d : ℕ) (n : List ℕ) (i : ℕ) → looked tree d n ≡ Some i → IsSome (get tree d)
  looked_there d n i h = grind arith

  entry_looked : (o : Option Names) (e : List ℕ × ℕ) → In e (each (λ (ns : Names). ns.entries) o) → option_and_then (λ (ns : Names). get ns e.0) o ≡ Some e.1
  entry_looked None e h = absurd h
  entry_looked (Some ns) e h = get_entry text_keys ns e.0 e.1 h

  abbrev entries_of : ℕ → List (List ℕ × ℕ)
  entries_of d = each (λ (ns : Names). ns.entries) (names tree d)

  -- Names lead no further from a directory than so many levels.
  abbrev IsWithinLevels : ℕ → ℕ → Type 0
  IsWithinLevels d levels = (ns : List (List ℕ)) (i : ℕ) → Leads tree d ns i → length ns ≤ levels

  level_below : (d levels : ℕ) (e : List ℕ × ℕ) → In e (entries_of d) → IsWithinLevels d (suc levels) → IsWithinLevels e.1 levels
  level_below d levels e m h ns i l =
      let k : length (e.0 ∷ ns) ≤ suc levels = h (e.0 ∷ ns) i (e.1, entry_looked (names tree d) e m, l) in
      omega arith

  no_level : (d : ℕ) (e : List ℕ × ℕ) → In e (entries_of d) → IsWithinLevels d 0 → ⊥
  no_level d e m h =
      let k : length (e.0 ∷ []) ≤ 0 = h (e.0 ∷ []) e.1 (e.1, entry_looked (names tree d) e m, refl) in
      omega arith

  -- More levels than there are list no more.
  same_levels : (l m : ℕ) (path : List ℕ) (d : ℕ) → IsWithinLevels d l → IsWithinLevels d m → paths_below l tree path d ≡ paths_below m tree path d
  same_levels zero zero path d h k = refl
  same_levels zero (suc m) path d h k = sym (ap (flat_map (paths_at m tree path)) (none_in (entries_of d) (λ e at. no_level d e at h)))
  same_levels (suc l) zero path d h k = ap (flat_map (paths_at l tree path)) (none_in (entries_of d) (λ e at. no_level d e at k))
  same_levels (suc l) (suc m) path d h k =
      flat_map_alike (paths_at l tree path) (paths_at m tree path) (entries_of d)
      (λ e at. ap (λ (ps : List (List ℕ × ℕ)). (path ++ 47 ∷ e.0, e.1) ∷ ps) (same_levels l m (path ++ 47 ∷ e.0) e.1 (level_below d l e at h) (level_below d m e at k)))

module _ (started : ℕ) (s w : World) (within : IsWithin started s w) where
  -- What a name leads to is there.
  next_there : (d : ℕ) (n : List ℕ) (i : ℕ) → looked w.nodes d n ≡ Some i → IsSome (get w.nodes i)
  next_there d n i h =
      let lead : IfSome (option_map (target w.nodes) (looked w.nodes d n)) (λ t. IsSome t.kind) = within.is_world.tree.names_lead d n in
      let kind_there : IsSome (option_map kind_of_node (get w.nodes i)) = subst (λ o. IfSome (option_map (target w.nodes) o) (λ t. IsSome t.kind)) h lead in
      unmapped kind_of_node (get w.nodes i) kind_there

  end_there : (d : ℕ) (ns : List (List ℕ)) (i : ℕ) → IsSome (get w.nodes d) → Leads w.nodes d ns i → IsSome (get w.nodes i)
  end_there d [] i h l = subst (λ k. IsSome (get w.nodes k)) l h
  end_there d (n ∷ ns) i h l = end_there l.0 ns i (next_there d n l.0 l.1) l.2

  root_there : IsSome (get w.nodes 0)
  root_there = unmapped kind_of_node (get w.nodes 0) (some_there (option_map kind_of_node (get w.nodes 0)) _ within.is_world.root)

  -- Names lead in the whole world where they lead here.
  looked_whole : (d : ℕ) (n : List ℕ) (i : ℕ) → looked w.nodes d n ≡ Some i → looked s.nodes d n ≡ Some i
  looked_whole d n i h =
      ap (λ (o : Option Node). option_and_then (λ (ns : Names). get ns n) (option_and_then names_of_node o)) (sym (within.nodes d (looked_there w.nodes d n i h))) ∙ h

  leads_whole : (d : ℕ) (ns : List (List ℕ)) (i : ℕ) → Leads w.nodes d ns i → Leads s.nodes d ns i
  leads_whole d [] i l = l
  leads_whole d (n ∷ ns) i l = (l.0, looked_whole d n l.0 l.1, leads_whole l.0 ns i l.2)

  -- The same names are listed below a directory that both have.
  alike_below : (levels : ℕ) (path : List ℕ) (d : ℕ) → IsSome (get w.nodes d) → paths_below levels w.nodes path d ≡ paths_below levels s.nodes path d
  alike_below zero path d h = refl
  alike_below (suc levels) path d h =
      flat_map_alike (paths_at levels w.nodes path) (paths_at levels s.nodes path) (entries_of w.nodes d)
      (λ e at. ap (λ (ps : List (List ℕ × ℕ)). (path ++ 47 ∷ e.0, e.1) ∷ ps) (alike_below levels (path ++ 47 ∷ e.0) e.1 (next_there d e.0 e.1 (entry_looked w.nodes (names w.nodes d) e at))))
      ∙ ap (λ (o : Option Node). flat_map (paths_at levels s.nodes path) (each (λ (ns : Names). ns.entries) (option_and_then names_of_node o))) (within.nodes d h)

  all_paths_same : IsWorld s → all_paths w.nodes ≡ all_paths s.nodes
  all_paths_same is_world =
      let here : IsWithinLevels w.nodes 0 (count w.nodes) = λ ns i l. leads_short ns w.nodes (tree_has_no_loop w.nodes within.is_world.tree) 0 i l in
      let whole : IsWithinLevels w.nodes 0 (count s.nodes) = λ ns i l. leads_short ns s.nodes (tree_has_no_loop s.nodes is_world.tree) 0 i (leads_whole 0 ns i l) in
      ap (by_path empty) (same_levels w.nodes (count w.nodes) (count s.nodes) [] 0 here whole ∙ alike_below (count s.nodes) [] 0 root_there)

  -- A path that is shown leads to a node that is there.
  listed_there : (e : List ℕ × ℕ) → In e (all_paths w.nodes).entries → IsSome (get w.nodes e.1)
  listed_there e m = elim (from_by_path empty (paths_below (count w.nodes) w.nodes [] 0) e.0 e.1 (get_entry text_keys (all_paths w.nodes) e.0 e.1 m)) [
    | inl h ↦ (let v = way_of_listed w.nodes (count w.nodes) [] 0 e.0 e.1 h in end_there 0 (v.0 ∷ v.1) e.1 root_there v.3)
    | inr h ↦ absurd (some_apart (sym h))
  ]

  -- Each name that is shown leads to a node that both have alike.
  pub names_alike : (e : NameEntry) → In e (image_of w).names → get w.nodes e.node ≡ get s.nodes e.node
  names_alike e m =
      let r = in_map (name_entry w.nodes) e (all_paths w.nodes).entries m in
      subst (λ (x : NameEntry). get w.nodes x.node ≡ get s.nodes x.node) r.2 (within.nodes r.0.1 (listed_there r.0 r.1))

  names_same : IsWorld s → (image_of w).names ≡ (image_of s).names
  names_same is_world =
      map_alike (name_entry w.nodes) (name_entry s.nodes) (all_paths w.nodes).entries (λ e m. ap (entry_at e) (within.nodes e.1 (listed_there e m)))
      ∙ ap (λ t. map (name_entry s.nodes) t.entries) (all_paths_same is_world)
    where
      entry_at : List ℕ × ℕ → Option Node → NameEntry
      entry_at e o = record { path = e.0; node = e.1; size = option_map length (option_and_then bytes_of_node o) }

  -- What slots and descriptors hold.

  opened_there : (o : Option ℕ) (d : ℕ) → o ≡ Some d → IfSome o (λ d. IsSome (option_map (opened_by w) (get w.descriptions d))) → get w.descriptions d ≡ get s.descriptions d
  opened_there o d e h = within.descriptions d (unmapped (opened_by w) (get w.descriptions d) (subst (λ o. IfSome o (λ d. IsSome (option_map (opened_by w) (get w.descriptions d)))) e h))

  slots_same : (image_of w).slots ≡ (image_of s).slots
  slots_same =
      flat_map_alike (λ e. each (λ d. slot_entry e d ∷ []) (get w.descriptions e.1)) (λ e. each (λ d. slot_entry e d ∷ []) (get s.descriptions e.1)) w.slots.entries
      (λ e m. ap (each (λ d. slot_entry e d ∷ [])) (opened_there (get w.slots e.0) e.1 (get_entry pair_keys w.slots e.0 e.1 m) (within.is_world.slots_lead e.0.0 e.0.1)))
      ∙ ap (λ t. flat_map (λ e. each (λ d. slot_entry e d ∷ []) (get s.descriptions e.1)) t.entries) within.slots

  descriptors_same : (image_of w).descriptors ≡ (image_of s).descriptors
  descriptors_same =
      flat_map_alike (λ e. each (λ d. descriptor_entry e d ∷ []) (get w.descriptions e.1)) (λ e. each (λ d. descriptor_entry e d ∷ []) (get s.descriptions e.1)) w.descriptors.entries
      (λ e m. ap (each (λ d. descriptor_entry e d ∷ [])) (opened_there (get w.descriptors e.0) e.1 (get_entry number_keys w.descriptors e.0 e.1 m) (within.is_world.descriptors_lead e.0)))
      ∙ ap (λ t. flat_map (λ e. each (λ d. descriptor_entry e d ∷ []) (get s.descriptions e.1)) t.entries) within.descriptors

  buffers_same : (image_of w).buffers ≡ (image_of s).buffers
  buffers_same = ap (λ t. map buffer_entry t.entries) within.buffers

-- The image is the same.
pub image_same : (started : ℕ) (s w : World) → IsWorld s → IsWithin started s w → image_of w ≡ image_of s
image_same started s w is_world within = λ k. record {
  names = names_same started s w within is_world k;
  slots = slots_same started s w within k;
  descriptors = descriptors_same started s w within k;
  buffers = buffers_same started s w within k;
}
