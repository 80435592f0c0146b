-- What each change leaves of a world.
use Rattle.std.specs.Prelude.{◌≡◌, ℕ, true, cond, ◌==◌, ◌≤◌, List, [], ◌∷◌, Option, Some, None, refl, IfSome}
use Rattle.std.specs.Option.{option_map, is_some}
use Rattle.std.specs.Ordering.{nat_cmp}
use Rattle.std.specs.Cmp.{unsigned_tied}
use mathlib.Core.Path.{sym, ap, ◌∙◌}
use native.Mathlib.Omega.{arith}
use Rattle.trace_format.specs.declared.trace.Access.{Access}
use Rattle.entry_checks.specs.Operation.{file_limit}
use Rattle.finite_maps.specs.Table.{Table, get, get-insert, number_keys, adjust_number}
use Rattle.world_parts.specs.World.{World, IsWorld, kind, name, name_count, others, size, Opened, opened, slot, descriptor, Change, set_name, make_node, set_slot, set_descriptor, make_description, set_position, set_size, write_bytes, zero_bytes, break_chain, new_description, node_of, apply, apply_all}
use Rattle.file_tree.specs.Tree.{IsTree, Kind, a_directory, kind_of_node, Target, new_node, renamed_node, rewritten_node}
use Rattle.extent_bytes.specs.Bytes.{resized, overwritten, zeroed}
use Rattle.world_parts.specs.Items.{slot_at, descriptor_at, description_at, size_of, name_at}
use Rattle.world_parts.proofs.Trees.{some_apart, put}
use Rattle.world_parts.proofs.Changes.{adjusted, opened_kept, rewriting-kind, rewriting-opened, rewriting-others}
use Rattle.world_parts.proofs.ChangesOfNames.{Leads, naming-kind, naming-bytes, naming-others, set_name-value}
use Rattle.world_parts.proofs.ChangesOfMaking.{Unused, making-kind, making-others, making-description, make_node-value, make_description-value, set_slot-value, set_descriptor-value, set_size-value}

-- What a world is apart from its tree.
pub record IsSound (s : World) : Type 0 where
  pub root : kind s 0 ≡ Some a_directory
  pub descriptions_lead : (d : ℕ) → IfSome (opened s d) (λ o. is_some o.target.kind ≡ true)
  pub slots_lead : (r n : ℕ) → IfSome (slot s r n) (λ d. is_some (opened s d) ≡ true)
  pub descriptors_lead : (n : ℕ) → IfSome (descriptor s n) (λ d. is_some (opened s d) ≡ true)
  pub files_fit : (i : ℕ) → IfSome (size s i) (λ n. n ≤ file_limit)
  pub directories_are_read : (d : ℕ) → IfSome (opened s d) (λ o. o.target.kind ≡ Some a_directory → o.access ≡ Access.Read)
  pub all_shown : (d : ℕ) → IfSome (others s d) (λ n. n ≡ 0)

pub sound : (s : World) → IsWorld s → IsSound s
sound s w = record { root = w.root; descriptions_lead = w.descriptions_lead; slots_lead = w.slots_lead; descriptors_lead = w.descriptors_lead; files_fit = w.files_fit; directories_are_read = w.directories_are_read; all_shown = w.all_shown }

pub is_world : (s : World) → IsTree (name s) → IsSound s → IsWorld s
is_world s t w = record { root = w.root; tree = t; descriptions_lead = w.descriptions_lead; slots_lead = w.slots_lead; descriptors_lead = w.descriptors_lead; files_fit = w.files_fit; directories_are_read = w.directories_are_read; all_shown = w.all_shown }

-- A change that keeps what is opened, the files' sizes in bounds and all names shown.
pub sound_kept : (s u : World) → kind u 0 ≡ kind s 0 → ((d : ℕ) → opened u d ≡ opened s d) → ((r n : ℕ) → slot u r n ≡ slot s r n) → ((n : ℕ) → descriptor u n ≡ descriptor s n) → ((i : ℕ) → IfSome (size u i) (λ n. n ≤ file_limit)) → ((e : ℕ) → IfSome (others u e) (λ n. n ≡ 0)) → IsSound s → IsSound u
sound_kept s u k o l d z a w = record {
  root = k ∙ w.root;
  descriptions_lead = λ e. grind (arith, o e, w.descriptions_lead e);
  slots_lead = λ r n. grind (arith, l r n, o, w.slots_lead r n);
  descriptors_lead = λ n. grind (arith, d n, o, w.descriptors_lead n);
  files_fit = z;
  directories_are_read = λ e. grind (arith, o e, w.directories_are_read e);
  all_shown = a;
}

pub naming_sound : (s : World) (d : ℕ) (n : List ℕ) (x : Option Target) → IsSound s → IsSound (apply (set_name d n x) s)
naming_sound s d n x w =
    sound_kept s (apply (set_name d n x) s) (naming-kind n x s d 0) (opened_kept s (adjust_number (renamed_node n (node_of x)) s.nodes d) (naming-kind n x s d))
    (λ r m. refl) (λ m. refl)
    (λ i. grind (arith, naming-bytes n x s d i, w.files_fit i)) (λ i. grind (arith, naming-others n x s d i, w.all_shown i)) w

pub naming_names : (s : World) (d : ℕ) (n : List ℕ) (x : Option Target) → Leads s x → (e : ℕ) (m : List ℕ) → name (apply (set_name d n x) s) e m ≡ put (name s) d n (cond (is_some (name_count s d)) x None) e m
naming_names s d n x h e m = set_name-value n x s d (name_at e m) h

pub making_sound : (s : World) (i : ℕ) (k : Kind) → Unused s i → IsSound s → IsSound (apply (make_node i k) s)
making_sound s i k u w =
    sound_kept s (apply (make_node i k) s) (making-kind s i k 0 (λ e. some_apart (sym w.root ∙ ap (kind s) e ∙ ap (option_map kind_of_node) u.no_node)))
    (making-description s i k u) (λ r m. refl) (λ m. refl)
    (λ j. grind (arith, make_node-value s i k (size_of j) u, w.files_fit j)) (λ j. making-others s i k j (w.all_shown j)) w

pub sizing_sound : (s : World) (i n : ℕ) → n ≤ file_limit → IsSound s → IsSound (apply (set_size i n) s)
sizing_sound s i n h w =
    sound_kept s (apply (set_size i n) s) (rewriting-kind (λ bs. resized bs n) s i 0) (rewriting-opened (λ bs. resized bs n) s i) (λ r m. refl) (λ m. refl)
    (λ j. grind (arith, set_size-value s i n (size_of j), w.files_fit j)) (λ j. grind (arith, rewriting-others (λ bs. resized bs n) s i j, w.all_shown j)) w

-- A description that is made leads to a node that is there, and reads a directory only.
pub describing_sound : (s : World) (n : ℕ) (o : Opened) → kind s o.target.node ≡ o.target.kind → is_some o.target.kind ≡ true → (o.target.kind ≡ Some a_directory → o.access ≡ Access.Read) → IsSound s → IsSound (apply (make_description n o) s)
describing_sound s n o h l r w = record {
  root = w.root;
  descriptions_lead = λ e. grind (arith, seen e, w.descriptions_lead e);
  slots_lead = λ q m. grind (arith, seen, w.slots_lead q m);
  descriptors_lead = λ m. grind (arith, seen, w.descriptors_lead m);
  files_fit = w.files_fit;
  directories_are_read = λ e. grind (arith, seen e, w.directories_are_read e);
  all_shown = w.all_shown;
}
  where
    seen : (e : ℕ) → opened (apply (make_description n o) s) e ≡ cond (e == n) (Some o) (opened s e)
    seen e = make_description-value s n o (description_at e) h

-- A slot, and a descriptor, that is filled with a description that is there, or emptied.
pub slotting_sound : (s : World) (r n : ℕ) (x : Option ℕ) → IfSome x (λ d. is_some (opened s d) ≡ true) → IsSound s → IsSound (apply (set_slot r n x) s)
slotting_sound s r n x h w = record {
  root = w.root;
  descriptions_lead = w.descriptions_lead;
  slots_lead = λ q m. grind (arith, set_slot-value s r n x (slot_at q m), w.slots_lead q m);
  descriptors_lead = w.descriptors_lead;
  files_fit = w.files_fit;
  directories_are_read = w.directories_are_read;
  all_shown = w.all_shown;
}

pub holding_sound : (s : World) (n : ℕ) (x : Option ℕ) → IfSome x (λ d. is_some (opened s d) ≡ true) → IsSound s → IsSound (apply (set_descriptor n x) s)
holding_sound s n x h w = record {
  root = w.root;
  descriptions_lead = w.descriptions_lead;
  slots_lead = w.slots_lead;
  descriptors_lead = λ m. grind (arith, set_descriptor-value s n x (descriptor_at m), w.descriptors_lead m);
  files_fit = w.files_fit;
  directories_are_read = w.directories_are_read;
  all_shown = w.all_shown;
}

pub breaking_world : (s : World) (c : ℕ) (b : Rattle.world_parts.specs.World.Broken) → IsWorld s → IsWorld (apply (break_chain c b) s)
breaking_world s c b w = record { root = w.root; tree = w.tree; descriptions_lead = w.descriptions_lead; slots_lead = w.slots_lead; descriptors_lead = w.descriptors_lead; files_fit = w.files_fit; directories_are_read = w.directories_are_read; all_shown = w.all_shown }

-- Changes make no other node and description than those of the numbers.
abbrev pub MakesOnly : ℕ → ℕ → Change → Type 0
MakesOnly i d (make_node j k) = j ≡ i
MakesOnly i d (make_description e o) = e ≡ d
MakesOnly i d _ = Unit {0}

abbrev pub AllMakeOnly : ℕ → ℕ → List Change → Type 0
AllMakeOnly i d [] = Unit {0}
AllMakeOnly i d (c ∷ cs) = MakesOnly i d c × AllMakeOnly i d cs

still_none : {X : Type 0} (f : X → X) (m : Table nat_cmp X) (k q : ℕ) → get m q ≡ None → get (adjust_number f m k) q ≡ None
still_none f m k q h = grind (arith, adjusted f m k q)

elsewhere : {X : Type 0} (m : Table nat_cmp X) (k q : ℕ) (x : X) → ¬ (q ≡ k) → get m q ≡ None → get (Rattle.finite_maps.specs.Table.insert number_keys.total m k x) q ≡ None
elsewhere m k q x n h = grind (arith, get-insert number_keys.total m k x q, unsigned_tied)

pub unmade_node : (s : World) (c : Change) (i d j : ℕ) → MakesOnly i d c → ¬ (j ≡ i) → get s.nodes j ≡ None → get (apply c s).nodes j ≡ None
unmade_node s (set_name e n x) i d j m a h = still_none (renamed_node n (node_of x)) s.nodes e j h
unmade_node s (make_node e k) i d j m a h = elsewhere s.nodes e j (new_node k) (λ q. a (q ∙ m)) h
unmade_node s (set_size e n) i d j m a h = still_none (rewritten_node (λ bs. resized bs n)) s.nodes e j h
unmade_node s (write_bytes e at new) i d j m a h = still_none (rewritten_node (λ bs. overwritten bs at new)) s.nodes e j h
unmade_node s (zero_bytes e low high) i d j m a h = still_none (rewritten_node (λ bs. zeroed bs low high)) s.nodes e j h
unmade_node s _ i d j m a h = h

pub unmade_description : (s : World) (c : Change) (i d j : ℕ) → MakesOnly i d c → ¬ (j ≡ d) → get s.descriptions j ≡ None → get (apply c s).descriptions j ≡ None
unmade_description s (make_description e o) i d j m a h = elsewhere s.descriptions e j (new_description o) (λ q. a (q ∙ m)) h
unmade_description s (set_position e p) i d j m a h = still_none (λ x. record x { position = p }) s.descriptions e j h
unmade_description s _ i d j m a h = h

pub all_unmade : (s : World) (cs : List Change) (i d j e : ℕ) → AllMakeOnly i d cs → ¬ (j ≡ i) → ¬ (e ≡ d) → get s.nodes j ≡ None → get s.descriptions e ≡ None → (get (apply_all cs s).nodes j ≡ None) × (get (apply_all cs s).descriptions e ≡ None)
all_unmade s [] i d j e m a b h g = (h, g)
all_unmade s (c ∷ cs) i d j e m a b h g = all_unmade (apply c s) cs i d j e m.1 a b (unmade_node s c i d j m.0 a h) (unmade_description s c i d e m.0 b g)
