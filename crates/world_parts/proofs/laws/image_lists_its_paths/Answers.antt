use Rattle.std.specs.Prelude.{◌≡◌, ℕ, List, [], ◌∷◌, refl}
use mathlib.Core.Path.{sym, subst, ap, ◌∙◌}
use mathlib.Core.Logic.{inl, inr}
use Rattle.sqe_codec.specs.declared.errno.Errno.TheVariants.{EBADF}
use Rattle.sqe_codec.specs.Answers.{◌>>◌, require}
use Rattle.trace_format.specs.Paths.{components}
use Rattle.finite_maps.specs.Table.{empty, count, text_keys}
use Rattle.file_tree.specs.Walk.{walk_from}
use Rattle.world_parts.specs.World.{World, IsWorld}
use Rattle.world_parts.specs.Image.{all_paths, paths_below, name_entry}
use Rattle.world_parts.specs.Paths.{path_of, come_to, led_to, HasFileNames, Lists, IsPathTo}
use Rattle.world_parts.specs.declared.image.NameEntry.{NameEntry}
use Rattle.world_parts.proofs.Members.{In, contained, element, in_map, in_map-at, entry_of, get_entry}
use Rattle.world_parts.proofs.Ways.{Leads, leads_one, tree_has_no_loop, leads_short, walk_of_leads, leads_of_walk}
use Rattle.world_parts.proofs.Listed.{all_fit, components_of, names_led, way_of_listed, listed_of_way, from_by_path, in_by_path}
use Rattle.world_parts.proofs.laws.image_lists_its_paths.Goals as goal
use Rattle.world_parts.proofs.Trees.{some_apart}
use mathlib.Core.Bool.{or-true}

module _ (s : World) (w : IsWorld s) (f : HasFileNames s) (p : List ℕ) (i : ℕ) where
  abbrev listed : List (List ℕ × ℕ)
  listed = paths_below (count s.nodes) s.nodes [] 0

  walked : led_to s p ≡ come_to (walk_from s.nodes 0 (components p))
  walked = ap (λ b. come_to (require b EBADF >> walk_from s.nodes 0 (components p))) (or-true _)

  -- a listed path with its names
  way : (j : ℕ) → In (p, j) listed → (n : List ℕ) × (ns : List (List ℕ)) × (path_of (n ∷ ns) ≡ p) × Leads s.nodes 0 (n ∷ ns) j
  way j h = way_of_listed s.nodes (count s.nodes) [] 0 p j h

  names_of : (j : ℕ) (n : List ℕ) (ns : List (List ℕ)) → path_of (n ∷ ns) ≡ p → Leads s.nodes 0 (n ∷ ns) j → components p ≡ n ∷ ns
  names_of j n ns e h = ap components (sym e) ∙ components_of (n ∷ ns) (names_led s f 0 (n ∷ ns) j h)

  is_path : In (p, i) listed → IsPathTo s p i
  is_path h =
      let v = way i h in
      let names = names_of i v.0 v.1 v.2 v.3 in
      (ap path_of names ∙ v.2, walked ∙ ap (λ (ns : List (List ℕ)). come_to (walk_from s.nodes 0 ns)) names ∙ walk_of_leads s.nodes 0 v.0 v.1 i (all_fit (v.0 ∷ v.1) (names_led s f 0 (v.0 ∷ v.1) i v.3)) v.3)

  listed_path : Lists s p i → IsPathTo s p i
  listed_path c =
      let m = in_map (name_entry s.nodes) (name_entry s.nodes (p, i)) (all_paths s.nodes).entries (element (name_entry s.nodes (p, i)) _ c) in
      let here : In (p, i) (all_paths s.nodes).entries = subst (λ (e : List ℕ × ℕ). In e (all_paths s.nodes).entries) (λ z. (ap (λ (e : NameEntry). e.path) m.2 z, ap (λ (e : NameEntry). e.node) m.2 z)) m.1 in
      elim (from_by_path empty listed p i (get_entry text_keys (all_paths s.nodes) p i here)) [ inl h ↦ is_path h | inr h ↦ absurd (some_apart (sym h)) ]

  path_listed : IsPathTo s p i → Lists s p i
  path_listed h = by (components p) refl (leads_of_walk s.nodes 0 (components p) i (sym walked ∙ h.1))
    where
      by : (ns : List (List ℕ)) → components p ≡ ns → Leads s.nodes 0 ns i → Lists s p i
      by [] e l = absurd (some_apart (sym (sym (walked ∙ ap (λ (ns : List (List ℕ)). come_to (walk_from s.nodes 0 ns)) e) ∙ h.1)))
      by (n ∷ ns) e l =
          let short = leads_short (n ∷ ns) s.nodes (tree_has_no_loop s.nodes w.tree) 0 i l in
          let full : path_of (n ∷ ns) ≡ p = ap path_of (sym e) ∙ h.0 in
          let here : In (p, i) listed = subst (λ (q : List ℕ). In (q, i) listed) full (listed_of_way s.nodes (count s.nodes) [] 0 n ns i short l) in
          let one : (j : ℕ) → In (p, j) listed → j ≡ i = λ j k. (let v = way j k in leads_one s.nodes 0 (n ∷ ns) j i (subst (λ (ms : List (List ℕ)). Leads s.nodes 0 ms j) (sym (names_of j v.0 v.1 v.2 v.3) ∙ e) v.3) l) in
          contained (name_entry s.nodes (p, i)) _ (in_map-at (name_entry s.nodes) (p, i) (all_paths s.nodes).entries (entry_of text_keys (all_paths s.nodes) p i (in_by_path empty listed p i one (inl here))))

pub returns : goal.returns
returns c = λ s w f p i. (listed_path s w f p i, path_listed s w f p i)
