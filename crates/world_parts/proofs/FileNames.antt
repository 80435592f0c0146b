-- Names are names of files: at the start, and after changes that set no others.
use Rattle.std.specs.Prelude.{◌≡◌, ℕ, suc, ◌==◌, Bool, not, nat_le, ◌&&◌, ◌⊎◌, T, List, [], ◌∷◌, ◌++◌, length, map, filter, Option, Some, None, Result, Ok, Err, refl}
use Rattle.std.specs.List.{list_all, onto_first}
use Rattle.std.specs.Option.{option_map}
use mathlib.Core.Path.{sym}
use native.Mathlib.Omega.{arith}
use Rattle.extent_bytes.specs.Bytes.{overwritten, resized, zeroed}
use Rattle.sqe_codec.specs.declared.errno.Errno.{Errno}
use Rattle.recording.specs.declared.recording.Recording.{Recording}
use Rattle.trace_records.specs.declared.start.Item as initial_item
use Rattle.trace_records.specs.declared.start.Node as initial_node
use Rattle.trace_records.specs.declared.start.Node.TheVariants.{Directory, File, OtherName}
use Rattle.trace_records.specs.declared.start.Range.{Range}
use Rattle.trace_format.specs.Paths.{components, runs, has_slash}
use Rattle.entry_checks.specs.Operation.{Path}
use Rattle.finite_maps.specs.Table.{empty, get, insert, get-assign, get-insert, adjust_number, number_keys, text_keys}
use Rattle.file_tree.specs.Tree.{Tree, Node, directory, target, Kind, a_directory, a_file, new_node, renamed_node, rewritten_node}
use Rattle.file_tree.specs.Found.{node_of}
use Rattle.file_tree.specs.Walk.{Place, walk_from, walk}
use Rattle.world_parts.specs.World.{World, Change, set_name, make_node, set_slot, set_descriptor, make_description, set_position, set_size, write_bytes, zero_bytes, write_buffer, break_chain, apply, apply_all}
use Rattle.world_parts.specs.Start.{start, with_items, with_node, name_at, range_written, bare}
use Rattle.world_parts.specs.Paths.{is_file_name, HasFileNames}
use Rattle.world_parts.proofs.Collision.{right}
use Rattle.world_parts.proofs.Raw.{entry}
use Rattle.world_parts.proofs.Changes.{adjusted}
use Rattle.world_parts.proofs.Ways.{looked}
use Rattle.world_parts.proofs.Trees.{some_apart}

-- a name that leads somewhere is the name of a file
abbrev pub Named : Tree → Type 0
Named tree = (d : ℕ) (n : List ℕ) (i : ℕ) → looked tree d n ≡ Some i → T (is_file_name n)

pub has_file_names : (s : World) → Named s.nodes → HasFileNames s
has_file_names s h d n = grind (arith, h d n)

-- Walks.

abbrev is_plain : List ℕ → Bool
is_plain n = not (has_slash n)

abbrev is_good : List ℕ → Bool
is_good n = nat_le 1 (length n) && is_plain n

plain_first : (b : ℕ) (ns : List (List ℕ)) → T (not (b == 47)) → T (list_all is_plain ns) → T (list_all is_plain (onto_first b ns))
plain_first b ns e h = grind arith

plain_runs : (bs : List ℕ) → T (list_all is_plain (runs bs))
plain_runs [] = tt
plain_runs (b ∷ bs) = grind (arith, plain_runs bs, plain_first b (runs bs))

good_kept : (ns : List (List ℕ)) → T (list_all is_plain ns) → T (list_all is_good (filter (λ run. not (length run == 0)) ns))
good_kept [] h = tt
good_kept (n ∷ ns) h = grind (arith, good_kept ns)

walked_on : (tree : Tree) (d : ℕ) (n m : List ℕ) (ns : List (List ℕ)) (p : Place) → walk_from tree d (n ∷ m ∷ ns) ≡ Ok p
    → (e : ℕ) × (walk_from tree e (m ∷ ns) ≡ Ok p)
walked_on tree d n m ns p h = grind arith

named_walk : (tree : Tree) (d : ℕ) (ns : List (List ℕ)) → T (list_all is_good ns) → (p : Place) → walk_from tree d ns ≡ Ok p → T (is_file_name p.name)
named_walk tree d [] h p e = grind arith
named_walk tree d (n ∷ []) h p e = grind arith
named_walk tree d (n ∷ m ∷ ns) h p e = let w = walked_on tree d n m ns p e in named_walk tree w.0 (m ∷ ns) (right (is_good n) _ h) p w.1

named_way : (tree : Tree) (path : List ℕ) (p : Place) → walk_from tree 0 (components path) ≡ Ok p → T (is_file_name p.name)
named_way tree path = named_walk tree 0 (components path) (good_kept (runs path) (plain_runs path))

-- the last name of a walk is the name of a file
pub named_place : (tree : Tree) (path : Path) (p : Place) → walk tree path ≡ Ok p → T (is_file_name p.name)
named_place tree path p e = named_way tree path.text p (grind arith)

-- Changes.

-- a change that sets no other names
abbrev pub IsNaming : Change → Type 0
IsNaming (set_name d n x) = T (is_file_name n)
IsNaming _ = Unit {0}

abbrev pub AllNaming : List Change → Type 0
AllNaming [] = Unit {0}
AllNaming (c ∷ cs) = IsNaming c × AllNaming cs

-- where the names of a node stay, or only names of files come
named_adjusted : (f : Node → Node) (tree : Tree) (d : ℕ)
    → ((o : Option Node) (m : List ℕ) (i : ℕ) → entry (option_map f o) m ≡ Some i → T (is_file_name m) ⊎ (entry o m ≡ Some i)) → Named tree
    → Named (adjust_number f tree d)
named_adjusted f tree d kept h e m i l = grind (arith, adjusted f tree d e, kept (get tree e) m i, h e m i)

renamed : (n : List ℕ) (x : Option ℕ) → T (is_file_name n) → (o : Option Node) (m : List ℕ) (i : ℕ) → entry (option_map (renamed_node n x) o) m ≡ Some i
    → T (is_file_name m) ⊎ (entry o m ≡ Some i)
renamed n x good o m i h = grind (arith, get-assign {X = ℕ} text_keys.total, text_keys.same)

rewritten : (f : List ℕ → List ℕ) (o : Option Node) (m : List ℕ) (i : ℕ) → entry (option_map (rewritten_node f) o) m ≡ Some i
    → T (is_file_name m) ⊎ (entry o m ≡ Some i)
rewritten f o m i h = grind arith

-- a node without names that is made
named_made : (tree : Tree) (d : ℕ) (x : Node) → ((m : List ℕ) → entry (Some x) m ≡ None) → Named tree → Named (insert number_keys.total tree d x)
named_made tree d x none h e m i l = grind (arith, get-insert number_keys.total tree d x e, none m, h e m i)

made : (k : Kind) (m : List ℕ) → entry (Some (new_node k)) m ≡ None
made k m = grind arith

pub named_change : (s : World) (c : Change) → IsNaming c → Named s.nodes → Named (apply c s).nodes
named_change s (set_name d n x) good h = named_adjusted (renamed_node n (node_of x)) s.nodes d (renamed n (node_of x) good) h
named_change s (make_node i k) good h = named_made s.nodes i (new_node k) (made k) h
named_change s (set_slot r n d) good h = h
named_change s (set_descriptor n d) good h = h
named_change s (make_description n o) good h = h
named_change s (set_position d p) good h = h
named_change s (set_size i n) good h = named_adjusted (rewritten_node (λ bs. resized bs n)) s.nodes i (rewritten (λ bs. resized bs n)) h
named_change s (write_bytes i at new) good h = named_adjusted (rewritten_node (λ bs. overwritten bs at new)) s.nodes i (rewritten (λ bs. overwritten bs at new)) h
named_change s (zero_bytes i low high) good h = named_adjusted (rewritten_node (λ bs. zeroed bs low high)) s.nodes i (rewritten (λ bs. zeroed bs low high)) h
named_change s (write_buffer r b at new) good h = h
named_change s (break_chain c f) good h = h

pub named_changes : (s : World) (cs : List Change) → AllNaming cs → Named s.nodes → Named (apply_all cs s).nodes
named_changes s [] good h = h
named_changes s (c ∷ cs) good h = named_changes (apply c s) cs good.1 (named_change s c good.0 h)

-- The start.

named_at : (s : World) (path : List ℕ) (i : ℕ) → Named s.nodes → Named (name_at s path i).nodes
named_at s path i h = by (walk_from s.nodes 0 (components path)) refl
  where
    by : (r : Result Place Errno) → walk_from s.nodes 0 (components path) ≡ r → Named (name_at s path i).nodes
    by (Ok p) e = rw e (named_change s (set_name p.parent p.name (Some (target s.nodes i))) (named_way s.nodes path p e) h)
    by (Err x) e = rw e h

-- writes of ranges set no names
naming_ranges : (i : ℕ) (ranges : List Range) (cs : List Change) → AllNaming cs → AllNaming (map (range_written i) ranges ++ cs)
naming_ranges i [] cs h = h
naming_ranges i (r ∷ ranges) cs h = (tt, naming_ranges i ranges cs h)

named_node : (s : World) (i : ℕ) (path : List ℕ) (x : initial_node.Node) → Named s.nodes → Named (with_node s i path x).nodes
named_node s i path Directory h = named_at (apply (make_node i a_directory) s) path i (named_made s.nodes i (new_node a_directory) (made a_directory) h)
named_node s i path (File size ranges) h =
    let cs = make_node i a_file ∷ map (range_written i) ranges ++ set_size i size ∷ [] in
    named_at (apply_all cs s) path i (named_changes s cs (tt, naming_ranges i ranges (set_size i size ∷ []) (tt, tt)) h)
named_node s i path (OtherName j) h = named_at s path j h

named_items : (s : World) (i : ℕ) (xs : List initial_item.Item) → Named s.nodes → Named (with_items s i xs).nodes
named_items s i [] h = h
named_items s i (x ∷ xs) h = named_items (with_node s i x.path x.node) (suc i) xs (named_node s i x.path x.node h)

named_bare : Named bare.nodes
named_bare = named_made empty 0 (directory empty 0) (λ m. refl) (λ d n i h. absurd (some_apart (sym h)))

pub named_start : (t : Recording) → Named (start t).nodes
named_start t = named_items bare 1 t.items named_bare
