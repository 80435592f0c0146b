-- Names in directories that are known, and which changes leave these directories where they are.
use Rattle.std.proofs.Common.{◌≡◌, ℕ, ◌≤◌, Bool, true, cond, List, [], ◌∷◌, ◌++◌, length, Option, Some, None, Ok, sym, ◌∙◌, ap, refl, subst, arith}
use Rattle.std.specs.Prelude.{IfSome, not, map, filter, ◌==◌}
use Rattle.std.specs.List.{onto_first}
use Rattle.std.specs.Option.{option_map}
use Rattle.std.specs.Ordering.{nat_cmp}
use Rattle.std.specs.Cmp.{unsigned_tied}
use Rattle.std.specs.Cmp.Lexicographic.{slice_cmp}
use Rattle.std.specs.Str.{bytes_eq}
use Rattle.std.specs.Map.{lookup, update}
use Rattle.std.specs.Borrow.{Bor}
use Rattle.std.specs.BTreeMap.{IsEmpty, is_at}
use Rattle.std.proofs.lemmas.Bool.{ne_eqb, le-leb, cond_both}
use Rattle.std.proofs.lemmas.Option.{IfSome_then}
use Rattle.std.proofs.lemmas.List.Elements.{filter-append}
use Rattle.std.proofs.lemmas.List.Splits.{length-slice_split, slice_split_none}
use Rattle.std.proofs.lemmas.Slice.Eq.{bytes_eq-Decides}
use Rattle.sqe_codec.specs.declared.errno.Errno.TheVariants.{ENAMETOOLONG}
use Rattle.sqe_codec.specs.Answers.{◌>>◌, require}
use Rattle.trace_format.specs.Paths.{components, runs}
use Rattle.trace_records.specs.declared.start.Range.{Range}
use Rattle.extent_bytes.specs.Bytes.{overwritten, resized}
use Rattle.finite_maps.specs.Table.{get, insert, adjust_number, get-insert, number_keys, text_keys}
use Rattle.file_tree.specs.Tree.{Tree, Node, kind, kind_of_node, a_directory, name, target, renamed_node, rewritten_node}
use Rattle.file_tree.specs.Found.{node_of}
use Rattle.file_tree.specs.Walk.{fits_name, walk_from, directory_at}
use Rattle.world_parts.specs.Known.{Known, known_at, directory_of, Enters, Knows, IsLastName, IsNewPlace}
use Rattle.world_parts.specs.World.{World, set_size, apply, apply_all}
use Rattle.world_parts.specs.Start.{name_at, range_written}
use Rattle.world_parts.proofs.Changes.{adjusted}
use Rattle.world_parts.proofs.Raw.{entry}
use Rattle.world_parts.proofs.Ways.{looked, same_number, directory_there}
use Rattle.world_parts.proofs.Trees.{some_same}

-- The names of a path.

onto_over : (b : ℕ) (xs ys : List (List ℕ)) → 1 ≤ length xs → onto_first b (xs ++ ys) ≡ onto_first b xs ++ ys
onto_over b xs ys h = grind arith

runs_over : (path n : List ℕ) → runs (path ++ 47 ∷ n) ≡ runs path ++ runs n
runs_over [] n = refl
runs_over (b ∷ bs) n = grind (arith, runs_over bs n, onto_over b (runs bs) (runs n), length-slice_split (λ c. c == 47) bs)

filled : (n : List ℕ) → 1 ≤ length n → not (length n == 0) ≡ true
filled n h = grind arith

-- a path's names are those before its last slash, and the one behind it
pub components_over : (path n : List ℕ) → IsLastName n → components (path ++ 47 ∷ n) ≡ components path ++ n ∷ []
components_over path n h =
    let keep : List (List ℕ) → List (List ℕ) = filter (λ run. not (length run == 0)) in
    ap keep (runs_over path n)
    ∙ filter-append (λ run. not (length run == 0)) (runs path) (runs n)
    ∙ ap (λ (l : List (List ℕ)). components path ++ keep l) (slice_split_none (λ b. b == 47) n h.0)
    ∙ ap (λ (c : Bool). components path ++ cond c (n ∷ []) []) (filled n h.1)

-- Walks.

entered : (tree : Tree) (d e : ℕ) (n m : List ℕ) (ns : List (List ℕ)) → fits_name n ≡ true → directory_at (name tree d n) ≡ Ok e → walk_from tree d (n ∷ m ∷ ns) ≡ walk_from tree e (m ∷ ns)
entered tree d e n m ns fits h = grind arith

-- behind names that lead to a directory a walk goes on from there
pub walk_over : (tree : Tree) (d e : ℕ) (ns : List (List ℕ)) (n : List ℕ) → Enters tree d ns e → walk_from tree d (ns ++ n ∷ []) ≡ walk_from tree e (n ∷ [])
walk_over tree d e [] n h = ap (λ (k : ℕ). walk_from tree k (n ∷ [])) h
walk_over tree d e (m ∷ []) n h = entered tree d h.0 m n [] h.1 h.2 ∙ walk_over tree h.0 e [] n h.3
walk_over tree d e (m ∷ k ∷ ns) n h = entered tree d h.0 m k (ns ++ n ∷ []) h.1 h.2 ∙ walk_over tree h.0 e (k ∷ ns) n h.3

enters_more : (tree : Tree) (d e f : ℕ) (ns : List (List ℕ)) (n : List ℕ) → fits_name n ≡ true → directory_at (name tree e n) ≡ Ok f → Enters tree d ns e → Enters tree d (ns ++ n ∷ []) f
enters_more tree d e f [] n fits h g = (f, fits, subst (λ k. directory_at (name tree k n) ≡ Ok f) (sym g) h, refl)
enters_more tree d e f (m ∷ ns) n fits h g = (g.0, g.1, g.2, enters_more tree g.0 e f ns n fits h g.3)

pub new_place_walk : (tree : Tree) (path : List ℕ) (parent : ℕ) (n : List ℕ) → IsNewPlace tree path parent n → walk_from tree 0 (components path) ≡ Ok (record { parent = parent; name = n; target = name tree parent n })
new_place_walk tree path parent n p =
    ap (walk_from tree 0) p.names ∙ walk_over tree 0 parent p.way n p.enters
    ∙ ap (λ (b : Bool). require b ENAMETOOLONG >> Ok (record { parent = parent; name = n; target = name tree parent n })) p.fits

directory_enters : (tree : Tree) (known : Known) (path : List ℕ) (d : ℕ) → Knows tree known → Some d ≡ directory_of known path → Enters tree 0 (components path) d
directory_enters tree known [] d knows is = sym (some_same d 0 is)
directory_enters tree known (b ∷ bs) d knows is =
    let known_so : Some d ≡ known_at known (b ∷ bs) = is ∙ ap (λ c. cond c (Some 0) (known_at known (b ∷ bs))) (ne_eqb (length (b ∷ bs)) 0 (λ e. omega arith)) in
    subst (λ (o : Option ℕ). IfSome o (Enters tree 0 (components (b ∷ bs)))) (sym known_so) (knows (b ∷ bs))

-- a name that a known directory hasn't
pub new_place : (tree : Tree) (known : Known) (path before n : List ℕ) (d : ℕ) → Knows tree known → path ≡ before ++ 47 ∷ n → IsLastName n → Some d ≡ directory_of known before → node_of (name tree d n) ≡ None → IsNewPlace tree path d n
new_place tree known path before n d knows whole last is is_new = record {
  way = components before;
  names = ap components whole ∙ components_over before n last;
  enters = directory_enters tree known before d knows is;
  fits = le-leb (length n) 255 last.2;
  is_new = is_new;
}

-- no directory is known
pub knows_none : (tree : Tree) (known : Known) → IsEmpty known → Knows tree known
knows_none tree known e path = subst (λ (es : List (Bor (List ℕ) × ℕ)). IfSome (lookup (is_at (λ k. slice_cmp nat_cmp path k.now)) es) (Enters tree 0 (components path))) (sym e) tt

-- What a change leaves.

-- directories stay where they are
abbrev pub Keeps : Tree → Tree → Type 0
Keeps tree other = (d : ℕ) (n : List ℕ) (e : ℕ) → directory_at (name tree d n) ≡ Ok e → directory_at (name other d n) ≡ Ok e

pub enters_kept : (tree other : Tree) → Keeps tree other → (d : ℕ) (ns : List (List ℕ)) (e : ℕ) → Enters tree d ns e → Enters other d ns e
enters_kept tree other keeps d [] e h = h
enters_kept tree other keeps d (n ∷ ns) e h = (h.0, h.1, keeps d n h.0 h.2, enters_kept tree other keeps h.0 ns e h.3)

pub knows_kept : (tree other : Tree) (known : Known) → Keeps tree other → Knows tree known → Knows other known
knows_kept tree other known keeps h path = IfSome_then (known_at known path) (h path) (λ e k. enters_kept tree other keeps 0 (components path) e k)

-- a directory more is known
pub knows_more : (tree : Tree) (old new : Known) (path : List ℕ) (d : ℕ) → ((p : List ℕ) → known_at new p ≡ update bytes_eq (known_at old) path (Some d) p) → Enters tree 0 (components path) d → Knows tree old → Knows tree new
knows_more tree old new path d adds enters h p =
    subst (λ (o : Option ℕ). IfSome o (Enters tree 0 (components p))) (sym (adds p))
    (cond_both (bytes_eq path p) (Some d) (known_at old p) (λ o. IfSome o (Enters tree 0 (components p)))
    (λ e. subst (λ (q : List ℕ). Enters tree 0 (components q) d) ((bytes_eq-Decides path p).0 e) enters) (λ e. h p))

-- what is seen of a node as a directory stays
abbrev pub Grows : Option Node → Option Node → Type 0
Grows x y =
    ((n : List ℕ) (e : ℕ) → entry x n ≡ Some e → entry y n ≡ Some e) ×
    (option_map kind_of_node x ≡ Some a_directory → option_map kind_of_node y ≡ Some a_directory)

found : (tree : Tree) (o : Option ℕ) (e : ℕ) → directory_at (option_map (target tree) o) ≡ Ok e → (o ≡ Some e) × (kind tree e ≡ Some a_directory)
found tree o e h = grind arith

pub keeps_grown : (tree other : Tree) → ((q : ℕ) → Grows (get tree q) (get other q)) → Keeps tree other
keeps_grown tree other grows d n e h =
    let f = found tree (looked tree d n) e h in
    directory_there other (looked other d n) e ((grows d).0 n e f.0) ((grows e).1 f.1)

-- a node that is made where there was none
pub made_keeps : (tree : Tree) (i : ℕ) (x : Node) → get tree i ≡ None → Keeps tree (insert number_keys.total tree i x)
made_keeps tree i x free = keeps_grown tree (insert number_keys.total tree i x) (λ q. (λ n e h. grind (arith, here q), λ h. grind (arith, here q)))
  where
    here : (q : ℕ) → get (insert number_keys.total tree i x) q ≡ cond (q == i) (Some x) (get tree q)
    here q = grind (arith, get-insert number_keys.total tree i x q, unsigned_tied)

-- a node that is adjusted
adjusted_keeps : (f : Node → Node) (tree : Tree) (d : ℕ) → Grows (get tree d) (option_map f (get tree d)) → Keeps tree (adjust_number f tree d)
adjusted_keeps f tree d grows =
    keeps_grown tree (adjust_number f tree d)
    (λ q. (λ n e h. grind (arith, adjusted f tree d q, grows.0 n e), λ h. grind (arith, adjusted f tree d q, grows.1)))

-- a file that is written or sized
pub rewritten_keeps : (f : List ℕ → List ℕ) (tree : Tree) (i : ℕ) → Keeps tree (adjust_number (rewritten_node f) tree i)
rewritten_keeps f tree i = adjusted_keeps (rewritten_node f) tree i (λ n e h. grind arith, λ h. grind arith)

-- a name that a directory hadn't
pub named_keeps : (tree : Tree) (d : ℕ) (n : List ℕ) (i : ℕ) → node_of (name tree d n) ≡ None → Keeps tree (adjust_number (renamed_node n (Some i)) tree d)
named_keeps tree d n i is_new =
    adjusted_keeps (renamed_node n (Some i)) tree d
    (λ m e h. named_more (get tree d) n i m e (sym (same_number tree (looked tree d n)) ∙ is_new) h, λ h. grind arith)
  where
    named_more : (o : Option Node) (n : List ℕ) (i : ℕ) (m : List ℕ) (e : ℕ) → entry o n ≡ None → entry o m ≡ Some e
        → entry (option_map (renamed_node n (Some i)) o) m ≡ Some e
    named_more o n i m e none h = grind (arith, get-insert {X = ℕ} text_keys.total, text_keys.same)

-- A directory's new name.
module _ (s : World) (path : List ℕ) (parent : ℕ) (n : List ℕ) (i : ℕ) (place : IsNewPlace s.nodes path parent n) where
  pub named_so : record s { nodes = adjust_number (renamed_node n (Some i)) s.nodes parent } ≡ name_at s path i
  named_so = rw (new_place_walk s.nodes path parent n place) refl

  module _ (known : Known) (knows : Knows s.nodes known) (w : World) (is : w ≡ record s { nodes = adjust_number (renamed_node n (Some i)) s.nodes parent }) where
    keeps : Keeps s.nodes w.nodes
    keeps = subst (λ (v : World). Keeps s.nodes v.nodes) (sym is) (named_keeps s.nodes parent n i place.is_new)

    pub still_known : Knows w.nodes known
    still_known = knows_kept s.nodes w.nodes known keeps knows

    pub known_too : (new : Known) (d : ℕ) → ((p : List ℕ) → known_at new p ≡ update bytes_eq (known_at known) path (Some d) p) → directory_at (name w.nodes parent n) ≡ Ok d → Knows w.nodes new
    known_too new d adds h =
        knows_more w.nodes known new path d adds
        (subst (λ (ns : List (List ℕ)). Enters w.nodes 0 ns d) (sym place.names) (enters_more w.nodes 0 parent d place.way n place.fits h (enters_kept s.nodes w.nodes keeps 0 place.way parent place.enters)))
        still_known

-- A node that is made, and then written.

pub made_known : (tree : Tree) (known : Known) (i : ℕ) (x : Node) → Knows tree known → kind tree i ≡ None → Knows (insert number_keys.total tree i x) known
made_known tree known i x knows free = knows_kept tree (insert number_keys.total tree i x) known (made_keeps tree i x (grind arith)) knows

-- a file whose ranges are written, and which is sized then
pub file_known : (s : World) (known : Known) (i size : ℕ) (ranges : List Range) → Knows s.nodes known
    → Knows (apply (set_size i size) (apply_all (map (range_written i) ranges) s)).nodes known
file_known s known i size [] knows = knows_kept s.nodes (apply (set_size i size) s).nodes known (rewritten_keeps (λ bs. resized bs size) s.nodes i) knows
file_known s known i size (r ∷ ranges) knows =
    let w = apply (range_written i r) s in
    file_known w known i size ranges (knows_kept s.nodes w.nodes known (rewritten_keeps (λ bs. overwritten bs r.offset r.bytes) s.nodes i) knows)
