-- The paths that are listed below a directory are those of the names that lead from it.
use Rattle.std.specs.Prelude.{◌≡◌, ℕ, zero, suc, ◌≤◌, ◌==◌, true, false, cond, not, nat_le, ◌&&◌, ◌⊎◌, T, List, [], ◌∷◌, ◌++◌, length, filter, Option, Some, None, IfSome, refl}
use Rattle.std.specs.List.{All}
use Rattle.std.specs.Option.{option_map, option_and_then}
use Rattle.std.specs.Ordering.{nat_cmp}
use Rattle.std.specs.Cmp.Lexicographic.{slice_cmp}
use Rattle.std.proofs.lemmas.List.{append-nil}
use Rattle.std.proofs.lemmas.List.Elements.{All-nil, All-cons}
use Rattle.std.proofs.lemmas.List.Splits.{slice_split_none, slice_split_at}
use Rattle.std.proofs.Common.{append_assoc}
use mathlib.Core.Path.{sym, subst, ap, ◌∙◌}
use mathlib.Core.Logic.{inl, inr}
use native.Mathlib.Omega.{arith}
use Rattle.sqe_codec.specs.Answers.{each}
use Rattle.trace_format.specs.Paths.{components, runs, has_slash}
use Rattle.finite_maps.specs.Table.{Table, insert, get, text_keys}
use Rattle.file_tree.specs.Tree.{Tree, Names, names, target}
use Rattle.file_tree.specs.Walk.{fits_name}
use Rattle.world_parts.specs.World.{World}
use Rattle.world_parts.specs.Image.{paths_below, by_path}
use Rattle.world_parts.specs.Paths.{path_of, is_file_name, HasFileNames}
use Rattle.world_parts.proofs.Collision.{left, right, true_of}
use Rattle.world_parts.specs.Pending.{paths_at}
use Rattle.world_parts.proofs.Members.{In, in_flat_map, in_flat_map-at, entry_of, get_entry, put_either, put_here, put_over}
use Rattle.world_parts.proofs.Ways.{Leads, AllFit}
use Rattle.world_parts.proofs.Trees.{some_apart}

-- names that may stand in a directory
abbrev pub AllNames : List (List ℕ) → Type 0
AllNames [] = Unit {0}
AllNames (n ∷ ns) = T (is_file_name n) × AllNames ns

pub all_fit : (ns : List (List ℕ)) → AllNames ns → AllFit ns
all_fit [] h = tt
all_fit (n ∷ ns) h = (true_of (fits_name n) (left _ (not (has_slash n)) (right (nat_le 1 (length n)) _ h.0)), all_fit ns h.1)

no_slashes : (n : List ℕ) → has_slash n ≡ false → All (λ b. (b == 47) ≡ false) n
no_slashes [] h = All-nil (λ (b : ℕ). (b == 47) ≡ false)
no_slashes (b ∷ bs) h = All-cons (λ (c : ℕ). (c == 47) ≡ false) b bs (grind arith) (no_slashes bs (grind arith))

plain : (n : List ℕ) → T (is_file_name n) → All (λ b. (b == 47) ≡ false) n
plain n h = no_slashes n (grind arith)

runs_of : (n : List ℕ) (ns : List (List ℕ)) → AllNames (n ∷ ns) → runs (n ++ path_of ns) ≡ n ∷ ns
runs_of n [] h = ap runs (append-nil n) ∙ slice_split_none (λ b. b == 47) n (plain n h.0)
runs_of n (m ∷ ms) h = slice_split_at (λ b. b == 47) n 47 (m ++ path_of ms) (plain n h.0) refl ∙ ap (λ (l : List (List ℕ)). n ∷ l) (runs_of m ms h.1)

filled : (n : List ℕ) → T (nat_le 1 (length n)) → not (length n == 0) ≡ true
filled n h = grind arith

all_kept : (ns : List (List ℕ)) → AllNames ns → filter (λ run. not (length run == 0)) ns ≡ ns
all_kept [] h = refl
all_kept (n ∷ ns) h =
    ap (λ c. cond c (n ∷ filter (λ run. not (length run == 0)) ns) (filter (λ run. not (length run == 0)) ns)) (filled n (left _ (fits_name n && not (has_slash n)) h.0))
    ∙ ap (λ (l : List (List ℕ)). n ∷ l) (all_kept ns h.1)

-- the names of a path are those that it was made of
pub components_of : (ns : List (List ℕ)) → AllNames ns → components (path_of ns) ≡ ns
components_of [] h = refl
components_of (n ∷ ns) h = ap (λ (l : List (List ℕ)). filter (λ run. not (length run == 0)) ([] ∷ l)) (runs_of n ns h) ∙ all_kept (n ∷ ns) h

module _ (s : World) (names_of_files : HasFileNames s) where
  pub names_led : (d : ℕ) (ns : List (List ℕ)) (i : ℕ) → Leads s.nodes d ns i → AllNames ns
  names_led d [] i h = tt
  names_led d (n ∷ ns) i h =
      (subst (λ o. IfSome o (λ t. T (is_file_name n))) (ap (option_map (target s.nodes)) h.1) (names_of_files d n), names_led h.0 ns i h.2)

module _ (tree : Tree) where
  named_by : (o : Option Names) (e : List ℕ × ℕ) → In e (each (λ (ns : Names). ns.entries) o) → option_and_then (λ (ns : Names). get ns e.0) o ≡ Some e.1
  named_by None e h = absurd h
  named_by (Some ns) e h = get_entry text_keys ns e.0 e.1 h

  named_there : (o : Option Names) (n : List ℕ) (i : ℕ) → option_and_then (λ (ns : Names). get ns n) o ≡ Some i → In (n, i) (each (λ (ns : Names). ns.entries) o)
  named_there None n i h = absurd (some_apart (sym h))
  named_there (Some ns) n i h = entry_of text_keys ns n i h

  -- what is listed has a way to its node
  pub way_of_listed : (levels : ℕ) (path : List ℕ) (d : ℕ) (p : List ℕ) (i : ℕ) → In (p, i) (paths_below levels tree path d)
      → (n : List ℕ) × (ns : List (List ℕ)) × (path ++ path_of (n ∷ ns) ≡ p) × Leads tree d (n ∷ ns) i
  way_of_listed zero path d p i h = absurd h
  way_of_listed (suc levels) path d p i h =
      let f = in_flat_map (paths_at levels tree path) (p, i) (each (λ (ns : Names). ns.entries) (names tree d)) h in
      let there = named_by (names tree d) f.0 f.1 in
      elim f.2 [
        | inl e ↦
            (f.0.0, [], ap (λ (l : List ℕ). path ++ 47 ∷ l) (append-nil f.0.0) ∙ ap (λ (q : List ℕ × ℕ). q.0) e, (f.0.1, there, ap (λ (q : List ℕ × ℕ). q.1) e))
        | inr k ↦
            let r = way_of_listed levels (path ++ 47 ∷ f.0.0) f.0.1 p i k in
            (f.0.0, r.0 ∷ r.1, sym (append_assoc path (47 ∷ f.0.0) (path_of (r.0 ∷ r.1))) ∙ r.2, (f.0.1, there, r.3))
      ]

  -- what has a way of so many names is listed
  pub listed_of_way : (levels : ℕ) (path : List ℕ) (d : ℕ) (n : List ℕ) (ns : List (List ℕ)) (i : ℕ) → length (n ∷ ns) ≤ levels → Leads tree d (n ∷ ns) i → In (path ++ path_of (n ∷ ns), i) (paths_below levels tree path d)
  listed_of_way zero path d n ns i l h = absurd (omega arith)
  listed_of_way (suc levels) path d n [] i l h =
      in_flat_map-at (paths_at levels tree path) (path ++ path_of (n ∷ []), i) (n, h.0) (each (λ (ns : Names). ns.entries) (names tree d)) (named_there (names tree d) n h.0 h.1)
      (inl (λ k. (path ++ 47 ∷ sym (append-nil n) k, h.2 k)))
  listed_of_way (suc levels) path d n (m ∷ ns) i l h =
      in_flat_map-at (paths_at levels tree path) (path ++ path_of (n ∷ m ∷ ns), i) (n, h.0) (each (λ (ns : Names). ns.entries) (names tree d)) (named_there (names tree d) n h.0 h.1)
      (inr (subst (λ (p : List ℕ). In (p, i) (paths_below levels tree (path ++ 47 ∷ n) h.0)) (append_assoc path (47 ∷ n) (path_of (m ∷ ns))) (listed_of_way levels (path ++ 47 ∷ n) h.0 m ns i (omega arith) h.2)))

-- what a map of paths has is in the list that it was made of, or was there before
pub from_by_path : (m : Table (slice_cmp nat_cmp) ℕ) (es : List (List ℕ × ℕ)) (p : List ℕ) (i : ℕ) → get (by_path m es) p ≡ Some i → In (p, i) es ⊎ (get m p ≡ Some i)
from_by_path m [] p i h = inr h
from_by_path m (e ∷ es) p i h = elim (from_by_path (insert text_keys.total m e.0 e.1) es p i h) [
  | inl s ↦ inl (inr s)
  | inr s ↦ elim (put_either text_keys m e.0 e.1 p i s) [ inl k ↦ inl (inl (λ z. (k.0 z, k.1 z))) | inr k ↦ inr k ]
]

-- a path that stands in the list with one node alone is in the map with that node
pub in_by_path : (m : Table (slice_cmp nat_cmp) ℕ) (es : List (List ℕ × ℕ)) (p : List ℕ) (i : ℕ) → ((j : ℕ) → In (p, j) es → j ≡ i) → In (p, i) es ⊎ (get m p ≡ Some i) → get (by_path m es) p ≡ Some i
in_by_path m [] p i one (inl h) = absurd h
in_by_path m [] p i one (inr h) = h
in_by_path m (e ∷ es) p i one h = in_by_path (insert text_keys.total m e.0 e.1) es p i (λ j k. one j (inr k)) (elim h [
  | inl s ↦ elim s [ inl t ↦ inr (put_here text_keys m e.0 e.1 p (ap (λ (q : List ℕ × ℕ). q.0) t) ∙ ap (λ (q : List ℕ × ℕ). Some q.1) t) | inr t ↦ inl t ]
  | inr s ↦ inr (put_over text_keys m e.0 e.1 p i (λ k. one e.1 (inl (λ z. (k z, e.1)))) s)
])
