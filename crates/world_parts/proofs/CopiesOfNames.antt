-- A directory of a part that shows one of its other names.
use Rattle.std.specs.Prelude.{◌≡◌, ℕ, zero, suc, true, cond, ◌==◌, ◌+◌, ◌-◌, ◌<◌, ◌≤◌, T, List, [], ◌∷◌, Option, Some, None, refl, is_some, length}
use Rattle.std.specs.Option.{option_map}
use Rattle.std.specs.Ordering.{nat_cmp, is_eq, eq_by_cmp}
use Rattle.std.specs.declared.cmp.Ordering.{Ordering}
use Rattle.std.specs.Cmp.{tied_itself, Equal-is}
use Rattle.std.specs.Cmp.Lexicographic.{slice_cmp}
use Rattle.std.specs.FinMap.Entries.{find, length_without, length-put}
use Rattle.std.proofs.lemmas.Bool.{cases_Bool, cond-true, cond-false}
use mathlib.Core.Path.{sym, subst, ap, ◌∙◌}
use mathlib.Core.Logic.{inl, inr}
use native.Mathlib.Omega.{arith}
use lib.Dec.{eqb_refl}
use Rattle.finite_maps.specs.Table.{get, count, insert, remove, get-insert, get-remove, text_keys, adjust_number}
use Rattle.file_tree.specs.Tree.{Names, Node, directory, a_directory, Target, target, shown_node}
use Rattle.world_parts.specs.World.{World, kind, name}
use Rattle.world_parts.specs.Items.{name_at, one}
use Rattle.world_parts.specs.Cutting.{Shows}
use Rattle.world_parts.specs.Copying.{outline_of_node, outline, looked_up, IsShadow, IsNearer, IsCopied}
use Rattle.world_parts.proofs.Changes.{adjusted}
use Rattle.world_parts.proofs.Copies.{shown_none, chosen, one_item, nothing_moved, kind_stays}
use Rattle.world_parts.proofs.Raw.{entry}
use Rattle.world_parts.proofs.CopiesOfNodes.{Finds, replaced_nearer}
use Rattle.world_parts.proofs.Ways.{same_number}

abbrev text_cmp : List ℕ → List ℕ → Ordering
text_cmp = slice_cmp nat_cmp

-- A table whose entries are all in another one has at most as many.

without : (ns : Names) (n : List ℕ) → cond (is_some (get ns n)) 1 0 + count (remove ns n) ≡ count ns
without ns n = length_without text_cmp text_keys.total n ns.entries ns.sorted

without_both : (ns ms : Names) (n : List ℕ) → ((m : List ℕ) → Shows (get ns m) (get ms m)) → (m : List ℕ) → Shows (get (remove ns n) m) (get (remove ms n) m)
without_both ns ms n h m = grind (arith, get-remove text_keys.total ns n m, get-remove text_keys.total ms n m, h m)

-- One entry is taken from both tables.
one_from_both : (k : ℕ) (ns ms : Names) (x : List ℕ × ℕ) (es : List (List ℕ × ℕ)) → ns.entries ≡ x ∷ es → count ns ≡ suc k → ((m : List ℕ) → Shows (get ns m) (get ms m)) → (count (remove ns x.0) ≡ k → k ≤ count (remove ms x.0)) → suc k ≤ count ms
one_from_both k ns ms x es q e h rest =
    let there : get ns x.0 ≡ Some x.1 = ap (find text_cmp x.0) q ∙ ap (λ r. cond (is_eq r) (Some x.1) (find text_cmp x.0 es)) (tied_itself text_keys.total x.0) in
    let below : count (remove ns x.0) ≡ k → k ≤ count (remove ms x.0) = rest in
    grind (arith, there, without ns x.0, without ms x.0, h x.0)

at_most : (k : ℕ) (ns ms : Names) → count ns ≡ k → ((m : List ℕ) → Shows (get ns m) (get ms m)) → k ≤ count ms
at_most zero ns ms e h = omega arith
at_most (suc k) ns ms e h = by ns.entries refl (λ n f. at_most k (remove ns n) (remove ms n) f (without_both ns ms n h))
  where
    by : (es : List (List ℕ × ℕ)) → ns.entries ≡ es → ((n : List ℕ) → count (remove ns n) ≡ k → k ≤ count (remove ms n)) → suc k ≤ count ms
    by [] q rest = (let none : count ns ≡ 0 = ap length q in absurd (omega arith))
    by (x ∷ es) q rest = one_from_both k ns ms x es q e h (rest x.0)

-- One that lacks one of them has fewer.
fewer_names : (ns ms : Names) (n : List ℕ) (j : ℕ) → ((m : List ℕ) → Shows (get ns m) (get ms m)) → get ns n ≡ None → get ms n ≡ Some j → count ns < count ms
fewer_names ns ms n j h a b =
    let most = at_most (count (remove ns n)) (remove ns n) (remove ms n) refl (without_both ns ms n h) in
    grind (arith, without ns n, without ms n)

-- A node that shows a name is a directory.
is_listing : (x : Option Node) (n : List ℕ) (j : ℕ) → entry x n ≡ Some j → (ns : Names) × (k : ℕ) × (x ≡ Some (directory ns k))
is_listing (Some (directory ns k)) n j e = (ns, k, refl)
is_listing _ n j e = absurd (grind arith)

-- So is one with the same outline.
is_listing_too : (x : Option Node) (ms : Names) (l : ℕ) → option_map outline_of_node x ≡ Some (a_directory, count ms + l) → (ns : Names) × (k : ℕ) × (x ≡ Some (directory ns k)) × (count ns + k ≡ count ms + l)
is_listing_too (Some (directory ns k)) ms l e = (ns, k, refl, grind arith)
is_listing_too _ ms l e = absurd (grind arith)

-- What a part's directory shows is what the world's does.
shown_numbers : (s p : World) (x y : Option ℕ) → Shows (option_map (target p.nodes) x) (option_map (target s.nodes) y) → Shows x y
shown_numbers s p x y h = grind arith

module _ (s p : World) (sh : IsShadow s p) (d : ℕ) (n : List ℕ) (j : ℕ) (there : looked_up s d n ≡ Some j) (hidden : looked_up p d n ≡ None) (same : outline p d ≡ outline s d) (same_kinds : kind p j ≡ kind s j) where
  abbrev with_shown : World
  with_shown = record p { nodes = adjust_number (shown_node n j) p.nodes d }

  -- The directory, as the part has it and as the world has it.
  module _ (ns ms : Names) (k l : ℕ) (in_part : get p.nodes d ≡ Some (directory ns k)) (in_world : get s.nodes d ≡ Some (directory ms l)) (counts : count ns + k ≡ count ms + l) where
    abbrev new : Node
    new = directory (insert text_keys.total ns n j) (k - 1)

    after : (e : ℕ) → get with_shown.nodes e ≡ cond (e == d) (Some new) (get p.nodes e)
    after e = grind (arith, adjusted (shown_node n j) p.nodes d e, in_part)

    absent : get ns n ≡ None
    absent = ap (λ x. entry x n) (sym in_part) ∙ hidden

    present : get ms n ≡ Some j
    present = ap (λ x. entry x n) (sym in_world) ∙ there

    all_there : (m : List ℕ) → Shows (get ns m) (get ms m)
    all_there m = grind (arith, in_part, in_world, shown_numbers s p (looked_up p d m) (looked_up s d m) (sh.names d m))

    total : count (insert text_keys.total ns n j) + (k - 1) ≡ count ns + k
    total = grind (arith, length-put text_cmp text_keys.total n j ns.entries ns.sorted, fewer_names ns ms n j all_there absent present, absent)

    looks : (m : List ℕ) → Finds s p d m (entry (Some new) m) (get ns m)
    looks m = elim (cases_Bool (eq_by_cmp text_cmp m n)) [
      | inl h ↦
          inr (
            j,
            get-insert text_keys.total ns n j m
                ∙ cond-true _ (Some j) (get ns m) h,
            ap (looked_up s d) (text_keys.same m n ((Equal-is (text_cmp m n)).0 h)) ∙ there,
            same_kinds,
          )
      | inr h ↦ inl (get-insert text_keys.total ns n j m ∙ cond-false _ (Some j) (get ns m) h)
    ]

    nearer : IsNearer s p with_shown
    nearer = replaced_nearer s p sh d (Some (directory ns k)) new with_shown.nodes after in_part (inr (ap (λ c. Some (a_directory, c)) total)) looks (λ o h. h)

    shows_it : looked_up with_shown d n ≡ Some j
    shows_it =
        ap (λ x. entry x n) (after d ∙ chosen (d == d) (Some new) (get p.nodes d) (eqb_refl d)) ∙ get-insert text_keys.total ns n j n
        ∙ chosen (eq_by_cmp text_cmp n n) (Some j) (get ns n) (subst (λ r. T (is_eq r)) (sym (tied_itself text_keys.total n)) tt)

    kept_kind : kind with_shown j ≡ kind s j
    kept_kind = kind_stays s p with_shown nearer j same_kinds

    copied : IsCopied s p with_shown (one (name_at d n))
    copied = record {
      nearer = nearer;
      item = one_item s with_shown (name_at d n) (ap (option_map (target s.nodes)) there ∙ (λ i. Some (record { node = j; kind = sym kept_kind i })) ∙ ap (option_map (target with_shown.nodes)) (sym shows_it));
    }

  pub name_copied : IsCopied s p with_shown (one (name_at d n))
  name_copied =
      let w = is_listing (get s.nodes d) n j there in
      let h = is_listing_too (get p.nodes d) w.0 w.1 (same ∙ ap (option_map outline_of_node) w.2) in
      copied h.0 w.0 h.1 w.1 h.2 w.2 h.3

-- A name that is shown already, and one that isn't there.
pub name_shown : (s p : World) (d : ℕ) (n : List ℕ) → IsShadow s p → true ≡ is_some (looked_up p d n) → IsCopied s p p (one (name_at d n))
name_shown s p d n sh h = record { nearer = nothing_moved s p sh; item = one_item s p (name_at d n) (grind (arith, sh.names d n)) }

pub no_name_copied : (s p : World) (d : ℕ) (n : List ℕ) → IsShadow s p → looked_up s d n ≡ None → IsCopied s p p (one (name_at d n))
no_name_copied s p d n sh e = record { nearer = nothing_moved s p sh; item = one_item s p (name_at d n) (shown_none (name p d n) (name s d n) (sh.names d n) (ap (option_map (target s.nodes)) e)) }

-- What a look-up by number found.
pub number_of : (s : World) (d : ℕ) (n : List ℕ) (r : Option ℕ) → r ≡ option_map (λ (t : Target). t.node) (name s d n) → looked_up s d n ≡ r
number_of s d n r e = sym (same_number s.nodes (looked_up s d n)) ∙ sym e
