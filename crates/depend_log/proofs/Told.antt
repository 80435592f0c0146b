-- What a place is told to wait for is what the rule says.
use Rattle.std.specs.Prelude.{◌≡◌, ℕ, suc, ◌<◌, ◌⊎◌, Bool, true, ◌&&◌, ◌||◌, List, [], ◌∷◌, map, length, refl, Option, Some, None, IsSome, All, Contains, slice_index_or}
use Rattle.std.specs.BTreeMap.{BTreeMap, IsOrdered, get, keys}
use Rattle.std.specs.Cmp.{nat_cmp_total}
use Rattle.std.specs.List.{AllByRecursion, list_any, cons_option}
use Rattle.std.specs.List.Sorted.{IsStrictlyIncreasing}
use Rattle.std.specs.Map.{keys_of}
use Rattle.std.specs.Option.{option_map}
use Rattle.std.specs.Ordering.{nat_cmp}
use Rattle.std.proofs.Common.{sym, ap, ◌∙◌, subst, arith, inl, inr}
use Rattle.std.proofs.lemmas.Bool.{and_parts, cases_Bool, or_cases, or_left, or_right}
use Rattle.std.proofs.lemmas.List.Elements.{All-contains_itself, All-from_recursion, recursion_from_All}
use Rattle.std.proofs.lemmas.Map.Keys.{IsStrictlyIncreasing-from_sorted}
use Rattle.std.proofs.lemmas.Map.Lookups.{exact_unsigned}
use Rattle.std.proofs.lemmas.Map.Views.{btree_map_get_iff, btree_map_contains_key_iff}
use Rattle.recording.specs.declared.recording.Recording.{Recording}
use Rattle.world_parts.specs.Items.{Atom, Item, one, Use, Footprint, member_of, same_atom, share, has_atom, writes_atom}
use Rattle.world_parts.proofs.Collision.{any_passes, both, either_left, either_right, left, right, member-share, same_atom_refl, true_of}
use Rattle.world_parts.proofs.Sharing.{holds_true}
use Rattle.wave_pick.specs.Holding.{shared_item, shared_with}
use Rattle.foot_waits.specs.Rule.{IsFirstUse, UseWaits, WaitsBy, clash_in, descriptors, descriptor_uses, is_of_descriptors, part_of, use_at}
use Rattle.foot_waits.proofs.Parts.{Clashes, collide_atom, has_of_kept, other_part, part_of_member, writes_of_kept}
use Rattle.dependencies.specs.Rule.{WaitsFor, foot_at}
use Rattle.depend_log.specs.Running.{AreFeet}
use Rattle.depend_log.specs.Shared.{IsWithin, waited_by, waits_of}
use Rattle.depend_log.specs.Waits.{AreWaits, Waited, WaitsOn}

-- a use that has an atom of an access set collides with it, where one of both writes the atom
meets : (u : Use) (g : Footprint) (a : Atom) → member_of u.item a ≡ true → has_atom g a ≡ true → (u.written ≡ true) ⊎ (writes_atom g a ≡ true) → list_any (λ (v : Use). (u.written || v.written) && share u.item v.item) g ≡ true
meets u g a mine there writes =
    let q : Use → Bool = λ v. (u.written || v.written) && share u.item v.item in
    let at = holds_true (member_of u.item a) mine in
    true_of (list_any q g) (elim writes [
      | inl w ↦ any_passes (λ (v : Use). member_of v.item a) q (λ v h. both (u.written || v.written) (share u.item v.item)
          (either_left u.written v.written (holds_true u.written w)) (member-share u.item v.item a at h)) g (holds_true (has_atom g a) there)
      | inr w ↦ any_passes (λ (v : Use). v.written && member_of v.item a) q (λ v h. both (u.written || v.written) (share u.item v.item)
          (either_right u.written v.written (left v.written (member_of v.item a) h)) (member-share u.item v.item a at (right v.written (member_of v.item a) h))) g (holds_true (writes_atom g a) w)
    ])

-- a use that collides with one of some others shares an item with the first such
shared_found : (u : Use) (g : Footprint) → list_any (λ (v : Use). (u.written || v.written) && share u.item v.item) g ≡ true → (x : Item) × (shared_with u g ≡ Some x)
shared_found u [] h = absurd cc
shared_found u (v ∷ g) h = elim (cases_Bool ((u.written || v.written) && share u.item v.item)) [
  | inl t ↦ (shared_item u.item v.item, rw t refl)
  | inr f ↦ let later = shared_found u g (rw f at h) in (later.0, rw f later.1)
]

any_at : (p : Use → Bool) (f : Footprint) → list_any p f ≡ true → (i : ℕ) × (i < length f) × (p (use_at f i) ≡ true)
any_at p [] h = absurd cc
any_at p (u ∷ f) h = elim (or_cases (p u) (list_any p f) h) [
  | inl here ↦ (0, omega arith, here)
  | inr later ↦ let n = any_at p f later in (suc n.0, omega (arith, n.1), n.2)
]

kept_part : (f : Footprint) (a : Atom) → has_atom (descriptor_uses f) a ≡ true → part_of a ≡ descriptors
kept_part [] a h = absurd cc
kept_part (u ∷ f) a h = elim (cases_Bool (is_of_descriptors u.item)) [
  | inl d ↦ elim (or_cases (member_of u.item a) (has_atom (descriptor_uses f) a) (rw d at h)) [
    | inl here ↦ part_of_member u.item a d here
    | inr later ↦ kept_part f a later
  ]
  | inr e ↦ kept_part f a (rw e at h)
]

-- where two access sets clash in a part, they clash in an atom of it
clash_atom : (f g : Footprint) (a : Atom) → clash_in (part_of a) f g ≡ true → (b : Atom) × (part_of b ≡ part_of a) × Clashes f g b
clash_atom f g a h = elim (cases_Bool (is_of_descriptors (one a))) [
  | inl d ↦
      let p : part_of a ≡ descriptors = part_of_member (one a) a d (true_of (same_atom a a) (same_atom_refl a)) in
      let n = collide_atom (descriptor_uses f) (descriptor_uses g) (subst (λ x. clash_in x f g ≡ true) p h) in
      let b : Atom = n.0 in (
        b,
        kept_part f b n.1.0 ∙ sym p,
        (
          has_of_kept f b n.1.0,
          has_of_kept g b n.1.1,
          (elim (or_cases (writes_atom (descriptor_uses f) b) (writes_atom (descriptor_uses g) b) n.1.2) [
            | inl w ↦ or_left (writes_atom f b) (writes_atom g b) (writes_of_kept f b w)
            | inr w ↦ or_right (writes_atom f b) (writes_atom g b) (writes_of_kept g b w)
          ]),
        ),
      )
  | inr e ↦
      let c = subst (λ x. clash_in x f g ≡ true) (other_part a e) h in
      let there = and_parts (has_atom f a && has_atom g a) (writes_atom f a || writes_atom g a) c in
      let uses = and_parts (has_atom f a) (has_atom g a) there.0 in
      (a, refl, (uses.0, uses.1, there.1))
]

module _ (t : Recording) (k j : ℕ) where
  -- a use by which a place waits shares an item with the other one
  item_there : (u : Use) → UseWaits (foot_at t) k u j → (x : Item) × (shared_with u (foot_at t j) ≡ Some x)
  item_there u w =
      shared_found u (foot_at t j) (meets u (foot_at t j) w.0 w.1 w.2 w.3)

  -- a place that waits for another has a use by which it does
  use_there : WaitsFor t k j → (i : ℕ) × (i < length (foot_at t k)) × UseWaits (foot_at t) k (use_at (foot_at t k) i) j
  use_there w =
      let c = clash_atom (foot_at t k) (foot_at t j) w.0 w.1.clashes in
      let a : Atom = c.0 in
      let by = subst (λ p. WaitsBy (foot_at t) p k j) (sym c.1) w.1 in
      elim (or_cases (writes_atom (foot_at t k) a) (writes_atom (foot_at t j) a) c.2.2) [
        | inl mine ↦
            let n = any_at (λ (u : Use). u.written && member_of u.item a) (foot_at t k) mine in
            let parts = and_parts (use_at (foot_at t k) n.0).written (member_of (use_at (foot_at t k) n.0).item a) n.2 in
            (n.0, n.1, (a, parts.1, c.2.1, inl parts.0, by))
        | inr other ↦
            let n = any_at (λ (u : Use). member_of u.item a) (foot_at t k) c.2.0 in
            (n.0, n.1, (a, n.2, c.2.1, inr other, by))
      ]

  -- so the first such use is there where one waits
  told_where_waiting : (o : Option ℕ) → IsFirstUse (foot_at t) k j o → WaitsFor t k j → IsSome o
  told_where_waiting None none w = let n = use_there w in absurd (none n.0 n.1 n.2)
  told_where_waiting (Some i) first w = refl

module _ (t : Recording) (k : ℕ) (f : Footprint) (feet : List Footprint) (mine : f ≡ foot_at t k) (there : AreFeet t k feet) where
  -- an entry that tells what the rule says
  abbrev IsRight : ℕ × ℕ → Type 0
  IsRight e = (x : Item) × (waited_by f feet e ≡ Some (record { after = e.0; on = x })) × WaitsFor t k e.0 × WaitsOn t k e.0 x

  right_at : (j i : ℕ) → IsFirstUse (foot_at t) k j (Some i) → IsRight (j, i)
  right_at j i first =
      let w = first.1 in
      let item = item_there t k j (use_at (foot_at t k) i) w in
      let x : Item = item.0 in
      let same : shared_with (use_at f i) (slice_index_or feet j []) ≡ Some x = (λ n. shared_with (use_at (mine n) i) (there.each j w.4.earlier n)) ∙ item.1 in (
        x,
        ap (λ o. option_map (λ (y : Item). let h : Waited = record { after = j; on = y } in h) o) same,
        (w.0, w.4),
        (i, first, item.1),
      )

  within_at : (j i : ℕ) → IsFirstUse (foot_at t) k j (Some i) → IsWithin f feet (j, i)
  within_at j i first = (omega (arith, there.many, first.1.4.earlier), subst (λ g. i < length g) (sym mine) first.0)

  module _ (found : BTreeMap ℕ ℕ) (ordered : IsOrdered nat_cmp found) (first : (j : ℕ) → IsFirstUse (foot_at t) k j (get nat_cmp found j)) where
    -- what holds of each first use holds of each entry
    each_entry : (P : ℕ × ℕ → Type 0) → ((j i : ℕ) → IsFirstUse (foot_at t) k j (Some i) → P (j, i)) → All P found.entries
    each_entry P all = λ n d lt.
        let e = slice_index_or found.entries n d in
        let got : get nat_cmp found e.0 ≡ Some e.1 = (btree_map_get_iff nat_cmp_total exact_unsigned found ordered e.0 e.1).1 (All-contains_itself found.entries n d lt) in
        all e.0 e.1 (subst (λ o. IsFirstUse (foot_at t) k e.0 o) got (first e.0))

    pub entries_within : AllByRecursion (IsWithin f feet) found.entries
    entries_within = recursion_from_All (IsWithin f feet) found.entries (each_entry (IsWithin f feet) within_at)

    told_keys : (es : List (ℕ × ℕ)) → AllByRecursion IsRight es → map (λ w. w.after) (waits_of f feet es) ≡ keys_of es
    told_keys [] h = refl
    told_keys (e ∷ es) h =
        ap (λ (o : Option Waited). map (λ w. w.after) (cons_option o (waits_of f feet es))) h.0.1 ∙ ap (λ ks. e.0 ∷ ks) (told_keys es h.1)

    abbrev Tells : Waited → Type 0
    Tells w = WaitsFor t k w.after × WaitsOn t k w.after w.on

    told_each : (es : List (ℕ × ℕ)) → AllByRecursion IsRight es → AllByRecursion Tells (waits_of f feet es)
    told_each [] h = tt
    told_each (e ∷ es) h = subst (λ (o : Option Waited). AllByRecursion Tells (cons_option o (waits_of f feet es))) (sym h.0.1) ((h.0.2, h.0.3), told_each es h.1)

    pub are_waits : AreWaits t k (waits_of f feet found.entries)
    are_waits =
        let right = recursion_from_All IsRight found.entries (each_entry IsRight right_at) in
        let same = told_keys found.entries right in
        record {
          rising = subst IsStrictlyIncreasing (sym same) (IsStrictlyIncreasing-from_sorted (keys found) ordered);
          each = All-from_recursion Tells (waits_of f feet found.entries) (told_each found.entries right);
          all = λ j w. subst (λ ks. Contains ks j) (sym same) ((btree_map_contains_key_iff nat_cmp_total exact_unsigned found j).0 (told_where_waiting t k j (get nat_cmp found j) (first j) w));
        }
