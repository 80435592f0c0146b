use Rattle.std.proofs.Common.{◌<◌, ◌≤◌, sym, subst, ◌∙◌, Some, length, refl}
use Rattle.std.specs.Prelude.{None, map}
use Rattle.std.specs.Ordering.{nat_cmp}
use Rattle.std.specs.Cmp.Lexicographic.{slice_cmp}
use Rattle.std.specs.BTreeMap.{is_at}
use Rattle.finite_maps.specs.Table.{assign, text_keys}
use Rattle.finite_maps.proofs.Maps.{seen-assign}
use Rattle.finite_maps.proofs.TextMaps.{seen-insert_entry}
use Rattle.file_tree.specs.Listed.{as_name, AreShort}
use Rattle.file_tree.proofs.Removals.{seen-remove_entry}
use Rattle.file_tree.proofs.Split.{set_short, set_long, all_inserted, all_removed, all_seen, all_own}
use Rattle.file_tree.proofs.names.Names.set.Goals as goal

pub invariant_of-self : goal.invariant_of-self
invariant_of-self c =
    let short : length c.in-Some-Some.short ≤ 15 = subst (λ k. length k ≤ 15) (sym c.in-Some-Some.ensures.1) c.in-Some-Some.ensures.0 in (
      subst AreShort (sym c.in_ok-insert-in-Some-Some.ensures.entries)
          (all_inserted (λ k. length k ≤ 15) (slice_cmp nat_cmp) c.self.inside.short.entries c.in-Some-Some.short c.in-Some-Some.node c.self.invariant.0 short),
      c.self.invariant.1,
    )

pub invariant_of-self-in-Some-None : goal.invariant_of-self-in-Some-None
invariant_of-self-in-Some-None c = (
  subst AreShort (sym c.remove.ensures.entries)
      (all_removed (λ k. length k ≤ 15) (is_at (slice_cmp nat_cmp c.in-Some-None.short)) c.self.inside.short.entries c.self.invariant.0),
  c.self.invariant.1,
)

pub invariant_of-self-in_ok-insert-in-None-Some : goal.invariant_of-self-in_ok-insert-in-None-Some
invariant_of-self-in_ok-insert-in-None-Some c =
    let old = c.self.inside.long.entries in
    let name = c.in_ok-from_slice-in-None-Some.field-0 in
    let long = rw c.in-None-Some.is-0 at c.new.ensures in (
      c.self.invariant.0,
      all_seen (λ k. 15 < length k) c.insert-in-None-Some.new.self.entries
          (rw c.in_ok-insert-in-None-Some.ensures.entries (all_inserted (λ k. 15 < length k.items) (λ a b. slice_cmp nat_cmp a.items b.items) old name c.in-None-Some.node
          (all_own (λ k. 15 < length k) old c.self.invariant.1) (subst (λ k. 15 < length k) (sym c.in_ok-from_slice-in-None-Some.ensures.items) long))),
    )

pub invariant_of-self-in-None-None : goal.invariant_of-self-in-None-None
invariant_of-self-in-None-None c =
    let old = c.self.inside.long.entries in (
      c.self.invariant.0,
      all_seen (λ k. 15 < length k) c.remove-in-None-None.new.self.entries
          (rw c.remove-in-None-None.ensures.entries (all_removed (λ k. 15 < length k.items) (is_at (λ k. slice_cmp nat_cmp c.args.name.now k.items)) old (all_own (λ k. 15 < length k) old c.self.invariant.1))),
    )

pub returns-in_ok-insert-in-Some-Some-clause-ok : goal.returns-in_ok-insert-in-Some-Some-clause-ok
returns-in_ok-insert-in-Some-Some-clause-ok c =
    let short : length c.in-Some-Some.short ≤ 15 = subst (λ k. length k ≤ 15) (sym c.in-Some-Some.ensures.1) c.in-Some-Some.ensures.0 in
    set_short c.self.inside.short.entries (map as_name c.self.inside.long.entries) c.insert.new.self.entries c.in-Some-Some.short (Some c.in-Some-Some.node)
    (seen-assign text_keys c.self.inside.short c.insert.new.self _ c.in-Some-Some.short (Some c.in-Some-Some.node) refl c.in_ok-insert-in-Some-Some.ensures.updates)
    c.self.invariant.1 short
    ∙ (λ i. assign text_keys.total (c.self.view_is i) (c.in-Some-Some.ensures.1 i) (sym c.in-Some-Some.is-1 i))

pub returns-in-Some-None-clause-ok : goal.returns-in-Some-None-clause-ok
returns-in-Some-None-clause-ok c =
    let short : length c.in-Some-None.short ≤ 15 = subst (λ k. length k ≤ 15) (sym c.in-Some-None.ensures.1) c.in-Some-None.ensures.0 in
    set_short c.self.inside.short.entries (map as_name c.self.inside.long.entries) c.remove.new.self.entries c.in-Some-None.short None
    (seen-assign text_keys c.self.inside.short c.remove.new.self _ c.in-Some-None.short None refl c.remove.ensures.updates)
    c.self.invariant.1 short
    ∙ (λ i. assign text_keys.total (c.self.view_is i) (c.in-Some-None.ensures.1 i) (sym c.in-Some-None.is-1 i))

pub returns-in_ok-insert-in-None-Some-clause-ok : goal.returns-in_ok-insert-in-None-Some-clause-ok
returns-in_ok-insert-in-None-Some-clause-ok c =
    let old = c.self.inside.long.entries in
    let new = c.insert-in-None-Some.new.self.entries in
    let name = c.in_ok-from_slice-in-None-Some.field-0 in
    let long = rw c.in-None-Some.is-0 at c.new.ensures in
    set_long c.self.inside.short.entries (map as_name old) (map as_name new) name.items (Some c.in-None-Some.node)
    (seen-insert_entry text_keys (λ k. k.items) old new _ name c.in-None-Some.node refl c.in_ok-insert-in-None-Some.ensures.entries)
    c.self.invariant.0 (subst (λ k. 15 < length k) (sym c.in_ok-from_slice-in-None-Some.ensures.items) long)
    ∙ (λ i. assign text_keys.total (c.self.view_is i) (c.in_ok-from_slice-in-None-Some.ensures.items i) (sym c.in-None-Some.is-1 i))

pub returns-in-None-None-clause-ok : goal.returns-in-None-None-clause-ok
returns-in-None-None-clause-ok c =
    let old = c.self.inside.long.entries in
    let new = c.remove-in-None-None.new.self.entries in
    let long = rw c.in-None-None.is-0 at c.new.ensures in
    set_long c.self.inside.short.entries (map as_name old) (map as_name new) c.args.name.now None
    (seen-remove_entry text_keys (λ k. k.items) old new _ c.args.name.now refl c.remove-in-None-None.ensures.entries c.remove-in-None-None.ensures.updates.1)
    c.self.invariant.0 long
    ∙ (λ i. assign text_keys.total (c.self.view_is i) c.args.name.now (sym c.in-None-None.is-1 i))
