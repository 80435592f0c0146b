use Rattle.std.proofs.Common.{sym, ◌∙◌}
use Rattle.std.specs.Prelude.{map}
use Rattle.std.specs.Cmp.Derive.Mapped.{pointwise-map}
use Rattle.std.proofs.lemmas.List.{length-map}
use Rattle.file_tree.specs.Listed.{as_name}
use Rattle.file_tree.specs.Same.{same_name, same_names}
use Rattle.file_tree.proofs.Split.{sorted_seen_names, told_by_short, told_by_long, told_by_first, told_by_both}
use Rattle.file_tree.proofs.names.NamesPartialEq.eq.Goals as goal

pub returns-then-len : goal.returns-then-len
returns-then-len c =
    let long = map as_name c.self.inside.long.entries in
    let other = map as_name c.other.inside.long.entries in
    told_by_short c.self.inside.short.entries long c.other.inside.short.entries other c.self.invariant.0 c.self.invariant.1 c.other.invariant.0 c.other.invariant.1 c.len.ensures.ordered c.len-2.ensures.ordered
    (λ e. c.if-len.true (c.len.ensures.len ∙ e ∙ sym c.len-2.ensures.len))
    ∙ (λ i. same_names (c.self.view_is i) (c.other.view_is i))

pub returns-then-len-2 : goal.returns-then-len-2
returns-then-len-2 c =
    let long = c.self.inside.long.entries in
    let other = c.other.inside.long.entries in
    told_by_long c.self.inside.short.entries (map as_name long) c.other.inside.short.entries (map as_name other) c.self.invariant.0 c.self.invariant.1 c.other.invariant.0 c.other.invariant.1 c.len.ensures.ordered c.len-2.ensures.ordered
    (sorted_seen_names long c.len-3.ensures.ordered) (sorted_seen_names other c.len-4.ensures.ordered)
    (λ e. c.if-len-2.true (c.len-3.ensures.len ∙ sym (length-map long as_name) ∙ e ∙ length-map other as_name ∙ sym c.len-4.ensures.len))
    ∙ (λ i. same_names (c.self.view_is i) (c.other.view_is i))

pub returns-then-eq : goal.returns-then-eq
returns-then-eq c =
    let long = c.self.inside.long.entries in
    let other = c.other.inside.long.entries in
    c.eq-then-eq.ensures ∙ sym (pointwise-map as_name same_name long other)
    ∙ told_by_both c.self.inside.short.entries (map as_name long) c.other.inside.short.entries (map as_name other) c.self.invariant.0 c.self.invariant.1 c.other.invariant.0 c.other.invariant.1 c.len.ensures.ordered c.len-2.ensures.ordered
    (sorted_seen_names long c.len-3.ensures.ordered) (sorted_seen_names other c.len-4.ensures.ordered) (sym c.eq.ensures ∙ c.if-eq.true)
    ∙ (λ i. same_names (c.self.view_is i) (c.other.view_is i))

pub returns-else-eq : goal.returns-else-eq
returns-else-eq c =
    let long = c.self.inside.long.entries in
    let other = c.other.inside.long.entries in
    c.if-eq.false
    ∙ told_by_first c.self.inside.short.entries (map as_name long) c.other.inside.short.entries (map as_name other) c.self.invariant.0 c.self.invariant.1 c.other.invariant.0 c.other.invariant.1 c.len.ensures.ordered c.len-2.ensures.ordered
    (sorted_seen_names long c.len-3.ensures.ordered) (sorted_seen_names other c.len-4.ensures.ordered) (sym c.eq.ensures ∙ c.if-eq.false)
    ∙ (λ i. same_names (c.self.view_is i) (c.other.view_is i))
