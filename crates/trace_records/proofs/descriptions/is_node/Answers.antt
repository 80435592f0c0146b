use Rattle.std.proofs.Common.{◌∙◌, sym, refl}
use Rattle.std.specs.Prelude.{◌||◌}
use Rattle.trace_records.specs.Start.{is_directory, is_file}
use Rattle.trace_records.proofs.Numbered.{not_there, one_there}
use Rattle.trace_records.proofs.descriptions.is_node.Goals as goal

pub returns-in-None : goal.returns-in-None
returns-in-None c = sym (not_there (λ n. is_directory n || is_file n) c.args.items.now c.args.number c.if-number-eq0.false c.in-None.ensures.lookup.3)

pub returns-then-is_directory : goal.returns-then-is_directory
returns-then-is_directory c =
    let there = one_there (λ n. is_directory n || is_file n) c.args.items.now c.args.number c.in-Some.item.now c.if-number-eq0.false c.in-Some.ensures.lookup.3.0 c.in-Some.ensures.lookup.1 in
    c.if-is_directory.true ∙ sym (there ∙ rw (← c.if-is_directory.ensures) refl)

pub returns-else-is_directory : goal.returns-else-is_directory
returns-else-is_directory c =
    let there = one_there (λ n. is_directory n || is_file n) c.args.items.now c.args.number c.in-Some.item.now c.if-number-eq0.false c.in-Some.ensures.lookup.3.0 c.in-Some.ensures.lookup.1 in
    c.is_file.ensures ∙ sym (there ∙ rw (← c.if-is_directory.ensures) refl)
