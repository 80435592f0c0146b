use Rattle.std.proofs.Common.{List, ◌∷◌, ◌++◌, ℕ, length, ap, arith, length-append, refl, sym, ◌∙◌}
use Rattle.std.specs.Int.{w16, to_le_bytes}
use Rattle.std.specs.List.{flat_map}
use Rattle.trace_format.specs.Spelling.{slot_bytes}
use Rattle.text_trace.specs.Found.{found_in}
use Rattle.text_trace.proofs.Looks.{slots_are, slots_len}
use Rattle.text_trace.proofs.draft.in_slots.Goals as goal

pub returns : goal.returns
returns c count more e =
    let slots = c.args.slots.now in
    let all = flat_map slot_bytes slots ++ count in
    c.passed-3.ensures all more (omega (arith, e, slots_len c.args.slots.now, length-append (flat_map slot_bytes c.args.slots.now) count))
    ∙ c.passed-2.ensures (to_le_bytes w16 (length slots)) (all ∷ more) refl
    ∙ ap (λ (l : List (List ℕ)). found_in c.args.search (l ++ more)) (sym (slots_are slots count c.if-is_empty.ensures))
