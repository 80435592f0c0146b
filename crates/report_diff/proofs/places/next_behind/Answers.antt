use Rattle.std.proofs.Common.{◌≡◌, true, false, Some, refl, sym, ◌∙◌}
use Rattle.report_diff.specs.Lines.{line_kind}
use Rattle.report_diff.specs.Places.{falls, is_entry, line_place}
use Rattle.report_diff.proofs.PlaceLemmas.{not_falling, place_is, rises_above, rises_still}
use Rattle.report_diff.proofs.places.next_behind.Goals as goal

pub returns-then-not-is_entry : goal.returns-then-not-is_entry
unfolding falls
returns-then-not-is_entry c = λ earlier from.
    let other : is_entry (line_kind c.args.line.now) ≡ false = rw (← c.line_kind.ensures, ← c.is_entry.ensures) c.if-not-is_entry.true in
    (rw other refl, rises_still earlier c.args.line.now c.args.next other from)

pub returns-else-place-next : goal.returns-else-place-next
returns-else-place-next c = λ earlier from.
    let line = c.args.line.now in
    let place = c.in_ok-place.place in
    let entry : is_entry (line_kind line) ≡ true = rw (← c.line_kind.ensures, ← c.is_entry.ensures) c.if-not-is_entry.false in
    let is : line_place line ≡ Some place = place_is line entry ∙ rw (← c.subject.ensures) (sym c.in_ok-place.ensures.value) in
    let above = c.if-place-next.false in
    (not_falling earlier line c.args.next place is above from, rises_above earlier line c.args.next place is above from)
