use Rattle.std.proofs.Common.{◌≡◌, true, None, Some, refl, sym, ◌∙◌, arith}
use Rattle.std.proofs.lemmas.Bool.{lt-leb}
use Rattle.report_diff.specs.Lines.{line_kind}
use Rattle.report_diff.specs.Places.{is_entry, line_place}
use Rattle.report_diff.proofs.PlaceLemmas.{place_is}
use Rattle.report_diff.proofs.places.place_on.Goals as goal

pub returns-in-Some : goal.returns-in-Some
returns-in-Some c =
    let line = c.args.line.now in
    let entry : is_entry (line_kind line) ≡ true = rw (← c.line_kind.ensures, ← c.is_entry.ensures) c.if-not-is_entry.false in
    let is : line_place line ≡ Some c.in-Some.place = place_is line entry ∙ rw (← c.subject.ensures) (sym c.in-Some.ensures.value) in
    (entry, is, c.if-next-place.true, c.in-Some.ensures.bound)

pub returns-in_default : goal.returns-in_default
returns-in_default c = λ earlier from.
    let line = c.args.line.now in
    let entry : is_entry (line_kind line) ≡ true = rw (← c.line_kind.ensures, ← c.is_entry.ensures) c.if-not-is_entry.false in
    let is : line_place line ≡ Some c.in-Some.place = place_is line entry ∙ rw (← c.subject.ensures) (sym c.in-Some.ensures.value) in
    rw (entry, is, from c.in-Some.place, lt-leb c.args.next c.in-Some.place (omega (arith, c.if-next-place.false))) refl

pub returns-in_default-2 : goal.returns-in_default-2
returns-in_default-2 c = λ earlier from.
    let line = c.args.line.now in
    let entry : is_entry (line_kind line) ≡ true = rw (← c.line_kind.ensures, ← c.is_entry.ensures) c.if-not-is_entry.false in
    let is : line_place line ≡ None = place_is line entry ∙ rw (← c.subject.ensures) (sym c.in_default.ensures.value) in
    rw (entry, is) refl
