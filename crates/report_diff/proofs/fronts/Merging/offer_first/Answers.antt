use Rattle.std.proofs.Common.{◌≡◌, Some, sym, ap, ◌∙◌, arith}
use Rattle.report_diff.specs.Merging.{IsAhead}
use Rattle.report_diff.proofs.MergeLemmas.{awaits_from}
use Rattle.report_diff.proofs.fronts.Merging.offer_first.Goals as goal

pub returns-in_ok-add_pair-in-Some-ahead-clause-offer : goal.returns-in_ok-add_pair-in-Some-ahead-clause-offer
returns-in_ok-add_pair-in-Some-ahead-clause-offer c = λ first second taken merges.
    let known = c.in-Some.ensures in
    let from = awaits_from c.args.self.now c.args.line.now c.in-Some.place c.requires known.1 known.2 in (
      c.in_ok-add_pair-in-Some-ahead.ensures.taken first second taken record { entry = known.0; place_is = known.1; next = known.2; from = from }
          (c.in-Some-ahead.is ∙ ap Some c.if-other-place.true) merges,
      c.in_ok-add_pair-in-Some-ahead.ensures.from,
    )

pub returns-in_ok-add_lone-in-Some-2-clause-offer : goal.returns-in_ok-add_lone-in-Some-2-clause-offer
returns-in_ok-add_lone-in-Some-2-clause-offer c = λ first second taken merges.
    let known = c.in-Some.ensures in
    let from = awaits_from c.args.self.now c.args.line.now c.in-Some.place c.requires known.1 known.2 in (
      c.in_ok-add_lone-in-Some-2.ensures.taken first second taken c.in-Some-2.other record { entry = known.0; place_is = known.1; next = known.2; from = from }
          c.in-Some-2.is c.if-other-place-2.true merges,
      c.in_ok-add_lone-in-Some-2.ensures.from,
    )

pub returns-in_ok-keep-in-Some-3-clause-offer : goal.returns-in_ok-keep-in-Some-3-clause-offer
returns-in_ok-keep-in-Some-3-clause-offer c = λ first second taken merges.
    let m = c.args.self.now in
    let known = c.in-Some.ensures in
    let from = awaits_from m c.args.line.now c.in-Some.place c.requires known.1 known.2 in
    let d : IsAhead c.in-Some-3.field-0 m.line.items m.second.next m.from second merges.kept = rw c.in-Some-3.is at merges.ahead in
    let kept = c.in_ok-keep-in-Some-3.ensures in
    let one : Some c.in-Some-3.field-0 ≡ Some c.in-Some-ahead.other = sym c.in-Some-3.is ∙ c.in-Some-ahead.is in
    let two : Some c.in-Some-3.field-0 ≡ Some c.in-Some-2.other = sym c.in-Some-3.is ∙ c.in-Some-2.is in
    let equal : c.in-Some-3.field-0 ≡ c.in-Some-ahead.other = cc in
    let equal2 : c.in-Some-3.field-0 ≡ c.in-Some-2.other = cc in (
      kept.kept first second taken c.in-Some-3.field-0 c.in-Some-3.is merges,
      record { place = c.in-Some.place; entry = known.0; place_is = known.1; from_is = omega (arith, kept.from, from, d.next_is, equal, equal2, c.if-other-place.false, c.if-other-place-2.false) },
      kept.ahead,
    )
