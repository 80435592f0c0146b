use Rattle.std.proofs.Common.{◌≡◌, ℕ, false, [], List, get_or, sym, arith}
use borrow.Author.Count.{below_more}
use Rattle.std.specs.Borrow.{Bor}
use Rattle.std.proofs.lemmas.List.{length-map}
use Rattle.std.proofs.lemmas.List.Sums.{position_or_len_is}
use Rattle.report_diff.specs.Inputs.{is_end}
use Rattle.report_diff.specs.Lines.{texts}
use Rattle.report_diff.proofs.Slices.{text_at}
use Rattle.report_diff.proofs.comparing.end_of.Goals as goal

pub returns-then-eq-clause-place : goal.returns-then-eq-clause-place
returns-then-eq-clause-place c =
    let lines = c.args.lines.now in
    let size = length-map lines (λ (s : Bor (List ℕ)). s.now) in
    sym (position_or_len_is is_end (texts lines) c.loop-place.place [] (omega arith) c.loop-place.invariant
    (λ lt. rw (text_at lines c.loop-place.place, ← c.as_slice.ensures, ← c.eq.ensures) c.if-eq.true))

pub loop-place-preserved : goal.loop-place-preserved
loop-place-preserved c =
    let lines = c.args.lines.now in
    below_more (λ k. is_end (get_or (texts lines) k []) ≡ false) c.loop-place.place c.loop-place.invariant
    (rw (text_at lines c.loop-place.place, ← c.as_slice.ensures, ← c.eq.ensures) c.if-eq.false)

pub returns-clause-place : goal.returns-clause-place
returns-clause-place c =
    let lines = c.args.lines.now in
    let size = length-map lines (λ (s : Bor (List ℕ)). s.now) in
    sym (position_or_len_is is_end (texts lines) _ [] (omega arith) (λ k lt. c.loop-place.invariant k (omega arith)) (λ lt. absurd (omega arith)))
