use Rattle.std.proofs.Common.{◌≡◌, ◌<◌, ◌==◌, ◌&&◌, ◌∷◌, ◌++◌, not, List, None, Some, length, refl, ap, ◌∙◌, arith, rules}
use Rattle.std.specs.List.{flat_map, list_any}
use Rattle.std.proofs.lemmas.List.Splits.{length-slice_split}
use Rattle.report_diff.specs.declared.refusal.Side.TheVariants.{First, Second}
use Rattle.report_diff.specs.declared.version.Version.TheVariants.{Two}
use Rattle.report_diff.specs.Differences.{Ends, found, of_first}
use Rattle.report_diff.specs.Inputs.{ends_of, flaw_behind, found_of_texts, is_cut, is_end, report_in, taken_as}
use Rattle.report_diff.specs.Lines.{lines, texts}
use Rattle.report_diff.specs.Merging.{TellsSaid, ahead_lines, ends_at, further, heading, order_behind, taken_rest}
use Rattle.report_diff.specs.Repeats.{IsIndex, otherwise}
use Rattle.report_diff.proofs.CutLemmas.{covers_if, cut_behind, end_if, ends_behind, taken_behind}
use Rattle.report_diff.proofs.FinishLemmas.{compares_all, none_further, not_refused, refused_first, refused_second, refused_taken, tells_first, tells_second, tells_taken}
use Rattle.report_diff.proofs.MergeLemmas.{is_left, left_from}
use Rattle.report_diff.proofs.Reports.{report_behind}
use Rattle.report_diff.proofs.Rising.{rises_on}
use Rattle.report_diff.proofs.fronts.Merging.finish.Goals as goal

pub returns-in_err-one-clause-err : goal.returns-in_err-one-clause-err
returns-in_err-one-clause-err c = λ one other taken merges awaits.
    let m = c.args.self.now in
    let terms = c.args.terms in
    let left = lines c.args.first.now in
    let rest = lines c.args.second.now in
    let cut = c.is_cut_behind-cut.result in
    let left2 = taken_rest cut rest in
    let some : 0 < length rest = omega (arith, length-slice_split (λ b. b == 10) c.args.second.now) in
    let raw : texts c.as_slice.result.now ≡ rest = ap texts c.as_slice.ensures.value ∙ c.in_ok-second.ensures in
    let is : cut ≡ (terms.truncated && not (list_any is_end rest)) = rw raw at c.is_cut_behind-cut.ensures in
    let cuts : is_cut terms (heading ∷ (other ++ rest)) ≡ cut = cut_behind terms cut other rest merges.is_second.unended some is in
    let takes : taken_as terms (heading ∷ (other ++ rest)) ≡ heading ∷ (other ++ left2) = taken_behind terms cut other rest m.second.next merges.below_second some cuts in
    let first : texts c.as_slice-2.result.now ≡ left = ap texts c.as_slice-2.ensures.value ∙ c.in_ok-first.ensures in
    let flaw = rw first at (c.in_err-one.ensures.err (heading ∷ one) merges.is_first) in
    search (rules, refused_taken terms (heading ∷ (one ++ left)) _ _ _ takes (refused_first (one ++ left) (heading ∷ (other ++ left2)) _ flaw))

pub returns-in_err-other-clause-err : goal.returns-in_err-other-clause-err
returns-in_err-other-clause-err c = λ one other taken merges awaits.
    let m = c.args.self.now in
    let terms = c.args.terms in
    let left = lines c.args.first.now in
    let rest = lines c.args.second.now in
    let cut = c.is_cut_behind-cut.result in
    let left2 = taken_rest cut rest in
    let some : 0 < length rest = omega (arith, length-slice_split (λ b. b == 10) c.args.second.now) in
    let raw : texts c.as_slice.result.now ≡ rest = ap texts c.as_slice.ensures.value ∙ c.in_ok-second.ensures in
    let is : cut ≡ (terms.truncated && not (list_any is_end rest)) = rw raw at c.is_cut_behind-cut.ensures in
    let cuts : is_cut terms (heading ∷ (other ++ rest)) ≡ cut = cut_behind terms cut other rest merges.is_second.unended some is in
    let takes : taken_as terms (heading ∷ (other ++ rest)) ≡ heading ∷ (other ++ left2) = taken_behind terms cut other rest m.second.next merges.below_second some cuts in
    let first : texts c.as_slice-2.result.now ≡ left = ap texts c.as_slice-2.ensures.value ∙ c.in_ok-first.ensures in
    let second : texts c.as_slice-3.result.now ≡ left2 = ap texts c.as_slice-3.ensures.value ∙ c.in_ok-second-2.ensures ∙ ap (taken_rest cut) c.in_ok-second.ensures in
    let none = rw first at (c.in_ok-one.ensures.whole (heading ∷ one) merges.is_first) in
    let flaw = rw second at (c.in_err-other.ensures.err (heading ∷ other) merges.is_second) in
    search (rules, refused_taken terms (heading ∷ (one ++ left)) _ _ _ takes (refused_second (one ++ left) (other ++ left2) _ none flaw))

pub returns-in_err-one-3-clause-err : goal.returns-in_err-one-3-clause-err
returns-in_err-one-3-clause-err c = λ one other taken merges awaits.
    let m = c.args.self.now in
    let terms = c.args.terms in
    let left = lines c.args.first.now in
    let rest = lines c.args.second.now in
    let cut = c.is_cut_behind-cut.result in
    let left2 = taken_rest cut rest in
    let some : 0 < length rest = omega (arith, length-slice_split (λ b. b == 10) c.args.second.now) in
    let raw : texts c.as_slice.result.now ≡ rest = ap texts c.as_slice.ensures.value ∙ c.in_ok-second.ensures in
    let is : cut ≡ (terms.truncated && not (list_any is_end rest)) = rw raw at c.is_cut_behind-cut.ensures in
    let cuts : is_cut terms (heading ∷ (other ++ rest)) ≡ cut = cut_behind terms cut other rest merges.is_second.unended some is in
    let takes : taken_as terms (heading ∷ (other ++ rest)) ≡ heading ∷ (other ++ left2) = taken_behind terms cut other rest m.second.next merges.below_second some cuts in
    let first : texts c.as_slice-2.result.now ≡ left = ap texts c.as_slice-2.ensures.value ∙ c.in_ok-first.ensures in
    let second : texts c.as_slice-3.result.now ≡ left2 = ap texts c.as_slice-3.ensures.value ∙ c.in_ok-second-2.ensures ∙ ap (taken_rest cut) c.in_ok-second.ensures in
    let none : flaw_behind First (heading ∷ (one ++ left)) (Some Two) ≡ None = rw first at (c.in_ok-one.ensures.whole (heading ∷ one) merges.is_first) in
    let none2 : flaw_behind Second (heading ∷ (other ++ left2)) (Some Two) ≡ None = rw second at (c.in_ok-other.ensures.whole (heading ∷ other) merges.is_second) in
    let body : texts c.in_ok-one.one.now ≡ report_in left = c.in_ok-one.ensures.report ∙ ap report_in first in
    let order : order_behind First Two (heading ∷ one) (report_in left) ≡ None = rw body at (c.in_ok-one.ensures.orderly (heading ∷ one) merges.is_first) in
    let from = left_from m (heading ∷ one) left merges.is_first.rises order awaits in
    let said : otherwise (report_in (heading ∷ (one ++ left))) ≡ further (length one) (otherwise (heading ∷ report_in left)) =
    ap otherwise (report_behind (heading ∷ one) left merges.is_first.unended) ∙ merges.says_first (report_in left) from in
    let all : texts c.as_slice-4.result.now ≡ heading ∷ report_in left = ap texts c.as_slice-4.ensures.value ∙ c.in_ok-one-2.ensures ∙ ap (λ x. heading ∷ x) body in
    let count : c.saturating_sub-skipped.result ≡ length one = omega (arith, c.saturating_sub-skipped.ensures, merges.is_first.lines) in
    let tells : TellsSaid First (length one) (heading ∷ report_in left) c.in_err-one-3.field-0.0 = rw (all, count) at c.in_err-one-3.ensures.err in
    search (
      rules,
      tells_taken terms (heading ∷ (one ++ left)) _ _ c.in_err-one-3.field-0.0 takes
          (tells_first (one ++ left) (other ++ left2) (heading ∷ report_in left) (length one) c.in_err-one-3.field-0.0 none none2 said tells),
    )

pub returns-in_err-other-3-clause-err : goal.returns-in_err-other-3-clause-err
returns-in_err-other-3-clause-err c = λ one other taken merges awaits.
    let m = c.args.self.now in
    let terms = c.args.terms in
    let left = lines c.args.first.now in
    let rest = lines c.args.second.now in
    let cut = c.is_cut_behind-cut.result in
    let left2 = taken_rest cut rest in
    let some : 0 < length rest = omega (arith, length-slice_split (λ b. b == 10) c.args.second.now) in
    let raw : texts c.as_slice.result.now ≡ rest = ap texts c.as_slice.ensures.value ∙ c.in_ok-second.ensures in
    let is : cut ≡ (terms.truncated && not (list_any is_end rest)) = rw raw at c.is_cut_behind-cut.ensures in
    let cuts : is_cut terms (heading ∷ (other ++ rest)) ≡ cut = cut_behind terms cut other rest merges.is_second.unended some is in
    let takes : taken_as terms (heading ∷ (other ++ rest)) ≡ heading ∷ (other ++ left2) = taken_behind terms cut other rest m.second.next merges.below_second some cuts in
    let first : texts c.as_slice-2.result.now ≡ left = ap texts c.as_slice-2.ensures.value ∙ c.in_ok-first.ensures in
    let second : texts c.as_slice-3.result.now ≡ left2 = ap texts c.as_slice-3.ensures.value ∙ c.in_ok-second-2.ensures ∙ ap (taken_rest cut) c.in_ok-second.ensures in
    let none : flaw_behind First (heading ∷ (one ++ left)) (Some Two) ≡ None = rw first at (c.in_ok-one.ensures.whole (heading ∷ one) merges.is_first) in
    let none2 : flaw_behind Second (heading ∷ (other ++ left2)) (Some Two) ≡ None = rw second at (c.in_ok-other.ensures.whole (heading ∷ other) merges.is_second) in
    let body : texts c.in_ok-one.one.now ≡ report_in left = c.in_ok-one.ensures.report ∙ ap report_in first in
    let order : order_behind First Two (heading ∷ one) (report_in left) ≡ None = rw body at (c.in_ok-one.ensures.orderly (heading ∷ one) merges.is_first) in
    let from = left_from m (heading ∷ one) left merges.is_first.rises order awaits in
    let said : otherwise (report_in (heading ∷ (one ++ left))) ≡ further (length one) (otherwise (heading ∷ report_in left)) =
    ap otherwise (report_behind (heading ∷ one) left merges.is_first.unended) ∙ merges.says_first (report_in left) from in
    let all : texts c.as_slice-4.result.now ≡ heading ∷ report_in left = ap texts c.as_slice-4.ensures.value ∙ c.in_ok-one-2.ensures ∙ ap (λ x. heading ∷ x) body in
    let body2 : texts c.in_ok-other.other.now ≡ report_in left2 = c.in_ok-other.ensures.report ∙ ap report_in second in
    let order2 : order_behind Second Two (heading ∷ other) (report_in left2) ≡ None = rw body2 at (c.in_ok-other.ensures.orderly (heading ∷ other) merges.is_second) in
    let from2 = rises_on (report_in left2) (heading ∷ other) m.second.next (is_left Second (heading ∷ other) (report_in left2) order2) merges.is_second.rises in
    let behind = heading ∷ (merges.kept ++ (ahead_lines m.ahead m.line.items ++ report_in left2)) in
    let said2 : otherwise (report_in (heading ∷ (other ++ left2))) ≡ further m.gone (otherwise behind) =
    ap otherwise (report_behind (heading ∷ other) left2 merges.is_second.unended) ∙ merges.says_second (report_in left2) from2 in
    let kept = c.in_ok-other-2.ensures (heading ∷ merges.kept) (c.as_slice-kept.ensures.value ∙ merges.kept_text) merges.kept_whole in
    let all2 : texts c.as_slice-5.result.now ≡ behind = ap texts c.as_slice-5.ensures.value ∙ (rw (c.as_slice-line.ensures.value, body2) at kept) in
    let nothing = none_further (length one) (otherwise (heading ∷ report_in left)) _ said (rw all at c.in_ok-one-3.ensures.agrees) in
    let tells : TellsSaid Second m.gone behind c.in_err-other-3.field-0.0 = rw all2 at c.in_err-other-3.ensures.err in
    search (
      rules,
      tells_taken terms (heading ∷ (one ++ left)) _ _ c.in_err-other-3.field-0.0 takes
          (tells_second (one ++ left) (other ++ left2) behind m.gone c.in_err-other-3.field-0.0 none none2 nothing said2 tells),
    )

pub returns-clause-ok : goal.returns-clause-ok
unfolding found_of_texts
returns-clause-ok c = λ one other taken merges awaits.
    let m = c.args.self.now in
    let terms = c.args.terms in
    let left = lines c.args.first.now in
    let rest = lines c.args.second.now in
    let cut = c.is_cut_behind-cut.result in
    let left2 = taken_rest cut rest in
    let some : 0 < length rest = omega (arith, length-slice_split (λ b. b == 10) c.args.second.now) in
    let raw : texts c.as_slice.result.now ≡ rest = ap texts c.as_slice.ensures.value ∙ c.in_ok-second.ensures in
    let is : cut ≡ (terms.truncated && not (list_any is_end rest)) = rw raw at c.is_cut_behind-cut.ensures in
    let cuts : is_cut terms (heading ∷ (other ++ rest)) ≡ cut = cut_behind terms cut other rest merges.is_second.unended some is in
    let takes : taken_as terms (heading ∷ (other ++ rest)) ≡ heading ∷ (other ++ left2) = taken_behind terms cut other rest m.second.next merges.below_second some cuts in
    let first : texts c.as_slice-2.result.now ≡ left = ap texts c.as_slice-2.ensures.value ∙ c.in_ok-first.ensures in
    let second : texts c.as_slice-3.result.now ≡ left2 = ap texts c.as_slice-3.ensures.value ∙ c.in_ok-second-2.ensures ∙ ap (taken_rest cut) c.in_ok-second.ensures in
    let none : flaw_behind First (heading ∷ (one ++ left)) (Some Two) ≡ None = rw first at (c.in_ok-one.ensures.whole (heading ∷ one) merges.is_first) in
    let none2 : flaw_behind Second (heading ∷ (other ++ left2)) (Some Two) ≡ None = rw second at (c.in_ok-other.ensures.whole (heading ∷ other) merges.is_second) in
    let body : texts c.in_ok-one.one.now ≡ report_in left = c.in_ok-one.ensures.report ∙ ap report_in first in
    let order : order_behind First Two (heading ∷ one) (report_in left) ≡ None = rw body at (c.in_ok-one.ensures.orderly (heading ∷ one) merges.is_first) in
    let from = left_from m (heading ∷ one) left merges.is_first.rises order awaits in
    let said : otherwise (report_in (heading ∷ (one ++ left))) ≡ further (length one) (otherwise (heading ∷ report_in left)) =
    ap otherwise (report_behind (heading ∷ one) left merges.is_first.unended) ∙ merges.says_first (report_in left) from in
    let all : texts c.as_slice-4.result.now ≡ heading ∷ report_in left = ap texts c.as_slice-4.ensures.value ∙ c.in_ok-one-2.ensures ∙ ap (λ x. heading ∷ x) body in
    let body2 : texts c.in_ok-other.other.now ≡ report_in left2 = c.in_ok-other.ensures.report ∙ ap report_in second in
    let order2 : order_behind Second Two (heading ∷ other) (report_in left2) ≡ None = rw body2 at (c.in_ok-other.ensures.orderly (heading ∷ other) merges.is_second) in
    let from2 = rises_on (report_in left2) (heading ∷ other) m.second.next (is_left Second (heading ∷ other) (report_in left2) order2) merges.is_second.rises in
    let behind = heading ∷ (merges.kept ++ (ahead_lines m.ahead m.line.items ++ report_in left2)) in
    let said2 : otherwise (report_in (heading ∷ (other ++ left2))) ≡ further m.gone (otherwise behind) =
    ap otherwise (report_behind (heading ∷ other) left2 merges.is_second.unended) ∙ merges.says_second (report_in left2) from2 in
    let kept = c.in_ok-other-2.ensures (heading ∷ merges.kept) (c.as_slice-kept.ensures.value ∙ merges.kept_text) merges.kept_whole in
    let all2 : texts c.as_slice-5.result.now ≡ behind = ap texts c.as_slice-5.ensures.value ∙ (rw (c.as_slice-line.ensures.value, body2) at kept) in
    let nothing = none_further (length one) (otherwise (heading ∷ report_in left)) _ said (rw all at c.in_ok-one-3.ensures.agrees) in
    let nothing2 = none_further m.gone (otherwise behind) _ said2 (rw all2 at c.in_ok-other-3.ensures.agrees) in
    let index : IsIndex c.in_ok-one-3.one (heading ∷ report_in left) = rw all at c.in_ok-one-3.ensures.index in
    let index2 : IsIndex c.in_ok-other-3.other behind = rw all2 at c.in_ok-other-3.ensures.index in
    let end : c.in_ok-one-3.one.end ≡ end_if cut m.first.next (report_in left) = c.in_ok-one-3.ensures.end ∙ (rw body at c.entries_end-first_end.ensures) in
    let end2 : c.in_ok-other-3.other.end ≡ end_if cut m.second.next (report_in left2) = c.in_ok-other-3.ensures.end ∙ (rw body2 at c.entries_end-second_end.ensures) in
    let ends : Ends = record { first = end_if cut m.first.next (report_in left); second = end_if cut m.second.next (report_in left2) } in
    let at_ends : ends_at c.in_ok-one-3.one c.in_ok-other-3.other ≡ ends = rw (end, end2) refl in
    let before = flat_map (of_first None other) one in
    let compared = rw at_ends at (c.in_ok-compared.ensures (heading ∷ report_in left) behind taken before index index2
    record { counts = rw c.in_ok-told.ensures.counts merges.counts; text = rw c.in_ok-told.ensures.text merges.text }) in
    let finds : found_of_texts cut (heading ∷ (one ++ left)) (heading ∷ (other ++ left2)) ≡ before ++ found ends (heading ∷ report_in left) behind =
    rw (
      report_behind (heading ∷ one) left merges.is_first.unended,
      report_behind (heading ∷ other) left2 merges.is_second.unended,
      ends_behind cut (heading ∷ one) (report_in left) (heading ∷ other) (report_in left2) m.first.next m.second.next merges.is_first.rises merges.is_second.rises,
    )
    (merges.finds ends (covers_if cut m.second.next (report_in left2)) (report_in left) (report_in left2) from from2) in
    compares_all terms cut (heading ∷ (one ++ left)) (heading ∷ (other ++ rest)) (heading ∷ (other ++ left2)) taken (before ++ found ends (heading ∷ report_in left) behind)
    c.in_ok-compared.field-0 cuts takes (not_refused (one ++ left) (other ++ left2) none none2 nothing nothing2) finds compared
