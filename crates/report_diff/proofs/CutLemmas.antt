-- A second text that was cut off, behind entries that were passed, and where the entries of both end.
use Rattle.std.proofs.Common.{◌≡◌, ◌<◌, ◌≤◌, ◌+◌, ◌-◌, ℕ, suc, Bool, true, false, not, ◌&&◌, if◌then◌else◌, List, [], ◌∷◌, ◌++◌, length, get_or, take, max, Option, None, Some, inl, inr, refl, sym, ap, ◌∙◌, arith, append_assoc}
use Rattle.std.specs.Prelude.{codes, nat_le, nat_lt}
use Rattle.std.specs.List.{filter_map, list_all, list_any, take_while}
use Rattle.std.proofs.Math.Seq.{take-append-add}
use Rattle.std.proofs.lemmas.Bool.{cases_Bool, le-leb, leb-true}
use Rattle.std.proofs.lemmas.Bool.Decides.{nat_tests}
use Rattle.std.proofs.lemmas.List.{length-append}
use Rattle.std.proofs.lemmas.List.Folds.{list_any-append}
use Rattle.report_diff.specs.declared.comparing.Terms.{Terms}
use Rattle.report_diff.specs.declared.version.Version.TheVariants.{Two}
use Rattle.report_diff.specs.Differences.{Ends}
use Rattle.report_diff.specs.Inputs.{closed, ends_of, entries_end, entries_in, is_cut, is_end, place_end, taken_as, version_of, whole}
use Rattle.std.specs.Borrow.{Bor}
use Rattle.report_diff.specs.Lines.{line_kind, texts}
use Rattle.report_diff.specs.declared.index.Index.{Index}
use Rattle.report_diff.specs.Merging.{Covers, ends_at, heading, is_below, taken_rest}
use Rattle.report_diff.specs.Places.{RisesFrom, is_entry, line_place}
use Rattle.report_diff.proofs.Early.{entry_below, first_passes, others_pass, while_behind}
use Rattle.report_diff.proofs.Slices.{no_slice, texts_more}

-- the whole lines of a text, behind its first one
begins : (rest : List (List ℕ)) → 0 < length rest → version_of (whole (heading ∷ rest)) ≡ Some Two
begins [] some = absurd (omega arith)
begins (line ∷ more) some = let count : length (heading ∷ line ∷ more) - 1 ≡ suc (length more) = omega arith in rw count refl

whole_behind : (other rest : List (List ℕ)) → 0 < length rest → whole (other ++ rest) ≡ other ++ whole rest
whole_behind other rest some =
    let count : length (other ++ rest) - 1 ≡ length other + (length rest - 1) = omega (arith, length-append other rest) in
    rw count (take-append-add other rest (length rest - 1))

are_entries : (text : List (List ℕ)) (next : ℕ) → list_all (is_below next) text ≡ true → list_all (λ line. is_entry (line_kind line)) text ≡ true
are_entries [] next below = refl
are_entries (line ∷ more) next below =
    rw (entry_below next line (first_passes (is_below next) line more below), are_entries more next (others_pass (is_below next) line more below)) refl

-- whether a text was cut off, and what it is taken as
pub cut_behind : (terms : Terms) (cut : Bool) (other rest : List (List ℕ)) → list_any is_end (heading ∷ other) ≡ false → 0 < length rest
    → cut ≡ (terms.truncated && not (list_any is_end rest)) → is_cut terms (heading ∷ (other ++ rest)) ≡ cut
unfolding is_cut
cut_behind terms cut other rest unended some is =
    let long : 0 < length (other ++ rest) = omega (arith, length-append other rest) in
    let ended : list_any is_end (heading ∷ (other ++ rest)) ≡ list_any is_end rest = list_any-append is_end (heading ∷ other) rest ∙ rw unended refl in
    rw (begins (other ++ rest) long, ended, is) (simple terms.truncated (list_any is_end rest))
  where
    simple : (a b : Bool) → (a && (not b && true)) ≡ (a && not b)
    simple a b = grind arith

pub taken_behind : (terms : Terms) (cut : Bool) (other rest : List (List ℕ)) (next : ℕ) → list_all (is_below next) other ≡ true → 0 < length rest
    → is_cut terms (heading ∷ (other ++ rest)) ≡ cut → taken_as terms (heading ∷ (other ++ rest)) ≡ heading ∷ (other ++ taken_rest cut rest)
unfolding taken_as closed
taken_behind terms false other rest next below some is = rw is refl
taken_behind terms true other rest next below some is =
    let test : List ℕ → Bool = λ line. is_entry (line_kind line) in
    let entries : entries_in (other ++ rest) ≡ other ++ entries_in rest =
    ap (take_while test) (whole_behind other rest some) ∙ while_behind test other (whole rest) (are_entries other next below) in
    rw (is, entries) (ap (λ all. heading ∷ all) (append_assoc other (entries_in rest) (codes "end" ∷ [])))

-- where the entries of a text end, places rise behind it
rises_end : (text : List (List ℕ)) (place : ℕ) → list_all (λ one. nat_lt one place) (filter_map line_place text) ≡ nat_le (entries_end text) place
unfolding entries_end
rises_end [] place = sym (le-leb 0 place (omega arith))
rises_end (line ∷ more) place = by (line_place line) refl (rises_end more place)
  where
    by : (own : Option ℕ) → line_place line ≡ own → list_all (λ one. nat_lt one place) (filter_map line_place more) ≡ nat_le (entries_end more) place
        → list_all (λ one. nat_lt one place) (filter_map line_place (line ∷ more)) ≡ nat_le (entries_end (line ∷ more)) place
    by None is rest = let least : max 0 (entries_end more) ≡ entries_end more = omega arith in rw (is, least) rest
    by (Some own) is rest = rw (is, rest) (grind (arith, nat_tests))

end_is : (text : List (List ℕ)) (next : ℕ) → RisesFrom next text → entries_end text ≡ next
end_is text next rises =
    let one = leb-true next (entries_end text) (sym (rises (entries_end text)) ∙ rises_end text (entries_end text) ∙ le-leb _ _ (omega arith)) in
    let other = leb-true (entries_end text) next (sym (rises_end text next) ∙ rises next ∙ le-leb next next (omega arith)) in
    omega arith

end-append : (text more : List (List ℕ)) → entries_end (text ++ more) ≡ max (entries_end text) (entries_end more)
unfolding entries_end
end-append [] more = omega arith
end-append (line ∷ text) more = rw (end-append text more) (omega arith)

pub end_behind : (text more : List (List ℕ)) (next : ℕ) → RisesFrom next text → entries_end (text ++ more) ≡ max next (entries_end more)
end_behind text more next rises = end-append text more ∙ rw (end_is text next rises) refl

-- the end of a report that may be cut off, or stands beside one
abbrev pub end_if : Bool → ℕ → List (List ℕ) → Option ℕ
end_if cut next report = if cut then Some (max next (entries_end report)) else None

pub ends_behind : (cut : Bool) (text more text2 more2 : List (List ℕ)) (next next2 : ℕ) → RisesFrom next text → RisesFrom next2 text2
    → ends_of cut (text ++ more) (text2 ++ more2) ≡ record { first = end_if cut next more; second = end_if cut next2 more2 }
ends_behind false text more text2 more2 next next2 rises rises2 = refl
ends_behind true text more text2 more2 next next2 rises rises2 = rw (end_behind text more next rises, end_behind text2 more2 next2 rises2) refl

pub covers_if : (cut : Bool) (next : ℕ) (report : List (List ℕ)) → Covers next (end_if cut next report)
covers_if false next report = tt
covers_if true next report = omega arith

pub ends_are : (cut : Bool) (first second : Index) (one other : List (List ℕ)) → first.end ≡ end_if cut 0 one → second.end ≡ end_if cut 0 other
    → ends_at first second ≡ ends_of cut one other
ends_are false first second one other is its = rw (is, its) refl
ends_are true first second one other is its =
    let least : max 0 (entries_end one) ≡ entries_end one = omega arith in
    let least2 : max 0 (entries_end other) ≡ entries_end other = omega arith in
    rw (is, its, least, least2) refl

-- one line more of a slice of lines
pub end_more : (lines : List (Bor (List ℕ))) (i next end place : ℕ) → i < length lines → end ≡ max next (entries_end (texts (take i lines)))
    → place ≡ place_end (line_place (get_or lines i no_slice).now) → max end place ≡ max next (entries_end (texts (take (i + 1) lines)))
unfolding entries_end
end_more lines i next end place lt is its =
    let line = (get_or lines i no_slice).now in
    let both = end-append (texts (take i lines)) (line ∷ []) in
    rw (texts_more lines i lt, both, one_end line) (omega (arith, is, its))
  where
    one_end : (line : List ℕ) → entries_end (line ∷ []) ≡ place_end (line_place line)
    one_end line = omega arith

pub end_none : (next : ℕ) → next ≡ max next (entries_end [])
unfolding entries_end
end_none next = omega arith
