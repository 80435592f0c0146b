-- Why two texts of version 2 are not two reports, and how they compare, by what is left of them.
use Rattle.std.proofs.Common.{◌≡◌, ℕ, Bool, List, ◌∷◌, Option, None, Some, refl, ap, ◌∙◌}
use Rattle.report_diff.specs.declared.comparing.Comparison.{Comparison}
use Rattle.report_diff.specs.declared.comparing.Terms.{Terms}
use Rattle.report_diff.specs.declared.comparing.DiffFault.{DiffFault}
use Rattle.report_diff.specs.declared.comparing.DiffFault.TheVariants.{Memory, Refused}
use Rattle.report_diff.specs.declared.refusal.Side.TheVariants.{First, Second}
use Rattle.report_diff.specs.declared.version.Version.TheVariants.{Two}
use Rattle.report_diff.specs.Differences.{Found}
use Rattle.report_diff.specs.Inputs.{TellsOfLines, TellsOfTexts, differences_of, flaw_behind, flaw_of, found_of, found_of_texts, is_cut, otherwise_of, passes_of, refusal_of, refusal_of_texts, report_in, taken_as}
use Rattle.report_diff.specs.Merging.{ComparesBehind, ComparesFound, TellsSaid, further, heading}
use Rattle.report_diff.specs.Repeats.{otherwise}

pub refused_first : (one other : List (List ℕ)) (why : List ℕ) → flaw_behind First (heading ∷ one) (Some Two) ≡ Some why
    → refusal_of_texts (heading ∷ one) other ≡ Some why
unfolding refusal_of_texts flaw_of
refused_first one other why flaw = rw flaw refl

pub refused_second : (one other : List (List ℕ)) (why : List ℕ) → flaw_behind First (heading ∷ one) (Some Two) ≡ None
    → flaw_behind Second (heading ∷ other) (Some Two) ≡ Some why → refusal_of_texts (heading ∷ one) (heading ∷ other) ≡ Some why
unfolding refusal_of_texts flaw_of
refused_second one other why none flaw = rw (none, flaw) refl

said_first : (one other : List (List ℕ)) (why : List ℕ) → flaw_behind First (heading ∷ one) (Some Two) ≡ None
    → flaw_behind Second (heading ∷ other) (Some Two) ≡ None → otherwise_of First (report_in (heading ∷ one)) ≡ Some why
    → refusal_of_texts (heading ∷ one) (heading ∷ other) ≡ Some why
unfolding refusal_of_texts flaw_of
said_first one other why none none2 said = rw (none, none2, said) refl

said_second : (one other : List (List ℕ)) (why : List ℕ) → flaw_behind First (heading ∷ one) (Some Two) ≡ None
    → flaw_behind Second (heading ∷ other) (Some Two) ≡ None → otherwise_of First (report_in (heading ∷ one)) ≡ None
    → otherwise_of Second (report_in (heading ∷ other)) ≡ Some why → refusal_of_texts (heading ∷ one) (heading ∷ other) ≡ Some why
unfolding refusal_of_texts flaw_of
said_second one other why none none2 nothing said = rw (none, none2, nothing, said) refl

pub not_refused : (one other : List (List ℕ)) → flaw_behind First (heading ∷ one) (Some Two) ≡ None
    → flaw_behind Second (heading ∷ other) (Some Two) ≡ None → otherwise (report_in (heading ∷ one)) ≡ None
    → otherwise (report_in (heading ∷ other)) ≡ None → refusal_of_texts (heading ∷ one) (heading ∷ other) ≡ None
unfolding refusal_of_texts flaw_of
not_refused one other none none2 nothing nothing2 = rw (none, none2, nothing, nothing2) refl

pub none_further : (n : ℕ) (said said' : Option (ℕ × List ℕ)) → said' ≡ further n said → said ≡ None → said' ≡ None
none_further n said said' is none = is ∙ ap (further n) none

pub tells_first : (one other left : List (List ℕ)) (n : ℕ) (f : DiffFault) → flaw_behind First (heading ∷ one) (Some Two) ≡ None
    → flaw_behind Second (heading ∷ other) (Some Two) ≡ None → otherwise (report_in (heading ∷ one)) ≡ further n (otherwise left)
    → TellsSaid First n left f → TellsOfTexts (heading ∷ one) (heading ∷ other) f
tells_first one other left n (Refused why) none none2 is said = said_first one other _ none none2 (rw is said)
tells_first one other left n Memory none none2 is said = tt

pub tells_second : (one other left : List (List ℕ)) (n : ℕ) (f : DiffFault) → flaw_behind First (heading ∷ one) (Some Two) ≡ None
    → flaw_behind Second (heading ∷ other) (Some Two) ≡ None → otherwise (report_in (heading ∷ one)) ≡ None
    → otherwise (report_in (heading ∷ other)) ≡ further n (otherwise left) → TellsSaid Second n left f → TellsOfTexts (heading ∷ one) (heading ∷ other) f
tells_second one other left n (Refused why) none none2 nothing is said = said_second one other _ none none2 (rw nothing refl) (rw is said)
tells_second one other left n Memory none none2 nothing is said = tt

-- the same of the second text as it is
pub tells_taken : (terms : Terms) (first second other : List (List ℕ)) (f : DiffFault) → taken_as terms second ≡ other → TellsOfTexts first other f
    → TellsOfLines terms first second f
unfolding refusal_of
tells_taken terms first second other (Refused why) same tells = rw same tells
tells_taken terms first second other Memory same tells = tt

pub refused_taken : (terms : Terms) (first second other : List (List ℕ)) (why : List ℕ) → taken_as terms second ≡ other → refusal_of_texts first other ≡ Some why
    → refusal_of terms first second ≡ Some why
unfolding refusal_of
refused_taken terms first second other why same refused = rw same refused

pub compares_all : (terms : Terms) (cut : Bool) (first second other : List (List ℕ)) (taken : List ℕ) (all : List Found) (comparison : Comparison)
    → is_cut terms second ≡ cut → taken_as terms second ≡ other → refusal_of_texts first other ≡ None → found_of_texts cut first other ≡ all
    → ComparesFound terms.strict taken all comparison → ComparesBehind terms taken first second comparison
unfolding refusal_of differences_of passes_of found_of
compares_all terms cut first second other taken all comparison is same reports finds compared =
    record { reports = rw same reports; text = rw (is, same, finds) compared.text; passes = rw (is, same, finds) compared.passes }
