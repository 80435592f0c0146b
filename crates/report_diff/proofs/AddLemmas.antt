-- What is found of lines, and then of more.
use Rattle.std.proofs.Common.{◌≡◌, ◌<◌, ◌+◌, ℕ, List, [], ◌∷◌, ◌++◌, length, get_or, take, sym, ap, ◌∙◌, append_assoc}
use Rattle.std.specs.List.{flat_map}
use Rattle.std.specs.Borrow.{Bor}
use Rattle.std.proofs.lemmas.Grind.{flat_map-append}
use Rattle.std.proofs.lemmas.List.{map-append}
use Rattle.report_diff.specs.declared.telling.Told.{Told}
use Rattle.report_diff.specs.Differences.{Adds, Found, findings, found_text}
use Rattle.report_diff.specs.Lines.{texts}
use Rattle.report_diff.proofs.MergeLemmas.{found_more}
use Rattle.report_diff.proofs.Slices.{no_slice, texts_more}

pub found_both : (xs ys : List Found) → findings (xs ++ ys) ≡ findings xs ++ findings ys
found_both xs ys = map-append (λ (f : Found). f.finding) xs ys

pub text_both : (xs ys : List Found) → found_text (xs ++ ys) ≡ found_text xs ++ found_text ys
text_both xs ys = flat_map-append (λ (f : Found). f.text) xs ys

pub adds_both : (old mid new : Told) (xs ys : List Found) → Adds old mid xs → Adds mid new ys → Adds old new (xs ++ ys)
adds_both old mid new xs ys one two = record {
  counts = λ all counts. rw (found_both xs ys, ← append_assoc) (two.counts (all ++ findings xs) (one.counts all counts));
  text = rw (two.text, one.text, text_both xs ys) (append_assoc old.text.items (found_text xs) (found_text ys));
}

-- one line more of a slice of lines
pub adds_line : (f : List ℕ → List Found) (old mid new : Told) (lines : List (Bor (List ℕ))) (i : ℕ) → i < length lines
    → Adds old mid (flat_map f (texts (take i lines))) → Adds mid new (f (get_or lines i no_slice).now)
    → Adds old new (flat_map f (texts (take (i + 1) lines)))
adds_line f old mid new lines i lt one two =
    rw (texts_more lines i lt, found_more f (texts (take i lines)) (get_or lines i no_slice).now)
    (adds_both old mid new (flat_map f (texts (take i lines))) (f (get_or lines i no_slice).now) one two)
