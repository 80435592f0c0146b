-- Lists of slices, by their bytes.
use Rattle.std.proofs.Common.{◌≡◌, ◌<◌, ◌+◌, ℕ, Bool, true, false, List, [], ◌∷◌, ◌++◌, length, get_or, take, drop, ap, sym, ◌∙◌, arith}
use Rattle.std.specs.List.{list_all, list_any}
use Rattle.std.specs.Borrow.{Bor}
use Rattle.std.proofs.lemmas.List.{map-append, take_more, take-append-drop, drop_more, length-map, length-take-le}
use Rattle.std.proofs.Math.ListN.{get_or-map}
use Rattle.std.proofs.lemmas.List.Folds.{list_all_at, list_any_at}
use Rattle.report_diff.specs.Lines.{texts}

-- the slice that is read past the end
abbrev pub no_slice : Bor (List ℕ)
no_slice = record { ref_ptr = (0, 0); now = [] }

pub text_at : (slices : List (Bor (List ℕ))) (i : ℕ) → get_or (texts slices) i [] ≡ (get_or slices i no_slice).now
text_at slices i = get_or-map (λ (s : Bor (List ℕ)). s.now) slices i no_slice

-- one slice more
pub texts_more : (slices : List (Bor (List ℕ))) (i : ℕ) → i < length slices
    → texts (take (i + 1) slices) ≡ texts (take i slices) ++ (get_or slices i no_slice).now ∷ []
texts_more slices i lt = ap texts (take_more slices i no_slice lt)
    ∙ map-append (λ (s : Bor (List ℕ)). s.now) (take i slices) (get_or slices i no_slice ∷ [])

-- some slice passes, or fails
pub some_passes : (p : List ℕ → Bool) (slices : List (Bor (List ℕ))) (i : ℕ) → i < length slices → p (get_or slices i no_slice).now ≡ true
    → list_any p (texts slices) ≡ true
some_passes p slices i lt passes = list_any_at p (texts slices) i [] (rw length-map lt) (rw (text_at slices i) passes)

pub some_fails : (p : List ℕ → Bool) (slices : List (Bor (List ℕ))) (i : ℕ) → i < length slices → p (get_or slices i no_slice).now ≡ false
    → list_all p (texts slices) ≡ false
some_fails p slices i lt fails = list_all_at p (texts slices) i [] (rw length-map lt) (rw (text_at slices i) fails)

-- the slices before one, it, and those behind it
pub texts_split : (slices : List (Bor (List ℕ))) (i : ℕ) → i < length slices
    → texts slices ≡ texts (take i slices) ++ (get_or slices i no_slice).now ∷ texts (drop (i + 1) slices)
texts_split slices i lt = ap texts (sym (take-append-drop i slices) ∙ ap (λ rest. take i slices ++ rest) (drop_more slices i no_slice lt))
    ∙ map-append (λ (s : Bor (List ℕ)). s.now) (take i slices) (get_or slices i no_slice ∷ drop (i + 1) slices)

pub length_texts : (slices : List (Bor (List ℕ))) (i : ℕ) → i < length slices → length (texts (take i slices)) ≡ i
length_texts slices i lt = simp length-map (length-take-le i slices (omega arith))
