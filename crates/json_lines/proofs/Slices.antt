-- What is left of the words of a line behind one more.
use Rattle.std.proofs.Common.{◌≡◌, ◌<◌, ◌≤◌, ◌+◌, ◌-◌, ℕ, true, false, List, [], ◌∷◌, ◌++◌, length, get_or, drop, refl, ap, sym, ◌∙◌, append_assoc, arith}
use Rattle.std.specs.Prelude.{min}
use Rattle.std.specs.Borrow.{Bor}
use Rattle.std.proofs.lemmas.List.{drop_more, length-drop, length-map}
use Rattle.json_lines.specs.Lines.{fact_json, facts_json, is_on, keyed_json, keyed_word, on_json, texts}

-- the slice that is read past the end
abbrev pub no_slice : Bor (List ℕ)
no_slice = record { ref_ptr = (0, 0); now = [] }

pub texts_from : (slices : List (Bor (List ℕ))) (i : ℕ) → i < length slices
    → texts (drop i slices) ≡ (get_or slices i no_slice).now ∷ texts (drop (i + 1) slices)
texts_from slices i lt = ap texts (drop_more slices i no_slice lt)

pub fact_goes : (text whole : List ℕ) (words : List (Bor (List ℕ))) (i : ℕ) → i < length words → is_on (get_or words i no_slice).now ≡ false
    → text ++ facts_json (texts (drop i words)) ≡ whole
    → (text ++ fact_json (get_or words i no_slice).now) ++ facts_json (texts (drop (i + 1) words)) ≡ whole
fact_goes text whole words i lt other h =
    let word = (get_or words i no_slice).now in
    let more = texts (drop (i + 1) words) in
    let step : facts_json (word ∷ more) ≡ fact_json word ++ facts_json more = rw other refl in
    append_assoc text (fact_json word) (facts_json more) ∙ ap (λ (l : List ℕ). text ++ l) (sym step)
    ∙ ap (λ (l : List (List ℕ)). text ++ facts_json l) (sym (texts_from words i lt)) ∙ h

pub on_ends : (text whole : List ℕ) (words : List (Bor (List ℕ))) (i : ℕ) → i < length words → is_on (get_or words i no_slice).now ≡ true
    → text ++ facts_json (texts (drop i words)) ≡ whole
    → text ++ on_json (get_or words i no_slice).now (texts (drop (i + 1) words)) ≡ whole
on_ends text whole words i lt here h =
    let word = (get_or words i no_slice).now in
    let more = texts (drop (i + 1) words) in
    let step : facts_json (word ∷ more) ≡ on_json word more = rw here refl in
    ap (λ (l : List ℕ). text ++ l) (sym step) ∙ ap (λ (l : List (List ℕ)). text ++ facts_json l) (sym (texts_from words i lt)) ∙ h

pub word_goes : (text whole : List ℕ) (keys words : List (Bor (List ℕ))) (i : ℕ) → i < length keys → i < length words
    → text ++ keyed_json (texts (drop i keys)) (texts (drop i words)) ≡ whole
    → (text ++ keyed_word (get_or keys i no_slice).now (get_or words i no_slice).now) ++ keyed_json (texts (drop (i + 1) keys)) (texts (drop (i + 1) words)) ≡ whole
word_goes text whole keys words i ltk ltw h =
    let key = (get_or keys i no_slice).now in
    let word = (get_or words i no_slice).now in
    let ks = texts (drop (i + 1) keys) in
    let ws = texts (drop (i + 1) words) in
    append_assoc text (keyed_word key word) (keyed_json ks ws)
    ∙ ap (λ (l : List (List ℕ)). text ++ keyed_json l (word ∷ ws)) (sym (texts_from keys i ltk))
    ∙ ap (λ (l : List (List ℕ)). text ++ keyed_json (texts (drop i keys)) l) (sym (texts_from words i ltw)) ∙ h

-- where keys or words end, there are only facts left
only_facts : (keys words : List (List ℕ)) → min (length keys) (length words) ≡ 0 → keyed_json keys words ≡ facts_json words
only_facts [] words h = refl
only_facts (key ∷ keys) [] h = refl
only_facts (key ∷ keys) (word ∷ words) h = absurd (omega (arith, h))

pub words_end : (text whole : List ℕ) (keys words : List (Bor (List ℕ))) (i known : ℕ) → known ≡ min (length keys) (length words) → known ≤ i → i ≤ known
    → text ++ keyed_json (texts (drop i keys)) (texts (drop i words)) ≡ whole
    → text ++ facts_json (texts (drop known words)) ≡ whole
words_end text whole keys words i known is low high h =
    let same : known ≡ i = omega arith in
    let k : length (texts (drop i keys)) ≡ length keys - i = length-map (drop i keys) (λ (s : Bor (List ℕ)). s.now) ∙ length-drop i keys in
    let w : length (texts (drop i words)) ≡ length words - i = length-map (drop i words) (λ (s : Bor (List ℕ)). s.now) ∙ length-drop i words in
    let none : min (length (texts (drop i keys))) (length (texts (drop i words))) ≡ 0 = rw (k, w) (omega (arith, is, low)) in
    ap (λ (n : ℕ). text ++ facts_json (texts (drop n words))) same
    ∙ ap (λ (l : List ℕ). text ++ l) (sym (only_facts _ _ none)) ∙ h
