-- Texts of whole lines one behind another.
use Rattle.std.proofs.Common.{◌≡◌, ◌⊎◌, ◌∙◌, ◌++◌, [], ◌∷◌, ℕ, Bool, true, false, eqb, List, append_assoc, append-nil, refl, ap, sym, subst, inl, inr}
use Rattle.std.specs.List.{flat_map, onto_first, slice_split}
use Rattle.std.proofs.lemmas.Grind.{flat_map-append}
use Rattle.std.proofs.lemmas.List.Splits.{slice_split-cons_no, slice_split-cons_yes}
use Rattle.json_lines.specs.Forms.{IsWhole, written_as}
use Rattle.json_lines.specs.Lines.{json_line, json_lines}
use Rattle.json_lines.specs.declared.form.Form.{Form}
use Rattle.json_lines.specs.declared.form.Form.TheVariants.{Text, Json}
use Rattle.json_lines.proofs.Feed.{is_feed}

-- ---- which texts are whole

pub empty_whole : IsWhole []
empty_whole = inl refl

pub line_whole : (text : List ℕ) → IsWhole (text ++ 10 ∷ [])
line_whole text = inr (text, refl)

pub both_whole : (a b : List ℕ) → IsWhole a → IsWhole b → IsWhole (a ++ b)
both_whole a b whole (inl none) = subst IsWhole (sym (ap (λ (x : List ℕ). a ++ x) none ∙ append-nil a)) whole
both_whole a b whole (inr (front, is)) = inr (a ++ front, ap (λ (x : List ℕ). a ++ x) is ∙ sym (append_assoc a front (10 ∷ [])))

-- what stands last in a text
abbrev end_of : ℕ → List ℕ → ℕ
end_of b [] = b
end_of b (c ∷ more) = end_of c more

end_found : (b : ℕ) (front : List ℕ) (last : ℕ) → end_of b (front ++ last ∷ []) ≡ last
end_found b [] last = refl
end_found b (c ∷ front) last = end_found c front last

by_end : (text : List ℕ) → (text ≡ []) ⊎ ((front : List ℕ) × (last : ℕ) × (text ≡ front ++ last ∷ []))
by_end [] = inl refl
by_end (b ∷ more) = behind (by_end more) where
  behind : (more ≡ []) ⊎ ((front : List ℕ) × (last : ℕ) × (more ≡ front ++ last ∷ [])) → (b ∷ more ≡ []) ⊎ ((front : List ℕ) × (last : ℕ) × (b ∷ more ≡ front ++ last ∷ []))
  behind (inl none) = inr ([], b, ap (λ (x : List ℕ). b ∷ x) none)
  behind (inr (front, last, is)) = inr (b ∷ front, last, ap (λ (x : List ℕ). b ∷ x) is)

-- the end of a whole text is whole
pub rest_whole : (a b : List ℕ) → IsWhole (a ++ b) → IsWhole b
rest_whole a b whole = by_last (by_end b) whole where
  by_last : (b ≡ []) ⊎ ((front : List ℕ) × (last : ℕ) × (b ≡ front ++ last ∷ [])) → IsWhole (a ++ b) → IsWhole b
  by_last (inl none) h = inl none
  by_last (inr (front, last, is)) (inl none) =
      let same : a ++ (front ++ last ∷ []) ≡ [] = ap (λ (x : List ℕ). a ++ x) (sym is) ∙ none in
      let ends : last ≡ 10 = sym (end_found 10 (a ++ front) last) ∙ ap (end_of 10) (append_assoc a front (last ∷ []) ∙ same) in
      inr (front, is ∙ ap (λ (x : ℕ). front ++ x ∷ []) ends)
  by_last (inr (front, last, is)) (inr (all, all_is)) =
      let same : a ++ (front ++ last ∷ []) ≡ all ++ 10 ∷ [] = ap (λ (x : List ℕ). a ++ x) (sym is) ∙ all_is in
      let ends : last ≡ 10 = sym (end_found 0 (a ++ front) last) ∙ ap (end_of 0) (append_assoc a front (last ∷ []) ∙ same) ∙ end_found 0 all 10 in
      inr (front, is ∙ ap (λ (x : ℕ). front ++ x ∷ []) ends)

-- ---- their forms

some_part : (text : List ℕ) → (first : List ℕ) × (more : List (List ℕ)) × (slice_split is_feed text ≡ first ∷ more)
some_part [] = ([], [], refl)
some_part (b ∷ bs) = by_test (eqb b 10) refl (some_part bs) where
  by_test : (t : Bool) → eqb b 10 ≡ t → (first : List ℕ) × (more : List (List ℕ)) × (slice_split is_feed bs ≡ first ∷ more) → (first : List ℕ) × (more : List (List ℕ)) × (slice_split is_feed (b ∷ bs) ≡ first ∷ more)
  by_test true e (first, more, is) = ([], slice_split is_feed bs, slice_split-cons_yes is_feed b bs e)
  by_test false e (first, more, is) = (b ∷ first, more, slice_split-cons_no is_feed b bs e ∙ ap (onto_first b) is)

onto_seam : (b : ℕ) (parts others : List (List ℕ)) → (first : List ℕ) × (more : List (List ℕ)) × (parts ≡ first ∷ more) → onto_first b (parts ++ others) ≡ onto_first b parts ++ others
onto_seam b parts others (first, more, is) = ap (λ (x : List (List ℕ)). onto_first b (x ++ others)) is ∙ sym (ap (λ (x : List (List ℕ)). onto_first b x ++ others) is)

-- the lines before a line feed, and those behind it
split_seam : (front back : List ℕ) → slice_split is_feed (front ++ 10 ∷ back) ≡ slice_split is_feed front ++ slice_split is_feed back
split_seam [] back = refl
split_seam (b ∷ bs) back = by_test (eqb b 10) refl (split_seam bs back) where
  by_test : (t : Bool) → eqb b 10 ≡ t → slice_split is_feed (bs ++ 10 ∷ back) ≡ slice_split is_feed bs ++ slice_split is_feed back
      → slice_split is_feed ((b ∷ bs) ++ 10 ∷ back) ≡ slice_split is_feed (b ∷ bs) ++ slice_split is_feed back
  by_test true e same =
      slice_split-cons_yes is_feed b (bs ++ 10 ∷ back) e ∙ ap (λ (x : List (List ℕ)). [] ∷ x) same
      ∙ sym (ap (λ (x : List (List ℕ)). x ++ slice_split is_feed back) (slice_split-cons_yes is_feed b bs e))
  by_test false e same =
      slice_split-cons_no is_feed b (bs ++ 10 ∷ back) e ∙ ap (onto_first b) same
      ∙ onto_seam b (slice_split is_feed bs) (slice_split is_feed back) (some_part bs)
      ∙ sym (ap (λ (x : List (List ℕ)). x ++ slice_split is_feed back) (slice_split-cons_no is_feed b bs e))

json_seam : (front back : List ℕ) → json_lines (front ++ 10 ∷ back) ≡ json_lines front ++ json_lines back
unfolding json_lines
json_seam front back = ap (flat_map json_line) (split_seam front back) ∙ flat_map-append json_line (slice_split is_feed front) (slice_split is_feed back)

no_json : json_lines [] ≡ []
unfolding json_lines json_line
no_json = refl

json_behind : (a b : List ℕ) → IsWhole a → json_lines (a ++ b) ≡ json_lines a ++ json_lines b
json_behind a b (inl none) =
    ap (λ (x : List ℕ). json_lines (x ++ b)) none ∙ ap (λ (x : List ℕ). x ++ json_lines b) (sym (ap json_lines none ∙ no_json))
json_behind a b (inr (front, is)) =
    let one : json_lines a ≡ json_lines front = ap json_lines is ∙ json_seam front [] ∙ ap (λ (x : List ℕ). json_lines front ++ x) no_json ∙ append-nil (json_lines front) in
    ap (λ (x : List ℕ). json_lines (x ++ b)) is ∙ ap json_lines (append_assoc front (10 ∷ []) b) ∙ json_seam front b
    ∙ ap (λ (x : List ℕ). x ++ json_lines b) (sym one)

-- what stands behind a whole text is written behind that
pub written_behind : (form : Form) (a b : List ℕ) → IsWhole a → written_as form (a ++ b) ≡ written_as form a ++ written_as form b
written_behind Text a b whole = refl
written_behind Json a b whole = json_behind a b whole

pub written_empty : (form : Form) → written_as form [] ≡ []
written_empty Text = refl
written_empty Json = no_json
