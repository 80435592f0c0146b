-- What was found and is written, or not.
use Rattle.std.proofs.Common.{◌≡◌, ◌⊎◌, ◌++◌, ℕ, List, [], Option, inl, inr, refl, sym, ap, subst, ◌∙◌, arith}
use Rattle.std.specs.Io.KnownBytes.{Appends}
use Rattle.std.proofs.KnownBytes.{Appends-nil, Appends-trans}
use Rattle.std.proofs.lemmas.List.{append-nil}
use Rattle.byte_transfer.proofs.Beginnings.{some_of_all}
use Rattle.json_lines.specs.Forms.{IsWhole, written_as}
use Rattle.json_lines.specs.declared.form.Form.{Form}
use Rattle.json_lines.proofs.Whole.{written_behind, written_empty}
use Rattle.report_diff.specs.declared.fronts.Merging.{Merging}
use Rattle.report_diff.specs.Merging.{Merges}
use Rattle.diff_stream.specs.Steps.{Moves, StopsAt}
use Rattle.diff_stream.proofs.FoundLines.{merged_whole}

pub stays : (form : Form) (m : Merging) (w : Option (List ℕ)) → Moves form m m w w
stays form m w = record {
  out = [];
  wrote = subst (Appends w w) (sym (written_empty form)) (Appends-nil w);
  text = refl;
  all = inr refl;
  merges = λ one other taken merges. subst (Merges m one other) (sym (append-nil taken)) merges;
  first = refl;
  second = refl;
  from = refl;
  ahead = refl;
  lines = refl;
}

pub moved_stops : (form : Form) (m m' : Merging) (w w' : Option (List ℕ)) → Moves form m m' w w' → StopsAt form m w w'
moved_stops form m m' w w' moves = by moves.all
  where
    by : (m'.told.text.items ≡ []) ⊎ (moves.out ≡ []) → StopsAt form m w w'
    by (inl none) =
        let same : moves.out ≡ m.told.text.items = sym (append-nil moves.out) ∙ ap (λ x. moves.out ++ x) (sym none) ∙ sym moves.text in
        some_of_all w w' (written_as form m.told.text.items) (subst (λ x. Appends w w' (written_as form x)) same moves.wrote)
    by (inr none) =
        (0, omega arith, subst (Appends w w') (ap (written_as form) none ∙ written_empty form) moves.wrote)

-- it is whole lines behind whole lines
pub moved_whole : (form : Form) (m m' : Merging) (w w' : Option (List ℕ)) (one other : List (List ℕ)) (taken : List ℕ) → Merges m one other taken → IsWhole taken
    → (moves : Moves form m m' w w') → IsWhole (taken ++ moves.out)
moved_whole form m m' w w' one other taken merges whole moves = by moves.all
  where
    by : (m'.told.text.items ≡ []) ⊎ (moves.out ≡ []) → IsWhole (taken ++ moves.out)
    by (inl none) = subst IsWhole (ap (λ x. (taken ++ moves.out) ++ x) none ∙ append-nil (taken ++ moves.out)) (merged_whole m' one other (taken ++ moves.out) (moves.merges one other taken merges))
    by (inr none) = subst IsWhole (sym (ap (λ x. taken ++ x) none ∙ append-nil taken)) whole

pub moved_wrote : (form : Form) (m m' : Merging) (w w1 w2 : Option (List ℕ)) (taken : List ℕ) → IsWhole taken → Appends w w1 (written_as form taken) → (moves : Moves form m m' w1 w2)
    → Appends w w2 (written_as form (taken ++ moves.out))
moved_wrote form m m' w w1 w2 taken whole wrote moves =
    subst (Appends w w2) (sym (written_behind form taken moves.out whole)) (Appends-trans w w1 w2 (written_as form taken) (written_as form moves.out) wrote moves.wrote)
