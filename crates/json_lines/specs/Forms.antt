-- The model: a text in the form that is asked for, and texts of whole lines.
use Rattle.std.specs.Prelude.{◌≡◌, ◌⊎◌, ◌++◌, [], ◌∷◌, ℕ, List}
use Rattle.json_lines.specs.Lines.{json_lines}
use Rattle.json_lines.specs.declared.form.Form.{Form}
use Rattle.json_lines.specs.declared.form.Form.TheVariants.{Text, Json}

-- A text: as it is, or each of its lines as an object.
abbrev pub written_as : Form → List ℕ → List ℕ
written_as Text text = text
written_as Json text = json_lines text

-- The text is empty or ends in a line feed.
abbrev pub IsWhole : List ℕ → Type 0
IsWhole text = (text ≡ []) ⊎ ((front : List ℕ) × (text ≡ front ++ 10 ∷ []))
