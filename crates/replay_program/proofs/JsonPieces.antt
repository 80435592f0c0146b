-- The objects of a text that comes in pieces, and an output in its form.
use Rattle.std.proofs.Common.{◌≡◌, ℕ, ◌+◌, ◌<◌, ◌++◌, List, length, get_or, take, sym, ap, ◌∙◌, append_assoc, refl}
use Rattle.std.specs.List.{concat}
use Rattle.recording.specs.declared.recording.Recording.{Recording}
use Rattle.json_lines.specs.Lines.{json_lines}
use Rattle.json_lines.specs.declared.form.Form.{Form}
use Rattle.program_words.specs.declared.words.Mode.{Mode}
use Rattle.program_words.specs.declared.words.Mode.TheVariants.{Serial, Run, Compare, Rounds, Depends, Check}
use Rattle.program_words.specs.declared.words.Options.{Options}
use Rattle.json_lines.specs.Forms.{written_as}
use Rattle.replay_program.specs.Forms.{form_in}
use Rattle.replay_program.specs.Runs.{IsAlone, IsModeOutput, IsNoComparison, IsOutputOf}
use Rattle.replay_program.proofs.TransferLemmas.{concat_more}

-- the objects of one piece more
pub piece_taken : (pieces : List (List ℕ)) (i : ℕ) (json json' line line' piece : List ℕ) → i < length pieces → piece ≡ get_or pieces i piece
    → ((more : List ℕ) → json_lines (concat (take i pieces) ++ more) ≡ json ++ json_lines (line ++ more))
    → ((more : List ℕ) → json ++ json_lines (line ++ (piece ++ more)) ≡ json' ++ json_lines (line' ++ more))
    → (more : List ℕ) → json_lines (concat (take (i + 1) pieces) ++ more) ≡ json' ++ json_lines (line' ++ more)
piece_taken pieces i json json' line line' piece lt is before next more =
    ap (λ (l : List ℕ). json_lines (l ++ more)) (concat_more pieces i piece lt is) ∙ ap json_lines (append_assoc (concat (take i pieces)) piece more)
    ∙ before (piece ++ more) ∙ next more

-- a mode that is no comparison has its output in the form that is asked for
pub form_kept : (mode : Mode) (form : Form) → IsNoComparison mode → form_in mode form ≡ form
form_kept Serial form h = refl
form_kept (Run workers window eager) form h = refl
form_kept (Compare workers window eager) form h = absurd h
form_kept (Rounds window dot) form h = refl
form_kept (Depends dot) form h = refl
form_kept Check form h = refl

pub alone_is_no_comparison : (mode : Mode) → IsAlone mode → IsNoComparison mode
alone_is_no_comparison Serial h = tt
alone_is_no_comparison (Run workers window eager) h = absurd h
alone_is_no_comparison (Compare workers window eager) h = absurd h
alone_is_no_comparison (Rounds window dot) h = absurd h
alone_is_no_comparison (Depends dot) h = tt
alone_is_no_comparison Check h = tt

pub formed : (options : Options) (form : Form) (t : Recording) (text output : List ℕ) → IsNoComparison options.mode → IsModeOutput options.mode options.shown t text → output ≡ written_as form text
    → IsOutputOf options form t output
formed options form t text output other is written = record {
  text = text;
  is = is;
  written = written ∙ ap (λ (f : Form). written_as f text) (sym (form_kept options.mode form other));
}
