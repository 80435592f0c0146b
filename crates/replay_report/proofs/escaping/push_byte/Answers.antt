use Rattle.std.proofs.Common.{◌≡◌, ℕ, ◌/◌, ◌%◌, List, [], ◌∷◌, ◌++◌, slice_index, ap, sym, ◌∙◌}
use Rattle.std.specs.Prelude.{OnOk, Result, Ok, Err, codes, is_ok, if◌then◌else◌}
use Rattle.std.proofs.lemmas.Nat.{and_mask}
use Rattle.hex.specs.Hex.{encode_lower, encode_with, lower_digits}
use Rattle.replay_report.specs.Report.{escaped_byte}
use Rattle.replay_report.proofs.escaping.push_byte.Goals as goal

two_digits : (byte a b : ℕ) → a ≡ slice_index lower_digits (byte / 16) → b ≡ slice_index lower_digits (byte % 16) → 92 ∷ 120 ∷ a ∷ b ∷ [] ≡ codes "\\x" ++ encode_lower (byte ∷ [])
unfolding encode_with
two_digits byte a b e d = λ i. 92 ∷ 120 ∷ e i ∷ d i ∷ []

text_grown : {T E : Type 0} (r : Result T E) (old new piece whole : List ℕ) → new ≡ (if is_ok r then old ++ piece else old) → piece ≡ whole → OnOk r (new ≡ old ++ whole)
text_grown (Ok x) old new piece whole h e = h ∙ ap (λ text. old ++ text) e
text_grown (Err x) old new piece whole h e = tt

pub returns-else-is_visible : goal.returns-else-is_visible
returns-else-is_visible c =
    let old : List ℕ = c.args.text.now.items in
    let a : ℕ = c.digit.result in
    let b : ℕ = c.digit-else-is_visible.result in
    text_grown c.extend_from_slice-else-is_visible.result old c.extend_from_slice-else-is_visible.new.self.items (92 ∷ 120 ∷ a ∷ b ∷ []) (escaped_byte c.args.byte) c.extend_from_slice-else-is_visible.ensures.items
    (two_digits c.args.byte a b c.digit.ensures.value (c.digit-else-is_visible.ensures.value ∙ ap (λ (k : ℕ). slice_index lower_digits k) (and_mask c.args.byte 4)) ∙ sym (c.is_visible.ensures.other c.if-is_visible.false))
