-- Known bytes over several calls.
use Rattle.std.proofs.Common.{◌≡◌, ℕ, ◌+◌, ◌<◌, ◌≤◌, ◌++◌, List, [], ◌∷◌, Option, ap, sym, arith, ◌∙◌, drop, get_or, length, take}
use Rattle.std.proofs.Math.Seq.{take-append-add}
use Rattle.std.proofs.lemmas.List.{append-nil, length-append, take-append-drop, take-append-le, take_more}
use Rattle.std.proofs.lemmas.List.Folds.{concat-append}
use Rattle.std.specs.List.{concat}
use Rattle.std.specs.Io.KnownBytes.{Appends}
use Rattle.byte_transfer.specs.Transfer.{AppendsPart}
use Rattle.std.proofs.KnownBytes.{Appends-trans}

-- the text of one piece more
pub concat_more : (pieces : List (List ℕ)) (i : ℕ) (piece : List ℕ) → i < length pieces → piece ≡ get_or pieces i piece → concat (take (i + 1) pieces) ≡ concat (take i pieces) ++ piece
concat_more pieces i piece lt is =
    ap concat (take_more pieces i piece lt) ∙ concat-append (take i pieces) (get_or pieces i piece ∷ []) ∙ ap (λ last. concat (take i pieces) ++ last) (append-nil (get_or pieces i piece) ∙ sym is)

-- pieces went out, and then the next one, or a part of it
pub piece_more : (a b c : Option (List ℕ)) (pieces : List (List ℕ)) (i : ℕ) (piece : List ℕ) → i < length pieces → piece ≡ get_or pieces i piece
    → Appends a b (concat (take i pieces)) → Appends b c piece → Appends a c (concat (take (i + 1) pieces))
piece_more a b c pieces i piece lt is so_far wrote = rw (concat_more pieces i piece lt is) (Appends-trans a b c _ _ so_far wrote)

pub piece_part : (a b c : Option (List ℕ)) (pieces : List (List ℕ)) (i : ℕ) (piece : List ℕ) → i < length pieces → piece ≡ get_or pieces i piece
    → Appends a b (concat (take i pieces)) → AppendsPart b c piece → AppendsPart a c (concat pieces)
piece_part a b c pieces i piece lt is so_far part =
    let before = concat (take i pieces) in
    let rest = concat (drop (i + 1) pieces) in
    let n = part.0 in
    let split : concat pieces ≡ before ++ piece ++ rest =
    ap concat (sym (take-append-drop (i + 1) pieces)) ∙ concat-append (take (i + 1) pieces) (drop (i + 1) pieces) ∙ ap (λ text. text ++ rest) (concat_more pieces i piece lt is) in
    let fits : length before + n ≤ length (before ++ piece) = omega (arith, length-append before piece, part.1) in (
      length before + n,
      rw split (omega (arith, part.1, length-append before piece, length-append (before ++ piece) rest)),
      rw (split, take-append-le (length before + n) (before ++ piece) rest fits, take-append-add before piece n) (Appends-trans a b c _ _ so_far part.2),
    )
