-- The items of a recording fit files.
use Rattle.std.proofs.Common.{◌≡◌, ℕ, ◌+◌, ◌<◌, List, [], ◌∷◌, ◌++◌, length, take, drop, get_or, ap, sym, ◌∙◌, append_assoc}
use Rattle.std.specs.Prelude.{All}
use Rattle.std.proofs.lemmas.List.{take_more, take-append-drop}
use Rattle.trace_records.specs.declared.start.Item.{Item}
use Rattle.trace_records.specs.declared.start.Node.{Node}
use Rattle.trace_records.specs.declared.start.Node.TheVariants.{Directory, File, OtherName}
use Rattle.recording.specs.declared.recording.Recording.{Recording}
use Rattle.recording.specs.Accepted.{NodeFits, IsAccepted}
use Rattle.world_parts.specs.Sized.{IsSizedNode, IsSized}

sized : (earlier : List Item) (x : Node) → NodeFits earlier x → IsSizedNode x
sized earlier Directory h = tt
sized earlier (File size ranges) h = h
sized earlier (OtherName number) h = tt

-- a list around one of its elements
around : {A : Type 0} (xs : List A) (i : ℕ) (x : A) → i < length xs → xs ≡ take i xs ++ get_or xs i x ∷ drop (i + 1) xs
around xs i x lt =
    sym (take-append-drop (i + 1) xs) ∙ ap (λ ys. ys ++ drop (i + 1) xs) (take_more xs i x lt) ∙ append_assoc (take i xs) (get_or xs i x ∷ []) (drop (i + 1) xs)

pub all_sized : (t : Recording) → IsAccepted t → All IsSized t.items
all_sized t h i x lt = sized (take i t.items) (get_or t.items i x).node (h.nodes (take i t.items) (drop (i + 1) t.items) (get_or t.items i x) (around t.items i x lt))
