-- Lists of replies that agree up to a place.
use Rattle.std.proofs.Common.{◌≡◌, ◌≢◌, ℕ, ◌+◌, ◌≤◌, List, ◌++◌, [], ◌∷◌, length, min, take, ap, sym, ◌∙◌, inl, inr, add-one, arith}
use Rattle.std.specs.Prelude.{slice_get}
use Rattle.std.proofs.lemmas.List.{take-take}
use Rattle.std.proofs.lemmas.Option.{slice_get_cases}
use Rattle.sqe_codec.specs.Answers.{each}
use Rattle.replay_core.proofs.Lists.{take-more}
use Rattle.op_meaning.specs.declared.reply.Reply.{Reply}

-- so they do up to one before it
pub agree_before : (xs ys : List Reply) (m n : ℕ) → m ≤ n → take n xs ≡ take n ys → take m xs ≡ take m ys
agree_before xs ys m n le same = sym (take-take m n xs le) ∙ ap (λ zs. take m zs) same ∙ take-take m n ys le

-- and one place further where both have the same there
pub agree_further : (xs ys : List Reply) (k : ℕ) → take k xs ≡ take k ys → slice_get xs k ≡ slice_get ys k → take (k + 1) xs ≡ take (k + 1) ys
agree_further xs ys k same here = rw add-one (take-more xs k ∙ (λ i. same i ++ each (λ (r : Reply). r ∷ []) (here i)) ∙ sym (take-more ys k))

-- where only one list has ended, they differ
pub ends_apart : (xs ys : List Reply) (n : ℕ) → n ≡ min (length xs) (length ys) → length xs ≢ length ys → slice_get xs n ≢ slice_get ys n
ends_apart xs ys n least apart same = elim (slice_get_cases xs n).1 [
  | inl p ↦ elim (slice_get_cases ys n).1 [ inl q ↦ omega (arith, p.1, q.1, least) | inr q ↦ cc (p.2, q.1, same) ]
  | inr p ↦ elim (slice_get_cases ys n).1 [ inl q ↦ cc (p.1, q.2, same) | inr q ↦ apart (omega (arith, p.0, q.0, least)) ]
]
