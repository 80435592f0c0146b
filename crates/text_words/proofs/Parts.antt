-- Parts of a text between marks, taken in turn as a loop does.
use Rattle.std.proofs.Common.{◌≡◌, ℕ, ◌+◌, ◌<◌, Bool, true, false, cond, List, [], ◌∷◌, length, drop, Result, Ok, Err, refl, sym, ap, ◌∙◌, arith}
use Rattle.std.specs.Prelude.{not}
use Rattle.std.specs.List.{after_first, before_first, onto_first, position_or_len, slice_split}
use Rattle.std.proofs.lemmas.List.Splits.{slice_split_first}
use Rattle.text_words.specs.Read.{◌>>=◌, taken}

one_part : (p : ℕ → Bool) (x : ℕ) (xs : List ℕ) → (position_or_len p xs ≡ length xs → slice_split p xs ≡ xs ∷ []) → position_or_len p (x ∷ xs) ≡ length (x ∷ xs) → slice_split p (x ∷ xs) ≡ (x ∷ xs) ∷ []
one_part p x xs rest e =
    elim (p x) as (λ b. cond (not b) (1 + position_or_len p xs) 0 ≡ length (x ∷ xs) → cond b ([] ∷ slice_split p xs) (onto_first x (slice_split p xs)) ≡ (x ∷ xs) ∷ []) [
      | true ↦ λ h. absurd (omega (arith, h))
      | false ↦ λ h. rw (rest (omega (arith, h))) refl
    ] e

last_part : (p : ℕ → Bool) (text : List ℕ) → position_or_len p text ≡ length text → slice_split p text ≡ text ∷ []
last_part p [] e = refl
last_part p (x ∷ xs) e = one_part p x xs (last_part p xs) e

same : {S F : Type 0} (r : Result S F) → (r >>= λ s. Ok s) ≡ r
same (Ok s) = refl
same (Err f) = refl

-- where no mark is left, there is one part
pub takes_last : {S F : Type 0} (step : S → List ℕ → Result S F) (s : S) (p : ℕ → Bool) (text : List ℕ) → position_or_len p text ≡ length text → taken step s (slice_split p text) ≡ step s text
takes_last step s p text e = ap (taken step s) (last_part p text e) ∙ same (step s text)

pub takes_none : {S F : Type 0} (step : S → List ℕ → Result S F) (s : S) (p : ℕ → Bool) (text : List ℕ) → length text ≡ 0 → taken step s (slice_split p text) ≡ step s text
takes_none step s p [] e = same (step s [])
takes_none step s p (x ∷ xs) e = absurd (omega (arith, e))

-- the part up to the first mark is taken, and then those behind it
pub takes_part : {S F : Type 0} (step : S → List ℕ → Result S F) (s : S) (p : ℕ → Bool) (text part : List ℕ) → part ≡ before_first p text → length part ≡ position_or_len p text → length part < length text
    → taken step s (slice_split p text) ≡ (step s part >>= λ next. taken step next (slice_split p (drop (length part + 1) text)))
takes_part step s p text part is len lt =
    let parts : (a b : List ℕ) → part ≡ a → drop (length part + 1) text ≡ b → a ∷ slice_split p b ≡ part ∷ slice_split p (drop (length part + 1) text) = λ a b e f. rw (← e, ← f) refl in
    ap (taken step s) (slice_split_first p text 0 (omega (arith, len, lt)) ∙ parts (before_first p text) (after_first p text) is (ap (λ (n : ℕ). drop (n + 1) text) len))

pub part_fails : {S F : Type 0} (step : S → List ℕ → Result S F) (s : S) (p : ℕ → Bool) (text part : List ℕ) (f : F) → part ≡ before_first p text → length part ≡ position_or_len p text → length part < length text
    → step s part ≡ Err f → taken step s (slice_split p text) ≡ Err f
part_fails step s p text part f is len lt broken = takes_part step s p text part is len lt ∙ rw broken refl

pub part_goes : {S F : Type 0} (step : S → List ℕ → Result S F) (s next : S) (p : ℕ → Bool) (text part : List ℕ) → part ≡ before_first p text → length part ≡ position_or_len p text → length part < length text
    → step s part ≡ Ok next → taken step next (slice_split p (drop (length part + 1) text)) ≡ taken step s (slice_split p text)
part_goes step s next p text part is len lt one = sym (takes_part step s p text part is len lt ∙ rw one refl)
