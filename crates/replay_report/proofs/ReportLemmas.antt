-- Texts that grow by a piece for each number or element, and the sizes that an image tells.
use Rattle.std.proofs.Common.{◌≡◌, ℕ, ◌+◌, ◌<◌, inl, inr, List, ◌++◌, All, length, take, get_or, refl, ap, ◌∙◌, arith}
use Rattle.std.specs.List.{flat_map, range_with_len}
use Rattle.std.specs.Prelude.{Bool, true, false, filter, [], ◌∷◌}
use Rattle.std.proofs.lemmas.Bool.{cases_Bool, cases_lt, lt-leb, ne_eqb}
use Rattle.std.proofs.lemmas.List.{length-take-le, map-id, take_all, take-take, take_more, flat_map_more}
use Rattle.std.proofs.lemmas.List.Elements.{All-map}
use Rattle.std.proofs.lemmas.List.FromFn.{map-range_with_len_more}
use Rattle.world_parts.specs.World.{World}
use Rattle.world_parts.specs.Image.{image_of, name_entry, all_paths}
use Rattle.replay_report.specs.Report.{IsSized, data_text, entry_outcome, posting}

-- one number more
pub range_more : (n : ℕ) → range_with_len 0 (n + 1) ≡ range_with_len 0 n ++ n ∷ []
range_more n = simp map-id at (map-range_with_len_more (λ (k : ℕ). k) 0 n n (omega arith))

-- a text with the pieces of the numbers below k, and then with that of k
pub range_grown : (old now next : List ℕ) (f : ℕ → List ℕ) (k : ℕ) → now ≡ old ++ flat_map f (range_with_len 0 k) → next ≡ now ++ f k
    → next ≡ old ++ flat_map f (range_with_len 0 (k + 1))
range_grown old now next f k so_far e = rw (range_more k) (e ∙ ap (λ text. text ++ f k) so_far ∙ flat_map_more f old (range_with_len 0 k) k)

-- a text with the pieces of the first elements, and then with that of the next
pub list_grown : {X Y : Type 0} (old now next : List Y) (f : X → List Y) (xs : List X) (i : ℕ) (d : X) → i < length xs → now ≡ old ++ flat_map f (take i xs) → next ≡ now ++ f (get_or xs i d)
    → next ≡ old ++ flat_map f (take (i + 1) xs)
list_grown old now next f xs i d lt so_far e = rw (take_more xs i d lt) (e ∙ ap (λ text. text ++ f (get_or xs i d)) so_far ∙ flat_map_more f old (take i xs) (get_or xs i d))

-- the bytes that are shown, and one more, tell how the line of an entry ends
data_text_shown : (bytes : List ℕ) → data_text (take 33 bytes) ≡ data_text bytes
data_text_shown bytes = elim (cases_lt 33 (length bytes)) [
  | inl more ↦
      let count : length (take 33 bytes) ≡ 33 = length-take-le 33 bytes (omega arith) in
      rw (count, take-take 32 33 bytes (omega arith), ne_eqb (length bytes) 0 (λ e. omega (arith, e, more)), lt-leb (length bytes) 32 (omega arith))
  | inr all ↦ ap data_text (take_all 33 bytes all)
]

pub entry_outcome_shown : (posted : Bool) (shown bytes : List ℕ) → shown ≡ take 33 bytes → entry_outcome posted shown ≡ entry_outcome posted bytes
entry_outcome_shown posted shown bytes e = ap (λ text. posting posted ++ text) (ap data_text e ∙ data_text_shown bytes)

-- the pieces of the elements that pass a test, where the others have none
pub flat_map-filter : (p : ℕ → Bool) (f g : ℕ → List ℕ) → ((k : ℕ) → p k ≡ true → f k ≡ g k) → ((k : ℕ) → p k ≡ false → g k ≡ []) → (ks : List ℕ)
    → flat_map f (filter p ks) ≡ flat_map g ks
flat_map-filter p f g same none [] = refl
flat_map-filter p f g same none (k ∷ ks) = elim (cases_Bool (p k)) [
  | inl kept ↦ rw (kept, same k kept) (ap (λ rest. g k ++ rest) (flat_map-filter p f g same none ks))
  | inr left ↦ rw (left, none k left) (flat_map-filter p f g same none ks)
]

-- each name of an image has the size of its file
pub image_is_sized : (s : World) → All (IsSized s) (image_of s).names
image_is_sized s = All-map (IsSized s) (name_entry s.nodes) (all_paths s.nodes).entries (λ k d lt. refl)
