-- What lies in a text, as entries do, when more follows in it, and what is added there.
use Rattle.std.proofs.Common.{◌≡◌, ℕ, suc, ◌+◌, ◌≤◌, List, [], ◌∷◌, ◌++◌, All, length, map, take, drop, OnErr, Result, Ok, Err, refl, sym, ap, subst, ◌∙◌, arith}
use Rattle.std.proofs.lemmas.List.{take-append-drop, length-drop, take-append-le, drop-append-le, map-append}
use Rattle.std.proofs.lemmas.List.Elements.{All-push}

-- a part of a text is there still when more follows
pub part_lasts : (text more : List ℕ) (from len : ℕ) → from + len ≤ length text → take len (drop from (text ++ more)) ≡ take len (drop from text)
part_lasts text more from len le =
    ap (take len) (drop-append-le from text more (omega (arith, le))) ∙ take-append-le len (drop from text) more (omega (arith, le, length-drop from text))

-- what lies in a text lies there too, and is the same, when more follows
pub record Lasts {X Y : Type 0} (at : List ℕ → X → Y) (In : List ℕ → X → Type 0) : Type 0 where
  pub inside : (text more : List ℕ) (x : X) → In text x → In (text ++ more) x
  pub same : (text more : List ℕ) (x : X) → In text x → at (text ++ more) x ≡ at text x

module _ {X Y : Type 0} {at : List ℕ → X → Y} {In : List ℕ → X → Type 0} (lasts : Lasts at In) where
  all_same : (text more : List ℕ) (xs : List X) → All (In text) xs → map (at (text ++ more)) xs ≡ map (at text) xs
  all_same text more [] inside = refl
  all_same text more (x ∷ xs) inside =
      let behind : All (In text) xs = λ k d lt. inside (suc k) d (omega (arith, lt)) in
      rw (lasts.same text more x (inside 0 x (omega arith)), all_same text more xs behind) refl

-- a list that holds in a text still holds when that has grown
pub record Kept {X Y : Type 0} (at : List ℕ → X → Y) (In : List ℕ → X → Type 0) (text grown : List ℕ) (xs : List X) : Type 0 where
  pub inside : All (In grown) xs
  pub same : map (at grown) xs ≡ map (at text) xs

pub kept_by : {X Y : Type 0} {at : List ℕ → X → Y} {In : List ℕ → X → Type 0} → Lasts at In
    → (text more grown : List ℕ) (xs : List X) → grown ≡ text ++ more → All (In text) xs → Kept at In text grown xs
kept_by {at = at} {In = In} lasts text more grown xs parts inside = record {
  inside = subst (λ (x : List ℕ). All (In x) xs) (sym parts) (λ k d lt. lasts.inside text more _ (inside k d lt));
  same = ap (λ (x : List ℕ). map (at x) xs) parts ∙ all_same lasts text more xs inside;
}

pub kept : {X Y : Type 0} {at : List ℕ → X → Y} {In : List ℕ → X → Type 0} → Lasts at In
    → (text grown : List ℕ) (xs : List X) → take (length text) grown ≡ text → All (In text) xs → Kept at In text grown xs
kept lasts text grown xs begins inside =
    let more = drop (length text) grown in
    let parts : grown ≡ text ++ more = sym (take-append-drop (length text) grown) ∙ ap (λ (x : List ℕ). x ++ more) begins in
    kept_by lasts text more grown xs parts inside

-- a list, and one more in a text that has grown
pub record Added {X Y : Type 0} (at : List ℕ → X → Y) (In : List ℕ → X → Type 0) (text grown : List ℕ) (xs : List X) (x : X) (y : Y) : Type 0 where
  pub inside : All (In grown) (xs ++ x ∷ [])
  pub same : map (at grown) (xs ++ x ∷ []) ≡ map (at text) xs ++ y ∷ []

pub added : {X Y : Type 0} {at : List ℕ → X → Y} {In : List ℕ → X → Type 0} → Lasts at In
    → (text more grown : List ℕ) (xs : List X) (x : X) (y : Y) → grown ≡ text ++ more → All (In text) xs → In grown x → at grown x ≡ y → Added at In text grown xs x y
added {at = at} {In = In} lasts text more grown xs x y parts inside last is =
    let before = kept_by lasts text more grown xs parts inside in
    record {
      inside = All-push (In grown) xs x before.inside last;
      same = map-append (at grown) xs (x ∷ []) ∙ rw (is, before.same) refl;
    }

-- what holds, holds after an error
pub on_err : {T E P : Type 0} (r : Result T E) → P → OnErr r P
on_err (Ok x) p = tt
on_err (Err e) p = p
