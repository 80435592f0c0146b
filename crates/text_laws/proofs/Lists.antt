-- Bytes of which none passes a test, up to one that does.
use Rattle.std.proofs.Common.{◌≡◌, ℕ, Bool, true, false, List, [], ◌∷◌, ◌++◌, length, take, drop, refl, sym, ap, ◌∙◌, append-nil, arith}
use Rattle.std.specs.List.{list_any, position_or_len, before_first}
use Rattle.std.proofs.lemmas.Bool.{or_from, or_parts}
use Rattle.std.proofs.lemmas.List.{take_at, drop_at}

-- the first byte passes, if there is one
abbrev pub stops_at : (ℕ → Bool) → List ℕ → Bool
stops_at p [] = true
stops_at p (b ∷ bs) = p b

pub stops : (p : ℕ → Bool) (w behind : List ℕ) → list_any p w ≡ false → stops_at p behind ≡ true → position_or_len p (w ++ behind) ≡ length w
stops p [] [] h g = refl
stops p [] (b ∷ bs) h g = rw g refl
stops p (b ∷ bs) behind h g =
    let parts = or_parts (p b) (list_any p bs) h in
    let more = stops p bs behind parts.1 g in
    rw parts.0 (omega (arith, more))

pub front_is : (p : ℕ → Bool) (w behind : List ℕ) → list_any p w ≡ false → stops_at p behind ≡ true → before_first p (w ++ behind) ≡ w
front_is p w behind h g = ap (λ (n : ℕ). take n (w ++ behind)) (stops p w behind h g) ∙ take_at w behind (length w) refl

pub back_is : (p : ℕ → Bool) (w behind : List ℕ) → list_any p w ≡ false → stops_at p behind ≡ true → drop (position_or_len p (w ++ behind)) (w ++ behind)
    ≡ behind
back_is p w behind h g = ap (λ (n : ℕ). drop n (w ++ behind)) (stops p w behind h g) ∙ drop_at w behind (length w) refl

pub stops_alone : (p : ℕ → Bool) (w : List ℕ) → list_any p w ≡ false → position_or_len p w ≡ length w
stops_alone p w h = ap (position_or_len p) (sym (append-nil w)) ∙ stops p w [] h refl

pub any_append : (p : ℕ → Bool) (v w : List ℕ) → list_any p v ≡ false → list_any p w ≡ false → list_any p (v ++ w) ≡ false
any_append p [] w h g = g
any_append p (b ∷ bs) w h g =
    let parts = or_parts (p b) (list_any p bs) h in
    or_from (p b) (list_any p (bs ++ w)) parts.0 (any_append p bs w parts.1 g)
