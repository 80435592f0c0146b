-- The digits of a number, from the last to the first.
use Rattle.std.proofs.Common.{◌≡◌, ℕ, suc, ◌+◌, ◌-◌, ◌/◌, ◌%◌, ◌<◌, eqb, false, List, [], ◌∷◌, length, drop, set, refl, sym, ap, ◌∙◌, arith}
use Rattle.std.proofs.lemmas.List.{drop-set, drop_all}
use Rattle.std.specs.Fmt.{digit_glyph, digits, digits_onto}

pub begins : (base n : ℕ) (room : List ℕ) → length room ≡ 64 → digits_onto 64 base false n (drop 64 room) ≡ digits base false n
unfolding digits
begins base n room h =
    let none : drop 64 room ≡ [] = drop_all 64 room (omega (arith, h)) in
    ap (digits_onto 64 base false n) none

one_more : (k base n : ℕ) (acc : List ℕ) → eqb (n / base) 0 ≡ false
    → digits_onto (suc k) base false n acc ≡ digits_onto k base false (n / base) (digit_glyph false (n % base) ∷ acc)
one_more k base n acc h = rw h refl

put_one : (room : List ℕ) (i g : ℕ) → i < 64 → length room ≡ 64 → drop (63 - i) (set room (63 - i) g) ≡ g ∷ drop (64 - i) room
put_one room i g lt len =
    let k : 63 - i + 1 ≡ 64 - i = omega arith in
    drop-set room (63 - i) g (omega (arith, len)) ∙ ap (λ (n : ℕ). g ∷ drop n room) k

pub goes : (base n i g : ℕ) (room d : List ℕ) → i < 64 → length room ≡ 64 → g ≡ digit_glyph false (n % base) → eqb (n / base) 0 ≡ false
    → digits_onto (64 - i) base false n (drop (64 - i) room) ≡ d
    → digits_onto (64 - (i + 1)) base false (n / base) (drop (64 - (i + 1)) (set room (63 - i) g)) ≡ d
goes base n i g room d lt len is more h =
    let k : 64 - i ≡ suc (63 - i) = omega arith in
    let j : 64 - (i + 1) ≡ 63 - i = omega arith in
    ap (λ (m : ℕ). digits_onto m base false (n / base) (drop m (set room (63 - i) g))) j
    ∙ ap (digits_onto (63 - i) base false (n / base)) (put_one room i g lt len ∙ ap (λ (x : ℕ). x ∷ drop (64 - i) room) is)
    ∙ sym (one_more (63 - i) base n (drop (64 - i) room) more)
    ∙ ap (λ (m : ℕ). digits_onto m base false n (drop (64 - i) room)) (sym k)
    ∙ h
