use Rattle.std.proofs.Common.{◌≡◌, ℕ, ◌+◌, ◌<◌, ◌≤◌, Bool, true, false, cond, List, [], ◌∷◌, length, take, drop, Option, Some, None, sym, ◌∙◌, ap, refl, suc, arith, rules, tests}
use Rattle.std.specs.Prelude.{not, filter, ◌==◌, unwrap_or}
use Rattle.std.specs.List.{onto_first, position, position_or_len}
use Rattle.std.specs.Option.{option_map_or}
use Rattle.std.proofs.lemmas.Bool.{ne_eqb}
use Rattle.std.proofs.lemmas.Iterator.{YieldsList-from_slice}
use Rattle.std.proofs.lemmas.Iterator.Search.{position_from_yields_List}
use Rattle.std.proofs.lemmas.List.Sums.{prefix_len-le-length}
use Rattle.trace_format.specs.Paths.{components, runs}
use Rattle.file_tree.proofs.steps.first_name.Goals as goal

-- whether a run is a name
abbrev named : List ℕ → Bool
named run = not (length run == 0)

-- how many bytes stand before the first slash, and before the first other byte
abbrev to_slash : List ℕ → ℕ
to_slash text = position_or_len (λ b. b == 47) text

abbrev to_name : List ℕ → ℕ
to_name text = position_or_len (λ b. not (b == 47)) text

-- the first run of a text, and its other runs
first_run : (text : List ℕ) → (rs : List (List ℕ)) × (runs text ≡ take (to_slash text) text ∷ rs) × (filter named rs ≡ components (drop (to_slash text) text))
first_run [] = ([], refl, refl)
first_run (b ∷ bs) = by (b == 47) refl (first_run bs)
  where
    by : (c : Bool) → (b == 47) ≡ c → (rs : List (List ℕ)) × (runs bs ≡ take (to_slash bs) bs ∷ rs) × (filter named rs ≡ components (drop (to_slash bs) bs))
        → (rs : List (List ℕ)) × (cond c ([] ∷ runs bs) (onto_first b (runs bs)) ≡ take (cond (not c) (1 + to_slash bs) 0) (b ∷ bs) ∷ rs) × (filter named rs ≡ components (drop (cond (not c) (1 + to_slash bs) 0) (b ∷ bs)))
    by true e h = (runs bs, refl, sym (ap (λ c. filter named (cond c ([] ∷ runs bs) (onto_first b (runs bs)))) e))
    by false e h =
        let more : 1 + to_slash bs ≡ suc (to_slash bs) = omega arith in
        rw more (h.0, ap (onto_first b) h.1, h.2)

-- a text from its first name on: the name, and the names behind it
abbrev from_name : List ℕ → List (List ℕ)
from_name text = take (to_slash text) text ∷ components (drop (to_slash text) text)

slash_passed : (b : ℕ) (bs : List ℕ) → (b == 47) ≡ true → components (b ∷ bs) ≡ components bs
slash_passed b bs e = ap (λ c. filter named (cond c ([] ∷ runs bs) (onto_first b (runs bs)))) e

name_first : (b : ℕ) (bs : List ℕ) → (b == 47) ≡ false → components (b ∷ bs) ≡ from_name (b ∷ bs)
name_first b bs e =
    let r = first_run (b ∷ bs) in
    let n : List ℕ = take (to_slash (b ∷ bs)) (b ∷ bs) in
    ap (filter named) r.1 ∙ ap (λ c. cond c (n ∷ filter named r.0) (filter named r.0)) filled ∙ ap (λ ns. n ∷ ns) r.2
  where
    filled : named (take (to_slash (b ∷ bs)) (b ∷ bs)) ≡ true
    filled =
        let more : 1 + to_slash bs ≡ suc (to_slash bs) = omega arith in
        ap (λ c. named (take (cond (not c) (1 + to_slash bs) 0) (b ∷ bs))) e ∙ rw more (ap not (ne_eqb (length (b ∷ take (to_slash bs) bs)) 0 (λ e. omega arith)))

first_found : (text : List ℕ) → to_name text < length text → components text ≡ from_name (drop (to_name text) text)
first_found [] h = absurd (omega (arith, h))
first_found (b ∷ bs) h = by (b == 47) refl h (first_found bs)
  where
    by : (c : Bool) → (b == 47) ≡ c → cond (not (not c)) (1 + to_name bs) 0 < length (b ∷ bs) → (to_name bs < length bs → components bs ≡ from_name (drop (to_name bs) bs))
        → components (b ∷ bs) ≡ from_name (drop (cond (not (not c)) (1 + to_name bs) 0) (b ∷ bs))
    by true e h f =
        let more : 1 + to_name bs ≡ suc (to_name bs) = omega arith in
        rw more (slash_passed b bs e ∙ f (omega (arith, h)))
    by false e h f = name_first b bs e

none_found : (text : List ℕ) → length text ≤ to_name text → components text ≡ []
none_found [] h = refl
none_found (b ∷ bs) h = grind (arith, none_found bs, slash_passed b bs)

or_all : (p : ℕ → Bool) (text : List ℕ) → unwrap_or (position p text) (length text) ≡ position_or_len p text
or_all p text = grind (arith, prefix_len-le-length (λ b. not (p b)) text)

-- the names of a text, by where the first one begins
names_at : (text : List ℕ) (r : Option ℕ) → r ≡ position (λ b. not (b == 47)) text → components text ≡ option_map_or (λ k. from_name (drop k text)) r []
names_at text r e = grind (arith, first_found text, none_found text)

pub returns-in_err-start : goal.returns-in_err-start
returns-in_err-start c =
    let found = position_from_yields_List (λ b. not (b == 47)) _ _ c.position.result c.position.ensures.ran (YieldsList-from_slice c.args.path.now cc) (λ x b q k. search (rules, tests)) in
    rw c.from_residual.ensures (names_at c.args.path.now None (sym c.in_err-start.was ∙ found))

pub returns : goal.returns
returns c =
    let path = c.args.path.now in
    let named = c.split_at.result.1.now in
    let found = position_from_yields_List (λ b. not (b == 47)) _ _ c.position.result c.position.ensures.ran (YieldsList-from_slice path cc) (λ x b q k. search (rules, tests)) in
    let ended = position_from_yields_List (λ b. b == 47) _ _ c.position-2.result c.position-2.ensures.ran (YieldsList-from_slice named cc) (λ x b q k. search (rules, tests)) in
    let end : c.unwrap_or-end.result ≡ to_slash named = c.unwrap_or-end.ensures ∙ ap (λ o. unwrap_or o (length named)) ended ∙ or_all (λ b. b == 47) named in
    let front : c.split_at-2.result.0.now ≡ take (to_slash named) named = c.split_at-2.ensures.front ∙ ap (λ k. take k named) end in
    let back : c.split_at-2.result.1.now ≡ drop (to_slash named) named = c.split_at-2.ensures.back ∙ ap (λ k. drop k named) end in
    names_at path (Some c.in_ok-start.start) (sym c.in_ok-start.was ∙ found) ∙ rw (front, back) (ap from_name (sym c.split_at.ensures.back))
