-- Numbers of names: one name more.
use Rattle.std.specs.Prelude.{◌≡◌, ℕ, ◌+◌, ◌/◌, ◌%◌, true, false, List, [], ◌∷◌, map, refl, Some, None, is_some, if◌then◌else◌}
use Rattle.std.specs.Map.{lookup}
use Rattle.indexmap.specs.IndexMap.{insert_entry}
use Rattle.std.specs.Str.{bytes_eq}
use Rattle.std.specs.Option.{IsSome}
use Rattle.std.proofs.Common.{sym, ap, ◌∙◌, subst, arith, inl, inr, ◌⊎◌}
use Rattle.std.proofs.lemmas.Bool.{cases_Bool}
use Rattle.std.proofs.lemmas.Slice.Eq.{bytes_eq-Decides}
use Rattle.foot_waits.specs.Names.{AreNumbered, name_key, number_at}

-- keys behind a view
module _ {K : Type 0} (text : K → List ℕ) where
  abbrev pub seen : List (K × ℕ) → List (List ℕ × ℕ)
  seen es = map (λ e. (text e.0, e.1)) es

  pub number_found : (q : List ℕ) (es : List (K × ℕ)) → lookup (λ x. bytes_eq q (text x)) es ≡ number_at (seen es) q
  number_found q [] = refl
  number_found q (e ∷ es) = rw (number_found q es) refl

  pub number_more : (k : K) (v : ℕ) (es : List (K × ℕ)) (q : List ℕ) → number_at (seen es) (text k) ≡ None
      → number_at (seen (insert_entry (λ x y. bytes_eq (text x) (text y)) es k v)) q ≡ (if bytes_eq q (text k) then Some v else number_at (seen es) q)
  number_more k v [] q none = refl
  number_more k v (e ∷ es) q none =
      let other : bytes_eq (text k) (text e.0) ≡ false = (elim (cases_Bool (bytes_eq (text k) (text e.0))) [ inl t ↦ absurd (let some : Some e.1 ≡ None = rw t at none in cc) | inr f ↦ f ]) in
      let rest : number_at (seen es) (text k) ≡ None = rw other at none in
      let later = number_more k v es q rest in
      rw other (elim (cases_Bool (bytes_eq q (text e.0))) [
        | inl here ↦
            let is : q ≡ text e.0 = (bytes_eq-Decides q (text e.0)).0 here in
            let not_key : bytes_eq q (text k) ≡ false = (elim (cases_Bool (bytes_eq q (text k))) [
              | inl t ↦ absurd (let same : q ≡ text k = (bytes_eq-Decides q (text k)).0 t in
                  let u : bytes_eq (text k) (text e.0) ≡ true = (bytes_eq-Decides (text k) (text e.0)).1 (sym same ∙ is) in
                  let both : true ≡ false = sym u ∙ other in cc)
              | inr f ↦ f
            ]) in
            rw (here, not_key) refl
        | inr far ↦ rw far later
      ])

-- one key more, with the next number
module _ (old new : List (List ℕ × ℕ)) (key : List ℕ) (next : ℕ) (law : (q : List ℕ) → number_at new q ≡ (if bytes_eq q key then Some next else number_at old q)) where
  pub known_more : number_at new key ≡ Some next
  known_more = let t : bytes_eq key key ≡ true = (bytes_eq-Decides key key).1 refl in law key ∙ rw t refl

  pub kept_more : number_at old key ≡ None → (q : List ℕ) → IsSome (number_at old q) → number_at new q ≡ number_at old q
  kept_more none q some = elim (cases_Bool (bytes_eq q key)) [
    | inl t ↦ absurd (let same : q ≡ key = (bytes_eq-Decides q key).0 t in let gone : is_some (number_at old key) ≡ true = subst (λ x. is_some (number_at old x) ≡ true) same some in let both : false ≡ true = sym (ap is_some none) ∙ gone in cc)
    | inr f ↦ law q ∙ rw f refl
  ]

  here_or_old : (q : List ℕ) (i : ℕ) → number_at new q ≡ Some i → ((q ≡ key) × (i ≡ next)) ⊎ (number_at old q ≡ Some i)
  here_or_old q i e = elim (cases_Bool (bytes_eq q key)) [
    | inl t ↦ let is : Some next ≡ Some i = rw t at (sym (law q) ∙ e) in inl ((bytes_eq-Decides q key).0 t, cc)
    | inr f ↦ inr (rw f at (sym (law q) ∙ e))
  ]

  pub numbered_more : AreNumbered old next → AreNumbered new (next + 1)
  numbered_more n = record {
    apart = λ p q i a b. elim (here_or_old p i a) [
      | inl x ↦ elim (here_or_old q i b) [
        | inl y ↦ x.0 ∙ sym y.0
        | inr y ↦ absurd (let less₁ = n.below q i y in omega (arith, less₁, x.1))
      ]
      | inr x ↦ elim (here_or_old q i b) [
        | inl y ↦ absurd (let less₁ = n.below p i x in omega (arith, less₁, y.1))
        | inr y ↦ n.apart p q i x y
      ]
    ];
    below = λ q i e. elim (here_or_old q i e) [ inl x ↦ omega (arith, x.1) | inr x ↦ let less₁ = n.below q i x in omega (arith, less₁) ];
  }

-- a key names one name of one directory
pub key_apart : (d e : ℕ) (m n : List ℕ) → name_key d m ≡ name_key e n → (d ≡ e) × (m ≡ n)
key_apart d e m n k =
    let a : d / 16777216 ≡ e / 16777216 = cc in
    let b : d / 65536 % 256 ≡ e / 65536 % 256 = cc in
    let c : d / 256 % 256 ≡ e / 256 % 256 = cc in
    let f : d % 256 ≡ e % 256 = cc in
    (omega arith, cc)
