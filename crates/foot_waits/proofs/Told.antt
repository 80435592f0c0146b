-- The first of the uses by which an access set waits for another.
use Rattle.std.specs.Prelude.{◌≡◌, ℕ, zero, suc, ◌+◌, ◌<◌, true, false, ◌&&◌, ◌||◌, ◌⊎◌, List, [], ◌∷◌, length, map, Option, Some, None, slice_index_or}
use Rattle.std.specs.Bool.{Decides}
use Rattle.std.proofs.Common.{ap, get_or, sym, ◌∙◌, subst, arith, inl, inr}
use Rattle.std.proofs.lemmas.Bool.{and_from, and_parts, cases_Bool, cases_eq, or_cases, or_left, or_right}
use Rattle.use_line.specs.declared.line.Span.{Span}
use Rattle.use_line.specs.Known.{IsToldOf, is_among}
use Rattle.world_parts.specs.Items.{Use, Footprint}
use Rattle.world_parts.specs.Uses.{use_meant}
use Rattle.world_parts.specs.declared.footprint.Use as code
use Rattle.foot_waits.specs.Groups.{told_among}
use Rattle.foot_waits.specs.Rule.{descriptor_uses, is_of_descriptors, use_at}
use Rattle.foot_waits.specs.Spots.{no_span}
use Rattle.foot_waits.specs.Told.{IsFirst, IsFirstFrom, Past, TellsBy, with_told}

-- a use by which it doesn't wait stands before the others
not_told : (past : Past) (f : Footprint) (spans : List Span) (m n j : ℕ) (o : Option ℕ) → ¬ (TellsBy past f spans m j) → IsFirstFrom past f spans (m + 1) n j o → IsFirstFrom past f spans m n j o
not_told past g spans m n j None not f = λ i from lt tells. elim (cases_eq i m) [
  | inl same ↦ not (subst (λ k. TellsBy past g spans k j) same tells)
  | inr other ↦ f i (omega (arith, from, other)) lt tells
]
not_told past g spans m n j (Some i) not f = (
  omega (arith, f.0),
  f.1,
  f.2,
  λ h from lt tells. elim (cases_eq h m) [
    | inl same ↦ not (subst (λ k. TellsBy past g spans k j) same tells)
    | inr other ↦ f.3 h (omega (arith, from, other)) lt tells
  ],
)

-- before the end there is none yet
pub none_from : (past : Past) (f : Footprint) (spans : List Span) (n j : ℕ) → IsFirstFrom past f spans n n j None
none_from past f spans n j = λ i from lt tells. absurd (omega (arith, from, lt))

-- one more use, which stands before the others
pub first_more : (past : Past) (f : Footprint) (spans : List Span) (m n j : ℕ) (o : Option ℕ) (told : List ℕ) → m < n → IsFirstFrom past f spans (m + 1) n j o → Decides (is_among told j) (TellsBy past f spans m j)
    → IsFirstFrom past f spans m n j (with_told o told m j)
first_more past g spans m n j o told less f d = elim (cases_Bool (is_among told j)) [
  | inl t ↦ rw t (omega arith, less, d.0 t, λ h from lt tells. absurd (omega (arith, from, lt)))
  | inr no₁ ↦ rw no₁ (not_told past g spans m n j o (λ tells. let both : true ≡ false = sym (d.1 tells) ∙ no₁ in cc) f)
]

-- the first from the first use on
pub first_of_all : (past : Past) (f : Footprint) (spans : List Span) (n j : ℕ) (o : Option ℕ) → IsFirstFrom past f spans 0 n j o → IsFirst past f spans n j o
first_of_all past g spans n j None f = λ i lt tells. f i (omega arith) lt tells
first_of_all past g spans n j (Some i) f = (f.1, f.2, λ h lt tells. f.3 h (omega arith) lt tells)

-- the use at a number is the one that is meant there
pub meant_at : (uses : List code.Use) (i : ℕ) (used : code.Use) → i < length uses → used ≡ get_or uses i used → use_meant used ≡ use_at (map use_meant uses) i
meant_at [] i used lt e = absurd (omega arith)
meant_at (v ∷ uses) zero used lt e = ap use_meant e
meant_at (v ∷ uses) (suc i) used lt e = meant_at uses i used (omega arith) e

-- those that the line tells, and then those that groups tell
pub told_both : (past : Past) (f : Footprint) (spans : List Span) (i j : ℕ) (u : Use) (own : Footprint) (mid new : List ℕ) → u ≡ use_at f i → own ≡ descriptor_uses f
    → (let s = slice_index_or spans i no_span in Decides (is_among mid j) ((is_among [] j ≡ true) ⊎ IsToldOf past.0 spans s.written s.low s.high j))
    → is_among new j ≡ (is_among mid j || (is_of_descriptors u.item && told_among past.1 own u j past.1)) → Decides (is_among new j) (TellsBy past f spans i j)
told_both past f spans i j u own mid new same_use own_is line groups =
    let of : ((is_of_descriptors u.item && told_among past.1 own u j past.1) ≡ true) → TellsBy past f spans i j = λ h.
    let parts = and_parts (is_of_descriptors u.item) (told_among past.1 own u j past.1) h in
    inr (
      subst (λ v. is_of_descriptors v.item ≡ true) same_use parts.0,
      subst (λ v. told_among past.1 (descriptor_uses f) v j past.1 ≡ true) same_use (subst (λ o. told_among past.1 o u j past.1 ≡ true) own_is parts.1),
    ) in (
      (λ h. elim (or_cases (is_among mid j) (is_of_descriptors u.item && told_among past.1 own u j past.1) (sym groups ∙ h)) [
        | inl m ↦ elim (line.0 m) [ inl no₁ ↦ absurd cc | inr told ↦ inl told ]
        | inr d ↦ of d
      ]),
      (λ t. groups ∙ (elim t [
        | inl told ↦ or_left (is_among mid j) (is_of_descriptors u.item && told_among past.1 own u j past.1) (line.1 (inr told))
        | inr d ↦ or_right (is_among mid j) (is_of_descriptors u.item && told_among past.1 own u j past.1)
            (subst (λ v. (is_of_descriptors v.item && told_among past.1 own v j past.1) ≡ true) (sym same_use)
            (subst (λ o. (is_of_descriptors (use_at f i).item && told_among past.1 o (use_at f i) j past.1) ≡ true) (sym own_is)
            (and_from (is_of_descriptors (use_at f i).item) (told_among past.1 (descriptor_uses f) (use_at f i) j past.1) d.0 d.1)))
      ])),
    )
