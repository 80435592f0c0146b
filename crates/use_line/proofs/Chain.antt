-- The reads of a number, by their links.
use Rattle.std.specs.Prelude.{◌≡◌, ℕ, zero, suc, ◌<◌, ◌≤◌, true, false, ◌==◌, ◌++◌, ◌∷◌, List, [], length, Option, Some, None, IfSome, refl, if◌then◌else◌, slice_index_or}
use Rattle.std.proofs.Common.{sym, ap, ◌∙◌, subst, arith, inl, inr}
use Rattle.std.proofs.lemmas.Grind.{common_steps}
use Rattle.std.proofs.lemmas.Bool.{cases_Bool, cases_eq}
use Rattle.std.proofs.lemmas.Bool.Decides.{nat_tests}
use Rattle.use_line.specs.Spans.{within}
use Rattle.use_line.specs.Steps.{AllBelow, HasSet, IsCopy, step_at}
use Rattle.use_line.specs.Known.{HasRead, IsLinked, range_at, read_at, readers_at, readers_below, written_at}
use Rattle.use_line.specs.declared.read.Read.{Read}

-- no read, no readers
pub below_none : (reads : List Read) (n b : ℕ) → readers_below reads n None b ≡ []
below_none reads zero b = refl
below_none reads (suc n) b = below_none reads n b

-- what stands above the latest read counts for nothing
pub below_more : (reads : List Read) (n more b : ℕ) (o : Option ℕ) → IfSome o (λ i. i < n) → n ≤ more → readers_below reads more o b ≡ readers_below reads n o b
below_more reads n more b None under le = below_none reads more b ∙ sym (below_none reads n b)
below_more reads n zero b (Some i) under le = absurd (omega (arith, under, le))
below_more reads n (suc more) b (Some i) under le = elim (cases_eq n (suc more)) [
  | inl same ↦ rw same refl
  | inr other ↦
      let less : n ≤ more = omega (arith, le, other) in
      let past : (i == more) ≡ false = grind (arith, nat_tests, under, less) in
      rw past (below_more reads n more b (Some i) under less)
]

-- the latest read is the first, and then come those below it
pub below_read : (reads : List Read) (b i : ℕ) → i < length reads → AllBelow (read_at reads i).older i
    → readers_at reads (Some i) b ≡ (read_at reads i).place ∷ readers_at reads (step_at (read_at reads i).older b) b
below_read reads b i less linked =
    let here : (i == i) ≡ true = grind (arith, nat_tests) in
    let last : readers_below reads (suc i) (Some i) b ≡ (read_at reads i).place ∷ readers_below reads i (step_at (read_at reads i).older b) b = rw here refl in
    below_more reads (suc i) (length reads) b (Some i) (omega arith) (omega (arith, less)) ∙ last
    ∙ ap (λ js. (read_at reads i).place ∷ js) (sym (below_more reads i (length reads) b (step_at (read_at reads i).older b) (linked b) (omega (arith, less))))

-- an index of a list of reads
pub index_is : (reads : List Read) (i : ℕ) (r : Read) → i < length reads → r ≡ slice_index_or reads i r → read_at reads i ≡ r
index_is [] i r less is = absurd (omega (arith, less))
index_is (x ∷ reads) zero r less is = sym is
index_is (x ∷ reads) (suc i) r less is = index_is reads i r (omega (arith, less)) is

pub below_wider : (es : List (ℕ × Option ℕ)) (n more : ℕ) → n ≤ more → AllBelow es n → AllBelow es more
below_wider es n more le under b = by (step_at es b) (under b)
  where
    by : (o : Option ℕ) → IfSome o (λ i. i < n) → IfSome o (λ i. i < more)
    by None h = tt
    by (Some i) h = omega (arith, h, le)

-- one read more
pub read_before : (reads : List Read) (r : Read) (n : ℕ) → n < length reads → read_at (reads ++ r ∷ []) n ≡ read_at reads n
read_before [] r n less = absurd (omega (arith, less))
read_before (x ∷ reads) r zero less = refl
read_before (x ∷ reads) r (suc n) less = read_before reads r n (omega (arith, less))

pub read_new : (reads : List Read) (r : Read) → read_at (reads ++ r ∷ []) (length reads) ≡ r
read_new [] r = refl
read_new (x ∷ reads) r = read_new reads r

pub below_pushed : (reads : List Read) (r : Read) (n b : ℕ) (o : Option ℕ) → n ≤ length reads → readers_below (reads ++ r ∷ []) n o b ≡ readers_below reads n o b
below_pushed reads r zero b o le = refl
below_pushed reads r (suc n) b o le =
    let same : read_at (reads ++ r ∷ []) n ≡ read_at reads n = read_before reads r n (omega (arith, le)) in
    rw (same, below_pushed reads r n b (step_at (read_at reads n).older b) (omega (arith, le)), below_pushed reads r n b o (omega (arith, le))) refl

-- what an older read is the latest of, and what the new one is
module _ (reads : List Read) (r : Read) where
  abbrev more : List Read
  more = reads ++ r ∷ []

  longer : length more ≡ suc (length reads)
  longer = grind (arith, common_steps)

  pub readers_old : (b : ℕ) (o : Option ℕ) → IfSome o (λ i. i < length reads) → readers_at more o b ≡ readers_at reads o b
  readers_old b o under = below_more more (length reads) (length more) b o under (omega (arith, longer)) ∙ below_pushed reads r (length reads) b o (omega arith)

  pub readers_new : (b : ℕ) → AllBelow r.older (length reads) → readers_at more (Some (length reads)) b ≡ r.place ∷ readers_at reads (step_at r.older b) b
  readers_new b linked =
      let there : AllBelow (read_at more (length reads)).older (length reads) = subst (λ (x : Read). AllBelow x.older (length reads)) (sym (read_new reads r)) linked in
      below_read more b (length reads) (omega (arith, longer)) there
      ∙ (λ i. (read_new reads r i).place ∷ readers_at more (step_at (read_new reads r i).older b) b)
      ∙ ap (λ js. r.place ∷ js) (readers_old b (step_at r.older b) (linked b))

-- a range that one more place has read
module _ (w readers now : List (ℕ × Option ℕ)) (reads : List Read) (r : Read) (low high : ℕ) (linked : IsLinked (record { writers = w; readers = readers; reads = reads })) (copy : IsCopy readers r.older low high) where
  pub copy_below : AllBelow r.older (length reads)
  copy_below b = elim (cases_Bool (within low high b)) [
    | inl t ↦ let same : step_at r.older b ≡ step_at readers b = rw t at (copy b) in subst (λ (o : Option ℕ). IfSome o (λ i. i < length reads)) (sym same) (linked.latest b)
    | inr f ↦ let none : step_at r.older b ≡ None = rw f at (copy b) in subst (λ (o : Option ℕ). IfSome o (λ i. i < length reads)) (sym none) tt
  ]

  module _ (set : HasSet readers now low high (Some (length reads))) where
    pub read_known : (b : ℕ) → HasRead (step_at w b, readers_at reads (step_at readers b) b) (step_at w b, readers_at (reads ++ r ∷ []) (step_at now b) b) (within low high b) r.place
    read_known b = elim (cases_Bool (within low high b)) [
      | inl t ↦
          let new : step_at now b ≡ Some (length reads) = rw t at (set b) in
          let same : step_at r.older b ≡ step_at readers b = rw t at (copy b) in
          let is = readers_new reads r b copy_below ∙ ap (λ (o : Option ℕ). r.place ∷ readers_at reads o b) same in
          rw (t, new, is) (record { writer = refl; readers = λ j. grind arith; unread = grind arith })
      | inr f ↦
          let old : step_at now b ≡ step_at readers b = rw f at (set b) in
          rw (f, old, readers_old reads r b (step_at readers b) (linked.latest b)) (record { writer = refl; readers = λ j. grind arith; unread = grind arith })
    ]

-- a range that a place has written
module _ (w w₁ readers now : List (ℕ × Option ℕ)) (reads : List Read) (low high : ℕ) (clear : HasSet readers now low high None) where
  pub written_known : (place : ℕ) → HasSet w w₁ low high (Some place) → (b : ℕ)
      → range_at (record { writers = w₁; readers = now; reads = reads }) b ≡ (if within low high b then written_at place else range_at (record { writers = w; readers = readers; reads = reads }) b)
  written_known place wrote b = elim (cases_Bool (within low high b)) [
    | inl t ↦
        let new : step_at w₁ b ≡ Some place = rw t at (wrote b) in
        let none : step_at now b ≡ None = rw t at (clear b) in
        rw (t, new, none, below_none reads (length reads) b) refl
    | inr f ↦
        let old : step_at w₁ b ≡ step_at w b = rw f at (wrote b) in
        let same : step_at now b ≡ step_at readers b = rw f at (clear b) in
        rw (f, old, same) refl
  ]
