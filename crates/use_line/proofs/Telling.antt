-- Whom a range waits for, part by part.
use Rattle.std.specs.Prelude.{◌≡◌, ℕ, zero, suc, ◌+◌, ◌<◌, ◌≤◌, Bool, true, false, not, ◌&&◌, ◌||◌, ◌⊎◌, ◌==◌, List, [], ◌∷◌, length, Some, None, IfSome, if◌then◌else◌, refl}
use Rattle.std.specs.List.{AllByRecursion}
use Rattle.std.specs.List.Sorted.{IsPermutation}
use Rattle.std.proofs.Common.{take, get_or, sym, ap, ◌∙◌, subst, arith, inl, inr}
use Rattle.std.proofs.lemmas.Bool.{and_from, and_parts, cases_Bool, or_cases, or_left, or_right}
use Rattle.std.proofs.lemmas.Bool.Decides.{nat_tests}
use Rattle.std.proofs.lemmas.List.Folds.{list_any_more}
use Rattle.use_line.specs.History.{is_number}
use Rattle.use_line.specs.Spans.{within, covers, used_by, written_by}
use Rattle.use_line.specs.Known.{HasRead, IsLinked, IsPart, IsToldBy, Keeps, Known, RangeUses, Uses, is_among, is_none, known_at, range_at, read_by, readers_at, told_of, written_at}
use Rattle.use_line.specs.Queue.{AddsDue, Due, is_due}
use Rattle.use_line.specs.Steps.{step_at}
use Rattle.use_line.specs.declared.clip.Clip.{Clip}
use Rattle.use_line.specs.declared.line.Span.{Span}
use Rattle.use_line.proofs.Chain.{below_none, below_read}
use Rattle.use_line.proofs.Clips.{due_pushed}
use Rattle.use_line.proofs.Entries.{all_from}

-- no range begins or ends between two numbers
abbrev pub IsOutside : ℕ → ℕ → Span → Type 0
IsOutside edge high s = ((s.low ≤ edge) ⊎ (high ≤ s.low)) × ((s.high ≤ edge) ⊎ (high ≤ s.high))

abbrev pub AreOutside : ℕ → ℕ → List Span → Type 0
AreOutside edge high spans = AllByRecursion (IsOutside edge high) spans

pub later : (a edge more high : ℕ) → edge ≤ more → (a ≤ edge) ⊎ (high ≤ a) → (a ≤ more) ⊎ (high ≤ a)
later a edge more high up h = elim h [ inl le ↦ inl (omega (arith, le, up)) | inr ge ↦ inr ge ]

pub outside_up : (edge more high : ℕ) (spans : List Span) → edge ≤ more → AreOutside edge high spans → AreOutside more high spans
outside_up edge more high spans up h = all_from (λ s o. (later s.low edge more high up o.0, later s.high edge more high up o.1)) spans h

-- then a range has all numbers in between, or none
pub outside_same : (edge high b : ℕ) (spans : List Span) → AreOutside edge high spans → within edge high b ≡ true → written_by spans b ≡ written_by spans edge
outside_same edge high b [] h t = refl
outside_same edge high b (s ∷ spans) h t =
    let low : (s.low ≤ edge) ⊎ (high ≤ s.low) = h.0.0 in
    let end : (s.high ≤ edge) ⊎ (high ≤ s.high) = h.0.1 in
    let rest = outside_same edge high b spans h.1 t in
    let one : covers s b ≡ covers s edge = grind (arith, nat_tests, low, end) in
    rw (one, rest) refl

pub all_next : (P : Span → Type 0) (xs : List Span) (i : ℕ) (d : Span) → i < length xs → AllByRecursion P (take i xs) → P (get_or xs i d) → AllByRecursion P (take (suc i) xs)
all_next P [] i d lt h p = tt
all_next P (y ∷ xs) zero d lt h p = (p, tt)
all_next P (y ∷ xs) (suc i) d lt h p = (h.0, all_next P xs i d (omega arith) h.1 p)

-- of one part
module _ (u : RangeUses) (own : List Span) (low high : ℕ) (less : low < high) (part : IsPart u own low high) where
  first : within low high low ≡ true
  first = grind (arith, nat_tests, less)

  due_told : (written : Bool) (told told₁ : List ℕ) (q : List Clip) → ((b j : ℕ) → within low high b ≡ true → told_of (range_at u b) written (written_by own b) j ≡ is_number j (step_at u.writers low))
      → ((j : ℕ) → is_among told₁ j ≡ (is_among told j || is_number j (step_at u.writers low))) → AddsDue u own written low high told q told₁ q
  due_told written told told₁ q each more j = (
    (λ d. elim d [
      | inl t ↦ elim (or_cases (is_among told j) _ (sym (more j) ∙ t)) [
        | inl old ↦ inl (inl old)
        | inr new ↦ inr (low, first, each low j first ∙ new)
      ]
      | inr e ↦ inl (inr e)
    ]),
    (λ d. elim d [
      | inl old ↦ elim old [
        | inl t ↦ inl (more j ∙ or_left (is_among told j) _ t)
        | inr e ↦ inr e
      ]
      | inr t ↦ inl (more j ∙ or_right (is_among told j) _ (sym (each t.0 j t.1) ∙ t.2))
    ]),
  )

  -- a part that nobody has read since
  told_unread : (written w : Bool) (b j : ℕ) → step_at u.readers low ≡ None → within low high b ≡ true → told_of (range_at u b) written w j ≡ is_number j (step_at u.writers low)
  told_unread written w b j none t =
      let here : readers_at u.reads (step_at u.readers b) b ≡ [] = rw (part.readers b t, none) (below_none u.reads (length u.reads) b) in
      rw (here, part.writers b t) refl

  module _ (linked : IsLinked u) (i : ℕ) (is : step_at u.readers low ≡ Some i) where
    told_read : (written w : Bool) (b j : ℕ) → within low high b ≡ true
        → told_of (range_at u b) written w j ≡ (if written then is_among (readers_at u.reads (Some i) b) j else (if w then false else is_number j (step_at u.writers low)))
    told_read written w b j t =
        let there : step_at u.readers b ≡ Some i = part.readers b t ∙ is in
        let under : i < length u.reads = subst (λ o. IfSome o (λ k. k < length u.reads)) is (linked.latest low) in
        let some : is_none (readers_at u.reads (Some i) b) ≡ false = ap is_none (below_read u.reads b i under (linked.older i under)) in
        rw (there, some, part.writers b t) refl

    pub due_queued : (told : List ℕ) (q q₁ : List Clip) → IsPermutation (record { read = i; low = low; high = high } ∷ q) q₁ → AddsDue u own true low high told q told q₁
    due_queued told q q₁ more j = (
      (λ d. elim d [
        | inl t ↦ inl (inl t)
        | inr e ↦
            let b : ℕ = e.0 in
            elim (or_cases _ _ (sym (due_pushed u.reads _ q q₁ b j more) ∙ e.1)) [
              | inl here ↦ let p = and_parts (within low high b) _ here in inr (b, p.0, told_read true (written_by own b) b j p.0 ∙ p.1)
              | inr rest ↦ inl (inr (b, rest))
            ]
      ]),
      (λ d. elim d [
        | inl old ↦ elim old [
          | inl t ↦ inl t
          | inr e ↦ inr (e.0, due_pushed u.reads _ q q₁ e.0 j more ∙ or_right _ (is_due u.reads q e.0 j) e.1)
        ]
        | inr t ↦
            let b : ℕ = t.0 in
            let among : is_among (readers_at u.reads (Some i) b) j ≡ true = sym (told_read true (written_by own b) b j t.1) ∙ t.2 in
            inr (b, due_pushed u.reads _ q q₁ b j more ∙ or_left _ (is_due u.reads q b j) (and_from (within low high b) _ t.1 among))
      ]),
    )

    pub due_none : (told : List ℕ) (q : List Clip) → written_by own low ≡ true → AddsDue u own false low high told q told q
    due_none told q w j = (
      (λ d. inl d),
      (λ d. elim d [
        | inl old ↦ old
        | inr t ↦
            let b : ℕ = t.0 in
            let mine : written_by own b ≡ true = part.same b t.1 ∙ w in
            let at : told_of (range_at u b) false true j ≡ true = subst (λ x. told_of (range_at u b) false x j ≡ true) mine t.2 in
            absurd (let no₁ : false ≡ true = sym (told_read false true b j t.1) ∙ at in cc)
      ]),
    )

    pub due_writer : (told told₁ : List ℕ) (q : List Clip) → written_by own low ≡ false → ((j : ℕ) → is_among told₁ j ≡ (is_among told j || is_number j (step_at u.writers low))) → AddsDue u own false low high told q told₁ q
    due_writer told told₁ q w more = due_told false told told₁ q (λ b j t. let mine : written_by own b ≡ false = part.same b t ∙ w in told_read false (written_by own b) b j t ∙ rw mine refl) more

  pub due_unread : (written : Bool) (told told₁ : List ℕ) (q : List Clip) → step_at u.readers low ≡ None → ((j : ℕ) → is_among told₁ j ≡ (is_among told j || is_number j (step_at u.writers low))) → AddsDue u own written low high told q told₁ q
  due_unread written told told₁ q none more = due_told written told told₁ q (λ b j t. told_unread written (written_by own b) b j none t) more

-- of two ranges that touch
pub told_joined : (u : RangeUses) (own : List Span) (written : Bool) (low to high : ℕ) (told mid told₁ : List ℕ) (middle q₁ : List Clip) → low < to → to ≤ high
    → ((j : ℕ) → (Due u.reads mid middle j → (is_among told j ≡ true) ⊎ IsToldBy (range_at u) own written to high j) × ((is_among told j ≡ true) ⊎ IsToldBy (range_at u) own written to high j → Due u.reads mid middle j))
    → AddsDue u own written low to mid middle told₁ q₁
    → (j : ℕ) → (Due u.reads told₁ q₁ j → (is_among told j ≡ true) ⊎ IsToldBy (range_at u) own written low high j) × ((is_among told j ≡ true) ⊎ IsToldBy (range_at u) own written low high j → Due u.reads told₁ q₁ j)
told_joined u own written low to high told mid told₁ middle q₁ less under before more j = (
  (λ d. elim ((more j).0 d) [
    | inl m ↦ elim ((before j).0 m) [
      | inl t ↦ inl t
      | inr e ↦ let b : ℕ = e.0 in let w : within to high b ≡ true = e.1 in inr (b, grind (arith, nat_tests), e.2)
    ]
    | inr e ↦ let b : ℕ = e.0 in let w : within low to b ≡ true = e.1 in inr (b, grind (arith, nat_tests), e.2)
  ]),
  (λ d. elim d [
    | inl t ↦ (more j).1 (inl ((before j).1 (inl t)))
    | inr e ↦
        let b : ℕ = e.0 in
        let w : within low high b ≡ true = e.1 in
        elim (cases_Bool (within to high b)) [
          | inl up ↦ (more j).1 (inl ((before j).1 (inr (b, up, e.2))))
          | inr down ↦ (more j).1 (inr (b, grind (arith, nat_tests), e.2))
        ]
  ]),
)

-- one range more that a place has read
pub read_more : (spans : List Span) (i : ℕ) (d : Span) (place : ℕ) (old mid new : ℕ → Known) → i < length spans
    → ((b : ℕ) → HasRead (old b) (mid b) (read_by (take i spans) b) place)
    → ((b : ℕ) → HasRead (mid b) (new b) (not (get_or spans i d).written && covers (get_or spans i d) b) place)
    → (b : ℕ) → HasRead (old b) (new b) (read_by (take (i + 1) spans) b) place
read_more spans i d place old mid new less before more b =
    let f = before b in
    let s = more b in
    rw (list_any_more (λ (x : Span). not x.written && covers x b) spans i d less) (record {
      writer = s.writer ∙ f.writer;
      readers = λ j. s.readers j ∙ (λ k. f.readers j k || ((not (get_or spans i d).written && covers (get_or spans i d) b) && place == j)) ∙ spread (is_among (old b).1 j) (read_by (take i spans) b) (not (get_or spans i d).written && covers (get_or spans i d) b) (place == j);
      unread = s.unread ∙ (λ k. f.unread k && not (not (get_or spans i d).written && covers (get_or spans i d) b)) ∙ both (is_none (old b).1) (read_by (take i spans) b) (not (get_or spans i d).written && covers (get_or spans i d) b);
    })
  where
    spread : (o x y p : Bool) → ((o || (x && p)) || (y && p)) ≡ (o || ((x || y) && p))
    spread o x y p = grind arith

    both : (o x y : Bool) → ((o && not x) && not y) ≡ (o && not (x || y))
    both o x y = grind arith

pub read_same : (known : Known) (place : ℕ) → HasRead known known false place
read_same known place = record { writer = refl; readers = λ j. grind arith; unread = grind arith }

-- what is used is read or written
used_is : (spans : List Span) (b : ℕ) → used_by spans b ≡ (read_by spans b || written_by spans b)
used_is [] b = refl
used_is (s ∷ spans) b = grind (arith, used_is spans b)

not_yet : (used reads wrote before mid old : Bool) → wrote ≡ false → used ≡ (reads || wrote) → mid ≡ (old && not reads) → old ≡ not before → mid ≡ not (used || before)
not_yet used reads wrote before mid old f u m o = grind arith

-- one place more
pub keeps_next : (old mid new : Uses) (all : ℕ → List Span) (place : ℕ) (spans : List Span)
    → ((b : ℕ) → HasRead (known_at old b) (known_at mid b) (read_by spans b) place) → ((b : ℕ) → known_at new b ≡ (if written_by spans b then written_at place else known_at mid b))
    → all place ≡ spans → Keeps old all place → Keeps new all (suc place)
keeps_next old mid new all place spans read write mine keep = record {
  writer = λ b. ap (λ (p : Known). p.0) (write b) ∙ rw mine (let r = read b in let k = keep.writer b in grind (arith, r.writer));
  readers = λ b j. ap (λ (p : Known). is_among p.1 j) (write b) ∙ rw mine (let r = read b in let k = keep.readers b j in grind (arith, r.readers j, used_is spans b));
  unread = λ b. ap (λ (p : Known). is_none p.1) (write b) ∙ rw mine (elim (cases_Bool (written_by spans b)) [
    | inl w ↦ rw w refl
    | inr f ↦ rw f (not_yet (used_by spans b) (read_by spans b) (written_by spans b) _ _ _ f (used_is spans b) ((read b).unread) (keep.unread b))
  ]);
}
