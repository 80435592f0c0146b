-- The map of the buffers so far, the test that it serves, and one buffer more.
use Rattle.std.proofs.Common.{◌≡◌, ℕ, ◌+◌, ◌-◌, ◌<◌, ◌≤◌, true, false, List, [], ◌∷◌, ◌++◌, Some, None, refl, sym, ap, subst, ◌∙◌, inl, inr, ◌⊎◌, arith}
use Rattle.std.specs.Prelude.{◌==◌, ◌&&◌, ◌↔◌, nat_lt, Contains, IsSome}
use Rattle.std.specs.Bool.{Decides}
use Rattle.std.specs.List.{list_any}
use Rattle.std.specs.Ordering.{nat_cmp}
use Rattle.std.specs.declared.cmp.Ordering.TheVariants.{Less}
use Rattle.std.specs.BTreeMap.{get}
use Rattle.std.proofs.lemmas.Bool.{cases_Bool, and_parts, cond-true, cond-false}
use Rattle.std.proofs.lemmas.Bool.Decides.{same_from_decides, Decides-eqb, Decides-ltb, nat_tests}
use Rattle.std.proofs.lemmas.List.Elements.{Contains-push, Contains-push_cases, Contains-append_left}
use Rattle.std.proofs.lemmas.List.Folds.{Any-from_list_any, list_any-from_Any}
use Rattle.trace_format.specs.declared.trace.Buffer.{Buffer}
use Rattle.trace_format.specs.Spans.{Spans, HasSpan, AddsSpan, KnowsSpans}
use Rattle.trace_format.specs.Text.{overlap}

-- what an overlap says
record Meets (a b : Buffer) : Type 0 where
  first : 0 < a.len
  second : 0 < b.len
  before : a.address < b.address + b.len
  behind : b.address < a.address + a.len

meets : (a b : Buffer) → overlap a b ≡ true → Meets a b
meets a b h = grind (arith, nat_tests)

overlap_true : (a b : Buffer) → Meets a b → overlap a b ≡ true
overlap_true a b m = grind (arith, nat_tests)

-- some buffer of the list overlaps this one
abbrev Overlapped : List Buffer → Buffer → Type 0
Overlapped buffers n = (b : Buffer) × Contains buffers b × Meets b n

overlapped : (buffers : List Buffer) (n : Buffer) → Decides (list_any (λ b. overlap b n) buffers) (Overlapped buffers n)
overlapped buffers n = (
  (λ h. let found = Any-from_list_any (λ b. overlap b n) buffers h in (found.1, (found.0, found.2, found.3), meets found.1 n found.4)),
  (λ h. list_any-from_Any (λ b. overlap b n) buffers (h.1.0, h.0, h.1.1, h.1.2, overlap_true h.0 n h.2)),
)

none_overlaps : (buffers : List Buffer) (n : Buffer) → (Overlapped buffers n → ⊥) → false ≡ list_any (λ b. overlap b n) buffers
none_overlaps buffers n never =
    same_from_decides false (list_any (λ b. overlap b n) buffers) ((λ (e : false ≡ true). absurd cc), (λ p. absurd (never p))) (overlapped buffers n)

-- an empty buffer overlaps none
pub empty_overlaps_none : (buffers : List Buffer) (n : Buffer) → n.len ≡ 0 → false ≡ list_any (λ b. overlap b n) buffers
empty_overlaps_none buffers n empty = none_overlaps buffers n (λ p. omega (arith, p.2.second))

-- nor does one before whose end none begins
pub first_overlaps_none : (spans : Spans) (buffers : List Buffer) (n : Buffer) → KnowsSpans spans buffers
    → ((q : ℕ) → q < n.address + n.len → get nat_cmp spans q ≡ None)
    → false ≡ list_any (λ b. overlap b n) buffers
first_overlaps_none spans buffers n knows below = none_overlaps buffers n (λ p.
    let there : HasSpan spans p.0 = (knows.all p.0).1 (p.1, p.2.first) in
    let none : get nat_cmp spans p.0.address ≡ None = below p.0.address p.2.before in
    absurd cc)

-- of those that begin before its end, the last one decides
pub last_decides : (spans : Spans) (buffers : List Buffer) (n : Buffer) (start len : ℕ) → KnowsSpans spans buffers
    → 0 < n.len → start < n.address + n.len → get nat_cmp spans start ≡ Some len
    → ((q : ℕ) → q < n.address + n.len → IsSome (get nat_cmp spans q) → q ≤ start)
    → nat_lt (n.address - start) len ≡ list_any (λ b. overlap b n) buffers
last_decides spans buffers n start len knows some before at last =
    let l : Buffer = record { address = start; len = len } in
    let here : Contains buffers l × (0 < len) = (knows.all l).0 at in
    same_from_decides (nat_lt (n.address - start) len) (list_any (λ b. overlap b n) buffers) (
      (λ h.
          let lt : n.address - start < len = (Decides-ltb (n.address - start) len).0 h in
          (l, here.0, record { first = here.1; second = some; before = before; behind = omega arith })),
      (λ p.
          let there : HasSpan spans p.0 = (knows.all p.0).1 (p.1, p.2.first) in
          let le : p.0.address ≤ start = last p.0.address p.2.before (rw there refl) in
          (Decides-ltb (n.address - start) len).1 (grind (arith, knows.apart p.0 l there at, p.2, here.1))),
    )
    (overlapped buffers n)

-- what the order of numbers says
pub less : (a b : ℕ) → a < b → nat_cmp a b ≡ Less
less a b lt = grind (arith, nat_tests)

pub lt_from_less : (a b : ℕ) → nat_cmp a b ≡ Less → a < b
lt_from_less a b h = grind (arith, nat_tests)

same_buffer : (a b : Buffer) → a.address ≡ b.address → a.len ≡ b.len → a ≡ b
same_buffer a b p q =
    let made : ℕ → ℕ → Buffer = λ x y. record { address = x; len = y } in
    ap (λ x. made x a.len) p ∙ ap (made b.address) q

-- one buffer more that overlaps none
module _ (old new : Spans) (buffers : List Buffer) (n : Buffer) (knows : KnowsSpans old buffers) (adds : AddsSpan old new n) (apart : list_any (λ b. overlap b n) buffers ≡ false) where
  apart_from : (b : Buffer) → HasSpan old b → 0 < n.len → b.address < n.address + n.len → n.address < b.address + b.len → ⊥
  apart_from b there some before behind =
      let was = (knows.all b).0 there in
      let hit = (overlapped buffers n).1 (b, was.0, record { first = was.1; second = some; before = before; behind = behind }) in
      absurd cc

  -- at each address stands the new one, or what stood there
  at_address : (q : ℕ) → ((n.address ≡ q) × (0 < n.len) × (get nat_cmp new q ≡ Some n.len)) ⊎ (get nat_cmp new q ≡ get nat_cmp old q)
  at_address q = elim (cases_Bool (nat_lt 0 n.len && n.address == q)) [
    | inl here ↦
        let both = and_parts _ _ here in
        inl ((Decides-eqb n.address q).0 both.1, (Decides-ltb 0 n.len).0 both.0, adds q ∙ cond-true _ _ _ here)
    | inr elsewhere ↦ inr (adds q ∙ cond-false _ _ _ elsewhere)
  ]

  was_there : (b : Buffer) → HasSpan new b → HasSpan old b ⊎ ((n ≡ b) × (0 < n.len))
  was_there b h = grind (arith, at_address b.address, same_buffer n b)

  stays : (b : Buffer) → HasSpan old b → 0 < b.len → HasSpan new b
  stays b there some = grind (arith, at_address b.address, apart_from b there)

  new_there : 0 < n.len → HasSpan new n
  new_there some = rw ((Decides-ltb 0 n.len).1 some, (Decides-eqb n.address n.address).1 refl) at (adds n.address)

  all_there : (b : Buffer) → HasSpan new b ↔ (Contains (buffers ++ n ∷ []) b × (0 < b.len))
  all_there b = (
    (λ h. elim (was_there b h) [
      | inl there ↦ let was = (knows.all b).0 there in (Contains-append_left buffers (n ∷ []) b was.0, was.1)
      | inr new_one ↦ subst (λ (x : Buffer). Contains (buffers ++ n ∷ []) x × (0 < x.len)) new_one.0 (Contains-push buffers n, new_one.1)
    ]),
    (λ p. elim (Contains-push_cases buffers n b p.0) [
      | inl in_list ↦ stays b ((knows.all b).1 (in_list, p.1)) p.1
      | inr same ↦ subst (λ (x : Buffer). HasSpan new x) same (new_there (subst (λ (x : Buffer). 0 < x.len) (sym same) p.1))
    ]),
  )

  all_apart : (a b : Buffer) → HasSpan new a → HasSpan new b → a.address < b.address → a.address + a.len ≤ b.address
  all_apart a b here there lt =
      grind (arith, was_there a here, was_there b there, knows.apart a b, apart_from a, apart_from b)

  pub KnowsSpans-push : KnowsSpans new (buffers ++ n ∷ [])
  KnowsSpans-push = record { all = all_there; apart = all_apart }
