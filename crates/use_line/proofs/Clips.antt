-- Clips that are taken out of a heap, and put into it.
use Rattle.std.specs.Prelude.{◌≡◌, ℕ, suc, ◌+◌, ◌*◌, ◌-◌, ◌<◌, ◌≤◌, Bool, true, false, ◌&&◌, ◌||◌, ◌==◌, List, [], ◌∷◌, length, Option, Some, None, IfSome, refl, slice_index_or}
use Rattle.std.specs.Option.{IfNone}
use Rattle.std.specs.List.{All}
use Rattle.std.specs.List.Sorted.{IsPermutation}
use Rattle.std.proofs.Common.{sym, ap, ◌∙◌, subst, arith, inl, inr}
use Rattle.std.proofs.lemmas.Bool.{and_from, and_parts, cases_Bool, or_cases, or_left, or_right}
use Rattle.std.proofs.lemmas.Bool.Decides.{nat_tests}
use Rattle.std.proofs.lemmas.List.Elements.{All-cons, All-tail}
use Rattle.std.proofs.lemmas.List.Sorted.{All-permutation, list_any-IsPermutation, sum_by_popped, sum_by_pushed}
use Rattle.use_line.specs.Spans.{within}
use Rattle.use_line.specs.Steps.{IsLevel, step_at}
use Rattle.use_line.specs.Known.{is_among, readers_at}
use Rattle.use_line.specs.Queue.{Due, IsNext, has_reader, is_due, weight, weight_of}
use Rattle.use_line.specs.declared.clip.Clip.{Clip}
use Rattle.use_line.specs.declared.read.Read.{Read}
use Rattle.use_line.proofs.Chain.{below_none}

-- one clip more, and one less
pub due_pushed : (reads : List Read) (c : Clip) (q q₁ : List Clip) (b j : ℕ) → IsPermutation (c ∷ q) q₁ → is_due reads q₁ b j ≡ (has_reader reads c b j || is_due reads q b j)
due_pushed reads c q q₁ b j p = sym (list_any-IsPermutation (λ d. has_reader reads d b j) (c ∷ q) q₁ p)

pub due_popped : (reads : List Read) (c : Clip) (q q₁ : List Clip) (b j : ℕ) → IsPermutation q (c ∷ q₁) → is_due reads q b j ≡ (has_reader reads c b j || is_due reads q₁ b j)
due_popped reads c q q₁ b j p = list_any-IsPermutation (λ d. has_reader reads d b j) q (c ∷ q₁) p

pub all_pushed : (P : Clip → Type 0) (c : Clip) (q q₁ : List Clip) → IsPermutation (c ∷ q) q₁ → P c → All P q → All P q₁
all_pushed P c q q₁ p one rest = All-permutation P (c ∷ q) q₁ p (All-cons P c q one rest)

pub all_popped : (P : Clip → Type 0) (c : Clip) (q q₁ : List Clip) → IsPermutation q (c ∷ q₁) → All P q → P c × All P q₁
all_popped P c q q₁ p all =
    let there : All P (c ∷ q₁) = All-permutation P q (c ∷ q₁) p all in
    (there 0 c (omega arith), All-tail P c q₁ there)

pub weight_pushed : (c : Clip) (q q₁ : List Clip) → IsPermutation (c ∷ q) q₁ → weight q₁ ≡ weight_of c + weight q
weight_pushed c q q₁ p = sum_by_pushed weight_of c q q₁ p

pub weight_popped : (c : Clip) (q q₁ : List Clip) → IsPermutation q (c ∷ q₁) → weight q ≡ weight_of c + weight q₁
weight_popped c q q₁ p = let w = sum_by_popped weight_of c q q₁ p in omega (arith, w)

-- the one that is taken out is the top
pub popped_is : (q q₁ : List Clip) (x y : Clip) → x ≡ slice_index_or q 0 x → y ≡ slice_index_or q 0 y → IsPermutation q (x ∷ q₁) → x ≡ y
popped_is [] q₁ x y a b p = let e = list_any-IsPermutation (λ d. true) [] (x ∷ q₁) p in absurd (let no₁ : false ≡ true = e in cc)
popped_is (z ∷ q) q₁ x y a b p = a ∙ sym b

pub next_popped : (q rest : List Clip) (r : Option Clip) (c : Clip) (low len : ℕ) → 0 < len → IfNone r (len ≡ 0) → IfSome r (λ x. x ≡ slice_index_or q 0 x) → IfSome r (λ x. IsPermutation q (x ∷ rest)) → IsNext q c low
    → IsPermutation q (record { read = c.read; low = low; high = c.low } ∷ rest)
next_popped q rest None c low len some none top perm is = absurd (omega (arith, some, none))
next_popped q rest (Some x) c low len some none top perm is = subst (λ (d : Clip). IsPermutation q (d ∷ rest)) (popped_is q rest x (record { read = c.read; low = low; high = c.low }) top is perm) perm

-- a clip with one that touches it from below
module _ (c d : Clip) (same : d.read ≡ c.read) (touch : d.high ≡ c.low) (mine : c.low < c.high) (other : d.low < d.high) where
  abbrev both : Clip
  both = record { read = c.read; low = d.low; high = c.high }

  pub due_both : (reads : List Read) (b j : ℕ) → has_reader reads both b j ≡ (has_reader reads c b j || has_reader reads d b j)
  due_both reads b j =
      let one : within d.low c.high b ≡ (within c.low c.high b || within d.low d.high b) = grind (arith, nat_tests) in
      rw (one, same) (split (within c.low c.high b) (within d.low d.high b) (is_among (readers_at reads (Some c.read) b) j))
    where
      split : (x y z : Bool) → ((x || y) && z) ≡ ((x && z) || (y && z))
      split x y z = grind arith

  pub due_joined : (reads : List Read) (b j : ℕ) (old : Bool) (q rest : List Clip) → old ≡ (has_reader reads c b j || is_due reads q b j) → IsPermutation q (d ∷ rest) → old ≡ (has_reader reads both b j || is_due reads rest b j)
  due_joined reads b j old q rest before p = before ∙ glue _ _ _ _ _ (due_popped reads d q rest b j p) (due_both reads b j)
    where
      glue : (x q y r z : Bool) → q ≡ (y || r) → z ≡ (x || y) → (x || q) ≡ (z || r)
      glue x q y r z e f = grind arith

  pub weight_both : weight_of both ≡ weight_of c + weight_of d
  weight_both =
      let sum : c.high - d.low ≡ (c.high - c.low) + (d.high - d.low) = omega (arith, touch, mine, other) in
      rw (sum, same) (spread (c.high - c.low) (d.high - d.low) (suc c.read))
    where
      spread : (x y z : ℕ) → (x + y) * z ≡ x * z + y * z
      spread x y z = omega arith

-- what stands below a read, part by part
module _ (older : List (ℕ × Option ℕ)) (low end high : ℕ) (less : low < end) (under : end ≤ high) (level : IsLevel older low end) where
  abbrev Added : List Read → List Clip → List Clip → ℕ → ℕ → ℕ → Type 0
  Added reads q q₁ from b j = is_due reads q₁ b j ≡ (is_due reads q b j || (within from high b && is_among (readers_at reads (step_at older b) b) j))

  abbrev there : List Read → ℕ → ℕ → Bool
  there reads b j = is_among (readers_at reads (step_at older b) b) j

  join : (x y z w d a : Bool) → x ≡ (y || z) → a ≡ (d || (z && w)) → ((y && w) || a) ≡ (d || (x && w))
  join x y z w d a e f = grind arith

  parts : (b : ℕ) → within low high b ≡ (within low end b || within end high b)
  parts b = grind (arith, nat_tests, less, under)

  pub due_more : (reads : List Read) (i : ℕ) (q mid q₁ : List Clip) (b j : ℕ) → step_at older low ≡ Some i → IsPermutation (record { read = i; low = low; high = end } ∷ mid) q₁ → Added reads q mid end b j → Added reads q q₁ low b j
  due_more reads i q mid q₁ b j is p before =
      let here : has_reader reads (record { read = i; low = low; high = end }) b j ≡ (within low end b && there reads b j) = (elim (cases_Bool (within low end b)) [
        | inl t ↦ let same : step_at older b ≡ Some i = level b t ∙ is in rw (t, same) refl
        | inr f ↦ rw f refl
      ]) in
      due_pushed reads _ mid q₁ b j p ∙ ap (λ x. x || is_due reads mid b j) here ∙ join _ (within low end b) (within end high b) (there reads b j) (is_due reads q b j) (is_due reads mid b j) (parts b) before

  pub due_same : (reads : List Read) (q mid : List Clip) (b j : ℕ) → step_at older low ≡ None → Added reads q mid end b j → Added reads q mid low b j
  due_same reads q mid b j none before = elim (cases_Bool (within low end b)) [
    | inl t ↦
        let same : step_at older b ≡ None = level b t ∙ none in
        let no₁ : there reads b j ≡ false = rw (same, below_none reads (length reads) b) refl in
        before ∙ rw no₁ (nothing (is_due reads q b j) (within end high b) (within low high b))
    | inr f ↦ before ∙ rw (parts b, f) refl
  ]
    where
      nothing : (d x y : Bool) → (d || (x && false)) ≡ (d || (y && false))
      nothing d x y = grind arith

  pub weight_more : (n i : ℕ) (q mid q₁ : List Clip) → i < n → IsPermutation (record { read = i; low = low; high = end } ∷ mid) q₁ → weight mid ≤ weight q + (high - end) * n → weight q₁ ≤ weight q + (high - low) * n
  weight_more n i q mid q₁ lt p before =
      let sum : high - low ≡ (end - low) + (high - end) = omega (arith, less, under) in
      let more = weight_pushed (record { read = i; low = low; high = end }) mid q₁ p in
      rw (sum, more) (bound (end - low) (high - end) (suc i) n (weight mid) (weight q) (omega (arith, lt)) before)
    where
      bound : (x y s n m w : ℕ) → s ≤ n → m ≤ w + y * n → x * s + m ≤ w + (x + y) * n
      bound x y s n m w le h = grind arith

  pub weight_same : (n : ℕ) (q mid : List Clip) → weight mid ≤ weight q + (high - end) * n → weight mid ≤ weight q + (high - low) * n
  weight_same n q mid before =
      let sum : high - low ≡ (end - low) + (high - end) = omega (arith, less, under) in
      rw sum (wider (end - low) (high - end) n (weight mid) (weight q) before)
    where
      wider : (x y n m w : ℕ) → m ≤ w + y * n → m ≤ w + (x + y) * n
      wider x y n m w h = grind arith

-- less is left once a read is told
pub lighter : (x r mid new old : ℕ) → 0 < x → old ≡ x * suc r + mid → new ≤ mid + x * r → new < old
lighter x r mid new old some is le = omega (arith, some, is, le)

-- a read is told, and what stands below it is to be told
pub due_next : (reads : List Read) (c : Clip) (place : ℕ) (older : List (ℕ × Option ℕ)) (told told₁ : List ℕ) (q mid q₁ : List Clip) → c.low < c.high
    → ((b j : ℕ) → is_due reads q b j ≡ (has_reader reads c b j || is_due reads mid b j))
    → ((b : ℕ) → readers_at reads (Some c.read) b ≡ place ∷ readers_at reads (step_at older b) b)
    → ((j : ℕ) → is_among told₁ j ≡ (is_among told j || place == j))
    → ((b j : ℕ) → is_due reads q₁ b j ≡ (is_due reads mid b j || (within c.low c.high b && is_among (readers_at reads (step_at older b) b) j)))
    → (j : ℕ) → (Due reads told₁ q₁ j → Due reads told q j) × (Due reads told q j → Due reads told₁ q₁ j)
due_next reads c place older told told₁ q mid q₁ some popped chain tells added j = (
  (λ d. elim d [
    | inl t ↦ elim (or_cases (is_among told j) (place == j) (sym (tells j) ∙ t)) [
      | inl old ↦ inl old
      | inr new ↦
          let inside : within c.low c.high c.low ≡ true = grind (arith, nat_tests, some) in
          inr (c.low, popped c.low j ∙ or_left _ (is_due reads mid c.low j) (and_from (within c.low c.high c.low) _ inside (rw (chain c.low) (or_left (place == j) _ new))))
    ]
    | inr e ↦
        let b : ℕ = e.0 in
        elim (or_cases (is_due reads mid b j) _ (sym (added b j) ∙ e.1)) [
          | inl rest ↦ inr (b, popped b j ∙ or_right (has_reader reads c b j) _ rest)
          | inr here ↦
              let p = and_parts (within c.low c.high b) _ here in
              inr (b, popped b j ∙ or_left _ (is_due reads mid b j) (and_from (within c.low c.high b) _ p.0 (rw (chain b) (or_right (place == j) _ p.1))))
        ]
  ]),
  (λ d. elim d [
    | inl t ↦ inl (tells j ∙ or_left (is_among told j) _ t)
    | inr e ↦
        let b : ℕ = e.0 in
        elim (or_cases (has_reader reads c b j) _ (sym (popped b j) ∙ e.1)) [
          | inr rest ↦ inr (b, added b j ∙ or_left (is_due reads mid b j) _ rest)
          | inl here ↦
              let p = and_parts (within c.low c.high b) _ here in
              let among : ((place == j) || is_among (readers_at reads (step_at older b) b) j) ≡ true = rw (chain b) at p.1 in
              elim (or_cases (place == j) _ among) [
                | inl me ↦ inl (tells j ∙ or_right (is_among told j) _ me)
                | inr below ↦ inr (b, added b j ∙ or_right (is_due reads mid b j) _ (and_from (within c.low c.high b) _ p.0 below))
              ]
        ]
  ]),
)
