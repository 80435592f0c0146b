-- Whom groups of places tell are those that come directly before.
use Rattle.std.specs.Prelude.{◌≡◌, ℕ, zero, suc, ◌-◌, ◌<◌, ◌≤◌, Bool, true, false, ◌&&◌, ◌==◌, leb, max, List, [], ◌∷◌, ◌++◌, length, ◌⊎◌, refl, if◌then◌else◌, slice_index_or}
use Rattle.std.specs.List.{AllByRecursion, list_all, list_any, remove}
use Rattle.std.proofs.Common.{drop, take, sym, ap, ◌∙◌, subst, arith, inl, inr}
use Rattle.std.proofs.lemmas.Bool.{and_from, and_parts, cases_Bool, cases_lt, eqb-true, false_from_ne_true, or_cases, or_left, or_right}
use Rattle.std.proofs.lemmas.Bool.Decides.{nat_tests}
use Rattle.std.proofs.lemmas.List.Folds.{list_any-append}
use Rattle.use_line.specs.Known.{is_among}
use Rattle.world_parts.specs.Items.{Use, Footprint, collide}
use Rattle.foot_waits.specs.Groups.{BeginsAt, Grouped, HasUses, IsAdded, KeepsGroups, Rise, from_on, latest_between, meets, nothing, told_among, told_in, with_place}
use Rattle.foot_waits.specs.Rule.{WaitsBy, descriptor_uses, descriptors}
use Rattle.foot_waits.proofs.Adding.{all_pushed, take_whole}

-- the end of a list that rises
among_above : (p j : ℕ) (ps : List ℕ) → AllByRecursion (λ q. p < q) ps → is_among ps j ≡ true → p < j
among_above p j [] r h = absurd cc
among_above p j (q ∷ ps) r h = elim (or_cases (q == j) (is_among ps j) h) [
  | inl e ↦ let same : q ≡ j = eqb-true q j e in omega (arith, r.0, same)
  | inr later ↦ among_above p j ps r.1 later
]

all_least : (since j : ℕ) (ps : List ℕ) → list_all (λ q. leb since q) ps ≡ true → is_among ps j ≡ true → since ≤ j
all_least since j [] t h = absurd cc
all_least since j (p ∷ ps) t h =
    let parts = and_parts (leb since p) (list_all (λ q. leb since q) ps) t in
    elim (or_cases (p == j) (is_among ps j) h) [
      | inl e ↦ let same : p ≡ j = eqb-true p j e in let le : leb since p ≡ true = parts.0 in grind (arith, nat_tests)
      | inr later ↦ all_least since j ps parts.1 later
    ]

least_all : (since p : ℕ) (ps : List ℕ) → since ≤ p → AllByRecursion (λ q. p < q) ps → list_all (λ q. leb since q) ps ≡ true
least_all since p [] le r = refl
least_all since p (q ∷ ps) le r = let less : p < q = r.0 in and_from (leb since q) (list_all (λ x. leb since x) ps) (grind (arith, nat_tests)) (least_all since p ps le r.1)

from_some : (since j : ℕ) (ps : List ℕ) → is_among (from_on since ps) j ≡ true → (since ≤ j) × (is_among ps j ≡ true)
from_some since j [] h = absurd cc
from_some since j (p ∷ ps) h = elim (cases_Bool (list_all (λ q. leb since q) (p ∷ ps))) [
  | inl t ↦ let here : is_among (p ∷ ps) j ≡ true = rw t at h in (all_least since j (p ∷ ps) t here, here)
  | inr f ↦ let later = from_some since j ps (rw f at h) in (later.0, or_right (p == j) (is_among ps j) later.1)
]

from_all : (since j : ℕ) (ps : List ℕ) → Rise ps → since ≤ j → is_among ps j ≡ true → is_among (from_on since ps) j ≡ true
from_all since j [] r le h = h
from_all since j (p ∷ ps) r le h = elim (cases_Bool (list_all (λ q. leb since q) (p ∷ ps))) [
  | inl t ↦ rw t h
  | inr f ↦ rw f (elim (or_cases (p == j) (is_among ps j) h) [
    | inl e ↦
        let same : p ≡ j = eqb-true p j e in
        let here : leb since p ≡ true = grind (arith, nat_tests) in
        let all : list_all (λ q. leb since q) (p ∷ ps) ≡ true = and_from (leb since p) (list_all (λ q. leb since q) ps) here (least_all since p ps (omega (arith, le, same)) r.0) in
        absurd (let no₁ : true ≡ false = sym all ∙ f in cc)
    | inr later ↦ from_all since j ps r.1 le later
  ])
]

each_all : (since : ℕ) (ps : List ℕ) → ((i : ℕ) → i < length ps → since ≤ slice_index_or ps i 0) → list_all (λ q. leb since q) ps ≡ true
each_all since [] h = refl
each_all since (p ∷ ps) h =
    let le : since ≤ p = h zero (omega arith) in
    and_from (leb since p) (list_all (λ q. leb since q) ps) (grind (arith, nat_tests)) (each_all since ps (λ i lt. h (suc i) (omega (arith, lt))))

all_each : (since : ℕ) (ps : List ℕ) (i : ℕ) → list_all (λ q. leb since q) ps ≡ true → i < length ps → since ≤ slice_index_or ps i 0
all_each since [] i t lt = absurd (omega arith)
all_each since (p ∷ ps) zero t lt = let le = (and_parts (leb since p) (list_all (λ q. leb since q) ps) t).0 in grind (arith, nat_tests)
all_each since (p ∷ ps) (suc i) t lt = all_each since ps i ((and_parts (leb since p) (list_all (λ q. leb since q) ps) t).1) (omega (arith, lt))

begins_is : (since : ℕ) (ps : List ℕ) (first : ℕ) → BeginsAt since ps first → drop first ps ≡ from_on since ps
begins_is since [] zero b = refl
begins_is since [] (suc f) b = refl
begins_is since (p ∷ ps) zero b = let t : list_all (λ q. leb since q) (p ∷ ps) ≡ true = each_all since (p ∷ ps) (λ i lt. b.from i (omega arith) lt) in rw t refl
begins_is since (p ∷ ps) (suc f) b =
    let minus : suc f - 1 ≡ f = omega arith in
    let less : slice_index_or (p ∷ ps) f 0 < since = elim b.before [ inl no₁ ↦ absurd (omega (arith, no₁)) | inr l ↦ rw minus at l ] in
    elim (cases_Bool (list_all (λ q. leb since q) (p ∷ ps))) [
      | inl t ↦ absurd (let le = all_each since (p ∷ ps) f t (omega (arith, b.within)) in omega (arith, le, less))
      | inr e ↦ rw e (begins_is since ps f (record {
        within = omega (arith, b.within);
        from = λ i le lt. b.from (suc i) (omega (arith, le)) (omega (arith, lt));
        before = shorter f less;
      }))
    ]
  where
    shorter : (f : ℕ) → slice_index_or (p ∷ ps) f 0 < since → (f ≡ 0) ⊎ (slice_index_or ps (f - 1) 0 < since)
    shorter zero l = inl refl
    shorter (suc f) l = let minus : suc f - 1 ≡ f = omega arith in inr (rw minus l)

length_drop : (ps : List ℕ) (first : ℕ) → length (drop first ps) ≤ length ps - first
length_drop [] zero = omega arith
length_drop [] (suc f) = omega arith
length_drop (p ∷ ps) zero = omega arith
length_drop (p ∷ ps) (suc f) = let rest = length_drop ps f in omega (arith, rest)

pub end_is : (since : ℕ) (ps : List ℕ) (first : ℕ) → BeginsAt since ps first → take (length ps - first) (drop first ps) ≡ from_on since ps
end_is since ps first b = take_whole (drop first ps) (length ps - first) (length_drop ps first) ∙ begins_is since ps first b

-- what holds of each of a list, and of one that passes a test
any_found : {X : Type 0} (P : X → Type 0) (test : X → Bool) (xs : List X) → AllByRecursion P xs → list_any test xs ≡ true → (x : X) × P x × (test x ≡ true)
any_found P test [] a h = absurd cc
any_found P test (x ∷ xs) a h = elim (or_cases (test x) (list_any test xs) h) [
  | inl t ↦ (x, a.0, t)
  | inr later ↦ any_found P test xs a.1 later
]

any_also : {X : Type 0} (P : X → Type 0) (s t : X → Bool) (xs : List X) → AllByRecursion P xs → ((x : X) → P x → s x ≡ true → t x ≡ true) → list_any s xs ≡ true → list_any t xs ≡ true
any_also P s t [] a f h = h
any_also P s t (x ∷ xs) a f h = elim (or_cases (s x) (list_any s xs) h) [
  | inl e ↦ or_left (t x) (list_any t xs) (f x a.0 e)
  | inr later ↦ or_right (t x) (list_any t xs) (any_also P s t xs a.1 f later)
]

all_weaker : {X : Type 0} (P Q : X → Type 0) (xs : List X) → ((x : X) → P x → Q x) → AllByRecursion P xs → AllByRecursion Q xs
all_weaker P Q [] f a = tt
all_weaker P Q (x ∷ xs) f a = (f x a.0, all_weaker P Q xs f a.1)

all_removed : {X : Type 0} (P : X → Type 0) (xs : List X) (i : ℕ) → AllByRecursion P xs → AllByRecursion P (remove xs i)
all_removed P [] zero a = a
all_removed P [] (suc i) a = a
all_removed P (x ∷ xs) zero a = a.1
all_removed P (x ∷ xs) (suc i) a = (a.0, all_removed P xs i a.1)

all_at : {X : Type 0} (P : X → Type 0) (xs : List X) (i : ℕ) (d : X) → i < length xs → AllByRecursion P xs → P (slice_index_or xs i d)
all_at P [] i d lt a = absurd (omega arith)
all_at P (x ∷ xs) zero d lt a = a.0
all_at P (x ∷ xs) (suc i) d lt a = all_at P xs i d (omega arith) a.1

any_removed : {X : Type 0} (test : X → Bool) (xs : List X) (i : ℕ) (d : X) → list_any test xs ≡ true → (test (slice_index_or xs i d) ≡ true) ⊎ (list_any test (remove xs i) ≡ true)
any_removed test [] i d h = absurd cc
any_removed test (x ∷ xs) zero d h = or_cases (test x) (list_any test xs) h
any_removed test (x ∷ xs) (suc i) d h = elim (or_cases (test x) (list_any test xs) h) [
  | inl t ↦ inr (or_left (test x) (list_any test (remove xs i)) t)
  | inr later ↦ elim (any_removed test xs i d later) [
    | inl there ↦ inl there
    | inr rest ↦ inr (or_right (test x) (list_any test (remove xs i)) rest)
  ]
]

any_first : {X : Type 0} (test : X → Bool) (xs ys : List X) → list_any test xs ≡ true → list_any test (xs ++ ys) ≡ true
any_first test xs ys h = list_any-append test xs ys ∙ or_left (list_any test xs) (list_any test ys) h

any_last : {X : Type 0} (test : X → Bool) (xs : List X) (y : X) → test y ≡ true → list_any test (xs ++ y ∷ []) ≡ true
any_last test xs y h = list_any-append test xs (y ∷ []) ∙ or_right (list_any test xs) (list_any test (y ∷ [])) (or_left (test y) false h)

-- the latest of those that clash with two access sets
abbrev both_clash : Footprint → Footprint → Grouped → Bool
both_clash own uses g = collide own g.0 && collide g.0 uses

latest_found : (P : Grouped → Type 0) (own uses : Footprint) (gs : List Grouped) → AllByRecursion P gs
    → (latest_between own uses gs ≡ 0) ⊎ ((g : Grouped) × P g × (both_clash own uses g ≡ true) × (g.1 ≡ latest_between own uses gs))
latest_found P own uses [] a = inl refl
latest_found P own uses (g ∷ gs) a =
    let rest = latest_between own uses gs in
    elim (cases_Bool (both_clash own uses g)) [
      | inr f ↦ rw f (let same : max 0 rest ≡ rest = grind arith in rw same (latest_found P own uses gs a.1))
      | inl t ↦ rw t (elim (cases_lt rest g.1) [
        | inl less ↦ let same : max g.1 rest ≡ g.1 = grind (arith, less) in inr (g, a.0, t, sym same)
        | inr le ↦ let same : max g.1 rest ≡ rest = grind (arith, le) in rw same (latest_found P own uses gs a.1)
      ])
    ]

module _ (foot : ℕ → Footprint) where
  abbrev at : ℕ → Footprint
  at i = descriptor_uses (foot i)

  latest_least : (n : ℕ) (own uses : Footprint) (gs : List Grouped) (i : ℕ) → AllByRecursion (HasUses foot n) gs → list_any (λ g. is_among g.2 i) gs ≡ true
      → (collide own (at i) && collide (at i) uses) ≡ true → i ≤ latest_between own uses gs
  latest_least n own uses [] i a h c = absurd cc
  latest_least n own uses (g ∷ gs) i a h c = elim (or_cases (is_among g.2 i) (list_any (λ x. is_among x.2 i) gs) h) [
    | inl here ↦
        let same : at i ≡ g.0 = (a.0.uses i here).1 in
        let t : both_clash own uses g ≡ true = subst (λ f. (collide own f && collide f uses) ≡ true) same c in
        let le : i ≤ g.1 = a.0.least i here in
        rw t (grind (arith, le))
    | inr later ↦ let le = latest_least n own uses gs i a.1 later c in grind (arith, le)
  ]

  module _ (k : ℕ) (gs : List Grouped) (keep : KeepsGroups gs foot k) (u : Use) (mine : (f : Footprint) → meets u f ≡ true → collide (at k) f ≡ true) (j : ℕ) where
    empty_clash : (f g : Footprint) → f ≡ [] → collide f g ≡ true → true ≡ false
    empty_clash f g e c = sym (subst (λ x. collide x g ≡ true) e c)

    empty_meets : (f : Footprint) → f ≡ [] → meets u f ≡ true → true ≡ false
    empty_meets f e c = let no₁ : meets u [] ≡ true = subst (λ x. meets u x ≡ true) e c in grind (arith, no₁)

    pub told_group : told_among gs (at k) u j gs ≡ true → (meets u (at j) ≡ true) × WaitsBy foot descriptors k j
    told_group told =
        let found = any_found (HasUses foot k) (told_in gs (at k) u j) gs keep.groups told in
        let g : Grouped = found.0 in
        let since = latest_between (at k) g.0 gs in
        let parts = and_parts (meets u g.0) (is_among (from_on since g.2) j) found.2 in
        let there = from_some since j g.2 parts.1 in
        let is = found.1.uses j there.1 in
        let meet : meets u (at j) ≡ true = subst (λ f. meets u f ≡ true) (sym is.1) parts.0 in (
          meet,
          record {
            earlier = is.0;
            clashes = mine (at j) meet;
            none_between = λ i more less c. false_from_ne_true (collide (at i) (at j)) (λ e. elim (keep.all i less) [
              | inl empty ↦ let no₁ = empty_clash (at i) (at j) empty e in cc
              | inr some ↦
                  let both = and_from (collide (at k) (at i)) (collide (at i) g.0) c (subst (λ f. collide (at i) f ≡ true) is.1 e) in
                  let le = latest_least k (at k) g.0 gs i keep.groups some both in
                  omega (arith, le, more, there.0)
            ]);
          },
        )

    pub group_told : meets u (at j) ≡ true → WaitsBy foot descriptors k j → told_among gs (at k) u j gs ≡ true
    group_told meet d = elim (keep.all j d.earlier) [
      | inl empty ↦ absurd (let no₁ = empty_meets (at j) empty meet in cc)
      | inr some ↦ any_also (HasUses foot k) (λ g. is_among g.2 j) (told_in gs (at k) u j) gs keep.groups (λ g has here.
          let is = has.uses j here in
          let since = latest_between (at k) g.0 gs in
          let le : since ≤ j = elim (latest_found (HasUses foot k) (at k) g.0 gs keep.groups) [
            | inl none ↦ omega (arith, none)
            | inr other ↦ elim (cases_lt j since) [
              | inr fine ↦ fine
              | inl more ↦
                  let h : Grouped = other.0 in
                  let there = other.1.uses h.1 other.1.latest in
                  let parts = and_parts (collide (at k) h.0) (collide h.0 g.0) other.2 in
                  let far = d.none_between h.1 (omega (arith, more, other.3)) there.0 (subst (λ f. collide (at k) f ≡ true) (sym there.1) parts.0) in
                  let near : collide (at h.1) (at j) ≡ true = subst (λ f. collide f (at j) ≡ true) (sym there.1) (subst (λ f. collide h.0 f ≡ true) (sym is.1) parts.1) in
                  absurd (let no₁ : true ≡ false = sym near ∙ far in cc)
            ]
          ] in
          and_from (meets u g.0) (is_among (from_on since g.2) j) (subst (λ f. meets u f ≡ true) is.1 meet) (from_all since j g.2 has.rises le here)) some
    ]

  -- one place more
  rise_pushed : (ps : List ℕ) (place : ℕ) → Rise ps → ((j : ℕ) → is_among ps j ≡ true → j < place) → Rise (ps ++ place ∷ [])
  rise_pushed [] place r below = (tt, tt)
  rise_pushed (p ∷ ps) place r below = (
    all_pushed (λ q. p < q) ps place r.0 (below p (or_left (p == p) (is_among ps p) (grind (arith, nat_tests)))),
    rise_pushed ps place r.1 (λ j h. below j (or_right (p == j) (is_among ps j) h)),
  )

  uses_later : (n : ℕ) (g : Grouped) → HasUses foot n g → HasUses foot (suc n) g
  uses_later n g h = record { uses = λ j a. let is = h.uses j a in (omega (arith, is.0), is.1); latest = h.latest; least = h.least; rises = h.rises }

  uses_more : (n : ℕ) (g : Grouped) → at n ≡ g.0 → HasUses foot n g → HasUses foot (suc n) (with_place g n)
  uses_more n g same h = record {
    uses = λ j a. elim (in_pushed g.2 n j a) [ inl old ↦ let is = h.uses j old in (omega (arith, is.0), is.1) | inr is ↦ (omega (arith, is), ap at is ∙ same) ];
    latest = any_last (λ i. i == n) g.2 n (grind (arith, nat_tests));
    least = λ j a. elim (in_pushed g.2 n j a) [ inl old ↦ let is = h.uses j old in omega (arith, is.0) | inr is ↦ omega (arith, is) ];
    rises = rise_pushed g.2 n h.rises (λ j a. (h.uses j a).0);
  }
    where
      in_pushed : (ps : List ℕ) (n j : ℕ) → is_among (ps ++ n ∷ []) j ≡ true → (is_among ps j ≡ true) ⊎ (j ≡ n)
      in_pushed ps n j a = elim (or_cases (is_among ps j) (is_among (n ∷ []) j) (sym (list_any-append (λ i. i == j) ps (n ∷ [])) ∙ a)) [
        | inl old ↦ inl old
        | inr new ↦ elim (or_cases (n == j) false new) [ inl e ↦ inr (sym (eqb-true n j e)) | inr no₁ ↦ absurd cc ]
      ]

  uses_first : (n : ℕ) (uses : Footprint) → at n ≡ uses → HasUses foot (suc n) (uses, n, n ∷ [])
  uses_first n uses same = record {
    uses = λ j a. let is : n ≡ j = only n j a in (omega (arith, is), ap at (sym is) ∙ same);
    latest = or_left (n == n) false (grind (arith, nat_tests));
    least = λ j a. let is : n ≡ j = only n j a in omega (arith, is);
    rises = (tt, tt);
  }
    where
      only : (n j : ℕ) → is_among (n ∷ []) j ≡ true → n ≡ j
      only n j a = elim (or_cases (n == j) false a) [ inl e ↦ eqb-true n j e | inr no₁ ↦ absurd cc ]

  -- it stands in a group, or uses none, and so do those before it
  keeps_when : (n : ℕ) (old new : List Grouped) → KeepsGroups old foot n → AllByRecursion (HasUses foot (suc n)) new
      → ((j : ℕ) → list_any (λ g. is_among g.2 j) old ≡ true → list_any (λ g. is_among g.2 j) new ≡ true) → (at n ≡ []) ⊎ (list_any (λ g. is_among g.2 n) new ≡ true) → KeepsGroups new foot (suc n)
  keeps_when n old new keep groups still last = record {
    groups = groups;
    all = λ j lt. elim (cases_lt j n) [
      | inl less ↦ elim (keep.all j less) [ inl empty ↦ inl empty | inr some ↦ inr (still j some) ]
      | inr le ↦ let same : n ≡ j = omega (arith, lt, le) in subst (λ i. (at i ≡ []) ⊎ (list_any (λ g. is_among g.2 i) new ≡ true)) same last
    ];
  }

  pub keeps_added : (n : ℕ) (old new : List Grouped) (uses : Footprint) → IsAdded old new uses n → at n ≡ uses → KeepsGroups old foot n → KeepsGroups new foot (suc n)
  keeps_added n old new uses added mine keep = elim added [
    | inl none ↦ keeps_when n old new keep (rw none.1 later) (λ j h. rw none.1 h) (inl (mine ∙ none.0))
    | inr more ↦ elim more [
      | inl there ↦
          let i : ℕ = there.0 in
          let g = slice_index_or old i nothing in
          let has = all_at (HasUses foot n) old i nothing there.1 keep.groups in
          let rest = all_removed (HasUses foot (suc n)) old i later in
          rw there.3 (keeps_when n old (with_place g n ∷ remove old i) keep (uses_more n g (mine ∙ sym there.2) has, rest)
          (λ j h. elim (any_removed (λ x. is_among x.2 j) old i nothing h) [
            | inl moved ↦ or_left (is_among (with_place g n).2 j) (list_any (λ x. is_among x.2 j) (remove old i)) (any_first (λ p. p == j) g.2 (n ∷ []) moved)
            | inr stays ↦ or_right (is_among (with_place g n).2 j) (list_any (λ x. is_among x.2 j) (remove old i)) stays
          ])
          (inr (or_left (is_among (with_place g n).2 n) (list_any (λ x. is_among x.2 n) (remove old i)) (any_last (λ p. p == n) g.2 n (grind (arith, nat_tests))))))
      | inr fresh ↦ rw fresh (keeps_when n old ((uses, n, n ∷ []) ∷ old) keep (uses_first n uses mine, later)
          (λ j h. or_right (is_among (n ∷ []) j) (list_any (λ x. is_among x.2 j) old) h)
          (inr (or_left (is_among (n ∷ []) n) (list_any (λ x. is_among x.2 n) old) (or_left (n == n) false (grind (arith, nat_tests))))))
    ]
  ]
    where
      later : AllByRecursion (HasUses foot (suc n)) old
      later = all_weaker (HasUses foot n) (HasUses foot (suc n)) old (uses_later n) keep.groups

-- one group more
pub latest_next : (own uses : Footprint) (gs : List Grouped) (i : ℕ) (g : Grouped) → i < length gs → g ≡ slice_index_or gs i g
    → latest_between own uses (take (suc i) gs) ≡ max (latest_between own uses (take i gs)) (if both_clash own uses g then g.1 else 0)
latest_next own uses [] i g lt e = absurd (omega arith)
latest_next own uses (h ∷ gs) zero g lt e = rw e (grind arith)
latest_next own uses (h ∷ gs) (suc i) g lt e = let rest = latest_next own uses gs i g (omega arith) e in rw rest (grind arith)

-- a group with a later place than all of a list
latest_above : (own uses : Footprint) (gs : List Grouped) (i last : ℕ) (g : Grouped) → i < length gs → g ≡ slice_index_or gs i g → last < max last (if both_clash own uses g then g.1 else 0)
    → last < latest_between own uses gs
latest_above own uses [] i last g lt e more = absurd (omega arith)
latest_above own uses (h ∷ gs) zero last g lt e more = let there = rw e at more in grind (arith, there)
latest_above own uses (h ∷ gs) (suc i) last g lt e more = let rest = latest_above own uses gs i last g (omega arith) e more in grind (arith, rest)

same_default : (ps : List ℕ) (i d e : ℕ) → i < length ps → slice_index_or ps i d ≡ slice_index_or ps i e
same_default [] i d e lt = absurd (omega arith)
same_default (p ∷ ps) zero d e lt = refl
same_default (p ∷ ps) (suc i) d e lt = same_default ps i d e (omega arith)

none_left : (ps : List ℕ) → drop (length ps) ps ≡ []
none_left [] = refl
none_left (p ∷ ps) = none_left ps

pub cut_by : (own uses : Footprint) (gs : List Grouped) (i last : ℕ) (g : Grouped) (ps : List ℕ) → i < length gs → g ≡ slice_index_or gs i g → last < max last (if both_clash own uses g then g.1 else 0)
    → last ≡ slice_index_or ps (length ps - 1) last → from_on (latest_between own uses gs) ps ≡ []
cut_by own uses gs i last g [] lt e more is = refl
cut_by own uses gs i last g (p ∷ ps) lt e more is =
    let above = latest_above own uses gs i last g lt e more in
    let all = p ∷ ps in
    let at_last : slice_index_or all (length all - 1) 0 ≡ last = same_default all (length all - 1) 0 last (omega arith) ∙ sym is in
    sym (begins_is (latest_between own uses gs) all (length all) (record {
      within = omega arith;
      from = λ n le less. absurd (omega (arith, le, less));
      before = inr (rw at_last above);
    })) ∙ none_left all
