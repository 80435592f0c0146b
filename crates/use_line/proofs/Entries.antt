-- Values of numbers, by keys that rise: one key more, and one less.
use Rattle.std.specs.Prelude.{◌≡◌, ◌≢◌, ℕ, ◌-◌, ◌<◌, ◌≤◌, Bool, true, false, not, ◌&&◌, ◌||◌, ◌==◌, leb, ltb, List, [], ◌∷◌, ◌++◌, filter, cond, length, refl, is_some, if◌then◌else◌, suc, Option, None}
use Rattle.std.specs.List.{AllByRecursion}
use Rattle.std.specs.Map.{lookup, remove_entry}
use Rattle.std.specs.BTreeMap.{insert_entry, is_at}
use Rattle.std.specs.Cmp.{nat_cmp_is}
use Rattle.std.specs.declared.cmp.Ordering.TheVariants.{Less, Equal, Greater}
use Rattle.std.specs.Ordering.{nat_cmp, is_eq, is_lt, is_le}
use Rattle.std.proofs.Common.{sym, ap, ◌∙◌, subst, arith, inl, inr}
use Rattle.std.proofs.lemmas.Bool.{cases_Bool, cases_order, cases_eq, cases_lt, cond-true, cond-false}
use Rattle.std.proofs.lemmas.Bool.Decides.{nat_tests}
use Rattle.use_line.specs.Spans.{within}
use Rattle.use_line.specs.Steps.{IsLevel, NoneInside, Rises, has_key, step_from}

abbrev Entries : Type 0
Entries = List (ℕ × Option ℕ)

pub all_from : {X : Type 0} {P Q : X → Type 0} → ((x : X) → P x → Q x) → (xs : List X) → AllByRecursion P xs → AllByRecursion Q xs
all_from f [] h = tt
all_from f (x ∷ xs) h = (f x h.0, all_from f xs h.1)

-- a key is above what is below all
pub keys_above : (es : Entries) (k j : ℕ) → AllByRecursion (λ q. k < q.0) es → has_key es j ≡ true → k < j
keys_above [] k j h t = absurd cc
keys_above (e ∷ es) k j h t = elim (cases_Bool (e.0 == j)) [
  | inl same ↦ grind (arith, nat_tests, h.0)
  | inr other ↦ keys_above es k j h.1 (rw other at t)
]

pub key_found : (es : Entries) (k : ℕ) → is_some (lookup (is_at (nat_cmp k)) es) ≡ has_key es k
key_found [] k = refl
key_found (e ∷ es) k = grind (arith, nat_tests, key_found es k)

-- the last of the keys that pass a test
module _ (test : ℕ → Bool) where
  pub none_passes : (es : Entries) → filter (λ e. test e.0) es ≡ [] → (k : ℕ) → test k ≡ true → has_key es k ≡ false
  none_passes [] e k t = refl
  none_passes (x ∷ es) e k t = elim (cases_Bool (test x.0)) [
    | inl yes₁ ↦ let some : x ∷ filter (λ y. test y.0) es ≡ [] = rw yes₁ at e in absurd cc
    | inr no₁ ↦ elim (cases_eq x.0 k) [
      | inl same ↦ absurd (grind arith)
      | inr other ↦ grind (arith, nat_tests, none_passes es (rw no₁ at e) k t)
    ]
  ]

  pub record IsLast (es : Entries) (k : ℕ) : Type 0 where
    pub passes : test k ≡ true
    pub stands : has_key es k ≡ true
    pub none_after : (j : ℕ) → k < j → test j ≡ true → has_key es j ≡ false

  pub last_passes : (es before : Entries) (k : ℕ) (v : Option ℕ) → Rises es → filter (λ e. test e.0) es ≡ before ++ (k, v) ∷ [] → IsLast es k
  last_passes [] [] k v r e = absurd cc
  last_passes [] (x ∷ before) k v r e = absurd cc
  last_passes (x ∷ es) before k v r e = by (test x.0) refl (λ t. last_passes es t k v r.1) before e
    where
      later : IsLast es k → IsLast (x ∷ es) k
      later l =
          let above : x.0 < k = keys_above es x.0 k r.0 l.stands in
          record {
            passes = l.passes;
            stands = grind (arith, nat_tests, l.stands);
            none_after = λ j more t. grind (arith, nat_tests, l.none_after j more t);
          }

      by : (b : Bool) → test x.0 ≡ b → ((t : Entries) → filter (λ y. test y.0) es ≡ t ++ (k, v) ∷ [] → IsLast es k) → (t : Entries) → cond b (x ∷ filter (λ y. test y.0) es) (filter (λ y. test y.0) es) ≡ t ++ (k, v) ∷ [] → IsLast (x ∷ es) k
      by true h step [] f =
          let here : x ≡ (k, v) = cc in
          let rest : filter (λ y. test y.0) es ≡ [] = cc in
          let same : x.0 ≡ k = ap (λ y. y.0) here in
          record {
            passes = rw same at h;
            stands = grind (arith, nat_tests);
            none_after = λ j more t. grind (arith, nat_tests, none_passes es rest j t);
          }
      by true h step (y ∷ t) f = later (step t cc)
      by false h step t f = later (step t f)

-- what stands at the last key up to a number
pub step_none : (d : Option ℕ) (es : Entries) (at : ℕ) → filter (λ e. leb e.0 at) es ≡ [] → step_from d es at ≡ d
step_none d [] at e = refl
step_none d (x ∷ es) at e = elim (cases_Bool (leb x.0 at)) [
  | inl t ↦ let some : x ∷ filter (λ y. leb y.0 at) es ≡ [] = rw t at e in absurd cc
  | inr f ↦ rw f refl
]

none_up_to : (es : Entries) (k at : ℕ) → AllByRecursion (λ q. k < q.0) es → leb k at ≡ false → filter (λ e. leb e.0 at) es ≡ []
none_up_to [] k at h f = refl
none_up_to (x ∷ es) k at h f = let past : leb x.0 at ≡ false = grind (arith, nat_tests, h.0) in rw past (none_up_to es k at h.1 f)

pub step_last : (d : Option ℕ) (es before : Entries) (at k : ℕ) (v : Option ℕ) → Rises es → filter (λ e. leb e.0 at) es ≡ before ++ (k, v) ∷ [] → step_from d es at ≡ v
step_last d [] [] at k v r e = absurd cc
step_last d [] (x ∷ before) at k v r e = absurd cc
step_last d (x ∷ es) before at k v r e = by (leb x.0 at) refl (λ t. step_last x.1 es t at k v r.1) before e
  where
    by : (b : Bool) → leb x.0 at ≡ b → ((t : Entries) → filter (λ y. leb y.0 at) es ≡ t ++ (k, v) ∷ [] → step_from x.1 es at ≡ v) → (t : Entries) → cond b (x ∷ filter (λ y. leb y.0 at) es) (filter (λ y. leb y.0 at) es) ≡ t ++ (k, v) ∷ [] → step_from d (x ∷ es) at ≡ v
    by true h step [] f =
        let here : x ≡ (k, v) = cc in
        let rest : filter (λ y. leb y.0 at) es ≡ [] = cc in
        rw h (step_none x.1 es at rest ∙ ap (λ y. y.1) here)
    by true h step (y ∷ t) f = rw h (step t cc)
    by false h step [] f = let none : filter (λ y. leb y.0 at) es ≡ [] = none_up_to es x.0 at r.0 h in absurd cc
    by false h step (y ∷ t) f = let none : filter (λ y. leb y.0 at) es ≡ [] = none_up_to es x.0 at r.0 h in absurd cc

cmp_less : (x y : ℕ) → x < y → nat_cmp x y ≡ Less
cmp_less x y h = sym (nat_cmp_is x y Less h)

cmp_same : (x y : ℕ) → x ≡ y → nat_cmp x y ≡ Equal
cmp_same x y h = sym (nat_cmp_is x y Equal h)

cmp_more : (x y : ℕ) → y < x → nat_cmp x y ≡ Greater
cmp_more x y h = sym (nat_cmp_is x y Greater h)

-- a key more, or something else at one
module _ (x : ℕ) (v : Option ℕ) where
  abbrev with_key : Entries → Entries
  with_key es = insert_entry nat_cmp es x v

  more_all : (c : ℕ) (es : Entries) → c < x → AllByRecursion (λ q. c < q.0) es → AllByRecursion (λ q. c < q.0) (with_key es)
  more_all c [] h all = (h, tt)
  more_all c (e ∷ es) h all = elim (cases_order x e.0) [
    | inl same ↦ rw (cmp_same x e.0 same) all
    | inr rest ↦ elim rest [
      | inl less ↦ rw (cmp_less x e.0 less) (h, all)
      | inr more ↦ rw (cmp_more x e.0 more) (all.0, more_all c es h all.1)
    ]
  ]

  pub rises_more : (es : Entries) → Rises es → Rises (with_key es)
  rises_more [] r = (tt, tt)
  rises_more (e ∷ es) r = elim (cases_order x e.0) [
    | inl same ↦ rw (cmp_same x e.0 same) r
    | inr rest ↦ elim rest [
      | inl less ↦ rw (cmp_less x e.0 less) ((less, all_from (λ q b. omega (arith, less, b)) es r.0), r)
      | inr more ↦ rw (cmp_more x e.0 more) (more_all e.0 es more r.0, rises_more es r.1)
    ]
  ]

  pub keys_more : (es : Entries) (k : ℕ) → has_key (with_key es) k ≡ (x == k || has_key es k)
  keys_more [] k = grind arith
  keys_more (e ∷ es) k = grind (arith, nat_tests, keys_more es k)

  -- none stands between, where none did behind an earlier number
  pub none_more : (low start : ℕ) (es : Entries) → start ≤ low → NoneInside start x es → NoneInside low x (with_key es)
  none_more low start es le none k more less =
      let free = none k (omega (arith, le, more)) less in
      keys_more es k ∙ grind (arith, nat_tests, free, less)

  -- what stood at the new key stands there still
  pub same_more : (d : Option ℕ) (es : Entries) → v ≡ step_from d es x → Rises es → has_key es x ≡ false → (b : ℕ) → step_from d (with_key es) b ≡ step_from d es b
  same_more d [] is r new b = elim (cases_Bool (leb x b)) [ inl t ↦ rw t is | inr f ↦ rw f refl ]
  same_more d (e ∷ es) is r new b = elim (cases_order x e.0) [
    | inl same ↦ absurd (grind (arith, nat_tests))
    | inr rest ↦ elim rest [
      | inl less ↦
          let past : leb e.0 x ≡ false = grind (arith, nat_tests) in
          let here : v ≡ d = rw past at is in
          rw (cmp_less x e.0 less) (elim (cases_Bool (leb x b)) [
            | inl t ↦ rw t (elim (cases_Bool (leb e.0 b)) [ inl u ↦ rw u refl | inr u ↦ rw u here ])
            | inr f ↦ let far : leb e.0 b ≡ false = grind (arith, nat_tests) in rw (f, far) refl
          ])
      | inr more ↦
          let up : leb e.0 x ≡ true = grind (arith, nat_tests) in
          let there : v ≡ step_from e.1 es x = rw up at is in
          let less : has_key es x ≡ false = grind (arith, nat_tests) in
          rw (cmp_more x e.0 more) (elim (cases_Bool (leb e.0 b)) [
            | inl t ↦ rw t (same_more e.1 es there r.1 less b)
            | inr f ↦ rw f refl
          ])
    ]
  ]

-- what a search up to a number keeps
pub up_to : (limit x : ℕ) → leb x limit ≡ not (is_lt (nat_cmp limit x))
up_to limit x = grind (arith, nat_tests)

-- and from one number on up to another
pub between : (low high x : ℕ) → (leb low x && ltb x high) ≡ (is_le (nat_cmp low x) && not (is_le (nat_cmp high x)))
between low high x = grind (arith, nat_tests)

module _ (low high : ℕ) (es : Entries) where
  pub last_within : (k : ℕ) → IsLast (λ x. leb low x && ltb x high) es k → (low ≤ k) × (k < high) × (has_key es k ≡ true) × ((j : ℕ) → k < j → j < high → has_key es j ≡ false)
  last_within k l =
      let passes : (leb low k && ltb k high) ≡ true = l.passes in
      (grind (arith, nat_tests), grind (arith, nat_tests), l.stands, λ j more less. l.none_after j more (grind (arith, nat_tests)))

  pub none_within : ((k : ℕ) → (leb low k && ltb k high) ≡ true → has_key es k ≡ false) → (k : ℕ) → low ≤ k → k < high → has_key es k ≡ false
  none_within none k from to = none k (grind (arith, nat_tests))

-- before the first key, and past one
pub step_before : (d : Option ℕ) (es : Entries) (b : ℕ) → AllByRecursion (λ q. b < q.0) es → step_from d es b ≡ d
step_before d [] b h = refl
step_before d (e ∷ es) b h = let past : leb e.0 b ≡ false = grind (arith, nat_tests, h.0) in rw past refl

pub step_past : (d d₁ : Option ℕ) (es : Entries) (to b : ℕ) → Rises es → has_key es to ≡ true → to ≤ b → step_from d es b ≡ step_from d₁ es b
step_past d d₁ [] to b r h le = absurd cc
step_past d d₁ (e ∷ es) to b r h le = elim (cases_eq e.0 to) [
  | inl same ↦ let up : leb e.0 b ≡ true = grind (arith, nat_tests) in rw up refl
  | inr other ↦
      let there : has_key es to ≡ true = grind (arith, nat_tests) in
      let above : e.0 < to = keys_above es e.0 to r.0 there in
      let up : leb e.0 b ≡ true = grind (arith, nat_tests) in
      rw up refl
]

-- what holds of each key
pub each_key : (P : ℕ → Type 0) (es : Entries) → ((j : ℕ) → has_key es j ≡ true → P j) → AllByRecursion (λ q. P q.0) es
each_key P [] h = tt
each_key P (e ∷ es) h = (h e.0 (grind (arith, nat_tests)), each_key P es (λ j t. h j (grind (arith, nat_tests))))

-- a key from which on no other stands before another one
module _ (k to : ℕ) (less : k < to) where
  none_inside_rest : (e : ℕ × Option ℕ) (es : Entries) → NoneInside k to (e ∷ es) → NoneInside k to es
  none_inside_rest e es none j more under = grind (arith, nat_tests, none j more under)

  -- behind the key all keys are those from the other one on
  keys_behind : (es : Entries) (b : ℕ) → AllByRecursion (λ q. k < q.0) es → NoneInside k to es → b < to → AllByRecursion (λ q. b < q.0) es
  keys_behind es b above none under = each_key (λ j. b < j) es (λ j t.
      let more : k < j = keys_above es k j above t in
      elim (cases_lt j to) [ inl lt ↦ absurd (let f = none j more lt in grind arith) | inr ge ↦ omega (arith, ge, under) ])

  value_behind : (d₁ v : Option ℕ) (es : Entries) (b : ℕ) → Rises es → AllByRecursion (λ q. k < q.0) es → NoneInside k to es → has_key es to ≡ true → leb k b ≡ true
      → step_from v es b ≡ (if within k to b then v else step_from d₁ es b)
  value_behind d₁ v es b r above none end up = elim (cases_lt b to) [
    | inl lt ↦ let inside : within k to b ≡ true = grind (arith, nat_tests) in rw inside (step_before v es b (keys_behind es b above none lt))
    | inr ge ↦ let outside : within k to b ≡ false = grind (arith, nat_tests) in rw outside (step_past v d₁ es to b r end ge)
  ]

  module _ (w : Option ℕ) where
    abbrev Changed : Option ℕ → Entries → Entries → ℕ → Type 0
    Changed d old new b = step_from d new b ≡ (if within k to b then w else step_from d old b)

    past_head : (d : Option ℕ) (e : ℕ × Option ℕ) (old new : Entries) (b : ℕ) → e.0 < k → Changed e.1 old new b → Changed d (e ∷ old) (e ∷ new) b
    past_head d e old new b under h = elim (cases_Bool (leb e.0 b)) [
      | inl t ↦ rw t h
      | inr f ↦ let outside : within k to b ≡ false = grind (arith, nat_tests) in rw (f, outside) refl
    ]

    at_head : (d d₁ : Option ℕ) (rest old : Entries) (b : ℕ) → Rises rest → AllByRecursion (λ q. k < q.0) rest → NoneInside k to rest → has_key rest to ≡ true
        → (leb k b ≡ true → step_from d₁ rest b ≡ step_from d old b) → (leb k b ≡ false → d ≡ step_from d old b) → Changed d old ((k, w) ∷ rest) b
    at_head d d₁ rest old b r above none end same under = elim (cases_Bool (leb k b)) [
      | inl t ↦ cond-true (leb k b) (step_from w rest b) d t ∙ value_behind d₁ w rest b r above none end t ∙ ap (λ z. if within k to b then w else z) (same t)
      | inr f ↦
          let outside : within k to b ≡ false = grind (arith, nat_tests) in
          cond-false (leb k b) (step_from w rest b) d f ∙ under f ∙ sym (cond-false (within k to b) w (step_from d old b) outside)
    ]

    -- a key more, or something else at one
    pub put_at : (d : Option ℕ) (es : Entries) (b : ℕ) → Rises es → has_key es to ≡ true → NoneInside k to es → Changed d es (insert_entry nat_cmp es k w) b
    put_at d [] b r end none = absurd cc
    put_at d (e ∷ es) b r end none = elim (cases_order k e.0) [
      | inl same ↦
          let above : AllByRecursion (λ q. k < q.0) es = subst (λ n. AllByRecursion (λ q. n < q.0) es) (sym same) r.0 in
          let there : has_key es to ≡ true = grind (arith, nat_tests, less) in
          rw (cmp_same k e.0 same) (subst (λ n. Changed d (e ∷ es) ((n, w) ∷ es) b) same
          (at_head d e.1 es (e ∷ es) b r.1 above (none_inside_rest e es none) there
          (λ t. let up : leb e.0 b ≡ true = grind (arith, nat_tests) in rw up refl)
          (λ f. let past : leb e.0 b ≡ false = grind (arith, nat_tests) in rw past refl)))
      | inr rest ↦ elim rest [
        | inl less₁ ↦
            let above : AllByRecursion (λ q. k < q.0) (e ∷ es) = (less₁, all_from (λ q m. omega (arith, less₁, m)) es r.0) in
            rw (cmp_less k e.0 less₁) (at_head d d (e ∷ es) (e ∷ es) b r above none end (λ t. refl) (λ f. let past : leb e.0 b ≡ false = grind (arith, nat_tests) in rw past refl))
        | inr under ↦
            let there : has_key es to ≡ true = grind (arith, nat_tests) in
            rw (cmp_more k e.0 under) (past_head d e es _ b under (put_at e.1 es b r.1 there (none_inside_rest e es none)))
      ]
    ]

  -- a key less: before it, and from the other one on, nothing changes
  pub cut_at : (d : Option ℕ) (es : Entries) (b : ℕ) → Rises es → has_key es k ≡ true → has_key es to ≡ true → within k to b ≡ false → step_from d (remove_entry (is_at (nat_cmp k)) es) b ≡ step_from d es b
  cut_at d [] b r here end out = absurd cc
  cut_at d (e ∷ es) b r here end out = elim (cases_eq k e.0) [
    | inl same ↦
        let there : has_key es to ≡ true = grind (arith, nat_tests) in
        rw (cmp_same k e.0 same) (elim (cases_Bool (leb e.0 b)) [
          | inl t ↦ rw t (step_past d e.1 es to b r.1 there (grind (arith, nat_tests)))
          | inr f ↦ rw f (step_before d es b (all_from (λ q m. let n : b < e.0 = grind (arith, nat_tests) in omega (arith, n, m)) es r.0))
        ])
    | inr other ↦
        let mine : has_key es k ≡ true = grind (arith, nat_tests) in
        let under : e.0 < k = keys_above es e.0 k r.0 mine in
        let there : has_key es to ≡ true = grind (arith, nat_tests) in
        rw (cmp_more k e.0 under) (elim (cases_Bool (leb e.0 b)) [
          | inl t ↦ rw t (cut_at e.1 es b r.1 mine there out)
          | inr f ↦ rw f refl
        ])
  ]

-- which keys there are then
pub keys_cut : (k : ℕ) (es : Entries) (j : ℕ) → k ≢ j → has_key (remove_entry (is_at (nat_cmp k)) es) j ≡ has_key es j
keys_cut k [] j other = refl
keys_cut k (e ∷ es) j other = grind (arith, nat_tests, keys_cut k es j other)

all_cut : (P : ℕ × Option ℕ → Type 0) (test : ℕ → Bool) (es : Entries) → AllByRecursion P es → AllByRecursion P (remove_entry test es)
all_cut P test [] h = tt
all_cut P test (e ∷ es) h = elim (test e.0) as (λ b. AllByRecursion P (cond b es (e ∷ remove_entry test es))) [ true ↦ h.1 | false ↦ (h.0, all_cut P test es h.1) ]

pub rises_cut : (test : ℕ → Bool) (es : Entries) → Rises es → Rises (remove_entry test es)
rises_cut test [] r = tt
rises_cut test (e ∷ es) r = elim (test e.0) as (λ b. Rises (cond b es (e ∷ remove_entry test es))) [ true ↦ r.1 | false ↦ (all_cut (λ q. e.0 < q.0) test es r.0, rises_cut test es r.1) ]

pub fewer : (k : ℕ) (es : Entries) → has_key es k ≡ true → length (remove_entry (is_at (nat_cmp k)) es) < length es
fewer k [] h = absurd cc
fewer k (e ∷ es) h = elim (cases_eq k e.0) [
  | inl same ↦ rw (cmp_same k e.0 same) (omega arith)
  | inr other ↦ let f : is_eq (nat_cmp k e.0) ≡ false = grind (arith, nat_tests) in let mine : has_key es k ≡ true = grind (arith, nat_tests) in rw f (let l = fewer k es mine in omega (arith, l))
]

-- no key stands within a range
pub level_from : (k to : ℕ) (less : k < to) (d : Option ℕ) (es : Entries) (b : ℕ) → Rises es → NoneInside k to es → within k to b ≡ true → step_from d es b ≡ step_from d es k
level_from k to less d [] b r none t = refl
level_from k to less d (x ∷ es) b r none t = elim (cases_lt k x.0) [
  | inl under ↦
      let above : AllByRecursion (λ q. k < q.0) (x ∷ es) = (under, all_from (λ q m. omega (arith, under, m)) es r.0) in
      step_before d (x ∷ es) b (keys_behind k to less (x ∷ es) b above none (grind (arith, nat_tests))) ∙ sym (step_before d (x ∷ es) k above)
  | inr at ↦
      let here : leb x.0 k ≡ true = grind (arith, nat_tests) in
      let there : leb x.0 b ≡ true = grind (arith, nat_tests) in
      rw (here, there) (level_from k to less x.1 es b r.1 (none_inside_rest k to less x es none) t)
]

-- the last of the keys up to a number
module _ (at : ℕ) (es : Entries) where
  pub last_up : (before : Entries) (k : ℕ) (v : Option ℕ) → Rises es → filter (λ e. leb e.0 at) es ≡ before ++ (k, v) ∷ []
      → (k ≤ at) × (has_key es k ≡ true) × ((b : ℕ) → k < b → b ≤ at → has_key es b ≡ false) × ((b : ℕ) → k ≤ b → b ≤ at → step_from None es b ≡ v)
  last_up before k v r e =
      let l = last_passes (λ x. leb x at) es before k v r e in
      let passes : leb k at ≡ true = l.passes in
      let le : k ≤ at = grind (arith, nat_tests) in
      let free : (b : ℕ) → k < b → b ≤ at → has_key es b ≡ false = λ b more less. l.none_after b more (grind (arith, nat_tests, less)) in
      let level : (b : ℕ) → k ≤ b → b ≤ at → step_from None es b ≡ step_from None es k = λ b more less. level_from k (suc at) (omega (arith, le)) None es b r (λ j up under. free j up (omega (arith, under))) (grind (arith, nat_tests, more, less)) in
      (le, l.stands, free, λ b more less. level b more less ∙ sym (level at le (omega arith)) ∙ step_last None es before at k v r e)

  pub none_up : filter (λ e. leb e.0 at) es ≡ [] → (b : ℕ) → b ≤ at → (has_key es b ≡ false) × (step_from None es b ≡ None)
  none_up e b le =
      let free : (j : ℕ) → j ≤ at → has_key es j ≡ false = λ j less. none_passes (λ x. leb x at) es e j (grind (arith, nat_tests, less)) in
      (free b le, step_before None es b (each_key (λ j. b < j) es (λ j t. elim (cases_lt b j) [ inl lt ↦ lt | inr ge ↦ absurd (let f = free j (omega (arith, ge, le)) in grind arith) ])))

-- from a number on, where one value stands from an earlier one on
pub level_at : (es : Entries) (k start high : ℕ) (v : Option ℕ) → k ≤ start → start < high → ((b : ℕ) → k ≤ b → b ≤ high - 1 → step_from None es b ≡ v)
    → IsLevel es start high × (v ≡ step_from None es start)
level_at es k start high v from to all =
    let here : step_from None es start ≡ v = all start from (omega (arith, to)) in (
      (λ b t. let more : start ≤ b = grind (arith, nat_tests) in let less : b < high = grind (arith, nat_tests) in all b (omega (arith, from, more)) (omega (arith, less)) ∙ sym here),
      sym here,
    )
