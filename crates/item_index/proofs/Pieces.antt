-- Disjoint ranges: the last one up to a number, one less, and one more.
use Rattle.std.specs.Prelude.{◌≡◌, ℕ, ◌-◌, ◌<◌, ◌≤◌, length, Bool, true, false, ◌||◌, leb, ltb, min, max, List, [], ◌∷◌, ◌++◌, filter, cond, refl, Some, ◌⊎◌}
use Rattle.std.specs.List.{AllByRecursion, list_any}
use Rattle.std.specs.Bool.{Decides}
use Rattle.std.specs.Map.{lookup, remove_entry}
use Rattle.std.specs.BTreeMap.{insert_entry, is_at}
use Rattle.std.specs.declared.cmp.Ordering.{Ordering}
use Rattle.std.specs.declared.cmp.Ordering.TheVariants.{Less, Equal, Greater}
use Rattle.std.specs.Ordering.{nat_cmp, match_ordering, is_eq, is_lt}
use Rattle.std.specs.FinMap.{nat_cmp-IsAntisymmetric}
use Rattle.std.proofs.Common.{not, inl, inr}
use Rattle.std.proofs.lemmas.Bool.{cases_Bool, cases_lt, le-ltb, or_cases, or_left, or_right, lt-ltb, leb-true, leb-false}
use Rattle.std.proofs.lemmas.Bool.Decides.{nat_tests, same_from_decides}
use mathlib.Core.Path.{ap, sym, subst, ◌∙◌}
use native.Mathlib.Omega.{arith}
use Rattle.world_parts.specs.Items.{ranges_meet, within}
use Rattle.item_index.specs.Spans.{AreApart, covers, crosses, has_some}
use mathlib.Core.Bool.{or_comm, or_assoc}

-- what is true already: to add it changes nothing
pub or_already : (a b : Bool) → (b ≡ true → a ≡ true) → a ≡ (a || b)
or_already a b f = grind arith

-- what a search up to a limit keeps
pub up_to : (limit x : ℕ) → leb x limit ≡ not (is_lt (nat_cmp limit x))
up_to limit x = grind (arith, nat_tests)

pub all_from : {X : Type 0} {P Q : X → Type 0} → ((x : X) → P x → Q x) → (xs : List X) → AllByRecursion P xs → AllByRecursion Q xs
all_from f [] h = tt
all_from f (x ∷ xs) h = (f x h.0, all_from f xs h.1)

pub are_some : (rs : List (ℕ × ℕ)) → AreApart rs → AllByRecursion (λ (r : ℕ × ℕ). r.0 < r.1) rs
are_some [] a = tt
are_some (r ∷ rs) a = (a.0, are_some rs a.2)

-- the range whose first number is the key
pair_of : (r : ℕ × ℕ) (k v : ℕ) → is_eq (nat_cmp k r.0) ≡ true → Some r.1 ≡ Some v → r ≡ (k, v)
pair_of r k v t e =
    let a : r.0 ≡ k = grind (arith, nat_tests) in
    let b : r.1 ≡ v = cc in
    λ i. (a i, b i)

-- what holds of each range holds of the one at a key
pub at_found : (P : ℕ × ℕ → Type 0) (rs : List (ℕ × ℕ)) (k v : ℕ) → AllByRecursion P rs → lookup (is_at (nat_cmp k)) rs ≡ Some v → P (k, v)
at_found P [] k v h e = absurd cc
at_found P (r ∷ rs) k v h e = elim (cases_Bool (is_eq (nat_cmp k r.0))) [
  | inl t ↦ subst P (pair_of r k v t (rw t at e)) h.0
  | inr t ↦ at_found P rs k v h.1 (rw t at e)
]

module _ (q : ℕ → Bool) where
  -- no range passes where none is chosen
  pub none_chosen : (rs : List (ℕ × ℕ)) → filter (λ r. q r.0) rs ≡ [] → AllByRecursion (λ r. q r.0 ≡ false) rs
  none_chosen [] e = tt
  none_chosen (r ∷ rs) e = elim (cases_Bool (q r.0)) [
    | inl h ↦ let some : r ∷ filter (λ x. q x.0) rs ≡ [] = rw h at e in absurd cc
    | inr h ↦ (h, none_chosen rs (rw h at e))
  ]

  -- what the last range that is chosen tells
  pub record IsLast (rs : List (ℕ × ℕ)) (k v : ℕ) : Type 0 where
    pub found : lookup (is_at (nat_cmp k)) rs ≡ Some v
    pub chosen : q k ≡ true
    pub ends : AllByRecursion (λ r. q r.0 ≡ true → r.1 ≤ v) rs

  pub last_chosen : (rs before : List (ℕ × ℕ)) (k v : ℕ) → AreApart rs → filter (λ r. q r.0) rs ≡ before ++ (k, v) ∷ [] → IsLast rs k v
  last_chosen [] [] k v a e = absurd cc
  last_chosen [] (x ∷ before) k v a e = absurd cc
  last_chosen (r ∷ rs) before k v a e = by (q r.0) refl (λ t. last_chosen rs t k v a.2) before e
    where
      later : IsLast rs k v → (r.1 < k → q r.0 ≡ true → r.1 ≤ v) → IsLast (r ∷ rs) k v
      later l first =
          let below : r.1 < k = at_found (λ x. r.1 < x.0) rs k v a.1 l.found in
          let fits : r.0 < r.1 = a.0 in
          let other : is_eq (nat_cmp k r.0) ≡ false = grind (arith, nat_tests) in
          record { found = rw other l.found; chosen = l.chosen; ends = (first below, l.ends) }

      by : (b : Bool) → q r.0 ≡ b → ((t : List (ℕ × ℕ)) → filter (λ r. q r.0) rs ≡ t ++ (k, v) ∷ [] → IsLast rs k v)
          → (t : List (ℕ × ℕ)) → cond b (r ∷ filter (λ r. q r.0) rs) (filter (λ r. q r.0) rs) ≡ t ++ (k, v) ∷ [] → IsLast (r ∷ rs) k v
      by true h f [] e =
          let here : r ≡ (k, v) = cc in
          let rest : filter (λ r. q r.0) rs ≡ [] = cc in
          let same : is_eq (nat_cmp k k) ≡ true = grind (arith, nat_tests) in
          record {
            found = rw (here, same);
            chosen = rw here at h;
            ends = (λ t. let b : r.1 ≡ v = ap (λ x. x.1) here in omega arith, all_from (λ x n t. absurd cc) rs (none_chosen rs rest));
          }
      by true h f (x ∷ t) e =
          let l = f t cc in
          let some : k < v = at_found (λ x. x.0 < x.1) rs k v (are_some rs a.2) l.found in
          later l (λ below chosen. omega arith)
      by false h f t e = later (f t e) (λ below chosen. absurd cc)

-- one range less
pub taken : (p : ℕ × ℕ → Bool) (rs : List (ℕ × ℕ)) (k v : ℕ) → lookup (is_at (nat_cmp k)) rs ≡ Some v → list_any p rs ≡ (list_any p (remove_entry (is_at (nat_cmp k)) rs) || p (k, v))
taken p [] k v e = absurd cc
taken p (r ∷ rs) k v e = elim (cases_Bool (is_eq (nat_cmp k r.0))) [
  | inl t ↦ rw (t, pair_of r k v t (rw t at e)) (or_comm (p (k, v)) (list_any p rs))
  | inr t ↦ rw (t, taken p rs k v (rw t at e), or_assoc)
]

pub fewer : (rs : List (ℕ × ℕ)) (k v : ℕ) → lookup (is_at (nat_cmp k)) rs ≡ Some v → length (remove_entry (is_at (nat_cmp k)) rs) < length rs
fewer [] k v e = absurd cc
fewer (r ∷ rs) k v e = grind (arith, fewer rs k v)

all_less : (P : ℕ × ℕ → Type 0) (test : ℕ → Bool) (rs : List (ℕ × ℕ)) → AllByRecursion P rs → AllByRecursion P (remove_entry test rs)
all_less P test [] h = tt
all_less P test (r ∷ rs) h = elim (test r.0) as (λ b. AllByRecursion P (cond b rs (r ∷ remove_entry test rs))) [ true ↦ h.1 | false ↦ (h.0, all_less P test rs h.1) ]

pub apart_less : (test : ℕ → Bool) (rs : List (ℕ × ℕ)) → AreApart rs → AreApart (remove_entry test rs)
apart_less test [] a = tt
apart_less test (r ∷ rs) a = elim (test r.0) as (λ b. AreApart (cond b rs (r ∷ remove_entry test rs))) [ true ↦ a.2 | false ↦ (a.0, all_less (λ q. r.1 < q.0) test rs a.1, apart_less test rs a.2) ]

-- one range more, which touches none
module _ (low high : ℕ) (some : low < high) where
  abbrev pub IsClear : ℕ × ℕ → Type 0
  IsClear r = (r.1 < low) ⊎ (high < r.0)

  pub absent : (rs : List (ℕ × ℕ)) → AreApart rs → AllByRecursion IsClear rs → AllByRecursion (λ (r : ℕ × ℕ). is_eq (nat_cmp low r.0) ≡ false) rs
  absent [] a c = tt
  absent (r ∷ rs) a c = (let fits : r.0 < r.1 = a.0 in grind (arith, nat_tests, c.0), absent rs a.2 c.1)

  all_more : (P : ℕ × ℕ → Type 0) (rs : List (ℕ × ℕ)) → P (low, high) → AllByRecursion P rs → AllByRecursion P (insert_entry nat_cmp rs low high)
  all_more P [] h all = (h, tt)
  all_more P (r ∷ rs) h all =
      let later = insert_entry nat_cmp rs low high in
      elim (nat_cmp low r.0) as (λ o. nat_cmp low r.0 ≡ o → AllByRecursion P (match_ordering o ((low, high) ∷ r ∷ rs) ((r.0, high) ∷ rs) (r ∷ later))) [
        | Less ↦ λ e. (h, all)
        | Equal ↦ λ e. (rw (nat_cmp-IsAntisymmetric low r.0 e) at h, all.1)
        | Greater ↦ λ e. (all.0, all_more P rs h all.1)
      ] refl

  pub apart_more : (rs : List (ℕ × ℕ)) → AreApart rs → AllByRecursion IsClear rs → AreApart (insert_entry nat_cmp rs low high)
  apart_more [] a c = (some, tt, tt)
  apart_more (r ∷ rs) a c =
      let fits : r.0 < r.1 = a.0 in
      let clear : IsClear r = c.0 in
      let later = insert_entry nat_cmp rs low high in
      elim (nat_cmp low r.0) as (λ o. nat_cmp low r.0 ≡ o → AreApart (match_ordering o ((low, high) ∷ r ∷ rs) ((r.0, high) ∷ rs) (r ∷ later))) [
        | Less ↦ λ e. let above : high < r.0 = grind (arith, nat_tests) in (some, (above, all_from (λ q b. omega arith) rs a.1), a)
        | Equal ↦ λ e. absurd (grind (arith, nat_tests))
        | Greater ↦ λ e. (fits, all_more (λ q. r.1 < q.0) rs (grind (arith, nat_tests)) a.1, apart_more rs a.2 c.1)
      ] refl

-- a test of one entry more, whose key is new
pub added : {K V : Type 0} (cmp : K → K → Ordering) (p : K × V → Bool) (es : List (K × V)) (k : K) (v : V) → AllByRecursion (λ (e : K × V). is_eq (cmp k e.0) ≡ false) es → list_any p (insert_entry cmp es k v) ≡ (list_any p es || p (k, v))
added cmp p [] k v h = or_comm (p (k, v)) false
added cmp p (e ∷ es) k v h = grind (arith, added cmp p es k v h.1, h.0)

-- a range within one piece
pub within_piece : (low high k v : ℕ) (rs : List (ℕ × ℕ)) → lookup (is_at (nat_cmp k)) rs ≡ Some v → k ≤ low → high ≤ v → (p : ℕ) → covers rs p ≡ (covers rs p || within low high p)
within_piece low high k v rs found begins ends p = or_already (covers rs p) (within low high p) (λ w.
    let here : within k v p ≡ true = grind (arith, nat_tests) in
    taken (λ r. within r.0 r.1 p) rs k v found ∙ or_right (covers (remove_entry (is_at (nat_cmp k)) rs) p) (within k v p) here)

-- tests that a number of a range decides
module _ (t : ℕ × ℕ → Bool) (S : ℕ → Type 0) (each : (r : ℕ × ℕ) → Decides (t r) ((p : ℕ) × (within r.0 r.1 p ≡ true) × S p)) where
  some_point : (rs : List (ℕ × ℕ)) → Decides (list_any t rs) ((p : ℕ) × (covers rs p ≡ true) × S p)
  some_point [] = ((λ e. absurd cc), (λ h. absurd cc))
  some_point (r ∷ rs) = (
    (λ e. elim (or_cases (t r) (list_any t rs) e) [
      | inl a ↦ let h = (each r).0 a in (h.0, or_left (within r.0 r.1 h.0) (covers rs h.0) h.1, h.2)
      | inr b ↦ let h = (some_point rs).0 b in (h.0, or_right (within r.0 r.1 h.0) (covers rs h.0) h.1, h.2)
    ]),
    (λ h. elim (or_cases (within r.0 r.1 h.0) (covers rs h.0) h.1) [
      | inl a ↦ or_left (t r) (list_any t rs) ((each r).1 (h.0, a, h.2))
      | inr b ↦ or_right (t r) (list_any t rs) ((some_point rs).1 (h.0, b, h.2))
    ]),
  )

  -- the law of an insert at each number is its law at each such test
  pub from_points : (old new : List (ℕ × ℕ)) (low high : ℕ) → ((p : ℕ) → covers new p ≡ (covers old p || within low high p)) → list_any t new ≡ (list_any t old || t (low, high))
  from_points old new low high law = same_from_decides (list_any t new) (list_any t old || t (low, high)) (some_point new) (
    (λ e.
        let h = (some_point ((low, high) ∷ old)).0 (or_comm (t (low, high)) (list_any t old) ∙ e) in
        (h.0, law h.0 ∙ or_comm (covers old h.0) (within low high h.0) ∙ h.1, h.2)),
    (λ h.
        or_comm (list_any t old) (t (low, high))
        ∙ (some_point ((low, high) ∷ old)).1 (h.0, or_comm (within low high h.0) (covers old h.0) ∙ sym (law h.0) ∙ h.1, h.2)),
  )

in_both : (from to : ℕ) (r : ℕ × ℕ) → Decides (ranges_meet r.0 r.1 from to) ((p : ℕ) × (within r.0 r.1 p ≡ true) × ((from ≤ p) × (p < to)))
in_both from to r = (
  (λ e. (max r.0 from, grind (arith, nat_tests), (grind (arith, nat_tests), grind (arith, nat_tests)))),
  (λ h. let p : ℕ = h.0 in let w : within r.0 r.1 p ≡ true = h.1 in let a : from ≤ p = h.2.0 in let b : p < to = h.2.1 in grind (arith, nat_tests)),
)

in_one : (r : ℕ × ℕ) → Decides (ltb r.0 r.1) ((p : ℕ) × (within r.0 r.1 p ≡ true) × Unit {0})
in_one r = (
  (λ e. (r.0, grind (arith, nat_tests), tt)),
  (λ h. let p : ℕ = h.0 in let w : within r.0 r.1 p ≡ true = h.1 in grind (arith, nat_tests)),
)

module _ (old new : List (ℕ × ℕ)) (low high : ℕ) (law : (p : ℕ) → covers new p ≡ (covers old p || within low high p)) where
  pub crosses_more : (from to : ℕ) → crosses new from to ≡ (crosses old from to || ranges_meet low high from to)
  crosses_more from to = from_points (λ r. ranges_meet r.0 r.1 from to) (λ p. (from ≤ p) × (p < to)) (in_both from to) old new low high law

  pub some_more : has_some new ≡ (has_some old || ltb low high)
  some_more = from_points (λ r. ltb r.0 r.1) (λ p. Unit {0}) in_one old new low high law

-- what a set of disjoint ranges answers
module _ (from to : ℕ) where
  none_crosses : (rs : List (ℕ × ℕ)) → AllByRecursion (λ (r : ℕ × ℕ). ranges_meet r.0 r.1 from to ≡ false) rs → crosses rs from to ≡ false
  none_crosses [] h = refl
  none_crosses (r ∷ rs) h = ap (λ b. b || crosses rs from to) h.0 ∙ none_crosses rs h.1

  everywhere : {P : ℕ × ℕ → Type 0} → ((r : ℕ × ℕ) → P r) → (rs : List (ℕ × ℕ)) → AllByRecursion P rs
  everywhere f [] = tt
  everywhere f (r ∷ rs) = (f r, everywhere f rs)

  pub crosses_nothing : (rs : List (ℕ × ℕ)) → to ≤ from → crosses rs from to ≡ false
  crosses_nothing rs h = none_crosses rs (everywhere (λ r. grind (arith, nat_tests)) rs)

  module _ (some : from < to) (rs : List (ℕ × ℕ)) where
    pub crosses_none : filter (λ r. leb r.0 (to - 1)) rs ≡ [] → crosses rs from to ≡ false
    crosses_none e = none_crosses rs (all_from (λ r h. grind (arith, nat_tests)) rs (none_chosen (λ x. leb x (to - 1)) rs e))

    pub crosses_last : (k v : ℕ) → AreApart rs → IsLast (λ x. leb x (to - 1)) rs k v → ltb from v ≡ crosses rs from to
    crosses_last k v a l = elim (cases_lt from v) [
      | inl lt ↦
          let fits : k < v = at_found (λ x. x.0 < x.1) rs k v (are_some rs a) l.found in
          let begins : leb k (to - 1) ≡ true = l.chosen in
          let here : ranges_meet k v from to ≡ true = grind (arith, nat_tests) in
          rw (lt-ltb from v lt, taken (λ r. ranges_meet r.0 r.1 from to) rs k v l.found, here)
          (sym (or_right (list_any (λ r. ranges_meet r.0 r.1 from to) (remove_entry (is_at (nat_cmp k)) rs)) true refl))
      | inr le ↦ rw le-ltb (sym (none_crosses rs (all_from (λ r h. grind (arith, nat_tests)) rs l.ends)))
    ]

pub some_unless_empty : (rs : List (ℕ × ℕ)) (b : Bool) → AreApart rs → (b ≡ true → length rs ≡ 0) → (length rs ≡ 0 → b ≡ true) → not b ≡ has_some rs
some_unless_empty [] b a f g = ap not (g refl)
some_unless_empty (r ∷ rs) b a f g = let some : r.0 < r.1 = a.0 in grind (arith, nat_tests, f)

-- what takes out a piece that touches a range, and makes one range of both
pub absorbed : (start end k v : ℕ) (rs : List (ℕ × ℕ)) → AreApart rs → start < end → start ≤ v → IsLast (λ x. leb x end) rs k v → (p : ℕ)
    → (covers (remove_entry (is_at (nat_cmp k)) rs) p || within (min start k) (max end v) p) ≡ (covers rs p || within start end p)
absorbed start end k v rs a some touches l p =
    let begins : k ≤ end = leb-true k end l.chosen in
    let fits : k < v = at_found (λ x. x.0 < x.1) rs k v (are_some rs a) l.found in
    let one_range : within (min start k) (max end v) p ≡ (within k v p || within start end p) = grind (arith, nat_tests) in
    rw (one_range, taken (λ r. within r.0 r.1 p) rs k v l.found, or_assoc)

-- and when there is none
module _ (start end : ℕ) (rs : List (ℕ × ℕ)) where
  pub clear_first : filter (λ r. leb r.0 end) rs ≡ [] → AllByRecursion (λ (r : ℕ × ℕ). (r.1 < start) ⊎ (end < r.0)) rs
  clear_first e = all_from (λ r h. inr (leb-false r.0 end h)) rs (none_chosen (λ x. leb x end) rs e)

  pub clear_last : (k v : ℕ) → v < start → IsLast (λ x. leb x end) rs k v → AllByRecursion (λ (r : ℕ × ℕ). (r.1 < start) ⊎ (end < r.0)) rs
  clear_last k v before l = all_from (λ r h. grind (arith, nat_tests)) rs l.ends
