-- The names of a directory in two lists, of short ones and of long ones.
use Rattle.std.proofs.Common.{◌≡◌, ℕ, suc, ◌+◌, ◌<◌, ◌≤◌, List, [], ◌∷◌, length, Some, inl, inr, refl, sym, ap, subst, ◌∙◌, arith}
use Rattle.std.specs.Prelude.{Bool, true, false, Option, None, Vec, map}
use Rattle.std.specs.declared.alloc.Global.{Global}
use Rattle.std.specs.List.{AllByRecursion}
use Rattle.std.specs.List.Sorted.{IsStrictlySortedBy}
use Rattle.std.specs.Map.{keys_of, remove_entry}
use Rattle.std.specs.declared.cmp.Ordering.{Ordering}
use Rattle.std.specs.declared.cmp.Ordering.TheVariants.{Less}
use Rattle.std.specs.Ordering.{nat_cmp, is_eq}
use Rattle.std.specs.Cmp.{Equal-is, tied_itself, unsigned_Decides}
use Rattle.std.specs.Cmp.Lexicographic.{slice_cmp, pointwise, pointwise_decides, bytes_decides}
use Rattle.std.specs.BTreeMap.{insert_entry}
use Rattle.std.specs.FinMap.Entries.{put, find}
use Rattle.std.proofs.lemmas.Bool.{cases_lt}
use Rattle.std.proofs.lemmas.Map.Keys.{sorted_head, sorted_tail}
use Rattle.finite_maps.specs.Table.{pair_decides, text_keys, get, assign, count, get-insert, get-assign, same_table}
use Rattle.finite_maps.specs.Maps.{table_of}
use Rattle.finite_maps.proofs.Ordered.{entries_of, entries_agree}
use Rattle.file_tree.specs.Tree.{Names}
use Rattle.file_tree.specs.Same.{same_name, same_names, same_names_decides}
use Rattle.std.specs.Bool.{Decides}
use Rattle.std.proofs.lemmas.Bool.Decides.{same_from_decides}
use mathlib.Core.Bool.{true≢false}
use Rattle.file_tree.specs.Listed.{as_name, names_in, AreShort, AreLong}

abbrev pub Entries : Type 0
Entries = List (List ℕ × ℕ)

abbrev pub R : List ℕ → List ℕ → Ordering
R = slice_cmp nat_cmp

abbrev of_list : Entries → Names
of_list es = table_of text_keys.total es

abbrev either : Option ℕ → Option ℕ → Option ℕ
either None y = y
either (Some x) y = Some x

either_none : (x : Option ℕ) → either x None ≡ x
either_none x = grind arith

-- what two lists have at a name: what the first one has there, or else the second
get_both : (es fs : Entries) (q : List ℕ) → get (names_in es fs) q ≡ either (get (of_list es) q) (get (of_list fs) q)
get_both [] fs q = refl
get_both (e ∷ es) fs q =
    let here = get-insert text_keys.total (of_list es) e.0 e.1 q in
    grind (arith, here, get-insert text_keys.total (names_in es fs) e.0 e.1 q, get_both es fs q)

-- a name that is not as all of a list are is not in it
not_in : (P : List ℕ → Type 0) (es : Entries) (q : List ℕ) → AllByRecursion P (keys_of es) → ¬ (P q) → get (of_list es) q ≡ None
not_in P [] q h n = refl
not_in P (e ∷ es) q h n =
    let here : is_eq (R q e.0) ≡ true → ⊥ = λ t. n (subst P (sym (text_keys.same q e.0 ((Equal-is (R q e.0)).0 t))) h.0) in
    grind (arith, here, get-insert text_keys.total (of_list es) e.0 e.1 q, not_in P es q h.1 n)

not_short : (es : Entries) (q : List ℕ) → AreShort es → 15 < length q → get (of_list es) q ≡ None
not_short es q h l = not_in (λ k. length k ≤ 15) es q h (λ s. omega (arith, s, l))

not_long : (es : Entries) (q : List ℕ) → AreLong es → length q ≤ 15 → get (of_list es) q ≡ None
not_long es q h l = not_in (λ k. 15 < length k) es q h (λ s. omega (arith, s, l))

-- a short name is looked for among the short ones, and a long name among the long ones
pub get_short : (es fs : Entries) (q : List ℕ) → AreLong fs → length q ≤ 15 → get (names_in es fs) q ≡ get (of_list es) q
get_short es fs q h l = get_both es fs q ∙ ap (λ r. either (get (of_list es) q) r) (not_long fs q h l) ∙ either_none (get (of_list es) q)

pub get_long : (es fs : Entries) (q : List ℕ) → AreShort es → 15 < length q → get (names_in es fs) q ≡ get (of_list fs) q
get_long es fs q h l = get_both es fs q ∙ ap (λ r. either r (get (of_list fs) q)) (not_short es q h l)

-- a change of the short names or of the long ones is one of all
module _ (es fs ns : Entries) (k : List ℕ) (w : Option ℕ) where
  pub set_short : of_list ns ≡ assign text_keys.total (of_list es) k w → AreLong fs → length k ≤ 15 → names_in ns fs ≡ assign text_keys.total (names_in es fs) k w
  set_short e h l = same_table text_keys _ _ (λ q.
      let none : is_eq (R q k) ≡ true → get (of_list fs) q ≡ None = λ t.
      let here = text_keys.same q k ((Equal-is (R q k)).0 t) in ap (λ p. get (of_list fs) p) here ∙ not_long fs k h l in
      let new = ap (λ (t : Names). get t q) e ∙ get-assign text_keys.total (of_list es) k w q in
      grind (arith, get_both ns fs q, get_both es fs q, get-assign text_keys.total (names_in es fs) k w q, new, none, either_none))

  pub set_long : of_list ns ≡ assign text_keys.total (of_list fs) k w → AreShort es → 15 < length k → names_in es ns ≡ assign text_keys.total (names_in es fs) k w
  set_long e h l = same_table text_keys _ _ (λ q.
      let none : is_eq (R q k) ≡ true → get (of_list es) q ≡ None = λ t.
      let here = text_keys.same q k ((Equal-is (R q k)).0 t) in ap (λ p. get (of_list es) p) here ∙ not_short es k h l in
      let new = ap (λ (t : Names). get t q) e ∙ get-assign text_keys.total (of_list fs) k w q in
      grind (arith, get_both es ns q, get_both es fs q, get-assign text_keys.total (names_in es fs) k w q, new, none))

-- ---- what all names of a list are, they still are with one more or one less

module _ {K X : Type 0} (P : K → Type 0) where
  pub all_inserted : (cmp : K → K → Ordering) (es : List (K × X)) (k : K) (v : X) → AllByRecursion P (keys_of es) → P k → AllByRecursion P (keys_of (insert_entry cmp es k v))
  all_inserted cmp [] k v h p = (p, tt)
  all_inserted cmp (e ∷ es) k v h p = grind (arith, all_inserted cmp es k v h.1 p)

  pub all_removed : (test : K → Bool) (es : List (K × X)) → AllByRecursion P (keys_of es) → AllByRecursion P (keys_of (remove_entry test es))
  all_removed test [] h = tt
  all_removed test (e ∷ es) h = grind (arith, all_removed test es h.1)

module _ (P : List ℕ → Type 0) where
  pub all_seen : (es : List (Vec ℕ Global × ℕ)) → AllByRecursion (λ k. P k.items) (keys_of es) → AllByRecursion P (keys_of (map as_name es))
  all_seen [] h = tt
  all_seen (e ∷ es) h = (h.0, all_seen es h.1)

  pub all_own : (es : List (Vec ℕ Global × ℕ)) → AllByRecursion P (keys_of (map as_name es)) → AllByRecursion (λ k. P k.items) (keys_of es)
  all_own [] h = tt
  all_own (e ∷ es) h = (h.0, all_own es h.1)

below_seen : (k : List ℕ) (es : List (Vec ℕ Global × ℕ)) → AllByRecursion (λ l. R k l.items ≡ Less) (keys_of es) → AllByRecursion (λ l. R k l ≡ Less) (keys_of (map as_name es))
below_seen k es h = all_seen (λ l. R k l ≡ Less) es h

pub sorted_seen_names : (es : List (Vec ℕ Global × ℕ)) → IsStrictlySortedBy (λ a b. R a.items b.items) (keys_of es) → IsStrictlySortedBy R (keys_of (map as_name es))
unfolding IsStrictlySortedBy
sorted_seen_names [] h = tt
sorted_seen_names (e ∷ es) h = (below_seen e.0.items es h.0, sorted_seen_names es h.1)

-- ---- how many names there are

put_new : (k : List ℕ) (v : ℕ) (es : Entries) → find R k es ≡ None → length (put R k v es) ≡ suc (length es)
put_new k v [] h = refl
put_new k v (e ∷ es) h = grind (arith, put_new k v es)

pub counted : (es fs : Entries) → AreShort es → AreLong fs → IsStrictlySortedBy R (keys_of es) → IsStrictlySortedBy R (keys_of fs) → length es + length fs ≡ count (names_in es fs)
counted [] fs f g s t = let same : length fs ≡ count (of_list fs) = ap length (entries_of text_keys fs (of_list fs) t refl) in omega (arith, same)
counted (e ∷ es) fs f g s t =
    let none : get (names_in es fs) e.0 ≡ None = get_short es fs e.0 g f.0 ∙ not_in (λ k. R e.0 k ≡ Less) es e.0 (sorted_head R e.0 (keys_of es) s) (λ h. let tied = tied_itself text_keys.total e.0 in absurd cc) in
    let new = put_new e.0 e.1 (names_in es fs).entries none in
    let rest = counted es fs f.1 g (sorted_tail R e.0 (keys_of es) s) t in
    omega (arith, new, rest)

-- ---- lists of the same names are the same

module _ (es fs xs ys : Entries) (f : AreShort es) (g : AreLong fs) (h : AreShort xs) (k : AreLong ys) (same : names_in es fs ≡ names_in xs ys) where
  pub same_short : IsStrictlySortedBy R (keys_of es) → IsStrictlySortedBy R (keys_of xs) → es ≡ xs
  same_short s t = (entries_agree text_keys (of_list es) (of_list xs) es xs (entries_of text_keys es (of_list es) s refl) (entries_of text_keys xs (of_list xs) t refl)).1
      (same_table text_keys (of_list es) (of_list xs) (λ q. elim (cases_lt 15 (length q)) [
        | inl l ↦ not_short es q f l ∙ sym (not_short xs q h l)
        | inr l ↦ sym (get_short es fs q g l) ∙ ap (λ (m : Names). get m q) same ∙ get_short xs ys q k l
      ]))

  pub same_long : IsStrictlySortedBy R (keys_of fs) → IsStrictlySortedBy R (keys_of ys) → fs ≡ ys
  same_long s t = (entries_agree text_keys (of_list fs) (of_list ys) fs ys (entries_of text_keys fs (of_list fs) s refl) (entries_of text_keys ys (of_list ys) t refl)).1
      (same_table text_keys (of_list fs) (of_list ys) (λ q. elim (cases_lt 15 (length q)) [
        | inl l ↦ sym (get_long es fs q f l) ∙ ap (λ (m : Names). get m q) same ∙ get_long xs ys q h l
        | inr l ↦ not_long fs q g l ∙ sym (not_long ys q k l)
      ]))

names_decide : (es xs : Entries) → Decides (pointwise same_name es xs) (es ≡ xs)
names_decide es xs = pointwise_decides (pair_decides bytes_decides unsigned_Decides) es xs

-- whether names are the same, told by both lists
module _ (es fs xs ys : Entries) (f : AreShort es) (g : AreLong fs) (h : AreShort xs) (k : AreLong ys) (s : IsStrictlySortedBy R (keys_of es)) (t : IsStrictlySortedBy R (keys_of xs)) where
  pub told : (r : Bool) → (r ≡ true → (es ≡ xs) × (fs ≡ ys)) → ((names_in es fs ≡ names_in xs ys) → r ≡ true) → r ≡ same_names (names_in es fs) (names_in xs ys)
  told r both back = same_from_decides r (same_names (names_in es fs) (names_in xs ys)) ((λ e i. names_in ((both e).0 i) ((both e).1 i)), back) (same_names_decides (names_in es fs) (names_in xs ys))

  -- one list of short names is longer
  pub told_by_short : ¬ (length es ≡ length xs) → false ≡ same_names (names_in es fs) (names_in xs ys)
  told_by_short n = told false (λ e. absurd (true≢false (sym e))) (λ e. absurd (n (ap length (same_short es fs xs ys f g h k e s t))))

  module _ (u : IsStrictlySortedBy R (keys_of fs)) (v : IsStrictlySortedBy R (keys_of ys)) where
    -- one list of long names is longer
    pub told_by_long : ¬ (length fs ≡ length ys) → false ≡ same_names (names_in es fs) (names_in xs ys)
    told_by_long n = told false (λ e. absurd (true≢false (sym e))) (λ e. absurd (n (ap length (same_long es fs xs ys f g h k e u v))))

    -- the short names are compared, and then the long ones
    pub told_by_first : pointwise same_name es xs ≡ false → false ≡ same_names (names_in es fs) (names_in xs ys)
    told_by_first n =
        told false (λ e. absurd (true≢false (sym e)))
        (λ e. absurd (true≢false (sym ((names_decide es xs).1 (same_short es fs xs ys f g h k e s t)) ∙ n)))

    pub told_by_both : pointwise same_name es xs ≡ true → pointwise same_name fs ys ≡ same_names (names_in es fs) (names_in xs ys)
    told_by_both y =
        told (pointwise same_name fs ys) (λ e. ((names_decide es xs).0 y, (names_decide fs ys).0 e))
        (λ e. (names_decide fs ys).1 (same_long es fs xs ys f g h k e u v))
