-- The names of a directory from the last one back: the last one of two lists is taken.
use Rattle.std.proofs.Common.{◌≡◌, ℕ, ◌+◌, ◌<◌, ◌≤◌, List, [], ◌∷◌, ◌++◌, length, Some, refl, sym, ap, subst, ◌∙◌, append_assoc, length-append, arith}
use mathlib.Core.Bool.{true≢false}
use Rattle.std.specs.Prelude.{true, false, Option, None, IfNone}
use Rattle.std.specs.Borrow.{Bor}
use Rattle.std.specs.List.{AllByRecursion}
use Rattle.std.specs.List.Sorted.{IsStrictlySortedBy}
use Rattle.std.specs.Map.{keys_of}
use Rattle.std.specs.declared.cmp.Ordering.{Ordering}
use Rattle.std.specs.declared.cmp.Ordering.TheVariants.{Less, Equal, Greater}
use Rattle.std.specs.Ordering.{is_gt, ordering_reverse}
use Rattle.std.specs.FinMap.Entries.{put}
use Rattle.std.proofs.lemmas.List.{append-nil}
use Rattle.std.specs.Iterator.{MakesProgress, at_most}
use Rattle.finite_maps.specs.Table.{text_keys, count}
use Rattle.finite_maps.specs.Maps.{table_of}
use Rattle.file_tree.specs.Tree.{Names}
use Rattle.file_tree.proofs.Split.{Entries, R}
use Rattle.file_tree.specs.Listed.{names_in, listed, comes_behind, AreShort, AreLong, EndAt, AreLeft, TakesLast}

abbrev Last : Type 0
Last = Option (Bor (List ℕ) × ℕ)

-- all names of a list are below one
abbrev AreBelow : List ℕ → Entries → Type 0
AreBelow k es = AllByRecursion (λ y. R y k ≡ Less) (keys_of es)

-- ---- entries behind all others

put_last : (k : List ℕ) (v : ℕ) (es : Entries) → AreBelow k es → put R k v es ≡ es ++ (k, v) ∷ []
put_last k v [] h = refl
put_last k v (e ∷ es) h = grind (arith, text_keys.total.antisymm k e.0, put_last k v es h.1)

put_before : (k : List ℕ) (v : ℕ) (es : Entries) (e : List ℕ × ℕ) → R k e.0 ≡ Less → put R k v (es ++ e ∷ []) ≡ put R k v es ++ e ∷ []
put_before k v [] e h = grind arith
put_before k v (d ∷ es) e h = grind (arith, put_before k v es e h)

module _ (P : List ℕ → Type 0) where
  all_put : (k : List ℕ) (v : ℕ) (es : Entries) → AllByRecursion P (keys_of es) → P k → AllByRecursion P (keys_of (put R k v es))
  all_put k v [] h p = (p, tt)
  all_put k v (e ∷ es) h p = grind (arith, all_put k v es h.1 p)

  all_in_table : (es : Entries) → AllByRecursion P (keys_of es) → AllByRecursion P (keys_of (table_of text_keys.total es).entries)
  all_in_table [] h = tt
  all_in_table (e ∷ es) h = all_put e.0 e.1 (table_of text_keys.total es).entries (all_in_table es h.1) h.0

  all_both : (es fs : Entries) → AllByRecursion P (keys_of es) → AllByRecursion P (keys_of fs) → AllByRecursion P (keys_of (es ++ fs))
  all_both [] fs h k = k
  all_both (e ∷ es) fs h k = (h.0, all_both es fs h.1 k)

  all_front : (es fs : Entries) → AllByRecursion P (keys_of (es ++ fs)) → AllByRecursion P (keys_of es)
  all_front [] fs h = tt
  all_front (e ∷ es) fs h = (h.0, all_front es fs h.1)

  of_last : (es : Entries) (e : List ℕ × ℕ) → AllByRecursion P (keys_of (es ++ e ∷ [])) → P e.0
  of_last [] e h = h.0
  of_last (d ∷ es) e h = of_last es e h.1

-- an entry above all others is the last one, wherever it stood
taken : (xs ys : Entries) (e : List ℕ × ℕ) → AreBelow e.0 xs → AreBelow e.0 ys → (table_of text_keys.total (xs ++ e ∷ ys)).entries ≡ (table_of text_keys.total (xs ++ ys)).entries ++ e ∷ []
taken [] ys e h k = put_last e.0 e.1 (table_of text_keys.total ys).entries (all_in_table (λ y. R y e.0 ≡ Less) ys k)
taken (x ∷ xs) ys e h k =
    ap (put R x.0 x.1) (taken xs ys e h.1 k) ∙ put_before x.0 x.1 (table_of text_keys.total (xs ++ ys)).entries e h.0

-- ---- names in their order

sorted_below : (es : Entries) (e : List ℕ × ℕ) → IsStrictlySortedBy R (keys_of (es ++ e ∷ [])) → AreBelow e.0 es
unfolding IsStrictlySortedBy
sorted_below [] e h = tt
sorted_below (d ∷ es) e h = (of_last (λ y. R d.0 y ≡ Less) es e h.0, sorted_below es e h.1)

sorted_front : (es fs : Entries) → IsStrictlySortedBy R (keys_of (es ++ fs)) → IsStrictlySortedBy R (keys_of es)
unfolding IsStrictlySortedBy
sorted_front [] fs h = tt
sorted_front (d ∷ es) fs h = (all_front (λ y. R d.0 y ≡ Less) es fs h.0, sorted_front es fs h.1)

below_more : (es : Entries) (k l : List ℕ) → R k l ≡ Less → AreBelow k es → AreBelow l es
below_more [] k l h f = tt
below_more (e ∷ es) k l h f = (text_keys.total.trans e.0 k l f.0 h, below_more es k l h f.1)

is_greater : (r : Ordering) → is_gt r ≡ true → r ≡ Greater
is_greater r e = grind arith

is_less : (r : Ordering) → is_gt r ≡ false → (r ≡ Equal → ⊥) → r ≡ Less
is_less r e n = grind arith

-- ---- the step

module _ (shorts longs : Entries) (short long : Last) (left : AreLeft shorts short longs long) where
  -- what is left where the last short name is taken
  pub left_short : (ns : Entries) (n : Last) → shorts ≡ ns ++ listed n → IfNone n (ns ≡ []) → AreLeft ns n longs long
  left_short ns n e h = (
    subst AreShort e (all_front (λ k. length k ≤ 15) shorts (listed short) left.0),
    left.1,
    (subst (λ es. IsStrictlySortedBy R (keys_of es)) e (sorted_front shorts (listed short) left.2.0), h),
    left.3,
  )

  pub left_long : (ns : Entries) (n : Last) → longs ≡ ns ++ listed n → IfNone n (ns ≡ []) → AreLeft shorts short ns n
  left_long ns n e h = (
    left.0,
    subst AreLong e (all_front (λ k. 15 < length k) longs (listed long) left.1),
    left.2,
    (subst (λ es. IsStrictlySortedBy R (keys_of es)) e (sorted_front longs (listed long) left.3.0), h),
  )

-- the last name of all is the last short one, where that comes behind
takes_short : (shorts longs : Entries) (short long : Last) → AreLeft shorts short longs long → comes_behind short long ≡ true
    → TakesLast (names_in (shorts ++ listed short) (longs ++ listed long)) short (names_in shorts (longs ++ listed long))
takes_short shorts longs None long left h = absurd (true≢false (sym h))
takes_short shorts longs (Some e) long left h =
    ap (λ xs. (table_of text_keys.total xs).entries) (append_assoc shorts ((e.0.now, e.1) ∷ []) (longs ++ listed long))
    ∙ taken shorts (longs ++ listed long) (e.0.now, e.1) (sorted_below shorts (e.0.now, e.1) left.2.0) (below long left.3 h)
  where
    below : (last : Last) → EndAt longs last → comes_behind (Some e) last ≡ true → AreBelow e.0.now (longs ++ listed last)
    below None end b = subst (λ es. AreBelow e.0.now (es ++ [])) (sym end.1) tt
    below (Some f) end b =
        let less : R f.0.now e.0.now ≡ Less = text_keys.total.antisymm f.0.now e.0.now ∙ ap ordering_reverse (is_greater (R e.0.now f.0.now) b) in
        all_both (λ y. R y e.0.now ≡ Less) longs ((f.0.now, f.1) ∷ []) (below_more longs f.0.now e.0.now less (sorted_below longs (f.0.now, f.1) end.0)) (less, tt)

-- a long name that is above all others
long_last : (es longs : Entries) (f : List ℕ × ℕ) → AreBelow f.0 es → AreBelow f.0 longs → (names_in es (longs ++ f ∷ [])).entries ≡ (names_in es longs).entries ++ f ∷ []
long_last es longs f h k =
    ap (λ xs. (table_of text_keys.total xs).entries) (sym (append_assoc es longs (f ∷ [])))
    ∙ taken (es ++ longs) [] f (all_both (λ y. R y f.0 ≡ Less) es longs h k) tt
    ∙ ap (λ xs. (table_of text_keys.total xs).entries ++ f ∷ []) (append-nil (es ++ longs))

-- and else it is the last long one, if there is one
takes_long : (shorts longs : Entries) (short long : Last) → AreLeft shorts short longs long → comes_behind short long ≡ false
    → TakesLast (names_in (shorts ++ listed short) (longs ++ listed long)) long (names_in (shorts ++ listed short) longs)
takes_long shorts longs None None left h =
    (λ i. (names_in (left.2.1 i ++ []) (left.3.1 i ++ [])).entries, λ i. (names_in (left.2.1 i ++ []) (left.3.1 i)).entries)
takes_long shorts longs (Some e) None left h = absurd (true≢false h)
takes_long shorts longs None (Some f) left h =
    long_last (shorts ++ []) longs (f.0.now, f.1) (subst (λ es. AreBelow f.0.now (es ++ [])) (sym left.2.1) tt) (sorted_below longs (f.0.now, f.1) left.3.0)
takes_long shorts longs (Some e) (Some f) left h =
    let short : length e.0.now ≤ 15 = of_last (λ k. length k ≤ 15) shorts (e.0.now, e.1) left.0 in
    let long : 15 < length f.0.now = of_last (λ k. 15 < length k) longs (f.0.now, f.1) left.1 in
    let less = is_less (R e.0.now f.0.now) h (λ q. let same : length e.0.now ≡ length f.0.now = ap length (text_keys.same e.0.now f.0.now q) in omega (arith, same, short, long)) in
    long_last (shorts ++ (e.0.now, e.1) ∷ []) longs (f.0.now, f.1)
    (all_both (λ y. R y f.0.now ≡ Less) shorts ((e.0.now, e.1) ∷ []) (below_more shorts e.0.now f.0.now less (sorted_below shorts (e.0.now, e.1) left.2.0)) (less, tt))
    (sorted_below longs (f.0.now, f.1) left.3.0)

module _ (shorts longs : Entries) (short long : Last) (left : AreLeft shorts short longs long) (ns : Entries) (n : Last) where
  -- the name that is given, where the next one from behind is taken into its place
  pub gives_short : shorts ≡ ns ++ listed n → comes_behind short long ≡ true → TakesLast (names_in (shorts ++ listed short) (longs ++ listed long)) short (names_in (ns ++ listed n) (longs ++ listed long))
  gives_short e h = subst (λ es. TakesLast (names_in (shorts ++ listed short) (longs ++ listed long)) short (names_in es (longs ++ listed long))) e (takes_short shorts longs short long left h)

  pub gives_long : longs ≡ ns ++ listed n → comes_behind short long ≡ false → TakesLast (names_in (shorts ++ listed short) (longs ++ listed long)) long (names_in (shorts ++ listed short) (ns ++ listed n))
  gives_long e h = subst (λ es. TakesLast (names_in (shorts ++ listed short) (longs ++ listed long)) long (names_in (shorts ++ listed short) es)) e (takes_long shorts longs short long left h)

-- a name that is given leaves one less
pub goes : (s : Names) (r : Last) (t : Names) → TakesLast s r t → MakesProgress (λ _. Unit {0}) (λ (m : Names). at_most (count m)) s r t
goes s None t h = record { on = λ _. tt; keeps = tt; rests = λ _. tt }
goes s (Some e) t h =
    let longer : length s.entries ≡ length t.entries + 1 = ap length h ∙ length-append t.entries ((e.0.now, e.1) ∷ []) in
    record { on = λ _. (tt, tt, omega (arith, longer)); keeps = tt; rests = λ _. tt }
