-- Lists of values put into a map, each at a key of its own.
use Rattle.std.proofs.Common.{◌≡◌, ℕ, suc, ◌+◌, List, [], ◌∷◌, ◌++◌, length, Some, None, sym, ◌∙◌, ap, refl, arith, ◌<◌, take, get_or}
use Rattle.std.specs.Prelude.{Option, cond}
use Rattle.std.specs.declared.cmp.Ordering.{Ordering}
use Rattle.std.specs.Ordering.{eq_by_cmp}
use Rattle.finite_maps.specs.Table.{Table, IsKeyOrder, empty, get, insert, get-insert, same_table}
use Rattle.finite_maps.proofs.TextMaps.{swapped}
use Rattle.std.specs.Cmp.{Equal-is}
use Rattle.std.proofs.lemmas.List.{take_more, length-take-le}

module _ {K X : Type 0} {R : K → K → Ordering} (o : IsKeyOrder R) where
  -- two values at two keys may be put in either order
  pub insert_swap : (m : Table R X) (j k : K) (x y : X) → (j ≡ k → ⊥) → insert o.total (insert o.total m j x) k y ≡ insert o.total (insert o.total m k y) j x
  insert_swap m j k x y apart = same_table o _ _ (λ q.
      get-insert o.total (insert o.total m j x) k y q
      ∙ ap (λ r. cond (eq_by_cmp R q k) (Some y) r) (get-insert o.total m j x q)
      ∙ swapped (eq_by_cmp R q k) (eq_by_cmp R q j) (Some y) (Some x) (get m q) (λ a b. apart (sym (o.same q j ((Equal-is (R q j)).0 b)) ∙ o.same q k ((Equal-is (R q k)).0 a)))
      ∙ ap (λ r. cond (eq_by_cmp R q j) (Some x) r) (sym (get-insert o.total m k y q))
      ∙ sym (get-insert o.total (insert o.total m k y) j x q))

  -- the map with a value put at a key, if there is one
  abbrev pub keep : Table R X → K → Option X → Table R X
  keep m k None = m
  keep m k (Some x) = insert o.total m k x

  keep_swap : (m : Table R X) (j k : K) (v w : Option X) → (j ≡ k → ⊥) → keep (keep m j v) k w ≡ keep (keep m k w) j v
  keep_swap m j k v w apart = grind (arith, insert_swap m j k)

module _ {K X A : Type 0} {R : K → K → Ordering} (o : IsKeyOrder R) (value : A → Option X) where
  -- the map with the values of a list, which is numbered from n, each put at the key of its number
  abbrev pub filled : (ℕ → K) → ℕ → List A → Table R X → Table R X
  filled key n [] m = m
  filled key n (a ∷ xs) m = keep o (filled key (suc n) xs m) (key n) (value a)

  filled-keep : (key : ℕ → K) (n : ℕ) (xs : List A) (m : Table R X) (k : K) (w : Option X) → ((i : ℕ) → k ≡ key i → ⊥) → filled key n xs (keep o m k w) ≡ keep o (filled key n xs m) k w
  filled-keep key n [] m k w apart = refl
  filled-keep key n (a ∷ xs) m k w apart =
      ap (λ t. keep o t (key n) (value a)) (filled-keep key (suc n) xs m k w apart) ∙ keep_swap o (filled key (suc n) xs m) k (key n) w (value a) (apart n)

  -- one more value at the end of the list
  pub filled-push : (key : ℕ → K) → ((i j : ℕ) → key i ≡ key j → i ≡ j) → (n : ℕ) (xs : List A) (a : A) (m : Table R X) → filled key n (xs ++ a ∷ []) m ≡ keep o (filled key n xs m) (key (n + length xs)) (value a)
  filled-push key one n [] a m =
      let e : n ≡ n + 0 = omega arith in
      ap (λ i. keep o m (key i) (value a)) e
  filled-push key one n (b ∷ xs) a m =
      let e : suc n + length xs ≡ n + length (b ∷ xs) = omega arith in
      ap (λ t. keep o t (key n) (value b)) (filled-push key one (suc n) xs a m)
      ∙ keep_swap o (filled key (suc n) xs m) (key (suc n + length xs)) (key n) (value a) (value b) (λ h. let same = one (suc n + length xs) n h in absurd (omega arith))
      ∙ ap (λ i. keep o (filled key n (b ∷ xs) m) (key i) (value a)) e

  -- the same of what a walk over a list comes to
  pub filled_next : (key : ℕ → K) → ((i j : ℕ) → key i ≡ key j → i ≡ j) → (m : Table R X) (from : List A → Table R X) → ((xs : List A) → from xs ≡ filled key 0 xs m) → (xs : List A) (i : ℕ) (d : A) → i < length xs
      → from (take (i + 1) xs) ≡ keep o (from (take i xs)) (key i) (value (get_or xs i d))
  filled_next key one m from is xs i d lt =
      let here : 0 + length (take i xs) ≡ i = omega (arith, length-take-le i xs) in
      ap from (take_more xs i d lt) ∙ is (take i xs ++ get_or xs i d ∷ []) ∙ filled-push key one 0 (take i xs) (get_or xs i d) m
      ∙ (λ j. keep o (sym (is (take i xs)) j) (key (here j)) (value (get_or xs i d)))

  -- two lists may be put in either order
  filled-swap : (key other : ℕ → K) → ((i j : ℕ) → other i ≡ key j → ⊥) → (n k : ℕ) (xs ys : List A) (m : Table R X) → filled key n xs (filled other k ys m) ≡ filled other k ys (filled key n xs m)
  filled-swap key other apart n k xs [] m = refl
  filled-swap key other apart n k xs (b ∷ ys) m =
      filled-keep key n xs (filled other (suc k) ys m) (other k) (value b) (apart k)
      ∙ ap (λ t. keep o t (other k) (value b)) (filled-swap key other apart n (suc k) xs ys m)

module _ {X A B : Type 0} {R : ℕ × ℕ → ℕ × ℕ → Ordering} (o : IsKeyOrder R) (value : A → Option X) (row : B → List A) where
  -- the map with the values of rows, which are numbered from r, each at the number of its row and its own
  abbrev pub rows_filled : ℕ → List B → Table R X
  rows_filled r [] = empty
  rows_filled r (x ∷ xs) = filled o value (λ i. (r, i)) 0 (row x) (rows_filled (suc r) xs)

  -- one more row at the end
  pub rows_filled-push : (r : ℕ) (xs : List B) (x : B) → rows_filled r (xs ++ x ∷ []) ≡ filled o value (λ i. (r + length xs, i)) 0 (row x) (rows_filled r xs)
  rows_filled-push r [] x =
      let e : r ≡ r + 0 = omega arith in
      ap (λ (n : ℕ). filled o value (λ i. (n, i)) 0 (row x) empty) e
  rows_filled-push r (y ∷ ys) x =
      let e : suc r + length ys ≡ r + length (y ∷ ys) = omega arith in
      ap (filled o value (λ i. (r, i)) 0 (row y)) (rows_filled-push (suc r) ys x)
      ∙ filled-swap o value (λ i. (r, i)) (λ i. (suc r + length ys, i)) (λ i j h. let same = ap (λ (p : ℕ × ℕ). p.0) h in absurd (omega arith)) 0 0 (row y) (row x) (rows_filled (suc r) ys)
      ∙ ap (λ (n : ℕ). filled o value (λ i. (n, i)) 0 (row x) (rows_filled r (y ∷ ys))) e

  -- the same of what a walk over a list of rows comes to
  pub rows_next : (from : List B → Table R X) → ((xs : List B) → from xs ≡ rows_filled 0 xs) → (fill : ℕ → List A → Table R X → Table R X)
      → ((r : ℕ) (ys : List A) (m : Table R X) → fill r ys m ≡ filled o value (λ i. (r, i)) 0 ys m)
      → (xs : List B) (i : ℕ) (d : B) → i < length xs → from (take (i + 1) xs) ≡ fill i (row (get_or xs i d)) (from (take i xs))
  rows_next from is fill does xs i d lt =
      let x = get_or xs i d in
      let here : 0 + length (take i xs) ≡ i = omega (arith, length-take-le i xs) in
      ap from (take_more xs i d lt) ∙ is (take i xs ++ x ∷ []) ∙ rows_filled-push 0 (take i xs) x
      ∙ (λ j. filled o value (λ k. (here j, k)) 0 (row x) (sym (is (take i xs)) j)) ∙ sym (does i (row x) (from (take i xs)))
