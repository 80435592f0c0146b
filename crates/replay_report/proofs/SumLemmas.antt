-- Bytes that are summed a piece at a time, zeros, sums that are known, and the buffers that an image shows.
use Rattle.std.proofs.Common.{◌≡◌, ℕ, zero, suc, ◌+◌, ◌-◌, ◌<◌, ◌≤◌, List, [], ◌∷◌, ◌++◌, All, length, map, take, get_or, refl, sym, ap, subst, ◌∙◌, arith, Option, Some, T, cond, ⊎_elim}
use Rattle.std.proofs.lemmas.List.{append-nil, append_assoc, take_more, take-append-drop, drop-take, take-take, take_all}
use Rattle.std.proofs.lemmas.List.Elements.{All-append, All-cons, All-contains, All-contains_itself, All-head, All-map, All-nil, All-push, All-tail, All-weaker, Contains-append_cases, Contains-append_left, Contains-append_right, Contains-get_or, Contains-push, filter_map-append}
use Rattle.std.proofs.lemmas.Map.Lookups.{CmpEqualImpliesEq, exact_pairs, exact_unsigned}
use Rattle.std.proofs.lemmas.Map.Views.{All-insert_key}
use Rattle.std.specs.BTreeMap.{insert_entry}
use Rattle.std.specs.BTreeSet.{insert_key}
use Rattle.std.specs.List.{Contains, cons_option, filter_map}
use Rattle.std.specs.Ordering.{match_ordering, nat_cmp}
use Rattle.std.specs.Option.{option_map}
use Rattle.std.specs.declared.cmp.Ordering.{Ordering}
use Rattle.std.specs.declared.cmp.Ordering.TheVariants.{Less, Equal, Greater}
use Rattle.std.specs.Ordering.{is_eq, is_lt, ordering_reverse, ordering_then}
use Rattle.std.specs.Cmp.{IsTotalOrder, tied_itself}
use Rattle.std.specs.FinMap.Entries.{find, is_sorted, below_all}
use Rattle.extent_bytes.specs.Bytes.{range_of}
use Rattle.finite_maps.specs.Table.{pair_cmp_total}
use Rattle.world_parts.specs.World.{World}
use Rattle.world_parts.specs.Image.{image_of, buffer_entry}
use Rattle.replay_report.specs.contracts.sums.HolderOrd.TheImpl.{cmp-value}
use Rattle.replay_report.specs.declared.sums.Holder.TheVariants.{File, Buffer}
use Rattle.replay_report.specs.Report.{IsLong}
use Rattle.replay_report.specs.declared.sums.Holder.{Holder}
use Rattle.replay_report.specs.Sums.{HaveSame}
use Rattle.world_parts.proofs.Collision.{left, right}

-- the first bytes and the piece after them
pub one_piece_more : (xs : List ℕ) (low high : ℕ) → low ≤ high → take high xs ≡ take low xs ++ range_of xs low high
unfolding range_of
one_piece_more xs low high le =
    let sum : low + (high - low) ≡ high = omega arith in
    let whole = take-append-drop low (take (low + (high - low)) xs) in
    rw sum at (sym (rw (take-take low (low + (high - low)) xs (omega arith), drop-take low (high - low) xs) at whole))

-- the whole of a list
pub whole_range : (xs : List ℕ) (n : ℕ) → length xs ≡ n → range_of xs 0 n ≡ xs
unfolding range_of
whole_range xs n e = let all : n - 0 ≡ n = omega arith in rw all (take_all n xs (omega arith))

-- what holds of each entry holds of each after one more was put in
pub entry_more : {K X : Type 0} (R : K → K → Ordering) → CmpEqualImpliesEq R → (P : K × X → Type 0) (es : List (K × X)) → All P es → (k : K) (v : X) → P (k, v) → All P (insert_entry R es k v)
entry_more R exact P [] a k v p = All-cons P (k, v) [] p (All-nil P)
entry_more R exact P (e ∷ es) a k v p = by (R k e.0) refl (entry_more R exact P es (All-tail P e es a) k v p)
  where
    by : (r : Ordering) → R k e.0 ≡ r → All P (insert_entry R es k v) → All P (match_ordering r ((k, v) ∷ e ∷ es) ((e.0, v) ∷ es) (e ∷ insert_entry R es k v))
    by Less q h = All-cons P (k, v) (e ∷ es) p a
    by Equal q h = All-cons P (e.0, v) es (subst (λ key. P (key, v)) (exact k e.0 q) p) (All-tail P e es a)
    by Greater q h = All-cons P e (insert_entry R es k v) (All-head P e es a) h

-- two files or buffers that compare equal are the same one
pub same_holder : CmpEqualImpliesEq (cmp-value.it)
same_holder (File node) (File other) e = ap File (exact_unsigned node other e)
same_holder (File node) (Buffer ring index) e = cc
same_holder (Buffer ring index) (File node) e = cc
same_holder (Buffer ring index) (Buffer other number) e = ap (λ p. Buffer p.0 p.1) (exact_pairs nat_cmp nat_cmp exact_unsigned exact_unsigned (ring, index) (other, number) e)

is_less : (r : Ordering) → T (is_lt r) → r ≡ Less
is_less Less h = refl
is_less Equal h = absurd h
is_less Greater h = absurd h

module _ {K X : Type 0} {R : K → K → Ordering} (o : IsTotalOrder R) where
  below_at : (q : K) (es : List (K × X)) → T (below_all R q es) → (k : ℕ) (d : K × X) → k < length es → R q (get_or es k d).0 ≡ Less
  below_at q [] h k d lt = absurd (omega arith)
  below_at q (e ∷ es) h zero d lt = is_less (R q e.0) (left _ _ h)
  below_at q (e ∷ es) h (suc k) d lt = below_at q es (right _ _ h) k d (omega arith)

  -- an entry of a list in order is found at its key
  entry_found : (es : List (K × X)) → T (is_sorted R es) → (k : ℕ) (d : K × X) → k < length es → find R (get_or es k d).0 es ≡ Some (get_or es k d).1
  entry_found [] h k d lt = absurd (omega arith)
  entry_found (e ∷ es) h zero d lt = ap (λ r. cond (is_eq r) (Some e.1) (find R e.0 es)) (tied_itself o e.0)
  entry_found (e ∷ es) h (suc k) d lt =
      let f : K × X = get_or es k d in
      let above : R f.0 e.0 ≡ Greater = o.antisymm f.0 e.0 ∙ ap ordering_reverse (below_at e.0 es (left _ _ h) k d (omega arith)) in
      ap (λ r. cond (is_eq r) (Some e.1) (find R f.0 es)) above ∙ entry_found es (right _ _ h) k d (omega arith)

-- each buffer of an image has the length of its bytes
pub image_is_long : (s : World) → All (IsLong s) (image_of s).buffers
image_is_long s =
    All-map (IsLong s) buffer_entry s.buffers.entries (λ k d lt. ap (option_map length) (entry_found pair_cmp_total s.buffers.entries s.buffers.sorted k d lt))

-- a list has the same elements as itself
pub same_itself : {K : Type 0} (ks : List K) → HaveSame ks (ks ++ [])
same_itself ks = rw (append-nil ks) (All-contains_itself ks, All-contains_itself ks)

module _ {K : Type 0} (R : K → K → Ordering) (exact : CmpEqualImpliesEq R) (k : K) where
  -- a set has the key that was put in, and those that it had
  kept : (ks : List K) → All (Contains (insert_key R ks k)) (k ∷ ks)
  kept [] = All-contains_itself (k ∷ [])
  kept (x ∷ xs) = by (R k x) refl (kept xs)
    where
      by : (r : Ordering) → R k x ≡ r → All (Contains (insert_key R xs k)) (k ∷ xs) → All (Contains (match_ordering r (k ∷ x ∷ xs) (x ∷ xs) (x ∷ insert_key R xs k))) (k ∷ x ∷ xs)
      by Less q h = All-contains_itself (k ∷ x ∷ xs)
      by Equal q h =
          let all = All-contains_itself (x ∷ xs) in
          All-cons (Contains (x ∷ xs)) k (x ∷ xs) (subst (Contains (x ∷ xs)) (sym (exact k x q)) (All-head (Contains (x ∷ xs)) x xs all)) all
      by Greater q h =
          let ys = insert_key R xs k in
          let P = Contains (x ∷ ys) in
          let more = All-weaker (Contains ys) P (λ y c. Contains-append_right (x ∷ []) ys y c) (k ∷ xs) h in
          All-cons P k (x ∷ xs) (All-head P k xs more) (All-cons P x xs (All-head P x ys (All-contains_itself (x ∷ ys))) (All-tail P k xs more))

  -- a key more in a set is an element more
  pub same_more : (ks xs : List K) → HaveSame ks xs → HaveSame (insert_key R ks k) (xs ++ k ∷ [])
  same_more ks xs h =
      let ys = insert_key R ks k in
      let all = kept ks in
      let old = All-weaker (Contains ks) (Contains ys) (λ x c. All-contains (Contains ys) ks x (All-tail (Contains ys) k ks all) c) xs h.1 in
      let new = All-weaker (Contains xs) (Contains (xs ++ k ∷ [])) (λ x c. Contains-append_left xs (k ∷ []) x c) ks h.0 in
      (All-insert_key R k (Contains (xs ++ k ∷ [])) ks new (Contains-push xs k), All-push (Contains ys) xs k old (All-head (Contains ys) k ks all))

-- a holder behind its size or length is known by how it compares
pub exact_shown : CmpEqualImpliesEq (λ (x y : ℕ × Holder). ordering_then (nat_cmp x.0 y.0) (cmp-value.it x.1 y.1))
exact_shown = exact_pairs nat_cmp cmp-value.it exact_unsigned same_holder

-- the files that have sums, with that of the next name
pub files_grown : {X K : Type 0} (old : List K) (h : X → Option K) (xs : List X) (i : ℕ) (d : X) → i < length xs
    → old ++ filter_map h (take (i + 1) xs) ≡ old ++ filter_map h (take i xs) ++ cons_option (h (get_or xs i d)) []
files_grown old h xs i d lt = rw (take_more xs i d lt, filter_map-append h (take i xs) (get_or xs i d ∷ []))
    (sym (append_assoc old (filter_map h (take i xs)) (cons_option (h (get_or xs i d)) [])))

module _ {X Y : Type 0} (f : X → Y) where
  -- what an element gives is among what a list with it gives
  given : (xs : List X) → All (λ x. Contains (map f xs) (f x)) xs
  given [] = All-nil _
  given (x ∷ xs) =
      let P : X → Type 0 = λ y. Contains (f x ∷ map f xs) (f y) in
      All-cons P x xs (Contains-get_or (f x ∷ map f xs) 0 (f x) (omega arith)) (All-weaker _ P (λ y c. Contains-append_right (f x ∷ []) (map f xs) (f y) c) xs (given xs))

  -- what is among some gives what is among what these give
  among_given : (xs ys : List X) → All (Contains ys) xs → All (Contains (map f ys)) (map f xs)
  among_given xs ys all =
      let P : X → Type 0 = λ x. Contains (map f ys) (f x) in
      All-map (Contains (map f ys)) f xs (All-weaker (Contains ys) P (λ x c. All-contains P ys x (given ys) c) xs all)

  -- lists with the same elements give the same
  pub same_given : (xs ys : List X) → HaveSame xs ys → HaveSame (map f xs) (map f ys)
  same_given xs ys h = (among_given xs ys h.0, among_given ys xs h.1)

-- a list in front of others may be put in place of one with the same elements
pub same_ahead : {K : Type 0} (ks old fs bs : List K) → HaveSame ks (old ++ bs) → HaveSame old fs → HaveSame ks (fs ++ bs)
same_ahead {K} ks old fs bs h same =
    let among : (x : K) → Contains (old ++ bs) x → Contains ks x = λ x c. All-contains (Contains ks) (old ++ bs) x h.1 c in (
      All-weaker (Contains (old ++ bs)) (Contains (fs ++ bs)) (λ x c. ⊎_elim
          (λ front. Contains-append_left fs bs x (All-contains (Contains fs) old x same.0 front))
          (λ back. Contains-append_right fs bs x back)
          (Contains-append_cases old bs x c)) ks h.0,
      All-append (Contains ks) fs bs
          (All-weaker (Contains old) (Contains ks) (λ x c. among x (Contains-append_left old bs x c)) fs same.1)
          (All-weaker (Contains bs) (Contains ks) (λ x c. among x (Contains-append_right old bs x c)) bs (All-contains_itself bs)),
    )
