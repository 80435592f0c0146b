-- A range on the line has just the atoms of its item.
use Rattle.std.specs.Prelude.{◌≡◌, ℕ, ◌+◌, ◌*◌, ◌^◌, ◌<◌, ◌≤◌, Bool, true, false, ◌&&◌, ◌||◌, ◌==◌, List, [], ◌∷◌, map, refl, Option, Some, None, is_some}
use Rattle.std.specs.Str.{bytes_eq}
use Rattle.std.specs.Option.{unwrap_or}
use Rattle.std.proofs.Common.{sym, ap, ◌∙◌, subst, arith, inl, inr, lit<}
use Rattle.world_parts.proofs.Collision.{same_atom-eq}
use Rattle.world_parts.proofs.Sharing.{holds_true}
use Rattle.world_parts.specs.Cutting.{is_narrow_use}
use Rattle.std.proofs.lemmas.Bool.{and_parts, cases_Bool, cases_order, cases_eq, eqb-true, false_from_ne_true}
use Rattle.std.proofs.lemmas.Bool.Decides.{nat_tests}
use Rattle.std.proofs.lemmas.Slice.Eq.{bytes_eq-Decides}
use Rattle.world_parts.specs.Items.{Atom, chain_flag, ring_order, slot_at, descriptor_at, description_at, position_of, size_of, byte_at, name_at, names_in, buffer_size, buffer_byte, Item, one, file_bytes, buffer_bytes, all_descriptors, Use, Footprint, member_of, same_atom, has_atom, writes_atom}
use Rattle.use_line.specs.Spans.{within, covers, used_by, written_by}
use Rattle.foot_waits.specs.Names.{AreApart, name_key, number_at}
use Rattle.foot_waits.specs.Rule.{is_of_descriptors}
use Rattle.foot_waits.specs.Spots.{AllFit, AtomFits, ItemFits, Numbers, has_number, high_in, inner_of, low_in, place_of, row_in, row_of, sort_in, sort_of, span_for, spot, spot_at}
use Rattle.foot_waits.proofs.Numbering.{key_apart}
use Rattle.foot_waits.proofs.Parts.{no_member}

-- rows apart
in_rows : (a b low high place : ℕ) → place < 2 ^ 64 → high ≤ 2 ^ 64 → within (a * 2 ^ 64 + low) (a * 2 ^ 64 + high) (b * 2 ^ 64 + place) ≡ (a == b && within low high place)
in_rows a b low high place p h = elim (cases_order a b) [
  | inl same ↦ grind (arith, nat_tests)
  | inr rest ↦ elim rest [
    | inl less₁ ↦ grind (arith, nat_tests)
    | inr more ↦ grind (arith, nat_tests)
  ]
]

same_row : (s r q k : ℕ) → s < 16 → q < 16 → (r * 16 + s == k * 16 + q) ≡ (s == q && r == k)
same_row s r q k a b = grind (arith, nat_tests)

in_spots : (s r q k low high place : ℕ) → s < 16 → q < 16 → place < 2 ^ 64 → high ≤ 2 ^ 64 → within (spot s r low) (spot s r high) (spot q k place) ≡ ((s == q && r == k) && within low high place)
in_spots s r q k low high place a b p h = in_rows (r * 16 + s) (k * 16 + q) low high place p h ∙ ap (λ c. c && within low high place) (same_row s r q k a b)

one_place : (p q : ℕ) → within p (p + 1) q ≡ (p == q)
one_place p q = grind (arith, nat_tests)

same_inner : (r b q c : ℕ) → b < 2 ^ 16 → c < 2 ^ 16 → (256 + (r * 2 ^ 16 + b) == 256 + (q * 2 ^ 16 + c)) ≡ (r == q && b == c)
same_inner r b q c x y = grind (arith, nat_tests)

same_node : (i j : ℕ) → (256 + i == 256 + j) ≡ (i == j)
same_node i j = grind (arith, nat_tests)

-- there are few sorts
sort_small : (a : Atom) → sort_of a < 16
sort_small (chain_flag c) = lit< tt
sort_small (ring_order c) = lit< tt
sort_small (slot_at r n) = lit< tt
sort_small (descriptor_at n) = lit< tt
sort_small (description_at n) = lit< tt
sort_small (position_of n) = lit< tt
sort_small (size_of n) = lit< tt
sort_small (byte_at i p) = lit< tt
sort_small (name_at d n) = lit< tt
sort_small (names_in n) = lit< tt
sort_small (buffer_size r b) = lit< tt
sort_small (buffer_byte r b p) = lit< tt

sort_in_small : (x : Item) → sort_in x < 16
sort_in_small (one a) = sort_small a
sort_in_small (file_bytes i low high) = lit< tt
sort_in_small (buffer_bytes r b low high) = lit< tt
sort_in_small all_descriptors = lit< tt
sort_in_small _ = lit< tt

module _ (t : Numbers) (apart : AreApart t) where
  -- two names have one number just where they are one
  names_is : (d e : ℕ) (n m : List ℕ) → has_number t (name_at d n) ≡ true → has_number t (name_at e m) ≡ true → (place_of t (name_at d n) == place_of t (name_at e m)) ≡ (d == e && bytes_eq n m)
  names_is d e n m a b = by (number_at t (name_key d n)) (number_at t (name_key e m)) refl refl a b
    where
      back : (d ≡ e) × (n ≡ m) → (d == e && bytes_eq n m) ≡ true
      back s = let one₁ : bytes_eq n m ≡ true = (bytes_eq-Decides n m).1 s.1 in let two : (d == e) ≡ true = grind (arith, nat_tests, s.0) in rw (two, one₁) refl

      on : (d == e && bytes_eq n m) ≡ true → name_key d n ≡ name_key e m
      on h =
          let p = and_parts (d == e) (bytes_eq n m) h in
          let one₁ : d ≡ e = eqb-true d e p.0 in
          let two : n ≡ m = (bytes_eq-Decides n m).0 p.1 in
          λ i. name_key (one₁ i) (two i)

      by : (o p : Option ℕ) → number_at t (name_key d n) ≡ o → number_at t (name_key e m) ≡ p → is_some o ≡ true → is_some p ≡ true → (unwrap_or o 0 == unwrap_or p 0) ≡ (d == e && bytes_eq n m)
      by None p x y u v = absurd cc
      by (Some i) None x y u v = absurd cc
      by (Some i) (Some j) x y u v = elim (cases_eq i j) [
        | inl same ↦
            let yes₁ : (i == j) ≡ true = grind (arith, nat_tests) in
            yes₁ ∙ sym (back (key_apart d e n m (apart (name_key d n) (name_key e m) j (x ∙ ap Some same) y)))
        | inr other ↦
            let no₁ : (i == j) ≡ false = grind (arith, nat_tests) in
            no₁ ∙ sym (false_from_ne_true (d == e && bytes_eq n m) (λ h. let one₁ : Some i ≡ Some j = sym x ∙ ap (number_at t) (on h) ∙ y in let is : i ≡ j = cc in other is))
      ]

  -- the atoms of an item lie in its row, and among its places
  abbrev Lies : Item → Atom → Type 0
  Lies x a = ((sort_in x == sort_of a && row_in x == row_of a) && within (low_in t x) (high_in t x) (place_of t a)) ≡ member_of x a

  one_is : (b a : Atom) → ItemFits t (one b) → AtomFits t a → Lies (one b) a
  one_is (chain_flag c) (chain_flag d) f g = one_place c d
  one_is (ring_order c) (ring_order d) f g = one_place c d
  one_is (slot_at r n) (slot_at q m) f g = ap (λ z. r == q && z) (one_place n m)
  one_is (descriptor_at n) (descriptor_at m) f g = one_place n m
  one_is (description_at n) (description_at m) f g = one_place n m
  one_is (position_of n) (position_of m) f g = one_place n m
  one_is (size_of n) (size_of m) f g = one_place n m
  one_is (byte_at i p) (byte_at j q) f g = (λ k. same_node i j k && one_place p q k)
  one_is (name_at d n) (name_at e m) f g = one_place (place_of t (name_at d n)) (place_of t (name_at e m)) ∙ names_is d e n m f.known g.known
  one_is (names_in n) (names_in m) f g = one_place n m
  one_is (buffer_size r b) (buffer_size q c) f g = ap (λ z. r == q && z) (one_place b c)
  one_is (buffer_byte r b p) (buffer_byte q c o) f g = (λ i. same_inner r b q c f.inner g.inner i && one_place p o i)
  one_is _ _ f g = refl

  member_is : (x : Item) (a : Atom) → ItemFits t x → AtomFits t a → Lies x a
  member_is (one b) a f g = one_is b a f g
  member_is (file_bytes i low high) (byte_at j p) f g = ap (λ z. z && within low high p) (same_node i j)
  member_is (file_bytes i low high) _ f g = refl
  member_is (buffer_bytes r b low high) (buffer_byte q c p) f g = ap (λ z. z && within low high p) (same_inner r b q c f.inner g.inner)
  member_is (buffer_bytes r b low high) _ f g = refl
  member_is all_descriptors (descriptor_at n) f g = let small : n < 2 ^ 64 = g.place in grind (arith, nat_tests)
  member_is all_descriptors _ f g = refl
  member_is _ a f g = absurd (let no₁ : false ≡ true = f.narrow in cc)

  none_within : (b : ℕ) → within 0 0 b ≡ false
  none_within b = grind (arith, nat_tests)

  pub covers_is : (u : Use) (a : Atom) → ItemFits t u.item → AtomFits t a → covers (span_for t u) (spot_at t a) ≡ member_of u.item a
  covers_is u a f g = elim (cases_Bool (is_of_descriptors u.item)) [
    | inl d ↦ rw d (none_within (spot_at t a) ∙ sym (no_member u.item a d g.other))
    | inr o ↦ rw o (in_spots (sort_in u.item) (row_in u.item) (sort_of a) (row_of a) (low_in t u.item) (high_in t u.item) (place_of t a) (sort_in_small u.item) (sort_small a) g.place f.high ∙ member_is u.item a f g)
  ]

  pub used_is : (f : Footprint) (a : Atom) → AllFit t f → AtomFits t a → used_by (map (span_for t) f) (spot_at t a) ≡ has_atom f a
  used_is [] a h g = refl
  used_is (u ∷ f) a h g = λ i. covers_is u a h.0.0 g i || used_is f a h.1 g i

  pub written_is : (f : Footprint) (a : Atom) → AllFit t f → AtomFits t a → written_by (map (span_for t) f) (spot_at t a) ≡ writes_atom f a
  written_is [] a h g = refl
  written_is (u ∷ f) a h g = λ i. (u.written && covers_is u a h.0.0 g i) || written_is f a h.1 g i

  -- the atoms of an item fit that is not all descriptors
  small_place : (i low high p : ℕ) (c : Bool) → (c && within low high p) ≡ true → high ≤ 2 ^ 64 → p < 2 ^ 64
  small_place i low high p c h le = let w = and_parts c (within low high p) h in let e : within low high p ≡ true = w.1 in grind (arith, nat_tests)

  pub atom_fits : (x : Item) (a : Atom) → ItemFits t x → is_narrow_use (record { item = x; written = true }) ≡ true → member_of x a ≡ true → is_of_descriptors (one a) ≡ false → AtomFits t a
  atom_fits (one b) a f n h o =
      let same : b ≡ a = same_atom-eq b a (holds_true (same_atom b a) h) in
      let high : place_of t b + 1 ≤ 2 ^ 64 = f.high in
      record {
        row = subst (λ c. row_of c < 2 ^ 49) same f.row;
        inner = subst (λ c. inner_of c < 2 ^ 16) same f.inner;
        place = subst (λ c. place_of t c < 2 ^ 64) same (omega (arith, high));
        known = subst (λ c. has_number t c ≡ true) same f.known;
        other = o;
      }
  atom_fits (file_bytes i low high) (byte_at j p) f n h o =
      let w = and_parts (i == j) (within low high p) h in
      let same : i ≡ j = eqb-true i j w.0 in
      record { row = subst (λ r. 256 + r < 2 ^ 49) same f.row; inner = lit< tt; place = small_place i low high p (i == j) h f.high; known = refl; other = o }
  atom_fits (file_bytes i low high) _ f n h o = absurd cc
  atom_fits (buffer_bytes r b low high) (buffer_byte q c p) f n h o =
      let w = and_parts (r == q && b == c) (within low high p) h in
      let v = and_parts (r == q) (b == c) w.0 in
      let one₁ : r ≡ q = eqb-true r q v.0 in
      let two : b ≡ c = eqb-true b c v.1 in
      record {
        row = subst (λ x. 256 + (x * 2 ^ 16 + c) < 2 ^ 49) one₁ (subst (λ y. 256 + (r * 2 ^ 16 + y) < 2 ^ 49) two f.row);
        inner = subst (λ y. y < 2 ^ 16) two f.inner;
        place = small_place r low high p (r == q && b == c) h f.high;
        known = refl;
        other = o;
      }
  atom_fits (buffer_bytes r b low high) _ f n h o = absurd cc
  atom_fits all_descriptors a f n h o = absurd cc
  atom_fits _ a f n h o = absurd (let no₁ : false ≡ true = f.narrow in cc)
