-- What the line tells of ranges is the rule on atoms.
use Rattle.std.specs.Prelude.{◌≡◌, ℕ, zero, suc, ◌+◌, ◌-◌, ◌*◌, ◌^◌, ◌<◌, ◌≤◌, Bool, true, false, ◌&&◌, ◌||◌, ◌==◌, List, [], ◌∷◌, map, length, refl, Option, Some, None, slice_index_or}
use Rattle.std.proofs.Common.{sym, ap, ◌∙◌, subst, arith, inl, inr, lit<}
use Rattle.std.proofs.lemmas.Bool.{and_from, and_parts, cases_Bool, cases_eq, or_cases, or_left, or_right}
use Rattle.std.proofs.lemmas.Bool.Decides.{nat_tests}
use Rattle.interleaving.specs.Direct.{clash_on, IsDirect}
use Rattle.use_line.specs.declared.line.Span.{Span}
use Rattle.use_line.specs.Spans.{within, covers, used_by, written_by}
use Rattle.use_line.specs.Known.{IsToldOf, Keeps, WaitsIn}
use Rattle.use_line.proofs.Direct.{told_direct}
use Rattle.world_parts.specs.Items.{Atom, byte_at, buffer_byte, Item, one, file_bytes, buffer_bytes, all_descriptors, Use, Footprint, collide, member_of, same_atom, has_atom, writes_atom}
use Rattle.world_parts.specs.Cutting.{is_narrow_use}
use Rattle.world_parts.proofs.Collision.{same_atom_refl, true_of}
use Rattle.foot_waits.specs.Names.{AreApart}
use Rattle.foot_waits.specs.Spots.{AllFit, AtomFits, ItemFits, Numbers, high_in, low_in, place_of, row_in, row_of, sort_in, sort_of, no_span, span_for, spot, spot_at}
use Rattle.foot_waits.specs.Groups.{Grouped, KeepsGroups, meets, told_among}
use Rattle.foot_waits.specs.Rule.{IsFirstUse, UseWaits, WaitsBy, descriptor_uses, is_of_descriptors, single, use_at}
use Rattle.foot_waits.specs.Told.{IsFirst, Past, TellsBy}
use Rattle.foot_waits.proofs.Grouping.{group_told, told_group}
use Rattle.foot_waits.proofs.Parts.{collides_by, has_kept, has_of_kept, meet_atom, meet_from, other_atom, other_part, part_of_member, writes_kept, writes_of_kept}
use Rattle.foot_waits.proofs.Spots.{atom_fits, covers_is, used_is, written_is}

-- two kinds of clashes that are one up to a place
same_direct : (c d : ℕ → ℕ → Bool) (k j : ℕ) → ((x y : ℕ) → x ≤ k → y ≤ k → c x y ≡ d x y) → IsDirect c k j → IsDirect d k j
same_direct c d k j same h = record {
  earlier = h.earlier;
  clashes = sym (same k j (omega arith) (omega (arith, h.earlier))) ∙ h.clashes;
  none_between = λ i more less t. sym (same i j (omega (arith, less)) (omega (arith, h.earlier))) ∙ h.none_between i more less (same k i (omega arith) (omega (arith, less)) ∙ t);
}

place_in : (base low high b : ℕ) → within (base + low) (base + high) b ≡ true → (p : ℕ) × (base + p ≡ b) × (within low high p ≡ true) × (p < high)
place_in base low high b h =
    let from : base + low ≤ b = grind (arith, nat_tests) in
    let to : b < base + high = grind (arith, nat_tests) in
    (b - base, omega (arith, from), grind (arith, nat_tests), omega (arith, from, to))

item_atom : (t : Numbers) (x : Item) (b : ℕ) → is_of_descriptors x ≡ false → ItemFits t x → within (spot (sort_in x) (row_in x) (low_in t x)) (spot (sort_in x) (row_in x) (high_in t x)) b ≡ true
    → (a : Atom) × (spot_at t a ≡ b) × (member_of x a ≡ true) × AtomFits t a
item_atom t (one a) b o f h =
    let high : place_of t a + 1 ≤ 2 ^ 64 = f.high in
    let p = place_in ((row_of a * 16 + sort_of a) * 2 ^ 64) (place_of t a) (place_of t a + 1) b h in
    let w : within (place_of t a) (place_of t a + 1) p.0 ≡ true = p.2 in
    let same : p.0 ≡ place_of t a = grind (arith, nat_tests) in
    (a, ap (λ z. (row_of a * 16 + sort_of a) * 2 ^ 64 + z) (sym same) ∙ p.1, true_of (same_atom a a) (same_atom_refl a), record { row = f.row; inner = f.inner; place = omega (arith, high); known = f.known; other = o })
item_atom t (file_bytes i low high) b o f h =
    let p = place_in (((256 + i) * 16 + 7) * 2 ^ 64) low high b h in
    let me : (i == i) ≡ true = grind (arith, nat_tests) in
    let le : high ≤ 2 ^ 64 = f.high in
    (byte_at i p.0, p.1, and_from (i == i) (within low high p.0) me p.2, record { row = f.row; inner = lit< tt; place = omega (arith, p.3, le); known = refl; other = refl })
item_atom t (buffer_bytes r c low high) b o f h =
    let p = place_in (((256 + (r * 2 ^ 16 + c)) * 16 + 11) * 2 ^ 64) low high b h in
    let one₁ : (r == r) ≡ true = grind (arith, nat_tests) in
    let two : (c == c) ≡ true = grind (arith, nat_tests) in
    let le : high ≤ 2 ^ 64 = f.high in
    (buffer_byte r c p.0, p.1, and_from (r == r && c == c) (within low high p.0) (and_from (r == r) (c == c) one₁ two) p.2, record { row = f.row; inner = f.inner; place = omega (arith, p.3, le); known = refl; other = refl })
item_atom t all_descriptors b o f h = absurd cc
item_atom t _ b o f h = absurd (let no₁ : false ≡ true = f.narrow in cc)

-- the atom at a place of a range
atom_in : (t : Numbers) (u : Use) (b : ℕ) → ItemFits t u.item → is_narrow_use u ≡ true → covers (span_for t u) b ≡ true → (a : Atom) × (spot_at t a ≡ b) × (member_of u.item a ≡ true) × AtomFits t a
atom_in t u b f n h = elim (cases_Bool (is_of_descriptors u.item)) [
  | inl d ↦ absurd (let none : within 0 0 b ≡ true = rw d at h in grind (arith, nat_tests, none))
  | inr o ↦ item_atom t u.item b o f (rw o at h)
]

module _ (t : Numbers) (apart : AreApart t) (foot : ℕ → Footprint) (k : ℕ) (fit : (i : ℕ) → i ≤ k → AllFit t (foot i)) where
  abbrev all : ℕ → List Span
  all i = map (span_for t) (foot i)

  clash_is : (a : Atom) → AtomFits t a → (x y : ℕ) → x ≤ k → y ≤ k
      → clash_on (λ i. used_by (all i) (spot_at t a)) (λ i. written_by (all i) (spot_at t a)) x y ≡ clash_on (λ i. has_atom (foot i) a) (λ i. writes_atom (foot i) a) x y
  clash_is a g x y lx ly = λ i. (used_is t apart (foot x) a (fit x lx) g i && used_is t apart (foot y) a (fit y ly) g i) && (written_is t apart (foot x) a (fit x lx) g i || written_is t apart (foot y) a (fit y ly) g i)

  written_fits : (f : Footprint) (a : Atom) → AllFit t f → writes_atom f a ≡ true → is_of_descriptors (one a) ≡ false → AtomFits t a
  written_fits [] a h w o = absurd cc
  written_fits (u ∷ f) a h w o = elim (or_cases (u.written && member_of u.item a) (writes_atom f a) w) [
    | inl here ↦
        let p = and_parts u.written (member_of u.item a) here in
        let narrow : is_narrow_use (record { item = u.item; written = true }) ≡ true = subst (λ w. is_narrow_use (record { item = u.item; written = w }) ≡ true) p.0 h.0.1 in
        atom_fits t apart u.item a h.0.0 narrow p.1 o
    | inr later ↦ written_fits f a h.1 later o
  ]

  -- an atom by which a place waits is written by one of both, so that it fits
  waits_fits : (a : Atom) (j : ℕ) → is_of_descriptors (one a) ≡ false → WaitsBy foot (single a) k j → AtomFits t a
  waits_fits a j o w =
      let p = and_parts (has_atom (foot k) a && has_atom (foot j) a) (writes_atom (foot k) a || writes_atom (foot j) a) w.clashes in
      elim (or_cases (writes_atom (foot k) a) (writes_atom (foot j) a) p.1) [
        | inl mine ↦ written_fits (foot k) a (fit k (omega arith)) mine o
        | inr other ↦ written_fits (foot j) a (fit j (omega (arith, w.earlier))) other o
      ]

  module _ (u : Use) (plain : is_of_descriptors u.item ≡ false) (f : ItemFits t u.item) (n : is_narrow_use u ≡ true) (j : ℕ) where
    abbrev InLine : Type 0
    InLine = let s = span_for t u in WaitsIn all k s.written s.low s.high j

    pub use_from_line : InLine → UseWaits foot k u j
    use_from_line w =
        let b : ℕ = w.0 in
        let at = atom_in t u b f n w.1 in
        let a : Atom = at.0 in
        let g = at.3 in
        let direct : IsDirect (clash_on (λ i. used_by (all i) (spot_at t a)) (λ i. written_by (all i) (spot_at t a))) k j = subst (λ x. IsDirect (clash_on (λ i. used_by (all i) x) (λ i. written_by (all i) x)) k j) (sym at.1) w.2 in
        let single_waits : WaitsBy foot (single a) k j = same_direct _ _ k j (clash_is a g) direct in
        let parts = and_parts (has_atom (foot k) a && has_atom (foot j) a) (writes_atom (foot k) a || writes_atom (foot j) a) single_waits.clashes in (
          a,
          at.2,
          (and_parts (has_atom (foot k) a) (has_atom (foot j) a) parts.0).1,
          (elim w.3 [
            | inl mine ↦ inl mine
            | inr other ↦ inr (sym (written_is t apart (foot j) a (fit j (omega (arith, w.2.earlier))) g) ∙ subst (λ x. written_by (all j) x ≡ true) (sym at.1) other)
          ]),
          subst (λ p. WaitsBy foot p k j) (sym (other_part a g.other)) single_waits,
        )

    pub use_to_line : UseWaits foot k u j → InLine
    use_to_line w =
        let a : Atom = w.0 in
        let o = other_atom u.item a plain w.1 in
        let waits : WaitsBy foot (single a) k j = subst (λ p. WaitsBy foot p k j) (other_part a o) w.4 in
        let g = waits_fits a j o waits in (
          spot_at t a,
          covers_is t apart u a f g ∙ w.1,
          same_direct _ _ k j (λ x y lx ly. sym (clash_is a g x y lx ly)) waits,
          (elim w.3 [
            | inl mine ↦ inl mine
            | inr other ↦ inr (written_is t apart (foot j) a (fit j (omega (arith, waits.earlier))) g ∙ other)
          ]),
        )

-- the range of a use is among those of its access set
span_at : (t : Numbers) (f : Footprint) (i : ℕ) → i < length f → slice_index_or (map (span_for t) f) i no_span ≡ span_for t (use_at f i)
span_at t [] i lt = absurd (omega arith)
span_at t (u ∷ f) zero lt = refl
span_at t (u ∷ f) (suc i) lt = span_at t f i (omega arith)

fits_at : (t : Numbers) (f : Footprint) (i : ℕ) → i < length f → AllFit t f → ItemFits t (use_at f i).item × (is_narrow_use (use_at f i) ≡ true)
fits_at t [] i lt h = absurd (omega arith)
fits_at t (u ∷ f) zero lt h = h.0
fits_at t (u ∷ f) (suc i) lt h = fits_at t f i (omega arith) h.1

covers_used : (spans : List Span) (i b : ℕ) → i < length spans → covers (slice_index_or spans i no_span) b ≡ true
    → (used_by spans b ≡ true) × ((slice_index_or spans i no_span).written ≡ true → written_by spans b ≡ true)
covers_used [] i b lt h = absurd (omega arith)
covers_used (s ∷ spans) zero b lt h = (or_left (covers s b) (used_by spans b) h, λ w. or_left (s.written && covers s b) (written_by spans b) (and_from s.written (covers s b) w h))
covers_used (s ∷ spans) (suc i) b lt h =
    let later = covers_used spans i b (omega arith) h in
    (or_right (covers s b) (used_by spans b) later.0, λ w. or_right (s.written && covers s b) (written_by spans b) (later.1 w))

length_map : {A B : Type 0} (f : A → B) (xs : List A) → length (map f xs) ≡ length xs
length_map f [] = refl
length_map f (x ∷ xs) = ap suc (length_map f xs)

member_used : (f : Footprint) (i : ℕ) (a : Atom) → i < length f → member_of (use_at f i).item a ≡ true → (has_atom f a ≡ true) × ((use_at f i).written ≡ true → writes_atom f a ≡ true)
member_used [] i a lt h = absurd (omega arith)
member_used (u ∷ f) zero a lt h = (or_left (member_of u.item a) (has_atom f a) h, λ w. or_left (u.written && member_of u.item a) (writes_atom f a) (and_from u.written (member_of u.item a) w h))
member_used (u ∷ f) (suc i) a lt h =
    let later = member_used f i a (omega arith) h in
    (or_right (member_of u.item a) (has_atom f a) later.0, λ w. or_right (u.written && member_of u.item a) (writes_atom f a) (later.1 w))

-- a use of descriptors
module _ (foot : ℕ → Footprint) (k : ℕ) (gs : List Grouped) (keep : KeepsGroups gs foot k) (i : ℕ) (lt : i < length (foot k)) where
  abbrev used : Use
  used = use_at (foot k) i

  module _ (of : is_of_descriptors used.item ≡ true) where
    meets_own : (f : Footprint) → meets used f ≡ true → collide (descriptor_uses (foot k)) f ≡ true
    meets_own f m =
        let n = meet_atom used f m in
        let a : Atom = n.0 in
        let part = part_of_member used.item a of n.1 in
        let mine = member_used (foot k) i a lt n.1 in
        collides_by (descriptor_uses (foot k)) f a (
          has_kept (foot k) a part ∙ mine.0,
          n.2,
          (elim n.3 [
            | inl w ↦ or_left (writes_atom (descriptor_uses (foot k)) a) (writes_atom f a) (writes_kept (foot k) a part ∙ mine.1 w)
            | inr w ↦ or_right (writes_atom (descriptor_uses (foot k)) a) (writes_atom f a) w
          ]),
        )

    pub use_from_groups : (j : ℕ) → told_among gs (descriptor_uses (foot k)) used j gs ≡ true → UseWaits foot k used j
    use_from_groups j told =
        let g = told_group foot k gs keep used meets_own j told in
        let n = meet_atom used (descriptor_uses (foot j)) g.0 in
        let a : Atom = n.0 in
        let part = part_of_member used.item a of n.1 in (
          a,
          n.1,
          has_of_kept (foot j) a n.2,
          (elim n.3 [ inl w ↦ inl w | inr w ↦ inr (writes_of_kept (foot j) a w) ]),
          subst (λ p. WaitsBy foot p k j) (sym part) g.1,
        )

    pub use_to_groups : (j : ℕ) → UseWaits foot k used j → told_among gs (descriptor_uses (foot k)) used j gs ≡ true
    use_to_groups j w =
        let a : Atom = w.0 in
        let part = part_of_member used.item a of w.1 in
        let meet = meet_from used (descriptor_uses (foot j)) a w.1 (has_kept (foot j) a part ∙ w.2) (elim w.3 [ inl x ↦ inl x | inr x ↦ inr (writes_kept (foot j) a part ∙ x) ]) in
        group_told foot k gs keep used meets_own j meet (subst (λ p. WaitsBy foot p k j) part w.4)

module _ (t : Numbers) (apart : AreApart t) (foot : ℕ → Footprint) (k : ℕ) (fit : (i : ℕ) → i ≤ k → AllFit t (foot i)) (past : Past) (keep : Keeps past.0 (λ i. map (span_for t) (foot i)) k) (groups : KeepsGroups past.1 foot k) where
  abbrev spans_there : ℕ → List Span
  spans_there i = map (span_for t) (foot i)

  abbrev Told : ℕ → ℕ → Type 0
  Told i j = TellsBy past (foot k) (spans_there k) i j

  -- by a use of descriptors the line tells none
  no_line : (i j : ℕ) → i < length (foot k) → is_of_descriptors (use_at (foot k) i).item ≡ true
      → (let s = slice_index_or (spans_there k) i no_span in IsToldOf past.0 (spans_there k) s.written s.low s.high j) → true ≡ false
  no_line i j lt d told =
      let is = span_at t (foot k) i lt in
      let b : ℕ = told.0 in
      let there = subst (λ (s : Span). within s.low s.high b ≡ true) is told.1 in
      let none : within 0 0 b ≡ true = rw d at there in
      grind (arith, nat_tests, none)

  line_use : (i j : ℕ) → i < length (foot k) → is_of_descriptors (use_at (foot k) i).item ≡ false → (Told i j → UseWaits foot k (use_at (foot k) i) j) × (UseWaits foot k (use_at (foot k) i) j → Told i j)
  line_use i j lt plain =
      let u = use_at (foot k) i in
      let s = slice_index_or (spans_there k) i no_span in
      let at = fits_at t (foot k) i lt (fit k (omega arith)) in
      let many : i < length (spans_there k) = rw (length_map (span_for t) (foot k)) lt in
      let both = told_direct past.0 spans_there k keep s.written s.low s.high j (λ b w. covers_used (spans_there k) i b many w) in
      let is : s ≡ span_for t u = span_at t (foot k) i lt in (
        (λ told. elim told [
          | inl line ↦ use_from_line t apart foot k fit u plain at.0 at.1 j (subst (λ (x : Span). WaitsIn spans_there k x.written x.low x.high j) is (both.0 line))
          | inr of ↦ absurd (let no₁ : true ≡ false = sym of.0 ∙ plain in cc)
        ]),
        (λ waits. inl (both.1 (subst (λ (x : Span). WaitsIn spans_there k x.written x.low x.high j) (sym is) (use_to_line t apart foot k fit u plain at.0 at.1 j waits)))),
      )

  told_use : (i j : ℕ) → i < length (foot k) → (Told i j → UseWaits foot k (use_at (foot k) i) j) × (UseWaits foot k (use_at (foot k) i) j → Told i j)
  told_use i j lt = elim (cases_Bool (is_of_descriptors (use_at (foot k) i).item)) [
    | inr plain ↦ line_use i j lt plain
    | inl d ↦ (
      (λ told. elim told [
        | inl line ↦ absurd (let no₁ = no_line i j lt d line in cc)
        | inr of ↦ use_from_groups foot k past.1 groups i lt d j of.1
      ]),
      (λ waits. inr (d, use_to_groups foot k past.1 groups i lt d j waits)),
    )
  ]

  pub first_use : (j : ℕ) (o : Option ℕ) → IsFirst past (foot k) (spans_there k) (length (spans_there k)) j o → IsFirstUse foot k j o
  first_use j None f = λ i lt waits. f i (rw (length_map (span_for t) (foot k)) lt) ((told_use i j lt).1 waits)
  first_use j (Some i) f =
      let lt : i < length (foot k) = rw (length_map (span_for t) (foot k)) at f.0 in
      (lt, (told_use i j lt).0 f.1, λ h less₁ waits. f.2 h less₁ ((told_use h j (omega (arith, less₁, lt))).1 waits))

pub first_at : (t : Numbers) (apart : AreApart t) (foot : ℕ → Footprint) (k : ℕ) (f : Footprint) (past : Past) (spans : List Span) (j : ℕ) (o : Option ℕ)
    → foot k ≡ f → Keeps past.0 (λ i. map (span_for t) (foot i)) k → KeepsGroups past.1 foot k → ((i : ℕ) → i < k → AllFit t (foot i)) → AllFit t f → spans ≡ map (span_for t) f
    → IsFirst past f spans (length spans) j o → IsFirstUse foot k j o
first_at t apart foot k f past spans j o is keep groups fit mine are first =
    let here : AllFit t (foot k) = subst (λ g. AllFit t g) (sym is) mine in
    let all_fit : (i : ℕ) → i ≤ k → AllFit t (foot i) = λ i le. elim (cases_eq i k) [ inl e ↦ subst (λ n. AllFit t (foot n)) (sym e) here | inr ne ↦ fit i (omega (arith, le, ne)) ] in
    let moved : IsFirst past (foot k) spans (length spans) j o = subst (λ g. IsFirst past g spans (length spans) j o) (sym is) first in
    let there : IsFirst past (foot k) (map (span_for t) (foot k)) (length (map (span_for t) (foot k))) j o = subst (λ (ss : List Span). IsFirst past (foot k) ss (length ss) j o) (are ∙ ap (λ g. map (span_for t) g) (sym is)) moved in
    first_use t apart foot k all_fit past keep groups j o there
