-- The laws on may-access sets, from what the rows of each operation owe.
use Rattle.std.proofs.Common.{◌≡◌, ℕ, true, false, if◌then◌else◌, List, inl, inr, refl, sym, ◌∙◌, subst, arith}
use Rattle.std.proofs.lemmas.Bool.{cases_Bool, cond_both}
use Rattle.interleaving.specs.System.{System, AgreeOn, Holds, DifferOnlyBy, Thinner}
use Rattle.interleaving.specs.Rows.{Rows, RowLaws, RowsForesee, runs, running_reach, reach_by_rows, foot_by_rows, known_by_rows, Ready}

module _ (m : System) (r : Rows m) (laws : RowLaws m r) where
  open m use {World, Footprint, Atom}
  open r use {look, sees, canceled, bare, row, accepted, wide, waits, unresolved, disturbed, Bounded}

  holds_refl : (f : Footprint) → Holds m f f
  holds_refl f = ((λ a t. t), (λ a w. w))

  holds_trans : (f g h : Footprint) → Holds m f g → Holds m g h → Holds m f h
  holds_trans f g h p q = ((λ a t. p.0 a (q.0 a t)), (λ a w. p.1 a (q.1 a w)))

  wide_holds_row : (j : ℕ) (s : World) (rs : List Footprint) → Bounded j (look j s) → Holds m (wide j s rs) (row j s)
  wide_holds_row j s rs b = holds_trans (wide j s rs) (accepted j s rs) (row j s) (laws.wide_holds_accepted j s rs b) (laws.accepted_holds_row j s rs)

  -- what holds of each form of the may-access set of a place that runs holds of that may-access set
  by_form : (P : Footprint → Type 0) (j : ℕ) (s : World) (rs : List Footprint) → (unresolved (look j s) rs ≡ true → P (wide j s rs))
      → (unresolved (look j s) rs ≡ false → disturbed (row j s) rs ≡ true → P (accepted j s rs))
      → (unresolved (look j s) rs ≡ false → disturbed (row j s) rs ≡ false → P (row j s)) → P (running_reach m r j s rs)
  by_form P j s rs vague taken own =
      cond_both (unresolved (look j s) rs) (wide j s rs) (if disturbed (row j s) rs then accepted j s rs else row j s) P vague
      (λ u. cond_both (disturbed (row j s) rs) (accepted j s rs) (row j s) P (taken u) (own u))

  runs-free : (j : ℕ) (s : World) (rs : List Footprint) → canceled j s ≡ false → runs m r j s rs ≡ true
  runs-free j s rs e = grind arith

  runs-same : (j : ℕ) (s t : World) (rs : List Footprint) → canceled j t ≡ canceled j s → runs m r j t rs ≡ runs m r j s rs
  runs-same j s t rs e = rw e

  runs-thin : (j : ℕ) (t : World) (rs thin : List Footprint) → Thinner m thin rs → runs m r j t thin ≡ true → runs m r j t rs ≡ true
  runs-thin j t rs thin thinner e = grind (arith, laws.waits_thin j rs thin thinner)

  -- worlds that differ only by the may-access sets
  module _ (j : ℕ) (s t : World) (rs : List Footprint) (fs : Ready m r j s) (ft : Ready m r j t) (known : known_by_rows m r j t rs)
      (differ : DifferOnlyBy m rs s t) where
    -- the place runs in both or waits for one of the may-access sets
    runs_later : runs m r j t rs ≡ runs m r j s rs
    runs_later = elim (cases_Bool (waits j rs)) [ inl w ↦ rw w | inr w ↦ runs-same j s t rs (laws.waits_no j s t rs w differ) ]

    look_later : unresolved (look j s) rs ≡ false → look j t ≡ look j s
    look_later u = laws.look_same j s t (λ a h. differ a (laws.unresolved_no (look j s) rs a u h))

    row_later : disturbed (row j s) rs ≡ false → row j t ≡ row j s
    row_later d = laws.row_same j s t fs ft (λ a h. differ a (laws.disturbed_no (row j s) rs a d h))

    -- the form of a running may-access set is told in the other world
    by_later : (P : Footprint → Type 0) → runs m r j s rs ≡ true → P (wide j t rs) → (unresolved (look j s) rs ≡ false → P (accepted j t rs))
        → (unresolved (look j s) rs ≡ false → disturbed (row j s) rs ≡ false → P (row j t)) → P (reach_by_rows m r j s rs)
    by_later P e vague taken own = rw e (by_form P j s rs (λ u. subst P (laws.wide_same j s t rs differ) vague)
        (λ u d. subst P (laws.accepted_same j s t rs (look_later u) differ) (taken u)) (λ u d. subst P (row_later d) (own u d)))

    -- a running may-access set holds the row as running in the other world
    holds_row : runs m r j s rs ≡ true → Holds m (reach_by_rows m r j s rs) (row j t)
    holds_row e = by_later (λ f. Holds m f (row j t)) e (wide_holds_row j t rs (known (runs_later ∙ e))) (λ u. laws.accepted_holds_row j t rs)
        (λ u d. holds_refl (row j t))

    -- every may-access set holds what every place has
    holds_bare : Holds m (reach_by_rows m r j s rs) (bare j)
    holds_bare = elim (cases_Bool (runs m r j s rs)) [
      | inl e ↦ holds_trans (reach_by_rows m r j s rs) (row j t) (bare j) (holds_row e) (laws.row_holds_bare j t)
      | inr e ↦ rw e (holds_refl (bare j))
    ]

    pub reach_holds_foot_lem : Holds m (reach_by_rows m r j s rs) (foot_by_rows m r j t)
    reach_holds_foot_lem = elim (cases_Bool (canceled j t)) [
      | inl c ↦ rw c holds_bare
      | inr c ↦ rw c (holds_row (sym runs_later ∙ runs-free j t rs c))
    ]

    reach_holds_thin : (thin : List Footprint) → Thinner m thin rs → Holds m (reach_by_rows m r j s rs) (reach_by_rows m r j t thin)
    reach_holds_thin thin thinner = elim (cases_Bool (runs m r j t thin)) [
      | inl e ↦
          let runs_t = runs-thin j t rs thin thinner e in
          let wide_taken = laws.wide_holds_accepted j t rs (known runs_t) in
          let taken_thin = laws.accepted_thin j t rs thin thinner in
          rw e (by_later (λ f. Holds m f (running_reach m r j t thin)) (sym runs_later ∙ runs_t)
          (by_form (Holds m (wide j t rs)) j t thin (λ x. laws.wide_thin j t rs thin thinner)
          (λ x y. holds_trans (wide j t rs) (accepted j t rs) (accepted j t thin) wide_taken taken_thin)
          (λ x y. wide_holds_row j t rs (known runs_t)))
          (λ u. by_form (Holds m (accepted j t rs)) j t thin (λ x. (cc (resolved u))) (λ x y. taken_thin) (λ x y. laws.accepted_holds_row j t rs))
          (λ u d. by_form (Holds m (row j t)) j t thin (λ x. (cc (resolved u))) (λ x y. (cc (calm d))) (λ x y. holds_refl (row j t))))
      | inr e ↦ rw e holds_bare
    ]
      where
        resolved : unresolved (look j s) rs ≡ false → unresolved (look j t) thin ≡ false
        resolved u = rw (look_later u) (laws.unresolved_thin (look j s) rs thin thinner u)

        calm : disturbed (row j s) rs ≡ false → disturbed (row j t) thin ≡ false
        calm d = rw (row_later d) (laws.disturbed_thin (row j s) rs thin thinner d)

  pub reach_holds_reach_lem : (j : ℕ) (s t : World) (rs thin : List Footprint) → Ready m r j s → Ready m r j t
      → known_by_rows m r j t rs → DifferOnlyBy m rs s t
      → Thinner m thin rs → Holds m (reach_by_rows m r j s rs) (reach_by_rows m r j t thin)
  reach_holds_reach_lem j s t rs thin fs ft kt differ = reach_holds_thin j s t rs fs ft kt differ thin

  module _ (j : ℕ) (s t : World) (rs : List Footprint) (fs : Ready m r j s) (ft : Ready m r j t) (known : known_by_rows m r j s rs)
      (agree : AgreeOn m (reach_by_rows m r j s rs) s t) where
    runs_told : runs m r j t rs ≡ runs m r j s rs
    runs_told = runs-same j s t rs (laws.canceled_same j s t (λ a h. agree a ((holds_bare j s s rs fs fs known (λ b none. refl)).0 a h)))

    agree_row : runs m r j s rs ≡ true → AgreeOn m (row j s) s t
    agree_row e a h = agree a ((holds_row j s s rs fs fs known (λ b none. refl) e).0 a h)

    look_told : runs m r j s rs ≡ true → look j t ≡ look j s
    look_told e = laws.look_same j s t (λ a h. agree_row e a (laws.look_in_row j s a h))

    row_told : runs m r j s rs ≡ true → row j t ≡ row j s
    row_told e = laws.row_same j s t fs ft (agree_row e)

    pub known_same_lem : known_by_rows m r j t rs
    known_same_lem et =
        let e : runs m r j s rs ≡ true = sym runs_told ∙ et in
        rw (look_told e) (known e)

    pub reach_same_lem : reach_by_rows m r j t rs ≡ reach_by_rows m r j s rs
    reach_same_lem = cond_both (runs m r j s rs) (running_reach m r j s rs) (bare j) (λ f. reach_by_rows m r j t rs ≡ f)
        (λ e. rw (runs_told ∙ e) (by_form (λ f. running_reach m r j t rs ≡ f) j s rs
        (λ u. rw (look_told e, u) (laws.wide_told j s t rs (agree_row e)))
        (λ u d. rw (look_told e, u, row_told e, d) (laws.accepted_told j s t rs (look_told e) (agree_row e)))
        (λ u d. rw (look_told e, u, row_told e, d))))
        (λ e. rw (runs_told ∙ e))

  pub known_thinner_lem : (j : ℕ) (s : World) (rs thin : List Footprint) → Thinner m thin rs → known_by_rows m r j s rs → known_by_rows m r j s thin
  known_thinner_lem j s rs thin thinner known e = known (runs-thin j s rs thin thinner e)

  pub rows_foresee_lem : RowsForesee m r
  rows_foresee_lem = record {
    reach_holds_foot = reach_holds_foot_lem;
    reach_holds_reach = reach_holds_reach_lem;
    reach_same = reach_same_lem;
    known_same = known_same_lem;
    known_thinner = known_thinner_lem;
  }
