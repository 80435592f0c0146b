-- What pieces are left behind bytes without a long run, and behind a long run.
use Rattle.std.proofs.Common.{◌≡◌, ◌≢◌, ℕ, zero, suc, ◌+◌, ◌-◌, ◌<◌, ◌≤◌, true, false, List, [], ◌++◌, length, take, drop, get_or, refl, sym, ap, ◌∙◌, subst, inl, inr, append-nil, arith}
use Rattle.std.specs.Prelude.{nat_le}
use Rattle.std.proofs.lemmas.Bool.{cases_eq, cases_lt, eq-eqb, ne_eqb}
use Rattle.std.proofs.lemmas.List.{drop_all, length-drop}
use Rattle.std.proofs.Math.Seq.{take-length}
use Rattle.text_forms.specs.Strings.{ended, pieces, plain_pieces}
use Rattle.trace_text.proofs.Slices.{between, between_len, front_is, joined, none_is, one_is}
use Rattle.trace_text.proofs.Turns.{turn_long, turn_same, turn_short}

few : (xs : List ℕ) (run i : ℕ) → i ≤ length xs → i - run < 16 → nat_le 16 (length (between run i xs)) ≡ false
few xs run i le h = ap (nat_le 16) (between_len xs run i le) ∙ grind (arith, h)

many : (xs : List ℕ) (run i : ℕ) → i ≤ length xs → 16 ≤ i - run → nat_le 16 (length (between run i xs)) ≡ true
many xs run i le h = ap (nat_le 16) (between_len xs run i le) ∙ search (arith, h)

-- the rest of a list
to_end : (xs : List ℕ) (start e : ℕ) → e ≡ length xs → between start e xs ≡ drop start xs
to_end xs start e at_end =
    let n : e - start ≡ length (drop start xs) = omega (arith, at_end, length-drop start xs) in
    ap (λ (m : ℕ). take m (drop start xs)) n ∙ take-length (drop start xs)

-- bytes that are as the first of a run
abbrev pub Alike : List ℕ → ℕ → ℕ → Type 0
Alike xs run e = (k : ℕ) → run ≤ k → k < e → get_or xs k 0 ≡ get_or xs run 0

-- more of them
pub longer : (xs : List ℕ) (run e more : ℕ) → run < e → Alike xs run e → get_or xs e 0 ≡ get_or xs run 0
    → ((k : ℕ) → k < more → get_or xs (e + k) 0 ≡ get_or xs e 0) → Alike xs run (e + more)
longer xs run e more lt alike here next =
    λ k from to. elim (cases_lt k e) [
      | inl early ↦ alike k from early
      | inr late ↦
          let at : k ≡ e + (k - e) = omega arith in
          ap (λ (j : ℕ). get_or xs j 0) at ∙ next (k - e) (omega arith) ∙ here
    ]

module _ (before xs text whole : List ℕ) (start : ℕ) where
  -- what is left where a run is open from one place to another
  abbrev Open : ℕ → ℕ → Type 0
  Open run i = text ++ pieces before (between start run xs) (between run i xs) (drop i xs) ≡ whole

  -- and where none is
  abbrev pub Clear : ℕ → Type 0
  Clear run = text ++ pieces before (between start run xs) [] (drop run xs) ≡ whole

  nothing : (run : ℕ) → Clear run → Open run run
  nothing run h = ap (λ (l : List ℕ). text ++ pieces before (between start run xs) l (drop run xs)) (none_is xs run) ∙ h

  begins : (run : ℕ) → run < length xs → Clear run → Open run (run + 1)
  begins run lt h = turn_same before xs text whole start run run (omega arith) lt (eq-eqb (get_or xs run 0) (get_or xs run 0) refl) (nothing run h)

  pub clear : (run : ℕ) → run < length xs → Open run (run + 1) → Clear run
  clear run lt h =
      ap (λ (l : List ℕ). text ++ pieces before (between start run xs) [] l) (front_is xs run lt)
      ∙ ap (λ (l : List ℕ). text ++ pieces before (between start run xs) l (drop (run + 1) xs)) (sym (one_is xs run lt))
      ∙ h

  along : (n run i e : ℕ) → i + n ≡ e → run ≤ i → e ≤ length xs → Alike xs run e → Open run i → Open run e
  along zero run i e is le within alike h =
      let here : i ≡ e = omega (arith, is) in
      subst (λ (j : ℕ). Open run j) here h
  along (suc n) run i e is le within alike h =
      along n run (i + 1) e (omega (arith, is)) (omega (arith, le)) within alike
      (turn_same before xs text whole start run i le (omega (arith, is, within)) (eq-eqb (get_or xs i 0) (get_or xs run 0) (alike i le (omega (arith, is)))) h)

  pub reaches : (run e : ℕ) → run < e → e ≤ length xs → Alike xs run e → Clear run → Open run e
  reaches run e lt within alike h = along (e - run - 1) run (run + 1) e (omega (arith, lt)) (omega arith) within alike (begins run (omega (arith, lt, within)) h)

  -- so few bytes from the last run on that none is long, before one that is not as the last of them
  skips : (n run i e : ℕ) → i + n ≡ e → start ≤ run → run < i → e < length xs → e ≤ run + 15 → get_or xs e 0 ≢ get_or xs (e - 1) 0
      → get_or xs (i - 1) 0 ≡ get_or xs run 0 → Open run i → Clear e
  skips zero run i e is first lt within near other same h =
      let here : i ≡ e = omega (arith, is) in
      let last : get_or xs (e - 1) 0 ≡ get_or xs run 0 = ap (λ (j : ℕ). get_or xs (j - 1) 0) (sym here) ∙ same in
      clear e within
      (turn_short before xs text whole start run e first (omega (arith, lt, here)) within (ne_eqb (get_or xs e 0) (get_or xs run 0) (λ eq. other (eq ∙ sym last)))
      (few xs run e (omega (arith, within)) (omega (arith, near))) (subst (λ (j : ℕ). Open run j) here h))
  skips (suc n) run i e is first lt within near other same h =
      let inside : i < length xs = omega (arith, is, within) in
      let back : i + 1 - 1 ≡ i = omega arith in
      elim (cases_eq (get_or xs i 0) (get_or xs run 0)) [
        | inl eq ↦ skips n run (i + 1) e (omega (arith, is)) first (omega (arith, lt)) within near other (ap (λ (j : ℕ). get_or xs j 0) back ∙ eq)
            (turn_same before xs text whole start run i (omega (arith, lt)) inside (eq-eqb (get_or xs i 0) (get_or xs run 0) eq) h)
        | inr ne ↦ skips n i (i + 1) e (omega (arith, is)) (omega (arith, first, lt)) (omega arith) within (omega (arith, near, lt)) other (ap (λ (j : ℕ). get_or xs j 0) back)
            (turn_short before xs text whole start run i first (omega (arith, lt)) inside (ne_eqb (get_or xs i 0) (get_or xs run 0) ne)
            (few xs run i (omega (arith, inside)) (omega (arith, near, is))) h)
      ]

  pub skip : (run : ℕ) → start ≤ run → run + 15 < length xs → get_or xs (run + 15) 0 ≢ get_or xs (run + 14) 0 → Clear run → Clear (run + 15)
  skip run first within other h =
      let here : run + 15 - 1 ≡ run + 14 = omega arith in
      let back : run + 1 - 1 ≡ run = omega arith in
      skips 14 run (run + 1) (run + 15) (omega arith) first (omega arith) within (omega arith) (λ eq. other (eq ∙ ap (λ (j : ℕ). get_or xs j 0) here))
      (ap (λ (j : ℕ). get_or xs j 0) back) (begins run (omega (arith, within)) h)

  -- the end of the bytes, where the run that is open is short
  ends : (run i : ℕ) → i ≡ length xs → start ≤ run → run ≤ i → i - run < 16 → Open run i → text ++ plain_pieces before (between start i xs) ≡ whole
  ends run i at_end first le near h =
      let short = few xs run i (omega (arith, at_end)) near in
      let step : pieces before (between start run xs) (between run i xs) [] ≡ plain_pieces before (between start run xs ++ between run i xs) = rw short refl in
      ap (λ (l : List ℕ). text ++ plain_pieces before l) (joined xs start run i first le)
      ∙ ap (λ (l : List ℕ). text ++ l) (sym step)
      ∙ ap (λ (l : List ℕ). text ++ pieces before (between start run xs) (between run i xs) l) (sym (drop_all i xs (omega (arith, at_end))))
      ∙ h

  runs_out : (n run i : ℕ) → i + n ≡ length xs → start ≤ run → run ≤ i → length xs ≤ run + 15 → Open run i → text ++ plain_pieces before (drop start xs) ≡ whole
  runs_out zero run i is first le near h =
      let at_end : i ≡ length xs = omega (arith, is) in
      ap (λ (l : List ℕ). text ++ plain_pieces before l) (sym (to_end xs start i at_end)) ∙ ends run i at_end first le (omega (arith, at_end, near)) h
  runs_out (suc n) run i is first le near h =
      let inside : i < length xs = omega (arith, is) in
      elim (cases_eq (get_or xs i 0) (get_or xs run 0)) [
        | inl eq ↦ runs_out n run (i + 1) (omega (arith, is)) first (omega (arith, le)) near
            (turn_same before xs text whole start run i le inside (eq-eqb (get_or xs i 0) (get_or xs run 0) eq) h)
        | inr ne ↦ runs_out n i (i + 1) (omega (arith, is)) (omega (arith, first, le)) (omega arith) (omega (arith, near, le))
            (turn_short before xs text whole start run i first le inside (ne_eqb (get_or xs i 0) (get_or xs run 0) ne)
            (few xs run i (omega (arith, inside)) (omega (arith, near, inside))) h)
      ]

  -- too few bytes are left for a long run
  pub none_left : (run : ℕ) → start ≤ run → run ≤ length xs → length xs - run < 16 → Clear run
      → text ++ plain_pieces before (between start (length xs) xs) ≡ whole
  none_left run first within near h =
      ap (λ (l : List ℕ). text ++ plain_pieces before l) (to_end xs start (length xs) refl)
      ∙ runs_out (length xs - run) run run (omega (arith, within)) first (omega arith) (omega (arith, near)) (nothing run h)

  -- behind a run that is short
  pub short_run : (run e : ℕ) → start ≤ run → run < e → e ≤ length xs → e - run < 16 → Alike xs run e → (e < length xs → get_or xs e 0 ≢ get_or xs run 0)
      → Clear run → Clear e
  short_run run e first lt within near alike other h =
      elim (cases_lt e (length xs)) [
        | inl inside ↦
            clear e inside
            (turn_short before xs text whole start run e first (omega (arith, lt)) inside (ne_eqb (get_or xs e 0) (get_or xs run 0) (other inside))
            (few xs run e within near) (reaches run e lt within alike h))
        | inr out ↦
            let at_end : e ≡ length xs = omega (arith, within, out) in
            ap (λ (l : List ℕ). text ++ pieces before (between start e xs) [] l) (drop_all e xs out)
            ∙ ap (λ (l : List ℕ). text ++ plain_pieces before l) (append-nil (between start e xs))
            ∙ ends run e at_end first (omega (arith, lt)) near (reaches run e lt within alike h)
      ]

-- behind a long run, which was shown
pub long_run : (before xs text text' whole : List ℕ) (start run e : ℕ) → run < e → e ≤ length xs → 16 ≤ e - run → Alike xs run e
    → (e < length xs → get_or xs e 0 ≢ get_or xs run 0) → text' ≡ text ++ ended before (between start run xs) (between run e xs)
    → Clear before xs text whole start run → Clear before xs text' whole e e
long_run before xs text text' whole start run e lt within far alike other is h =
    let opened = reaches before xs text whole start run e lt within alike h in
    elim (cases_lt e (length xs)) [
      | inl inside ↦
          clear before xs text' whole e e inside
          (turn_long before xs text text' whole start run e (omega (arith, lt)) inside (ne_eqb (get_or xs e 0) (get_or xs run 0) (other inside))
          (many xs run e within far) is opened)
      | inr out ↦
          let none = drop_all e xs out in
          ap (λ (l : List ℕ). text' ++ pieces before (between e e xs) [] l) none
          ∙ ap (λ (l : List ℕ). text' ++ pieces before l [] []) (none_is xs e)
          ∙ append-nil text'
          ∙ is
          ∙ ap (λ (l : List ℕ). text ++ pieces before (between start run xs) (between run e xs) l) (sym none)
          ∙ opened
    ]
