-- Those that the history of a place names are those that come directly before it.
use Rattle.std.specs.Prelude.{◌≡◌, ℕ, zero, suc, ◌<◌, Bool, true, false, ◌&&◌, ◌==◌, ◌⊎◌, if◌then◌else◌, refl}
use Rattle.std.specs.Bool.{Decides}
use Rattle.std.proofs.Common.{arith, inl, inr}
use Rattle.std.proofs.lemmas.Bool.{cases_Bool, cases_eq, eqb-true}
use Rattle.std.proofs.lemmas.Bool.Decides.{nat_tests}
use Rattle.interleaving.specs.Direct.{clash_on, IsDirect}
use Rattle.use_line.specs.History.{latest_writer, has_read, is_read, is_number, waits_by}

module _ (uses writes : ℕ → Bool) (within : (i : ℕ) → writes i ≡ true → uses i ≡ true) where
  record Reads (n j : ℕ) : Type 0 where
    below : j < n
    used : uses j ≡ true
    unwritten : writes j ≡ false
    since : (i : ℕ) → j < i → i < n → writes i ≡ false

  reads_then : (n j : ℕ) → has_read uses writes n j ≡ true → Reads n j
  reads_then zero j h = absurd cc
  reads_then (suc n) j h = elim (cases_Bool (writes n)) [
    | inl w ↦ absurd (grind arith)
    | inr w ↦ elim (cases_eq n j) [
      | inl same ↦ record {
        below = omega (arith, same);
        used = elim (cases_Bool (uses n)) [ inl u ↦ rw (← same) u | inr u ↦ absurd (let r = reads_then n j (grind (arith, nat_tests)) in omega (arith, r.below, same)) ];
        unwritten = rw (← same) w;
        since = λ i more less. absurd (omega (arith, same, more, less));
      }
      | inr other ↦
          let before : has_read uses writes n j ≡ true = grind (arith, nat_tests) in
          let r = reads_then n j before in
          record {
            below = omega (arith, r.below);
            used = r.used;
            unwritten = r.unwritten;
            since = λ i more less. elim (cases_eq i n) [ inl e ↦ rw e w | inr ne ↦ r.since i more (omega (arith, less, ne)) ];
          }
    ]
  ]

  record Wrote (n j : ℕ) : Type 0 where
    below : j < n
    written : writes j ≡ true

  wrote_then : (n j : ℕ) → is_number j (latest_writer writes n) ≡ true → Wrote n j
  wrote_then zero j h = absurd cc
  wrote_then (suc n) j h = elim (cases_Bool (writes n)) [
    | inl w ↦
        let t : (n == j) ≡ true = rw w at h in
        let same : n ≡ j = eqb-true n j t in
        record { below = omega (arith, same); written = rw (← same) w }
    | inr w ↦
        let later = wrote_then n j (rw w at h) in
        record { below = omega (arith, later.below); written = later.written }
  ]

  module _ (k : ℕ) (used : uses k ≡ true) where
    abbrev clash : ℕ → ℕ → Bool
    clash = clash_on uses writes

    -- whom the place waits for, of those below a number
    abbrev told : ℕ → ℕ → Bool
    told n j = if writes k && is_read uses writes n then has_read uses writes n j else is_number j (latest_writer writes n)

    record Before (n j : ℕ) : Type 0 where
      earlier : j < n
      clashes : clash k j ≡ true
      none_between : (i : ℕ) → j < i → i < n → clash k i ≡ true → clash i j ≡ false

    told_then : (n j : ℕ) → told n j ≡ true → Before n j
    told_then zero j h = absurd (grind arith)
    told_then (suc n) j h = elim (cases_Bool (writes n)) [
      | inl w ↦
          let t : (n == j) ≡ true = grind arith in
          let same : n ≡ j = eqb-true n j t in
          let u : uses n ≡ true = within n w in
          record {
            earlier = omega (arith, same);
            clashes = rw (← same) (grind arith);
            none_between = λ i more less. absurd (omega (arith, same, more, less));
          }
      | inr w ↦ elim (cases_Bool (writes k && is_read uses writes (suc n))) [
        | inl both ↦
            let h₁ : has_read uses writes (suc n) j ≡ true = rw both at h in
            let wk : writes k ≡ true = grind arith in
            let r = reads_then (suc n) j h₁ in
            record {
              earlier = r.below;
              clashes = grind (arith, r.used);
              none_between = λ i more less c. grind (arith, r.unwritten, r.since i more less);
            }
        | inr not_both ↦
            let h₁ : is_number j (latest_writer writes n) ≡ true = grind arith in
            let here : told n j ≡ true = grind arith in
            let b = told_then n j here in
            record {
              earlier = omega (arith, b.earlier);
              clashes = b.clashes;
              none_between = λ i more less c. elim (cases_eq i n) [
                | inl e ↦ absurd (let ci : clash k n ≡ true = rw (← e) c in grind arith)
                | inr ne ↦ b.none_between i more (omega (arith, less, ne)) c
              ];
            }
      ]
    ]

    told_when : (n j : ℕ) → Before n j → told n j ≡ true
    told_when zero j b = absurd (omega (arith, b.earlier))
    told_when (suc n) j b = elim (cases_eq j n) [
      | inl same ↦ at_last n j b same
      | inr other ↦
          let less₁ : j < n = omega (arith, b.earlier, other) in
          let mine : Before n j = record { earlier = less₁; clashes = b.clashes; none_between = λ i more under. b.none_between i more (omega (arith, under)) } in
          earlier_one n j b less₁ (told_when n j mine)
    ]
      where
        at_last : (n j : ℕ) → Before (suc n) j → j ≡ n → told (suc n) j ≡ true
        at_last n j b same =
            let cj : clash k n ≡ true = rw (← same) b.clashes in
            let t : (n == j) ≡ true = grind (arith, nat_tests) in
            elim (cases_Bool (writes n)) [
              | inl w ↦ grind arith
              | inr w ↦ elim (cases_Bool (writes k)) [ inl wk ↦ grind arith | inr wk ↦ absurd (grind arith) ]
            ]

        earlier_one : (n j : ℕ) → Before (suc n) j → j < n → told n j ≡ true → told (suc n) j ≡ true
        earlier_one n j b less₁ before =
            let cj : clash k j ≡ true = b.clashes in
            let out : clash k n ≡ true → clash n j ≡ false = λ c. b.none_between n less₁ (omega arith) c in
            elim (cases_Bool (writes n)) [
              | inl w ↦ let u : uses n ≡ true = within n w in absurd (let f = out (grind arith) in grind arith)
              | inr w ↦ elim (cases_Bool (uses n)) [
                | inr u ↦ grind arith
                | inl u ↦ elim (cases_Bool (writes k)) [
                  | inr wk ↦ grind arith
                  | inl wk ↦
                      let f : clash n j ≡ false = out (grind arith) in
                      let wj : writes j ≡ false = grind arith in
                      elim (cases_Bool (is_read uses writes n)) [
                        | inl r ↦ let h : has_read uses writes n j ≡ true = grind arith in grind arith
                        | inr r ↦ absurd (let number : is_number j (latest_writer writes n) ≡ true = grind arith in let wr = (wrote_then n j number).written in grind arith)
                      ]
                ]
              ]
            ]

    direct_from : (j : ℕ) → Before k j → IsDirect clash k j
    direct_from j b = record { earlier = b.earlier; clashes = b.clashes; none_between = b.none_between }

    from_direct : (j : ℕ) → IsDirect clash k j → Before k j
    from_direct j d = record { earlier = d.earlier; clashes = d.clashes; none_between = d.none_between }

    -- for whom a place waits by a use
    pub waits_direct : (j : ℕ) (written : Bool) → (written ≡ true → writes k ≡ true)
        → Decides (waits_by uses writes k written j) (IsDirect clash k j × ((written ≡ true) ⊎ (writes j ≡ true)))
    waits_direct j true mine =
        let wk : writes k ≡ true = mine refl in (
          λ h. (direct_from j (told_then k j (grind arith)), inl refl),
          λ h. let t = told_when k j (from_direct j h.0) in grind arith,
        )
    waits_direct j false mine = (
      λ h.
          let number : is_number j (latest_writer writes k) ≡ true = grind arith in
          let t : told k j ≡ true = grind arith in
          (direct_from j (told_then k j t), inr (wrote_then k j number).written),
      λ h. elim h.1 [
        | inl no₁ ↦ absurd cc
        | inr wj ↦
            let t = told_when k j (from_direct j h.0) in
            elim (cases_Bool (writes k && is_read uses writes k)) [
              | inl both ↦ absurd (let r : has_read uses writes k j ≡ true = grind arith in let f = (reads_then k j r).unwritten in grind arith)
              | inr not_both ↦ grind arith
            ]
      ],
    )
