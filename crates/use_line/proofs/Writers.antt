-- Whom a range waits for that is only read: those who wrote it last.
use Rattle.std.specs.Prelude.{◌≡◌, ℕ, ◌<◌, ◌≤◌, Bool, true, ◌||◌, ◌⊎◌, List, Option}
use Rattle.std.specs.Bool.{Decides}
use Rattle.std.proofs.Common.{sym, ap, ◌∙◌, arith, inl, inr}
use Rattle.std.proofs.lemmas.Bool.{cases_lt, or_cases, or_left, or_right}
use Rattle.std.proofs.lemmas.Bool.Decides.{nat_tests}
use Rattle.use_line.specs.History.{is_number}
use Rattle.use_line.specs.Spans.{within}
use Rattle.use_line.specs.Known.{HasWriter}
use Rattle.use_line.specs.Steps.{IsLevel, step_at}

-- one part more, ahead of the others
pub writers_joined : (ws : List (ℕ × Option ℕ)) (start end high j : ℕ) (v : Option ℕ) (old told new : Bool) → start < end → end ≤ high → IsLevel ws start end → v ≡ step_at ws start
    → Decides told ((old ≡ true) ⊎ HasWriter ws end high j) → new ≡ (told || is_number j v) → Decides new ((old ≡ true) ⊎ HasWriter ws start high j)
writers_joined ws start end high j v old told new less up level is d e = (
  (λ t. elim (or_cases told (is_number j v) (sym e ∙ t)) [
    | inl m ↦ elim (d.0 m) [
      | inl o ↦ inl o
      | inr w ↦ let there = w.1 in let wide : within start high w.0 ≡ true = grind (arith, nat_tests, there, less) in inr (w.0, wide, w.2)
    ]
    | inr n ↦ let first : within start high start ≡ true = grind (arith, nat_tests, less, up) in inr (start, first, ap (is_number j) (sym is) ∙ n)
  ]),
  (λ h. e ∙ (elim h [
    | inl o ↦ or_left told (is_number j v) (d.1 (inl o))
    | inr w ↦ let there = w.1 in elim (cases_lt w.0 end) [
      | inl lt ↦
          let inside : within start end w.0 ≡ true = grind (arith, nat_tests, there, lt) in
          or_right told (is_number j v) (ap (is_number j) (is ∙ sym (level w.0 inside)) ∙ w.2)
      | inr ge ↦
          let past : within end high w.0 ≡ true = grind (arith, nat_tests, there, ge) in
          or_left told (is_number j v) (d.1 (inr (w.0, past, w.2)))
    ]
  ])),
)
