-- Whom the line tells of comes directly before.
use Rattle.std.specs.Prelude.{◌≡◌, ℕ, Bool, true, List, [], ◌∷◌}
use Rattle.std.proofs.Common.{sym, ◌∙◌, arith}
use Rattle.use_line.specs.declared.line.Span.{Span}
use Rattle.use_line.specs.Spans.{within, used_by, written_by}
use Rattle.use_line.specs.Known.{IsToldOf, Keeps, Uses, WaitsIn, known_at, told_of}
use Rattle.use_line.specs.History.{waits_by}
use Rattle.use_line.proofs.History.{waits_direct}

pub writes_use : (spans : List Span) (b : ℕ) → written_by spans b ≡ true → used_by spans b ≡ true
writes_use [] b h = h
writes_use (s ∷ spans) b h = grind (arith, writes_use spans b)

module _ (u : Uses) (all : ℕ → List Span) (k : ℕ) (keep : Keeps u all k) where
  abbrev uses : ℕ → ℕ → Bool
  uses b i = used_by (all i) b

  abbrev writes : ℕ → ℕ → Bool
  writes b i = written_by (all i) b

  told_is : (b : ℕ) (written : Bool) (j : ℕ) → told_of (known_at u b) written (written_by (all k) b) j ≡ waits_by (uses b) (writes b) k written j
  told_is b written j = rw (keep.unread b, keep.readers b j, keep.writer b) (grind arith)

  -- by a range that the place uses, and writes where it is written
  pub told_direct : (written : Bool) (low high j : ℕ) → ((b : ℕ) → within low high b ≡ true → (uses b k ≡ true) × (written ≡ true → writes b k ≡ true))
      → (IsToldOf u (all k) written low high j → WaitsIn all k written low high j) × (WaitsIn all k written low high j → IsToldOf u (all k) written low high j)
  told_direct written low high j mine = (
    (λ t.
        let b : ℕ = t.0 in
        let m = mine b t.1 in
        let d = (waits_direct (uses b) (writes b) (λ i. writes_use (all i) b) k m.0 j written m.1).0 (sym (told_is b written j) ∙ t.2) in
        (b, t.1, d.0, d.1)),
    (λ w.
        let b : ℕ = w.0 in
        let m = mine b w.1 in
        (b, w.1, told_is b written j ∙ (waits_direct (uses b) (writes b) (λ i. writes_use (all i) b) k m.0 j written m.1).1 (w.2, w.3))),
  )
