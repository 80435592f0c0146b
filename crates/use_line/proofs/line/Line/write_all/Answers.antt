use Rattle.std.proofs.Common.{arith, get_or, refl, subst, sym, take, ◌≡◌, ◌&&◌, ◌+◌, Bool, ℕ, false, if◌then◌else◌}
use Rattle.std.proofs.lemmas.Bool.Decides.{nat_tests}
use Rattle.std.proofs.lemmas.List.Folds.{list_any_more}
use Rattle.use_line.specs.Known.{Uses, known_at, written_at}
use Rattle.use_line.specs.Spans.{covers, within, written_by}
use Rattle.use_line.specs.declared.line.Span.{Span}
use Rattle.use_line.proofs.Singles.{written_both}
use Rattle.use_line.proofs.line.Line.write_all.Goals.{then-span+then-span-2+in_ok-write, else-span, else-span-via-then-span+else-span-2, else-span-via-else-span}
use Rattle.use_line.proofs.line.Line.write_all.Goals as goal

pub loop-span-preserved : goal.loop-span-preserved
loop-span-preserved c =
    let spans = c.args.spans.now in
    let i : ℕ = c.loop-span.span-index in
    let d : Span = record { low = 0; high = 0; written = false } in
    let s : Span = get_or spans i d in
    let place : ℕ = c.args.place in
    let old : Uses = c.args.self.now in
    let mid : Uses = c.loop-span.self in
    elim c.if-span.branch [
      | then-span+then-span-2+in_ok-write w ↦
          let writes : (b : ℕ) → within s.low s.high b ≡ (s.written && covers s b) = λ b. rw w.if-span.true refl in
          subst (λ (x : Uses). (b : ℕ) → known_at x b ≡ (if written_by (take (i + 1) spans) b then written_at place else known_at old b)) (sym w.self-is)
          (λ b. written_both (known_at old b) (known_at mid b) (known_at w.write.new.self b) (written_at place) (written_by (take i spans) b) (s.written && covers s b) _
          (list_any_more (λ (x : Span). x.written && covers x b) spans i d c.loop-span-test.true) (c.loop-span.invariant b)
          (subst (λ (y : Bool). known_at w.write.new.self b ≡ (if y then written_at place else known_at mid b)) (writes b) (w.in_ok-write.ensures b)))
      | else-span w ↦
          let none : (b : ℕ) → false ≡ (s.written && covers s b) = λ b. elim w.else-span.branch [
            | else-span-via-then-span+else-span-2 v ↦ let empty = v.if-span-2.false in grind (arith, nat_tests, empty)
            | else-span-via-else-span v ↦ rw v.if-span.false refl
          ] in
          subst (λ (x : Uses). (b : ℕ) → known_at x b ≡ (if written_by (take (i + 1) spans) b then written_at place else known_at old b)) (sym w.self-is)
          (λ b. written_both (known_at old b) (known_at mid b) (known_at mid b) (written_at place) (written_by (take i spans) b) (s.written && covers s b) _
          (list_any_more (λ (x : Span). x.written && covers x b) spans i d c.loop-span-test.true) (c.loop-span.invariant b)
          (subst (λ (y : Bool). known_at mid b ≡ (if y then written_at place else known_at mid b)) (none b) refl))
    ]
