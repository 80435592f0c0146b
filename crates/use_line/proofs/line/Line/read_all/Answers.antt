use Rattle.std.proofs.Common.{arith, get_or, refl, subst, sym, take, ◌≡◌, ◌&&◌, ◌+◌, Bool, ℕ, false, not}
use Rattle.std.proofs.lemmas.Bool.Decides.{nat_tests}
use Rattle.use_line.specs.Known.{HasRead, Uses, known_at, read_by}
use Rattle.use_line.specs.Spans.{covers, within}
use Rattle.use_line.specs.declared.line.Span.{Span}
use Rattle.use_line.proofs.Telling.{read_more, read_same}
use Rattle.use_line.proofs.line.Line.read_all.Goals.{then-not-span+then-span+in_ok-read, else-not-span, else-not-span-via-then-not-span+else-span, else-not-span-via-else-not-span}
use Rattle.use_line.proofs.line.Line.read_all.Goals as goal

pub loop-span-preserved : goal.loop-span-preserved
loop-span-preserved c =
    let spans = c.args.spans.now in
    let i : ℕ = c.loop-span.span-index in
    let d : Span = record { low = 0; high = 0; written = false } in
    let s : Span = get_or spans i d in
    let place : ℕ = c.args.place in
    let old : Uses = c.args.self.now in
    let mid : Uses = c.loop-span.self in
    elim c.if-not-span.branch [
      | then-not-span+then-span+in_ok-read w ↦
          let reads : (b : ℕ) → within s.low s.high b ≡ (not s.written && covers s b) = λ b. rw w.if-not-span.true refl in
          subst (λ (x : Uses). (b : ℕ) → HasRead (known_at old b) (known_at x b) (read_by (take (i + 1) spans) b) place) (sym w.self-is)
          (read_more spans i d place (known_at old) (known_at mid) (known_at w.read.new.self) c.loop-span-test.true c.loop-span.invariant
          (λ b. subst (λ (y : Bool). HasRead (known_at mid b) (known_at w.read.new.self b) y place) (reads b) (w.in_ok-read.ensures b)))
      | else-not-span w ↦
          let none : (b : ℕ) → false ≡ (not s.written && covers s b) = λ b. elim w.else-not-span.branch [
            | else-not-span-via-then-not-span+else-span v ↦ let empty = v.if-span.false in grind (arith, nat_tests, empty)
            | else-not-span-via-else-not-span v ↦ rw v.if-not-span.false refl
          ] in
          subst (λ (x : Uses). (b : ℕ) → HasRead (known_at old b) (known_at x b) (read_by (take (i + 1) spans) b) place) (sym w.self-is)
          (read_more spans i d place (known_at old) (known_at mid) (known_at mid) c.loop-span-test.true c.loop-span.invariant
          (λ b. subst (λ (y : Bool). HasRead (known_at mid b) (known_at mid b) y place) (none b) (read_same (known_at mid b) place)))
    ]
