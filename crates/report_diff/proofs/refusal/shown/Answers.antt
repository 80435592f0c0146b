use Rattle.std.proofs.Common.{◌≡◌, ◌<◌, ◌≤◌, ℕ, ◌∷◌, [], length, take, min, map, get_or, refl, ap, sym, ◌∙◌, arith, lit<, List, inl, inr}
use Rattle.std.specs.Char.{encode_utf8}
use Rattle.std.proofs.lemmas.Bool.Decides.{nat_tests}
use Rattle.std.proofs.lemmas.List.{length-map, length-take, length-take-le, take_more, take_all, map-append, append-nil}
use Rattle.std.proofs.lemmas.Bool.{cases_lt, lt-ltb, le-ltb}
use Rattle.std.proofs.lemmas.Str.{encode_ascii}
use Rattle.report_diff.specs.Refusals.{shown_byte, shown_subject}
use Rattle.report_diff.proofs.refusal.shown.Goals as goal

is_ascii : (byte : ℕ) → shown_byte byte < 128
is_ascii byte = grind (arith, nat_tests)

one_byte : (b c : ℕ) → c ≡ shown_byte b → length (encode_utf8 c) ≡ 1
one_byte b c e = ap length (encode_ascii c (rw e (is_ascii b)))

so_long : (text bytes : List ℕ) (i : ℕ) → text ≡ map shown_byte (take i bytes) → i ≤ length bytes → length text ≡ i
so_long text bytes i e le = rw (e, length-map) (length-take-le i bytes le)

pub push-requires : goal.push-requires
push-requires c =
    let one = one_byte (get_or (take c.min.result c.args.subject.now) c.loop-byte.byte-index 0) c.from.result (c.from.ensures ∙ c.shown_byte.ensures) in
    let long = so_long c.loop-byte.text.bytes (take c.min.result c.args.subject.now) c.loop-byte.byte-index c.loop-byte.invariant (omega arith) in
    (lit< tt, omega (arith, one, long, length-take c.min.result c.args.subject.now, c.min.ensures))

pub loop-byte-preserved : goal.loop-byte-preserved
loop-byte-preserved c =
    let bytes = take c.min.result c.args.subject.now in
    let byte = get_or bytes c.loop-byte.byte-index 0 in
    let same : c.from.result ≡ shown_byte byte = c.from.ensures ∙ c.shown_byte.ensures in
    c.push.ensures.ascii (rw same (is_ascii byte)) ∙ rw (c.loop-byte.invariant, same, take_more bytes c.loop-byte.byte-index 0 c.loop-byte-test.true)
    (sym (map-append shown_byte (take c.loop-byte.byte-index bytes) (byte ∷ [])))

pub push-requires-then-subject-gt-MOST_SHOWN : goal.push-requires-then-subject-gt-MOST_SHOWN
push-requires-then-subject-gt-MOST_SHOWN c =
    let long = so_long c.loop-byte.text.bytes (take c.min.result c.args.subject.now) c.loop-byte.byte-index c.loop-byte.invariant (omega arith) in
    let plus : length (encode_utf8 43) ≡ 1 = ap length (encode_ascii 43 (lit< tt)) in
    (lit< tt, omega (arith, plus, long, length-take c.min.result c.args.subject.now, c.min.ensures))

-- the bytes that are shown
so_far : (subject text : List ℕ) (most i : ℕ) → most ≡ min (length subject) 128 → length (take most subject) ≤ i → text ≡ map shown_byte (take i (take most subject))
    → text ≡ map shown_byte (take 128 subject)
so_far subject text most i e past invariant = invariant ∙ ap (map shown_byte) (take_all i (take most subject) past ∙ rw e (first_bytes subject))
  where
    first_bytes : (s : List ℕ) → take (min (length s) 128) s ≡ take 128 s
    first_bytes s = elim (cases_lt 128 (length s)) [
      | inr few ↦ let least : min (length s) 128 ≡ length s = omega arith in rw (least, take_all (length s) s (omega arith), take_all 128 s few) refl
      | inl many ↦ let least : min (length s) 128 ≡ 128 = omega arith in rw least refl
    ]

pub returns-then-subject-gt-MOST_SHOWN : goal.returns-then-subject-gt-MOST_SHOWN
unfolding shown_subject
returns-then-subject-gt-MOST_SHOWN c =
    let bytes = so_far c.args.subject.now c.loop-byte.text.bytes c.min.result c.loop-byte.byte-index c.min.ensures c.loop-byte-test.false c.loop-byte.invariant in
    c.push-then-subject-gt-MOST_SHOWN.ensures.ascii (lit< tt) ∙ rw (bytes, lt-ltb 128 (length c.args.subject.now) c.if-subject-gt-MOST_SHOWN.true) refl

pub returns-else-subject-gt-MOST_SHOWN : goal.returns-else-subject-gt-MOST_SHOWN
unfolding shown_subject
returns-else-subject-gt-MOST_SHOWN c =
    let bytes = so_far c.args.subject.now c.loop-byte.text.bytes c.min.result c.loop-byte.byte-index c.min.ensures c.loop-byte-test.false c.loop-byte.invariant in
    bytes ∙ rw (le-ltb 128 (length c.args.subject.now) c.if-subject-gt-MOST_SHOWN.false) (sym (append-nil (map shown_byte (take 128 c.args.subject.now))))
